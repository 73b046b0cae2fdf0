-- The user that asks (own).
use Rattle.nmvs_identifier.specs.Name.{Name}
use Rattle.nmvs_messages.specs.declared.ask.Ask.{Ask}
use Rattle.nmvs_messages.specs.declared.ask.Asked.{Asked}
use Rattle.nmvs_messages.specs.declared.ask.Asked.TheVariants as asked

-- the user that asks this
abbrev pub asked_by : Asked → Name
asked_by (asked.Question user question) = user
asked_by (asked.Conditional user kind pack printed) = user
asked_by (asked.Report user code) = user

-- the user that asks
abbrev pub user_of : Ask → Name
user_of ask = asked_by ask.asked

-- The story of a pack, as a reader sees it (Articles 38 and 39).
use Rattle.std.specs.Prelude.{ℕ, Bool, true, List, [], ◌∷◌, ◌++◌, codes, decimal, drop, length, None, if◌then◌else◌}
use Rattle.nmvs_identifier.specs.Name.{Name}
use Rattle.nmvs_line.specs.Line.{entry_line}
use Rattle.nmvs_rules.specs.declared.actor.Actor.{Actor}
use Rattle.nmvs_rules.specs.declared.entry.Entry.{Entry}
use Rattle.nmvs_rules.specs.declared.role.Role.{Role}
use Rattle.nmvs_rules.specs.declared.role.Role.TheVariants.{Holder, Authority}
use Rattle.nmvs_words.specs.Words.{role_word}
use Rattle.nmvs_cases.specs.declared.author.Author.{Author}
use Rattle.nmvs_cases.specs.declared.author.Author.TheVariants.{Officer, User}
use Rattle.nmvs_alerts.specs.Viewing.{is_own}

abbrev pub is_seen_as : Actor → Entry → Role → Bool
is_seen_as a e Authority = true
is_seen_as a e Holder = true
is_seen_as a e r = is_own a e.put

-- whether a reader sees an entry about a pack of which it sees an alert: an officer, an authority and a holder do, any other house its own
abbrev pub is_seen : Author → Entry → Bool
is_seen (Officer u) e = true
is_seen (User u a) e = is_seen_as a e a.role

abbrev pub seen : Author → Entry → List Entry
seen u e = if is_seen u e then e ∷ [] else []

-- the entry with this reader in the place of who asked
abbrev pub asked_by : Name → Actor → Entry → Entry
asked_by u a e = record { put = record { moment = e.put.moment; user = u; actor = a; question = e.put.question; tag = None }; reply = e.reply }

-- the beginning of its line, up to the question
unfoldable pub front_of : Name → Actor → Entry → List ℕ
front_of u a e =
    codes "[2," ++ (decimal e.put.moment ++ (codes ",\"" ++ (u.bytes ++ (codes "\",\"" ++ (role_word a.role ++ (codes "\",\""
    ++ (a.authorisation.bytes ++ (codes "\",\"" ++ (a.premises.bytes ++ codes "\",")))))))))

-- what is shown of the front of an entry's line
unfoldable pub shown_front : Entry → List ℕ
shown_front e = codes "[2," ++ (decimal e.put.moment ++ codes ",null,null,null,null,")

-- the line of an entry without who asked: the rest is that of the line which the entry would have if the reader had asked
unfoldable pub without_house : Name → Actor → Entry → List ℕ
without_house u a e = shown_front e ++ drop (length (front_of u a e)) (entry_line (asked_by u a e))

abbrev pub line_as : Name → Actor → Entry → Role → List ℕ
line_as u a e Holder = without_house u a e
line_as u a e r = entry_line e

-- the line of an entry as a reader sees it
abbrev pub line_for : Author → Entry → List ℕ
line_for (Officer u) e = entry_line e
line_for (User u a) e = line_as u a e a.role

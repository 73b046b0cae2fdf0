-- The limits that the Regulation sets, and two that are own.
use Rattle.std.specs.Prelude.{ℕ}

-- the days after a decommissioning within which it may be reverted (Article 13(1)(b))
abbrev pub reversion_days : ℕ
reversion_days = 10

-- the last entries about a pack among which a tag is looked for (own)
abbrev pub entries_looked_over : ℕ
entries_looked_over = 16

-- the seconds that may lie between a question and an entry that answers it again (own): a day
abbrev pub seconds_answered : ℕ
seconds_answered = 86400

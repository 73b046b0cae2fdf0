-- The number of sessions that a server serves before it ends (own).
use Rattle.std.specs.Prelude.{ℕ, ◌*◌, ◌==◌, min, if◌then◌else◌}

-- the most that a u64 counts
abbrev pub without_end : ℕ
without_end = 18446744073709551615

-- the sessions of this number of workers, by the sessions of one; 0 is without end
abbrev pub sessions_of : ℕ → ℕ → ℕ
sessions_of sessions workers = if sessions == 0 then without_end else min (sessions * workers) without_end

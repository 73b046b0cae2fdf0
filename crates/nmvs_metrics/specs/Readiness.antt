-- When a server is ready (own).
use Rattle.std.specs.Prelude.{ℕ, Bool, nat_lt, if◌then◌else◌}
use Rattle.nmvs_metrics.specs.declared.readiness.Readiness.{Readiness}
use Rattle.nmvs_metrics.specs.declared.readiness.Readiness.TheVariants.{Starting, Standby, NoEngine, Listening, LogFailed, LogHangs}

-- the readiness of a server by four facts: it listens, it follows another, the engine is silent, and the log failed.
-- The write or sync of the log has taken this many nanoseconds: after 5 seconds the log hangs.
abbrev pub readiness : Bool → Bool → Bool → Bool → ℕ → Readiness
readiness listens is_standby is_silent has_failed nanoseconds =
    if has_failed then LogFailed
    else (if is_standby then (if is_silent then NoEngine else Standby)
    else (if nat_lt 5000000000 nanoseconds then LogHangs
    else (if listens then Listening else Starting)))

-- The answers over HTTP, by method and path (own).
use Rattle.std.specs.Prelude.{ℕ, List, ◌||◌, codes, if◌then◌else◌}
use Rattle.std.specs.Str.{bytes_eq}
use Rattle.nmvs_metrics.specs.declared.readiness.Readiness.{Readiness}
use Rattle.nmvs_metrics.specs.declared.readiness.Readiness.TheVariants.{Starting, Standby, NoEngine, Listening, LogFailed, LogHangs}
use Rattle.nmvs_exposition.specs.declared.service.Content.{Content}
use Rattle.nmvs_exposition.specs.declared.service.Content.TheVariants.{Metrics, Alive, Ready, NoPage, NoMethod}

-- the text of the answer to /readyz
abbrev pub readiness_text : Readiness → List ℕ
readiness_text Starting = codes "starting\n"
readiness_text Standby = codes "standby\n"
readiness_text NoEngine = codes "no engine\n"
readiness_text Listening = codes "ok\n"
readiness_text LogFailed = codes "log failed\n"
readiness_text LogHangs = codes "log hangs\n"

-- the status of the answer to /readyz
abbrev pub readiness_status : Readiness → ℕ
readiness_status Starting = 503
readiness_status Standby = 503
readiness_status NoEngine = 503
readiness_status Listening = 200
readiness_status LogFailed = 503
readiness_status LogHangs = 503

-- the answer to a request of this method for a page
abbrev pub by_method : List ℕ → Content → Content
by_method method page =
    if bytes_eq method (codes "GET") || bytes_eq method (codes "HEAD") then page else NoMethod

-- the answer to a request of this method for this path, by a server of this readiness
abbrev pub told : List ℕ → List ℕ → Readiness → Content
told method path r =
    if bytes_eq path (codes "/metrics") then by_method method Metrics
    else (if bytes_eq path (codes "/healthz") then by_method method Alive
    else (if bytes_eq path (codes "/readyz") then by_method method (Ready r)
    else NoPage))

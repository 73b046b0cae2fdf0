-- What is served, by method and path (own).
use Rattle.std.specs.Prelude.{ℕ, List, Option, Some, None, ◌||◌, codes, if◌then◌else◌}
use Rattle.std.specs.Str.{bytes_eq}
use Rattle.nmvs_replica.specs.declared.routes.Methods.TheVariants as methods
use Rattle.nmvs_replica.specs.declared.routes.Route.{Route}
use Rattle.nmvs_replica.specs.declared.routes.Route.TheVariants.{Serves, OnlyFor}
use Rattle.nmvs_replica.specs.declared.routes.Served.{Served}
use Rattle.nmvs_replica.specs.declared.routes.Served.TheVariants as served

-- what is served at a path that is not that of one alert
abbrev pub served_at : List ℕ → Option Served
served_at path =
    if bytes_eq path (codes "/healthz") then Some served.Health
    else (if bytes_eq path (codes "/") then Some served.Page
    else (if bytes_eq path (codes "/alerts.js") then Some served.Script
    else (if bytes_eq path (codes "/alerts-words.js") then Some served.Words
    else (if bytes_eq path (codes "/v1/reader") then Some served.Reader
    else (if bytes_eq path (codes "/v1/alerts") then Some served.Alerts
    else (if bytes_eq path (codes "/v1/range") then Some served.Range
    else (if bytes_eq path (codes "/v1/numbers") then Some served.Numbers
    else (if bytes_eq path (codes "/v1/entries") then Some served.Entries
    else (if bytes_eq path (codes "/v1/counts") then Some served.Counts
    else (if bytes_eq path (codes "/v1/pack") then Some served.Pack
    else (if bytes_eq path (codes "/v1/packs") then Some served.Packs
    else (if bytes_eq path (codes "/v1/report") then Some served.Report
    else (if bytes_eq path (codes "/v1/houses") then Some served.Houses
    else (if bytes_eq path (codes "/v1/cases") then Some served.Cases
    else None))))))))))))))

-- what becomes of a request of this method for what is read
abbrev pub reads : Served → List ℕ → Route
reads it method =
    if bytes_eq method (codes "GET") || bytes_eq method (codes "HEAD") then Serves it else OnlyFor methods.Read

-- what becomes of a request of this method for what is served: cases are acted on alone, and all else is read alone
abbrev pub by_method : Served → List ℕ → Route
by_method served.Cases method = if bytes_eq method (codes "POST") then Serves served.Cases else OnlyFor methods.Act
by_method it method = reads it method

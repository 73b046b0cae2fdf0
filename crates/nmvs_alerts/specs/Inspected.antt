-- What is inspected of a trail, as rows of CSV (own).
use Rattle.std.specs.Prelude.{Bool, true, false, List, [], ◌∷◌}
use Rattle.nmvs_cases.specs.declared.act.Reader.{Reader}
use Rattle.nmvs_cases.specs.declared.act.Reader.TheVariants.{Authority}
use Rattle.nmvs_cases.specs.declared.author.Author.{Author}
use Rattle.nmvs_cases.specs.Authors.{author_reader}
use Rattle.nmvs_inspect.specs.declared.form.Form.TheVariants as form
use Rattle.nmvs_inspect.specs.Groups.{AreSingle, groups_text}
use Rattle.nmvs_inspect.specs.Packs.{Standing, AreOfBatch, packs_text}
use Rattle.nmvs_inspect.specs.Reports.{rows_text}
use Rattle.nmvs_inspect.specs.Rows.{Dated, AreTaken, list_text}
use Rattle.nmvs_inspect.specs.Story.{status_of, story_of, story_text}
use Rattle.nmvs_rules.specs.declared.entry.Entry.{Entry}
use Rattle.nmvs_stream.specs.Delivery.{Delivers}
use Rattle.nmvs_stream.specs.Sink.{Taken}
use Rattle.nmvs_alerts.specs.declared.inspected.Inspected.{Inspected}
use Rattle.nmvs_alerts.specs.declared.inspected.Inspected.TheVariants.{Entries, Counts, Pack, Packs, Report}

abbrev pub sees_the_trail : Reader → Bool
sees_the_trail Authority = true
sees_the_trail r = false

-- the authority alone inspects the whole trail (Articles 35(1)(i) and 39)
abbrev pub may_inspect : Author → Bool
may_inspect u = sees_the_trail (author_reader u)

-- the rows of what is inspected of a trail, which a sink took between these two states: as the checker of exports writes them
abbrev pub AreRows : Inspected → List Entry → Taken → Taken → Type 0
AreRows (Entries f) t old new = (ds : List Dated) × AreTaken f t ds × Delivers old new (list_text form.Csv ds)
AreRows (Counts f by) t old new = (ds : List _) × AreSingle f t ds × Delivers old new (groups_text form.Csv by.now ds)
AreRows (Pack p) t old new = (ds : List Dated) × AreTaken (story_of p) t ds × Delivers old new (story_text form.Csv p (status_of t p) ds)
AreRows (Packs c b) t old new = (ps : List (Standing t)) × AreOfBatch c b t ps × Delivers old new (packs_text form.Csv t ps)
AreRows (Report c) t old new = Delivers old new (rows_text t (c ∷ []))

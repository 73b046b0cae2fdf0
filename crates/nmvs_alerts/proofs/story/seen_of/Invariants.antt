use Rattle.std.proofs.Common.{◌≡◌, map, take}
use Rattle.std.specs.List.{flat_map}
use Rattle.nmvs_alerts.specs.Story.{seen}
use Rattle.nmvs_alerts.proofs.story.seen_of.Given as goal

abbrev pub invariant-loop-entry : goal.invariant-loop-entry
invariant-loop-entry l = map (λ e. e.now) l.seen.items ≡ flat_map (seen l.author) (take l.entry-index l.entries)

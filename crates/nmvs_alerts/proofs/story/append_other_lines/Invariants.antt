use Rattle.std.proofs.Common.{◌≡◌, ◌++◌, take}
use Rattle.std.specs.List.{flat_map}
use Rattle.nmvs_alerts.specs.Json.{led}
use Rattle.nmvs_alerts.specs.Story.{line_for}
use Rattle.nmvs_alerts.proofs.story.append_other_lines.Given as goal

abbrev pub invariant-loop-other : goal.invariant-loop-other
invariant-loop-other l = l.block.items ≡ l.fn.block.items ++ flat_map (λ e. led (line_for l.author) e.now) (take l.other-index l.others)

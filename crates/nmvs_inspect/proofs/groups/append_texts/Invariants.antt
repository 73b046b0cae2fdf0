use Rattle.std.proofs.Common.{◌≡◌, take, map}
use Rattle.nmvs_inspect.proofs.groups.append_texts.Given as goal

abbrev pub invariant-loop-text : goal.invariant-loop-text
invariant-loop-text l = map (λ c. c.now) l.cells.items ≡ map (λ t. t.items) (take l.text-index l.texts)

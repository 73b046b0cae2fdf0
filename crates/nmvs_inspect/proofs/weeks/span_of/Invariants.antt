use Rattle.std.proofs.Common.{◌≡◌, take}
use Rattle.nmvs_inspect.specs.Weeks.{span_of}
use Rattle.nmvs_inspect.proofs.weeks.span_of.Given as goal

abbrev pub invariant-loop-group : goal.invariant-loop-group
invariant-loop-group l = l.span ≡ span_of (take l.group-index l.groups)

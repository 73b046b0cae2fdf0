use Rattle.std.proofs.Common.{◌≡◌, List, take, map}
use Rattle.std.specs.List.{All}
use Rattle.nmvs_inspect.specs.Groups.{Group, IsSingle, HasPartsOf, HasNumbersUpTo, groups_of}
use Rattle.nmvs_inspect.proofs.groups.count_all.Given as goal

abbrev pub invariant-loop-place : goal.invariant-loop-place
invariant-loop-place g l = record {
  found : (ds : List Group) × (map (λ d. d.first) ds ≡ take l.place l.entries) × All IsSingle ds × (l.groups.items ≡ groups_of l.by ds);
  keys : HasPartsOf l.by l.keys.keys l.groups.items;
  few : HasNumbersUpTo l.place l.groups.items;
}

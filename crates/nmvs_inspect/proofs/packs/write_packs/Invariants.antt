use Rattle.std.proofs.Common.{◌≡◌, List, take, map}
use Rattle.std.specs.Prelude.{filter}
use Rattle.nmvs_rules.specs.Trail.{is_birth_in}
use Rattle.nmvs_inspect.specs.Gathering.{IsGathered}
use Rattle.nmvs_inspect.specs.Packs.{Standing, packs_text}
use Rattle.nmvs_inspect.proofs.packs.write_packs.Given as goal

abbrev pub invariant-loop-place : goal.invariant-loop-place
invariant-loop-place g l =
    (ps : List (Standing l.shard)) × (map (λ p. p.upload) ps ≡ filter (is_birth_in l.code l.batch) (take l.place l.shard))
    × IsGathered (g.W.Sink.taken l.fn.sink) (g.W.Sink.taken l.sink) l.block.items (packs_text l.form l.shard ps)

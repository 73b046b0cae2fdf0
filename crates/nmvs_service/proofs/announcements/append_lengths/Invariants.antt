use Rattle.std.proofs.Common.{◌≡◌, ◌++◌, take, string_bytes}
use Rattle.std.specs.List.{flat_map}
use Rattle.nmvs_service.specs.Announcements.{length_text}
use Rattle.nmvs_service.proofs.announcements.append_lengths.Given as goal

abbrev pub invariant-loop-shard : goal.invariant-loop-shard
invariant-loop-shard l =
    string_bytes l.text ≡ string_bytes l.fn.text ++ flat_map length_text (take l.shard-index l.shards)

use Rattle.std.proofs.Common.{◌≡◌, ◌++◌, take, string_bytes}
use Rattle.std.specs.List.{flat_map}
use Rattle.nmvs_check.specs.Answers.{about}
use Rattle.nmvs_check.proofs.answers.append_each.Given as goal

abbrev pub invariant-loop-code : goal.invariant-loop-code
invariant-loop-code l =
    string_bytes l.text ≡ string_bytes l.fn.text ++ flat_map (about l.shard l.whole) (take l.code-index l.codes)

use Rattle.std.proofs.Common.{◌≡◌, ◌++◌, take}
use Rattle.std.specs.List.{flat_map}
use Rattle.nmvs_json.specs.Replies.{escaped}
use Rattle.nmvs_json.proofs.reply.push_text.Given as goal

abbrev pub invariant-loop-byte : goal.invariant-loop-byte
invariant-loop-byte g l = l.body.items ≡ l.initial.body.items ++ flat_map escaped (take l.byte-index l.text)

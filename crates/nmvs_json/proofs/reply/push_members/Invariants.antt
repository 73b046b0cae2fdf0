use Rattle.std.proofs.Common.{◌≡◌, ◌++◌, drop, map}
use Rattle.nmvs_json.specs.Places.{place_of}
use Rattle.nmvs_json.specs.Replies.{members}
use Rattle.nmvs_json.proofs.reply.push_members.Given as goal

abbrev pub invariant-loop-place : goal.invariant-loop-place
invariant-loop-place g l =
    l.body.items ++ members (map place_of (drop l.place-index l.places)) l.rest
    ≡ l.fn.body.items ++ members (map place_of l.fn.places) l.fn.words

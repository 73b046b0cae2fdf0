use Rattle.std.proofs.Common.{◌≤◌, ◌+◌, ◌∙◌, inl, drop, ap, refl, length, arith}
use Rattle.std.proofs.lemmas.List.{length-take-le, length-drop}
use Rattle.nmvs_connections.proofs.RepliesSteps.{worded_of}
use Rattle.nmvs_connections.proofs.buffered_session.word_part.Goals as goal

pub returns : goal.returns
returns c =
    let e = c.write_texts.ensures in
    let t = worded_of _ _ _ c.write_texts.result e.ok e.replied e.err in
    let fits : c.args.first + c.args.count ≤ length c.args.released.now = c.in_ok-part.ensures.there.0 refl in
    let left = length-drop c.args.first c.args.released.now in
    rw (c.ok.ensures.value)
    (record {
      part = c.in_ok-part.part;
      its_own = λ within. c.in_ok-part.ensures.part;
      none = λ less. absurd (omega (arith, less, fits));
      there = inl (ap (λ l. length l) c.in_ok-part.ensures.part ∙ length-take-le c.args.count (drop c.args.first c.args.released.now) (omega (arith, fits, left)));
      text = t.0;
      untold = t.1;
      bytes = t.2;
      text_is = t.3;
      all = t.4;
    })

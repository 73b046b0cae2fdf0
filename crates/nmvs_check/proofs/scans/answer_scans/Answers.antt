use Rattle.std.proofs.Common.{◌≡◌, ◌==◌, ◌||◌, ◌++◌, ◌∙◌, [], ℕ, List, Bool, take, length, refl, sym, ap, arith, append_assoc}
use Rattle.std.proofs.lemmas.List.{append-nil, length-take}
use Rattle.std.proofs.lemmas.Bool.{ne_eqb}
use Rattle.nmvs_stream.specs.InputLines.{lines_after, rest_after}
use Rattle.nmvs_inspect.proofs.GatheringLemmas.{gathered-begin}
use Rattle.nmvs_check.proofs.scans.answer_scans.Goals as goal
use Rattle.nmvs_check.proofs.scans.answer_scans.Goals.{in-Ok-finish, in-Err-finish}

pub loop-init : goal.loop-init
unfolding lines_after rest_after
loop-init g c =
    let made = c.in-Ok.ensures in
    let none = made.count in
    let start = g.W.Sink.taken c.args.sink.now in (
      refl,
      omega (arith, none),
      omega arith,
      omega arith,
      c.requires.source_open,
      [],
      sym (append-nil _),
      c.new-line.ensures,
      record {
        readings = [];
        each = tt;
        count = none;
        all_read = made.all_read;
        gathered = gathered-begin start c.in-Ok.rows.block.items _ (made.block ∙ sym (append-nil _));
      },
    )

pub loop-preserved : goal.loop-preserved
loop-preserved g c =
    let inv = c.loop.invariant in
    let gives = c.in-Ok-read.ensures.ok in
    let old = g.R.Source.told c.args.source.now in
    let chunk = take c.in-Ok-read.count c.read.new.buffer in
    let input = inv.5 in
    let answered = c.in-Ok-answer_chunk.ensures.answered (g.W.Sink.taken c.args.sink.now) input inv.7 inv.8 in
    let many = c.in-Ok-answer_chunk.ensures.count in
    let small = length-take c.in-Ok-read.count c.read.new.buffer in
    let size : length c.read.new.buffer ≡ 4096 = c.read.auto.buffer ∙ inv.0 in (
      size,
      omega (arith, many, small, size, inv.1),
      omega (arith, c.loop-test.true),
      omega (arith, gives.reads, inv.3),
      gives.ended ∙ ap (λ (t : Bool). t || (c.in-Ok-read.count == 0)) inv.4 ∙ ne_eqb c.in-Ok-read.count 0 c.in-Ok-read.count-test.1,
      input ++ chunk,
      gives.bytes ∙ ap (λ (x : List ℕ). x ++ chunk) inv.6 ∙ append_assoc old.bytes input chunk,
      answered.0,
      answered.1,
    )

pub returns-in-Ok-eq0-clause-told : goal.returns-in-Ok-eq0-clause-told
returns-in-Ok-eq0-clause-told g c =
    let inv = c.loop.invariant in
    let gives = c.in-Ok-eq0.ensures.ok in
    let none : c.in-Ok-eq0.field-0 ≡ 0 = c.in-Ok-eq0.field-0-test in
    elim c.match-finish.branch [
      | in-Ok-finish w ↦ rw w.result-is (record {
        input = inv.5;
        read = gives.bytes ∙ ap (λ (n : ℕ). (g.R.Source.told c.loop.source).bytes ++ take n c.read.new.buffer) none ∙ append-nil _ ∙ inv.6;
        ended = gives.ended ∙ ap (λ (t : Bool). t || (c.in-Ok-eq0.field-0 == 0)) inv.4 ∙ ap (λ (n : ℕ). n == 0) none;
        answered = w.in-Ok-finish.ensures c.args.nation (g.W.Sink.taken c.args.sink.now) inv.5 inv.7 inv.8;
      })
      | in-Err-finish w ↦ rw w.result-is tt
    ]

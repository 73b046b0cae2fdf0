use Rattle.std.proofs.Common.{◌≡◌, ◌∙◌, ◌++◌, ◌∷◌, [], ℕ, List, length, sym, ap, subst, arith}
use Rattle.std.proofs.lemmas.List.{append-nil, length-append}
use Rattle.nmvs_messages.specs.PendingLines.{kept_part}
use Rattle.nmvs_stream.proofs.LinesOfPieces.{no_line, line_cut, left_cut}
use Rattle.nmvs_check.specs.Scans.{ReadsLine}
use Rattle.nmvs_check.proofs.ScanLemmas.{kept_reads, one_more, same_lines, ahead_first, ahead_next, goes_on}
use Rattle.nmvs_check.proofs.scans.take_chunk.Goals as goal

pub loop-tail-init : goal.loop-tail-init
loop-tail-init c = (omega arith, λ start sink input is so_far. ahead_first input c.args.chunk.now is so_far)

pub loop-tail-preserved : goal.loop-tail-preserved
loop-tail-preserved c =
    let tail = c.in-Some.tail.now in
    let behind = c.in-Some.behind.now in
    let pushed = c.in_ok-push.ensures in
    let cut = c.in-Some.ensures.cut in
    let n = ap (λ (t : List ℕ). length t) cut ∙ length-append tail (10 ∷ behind) in
    let count = pushed.count in
    let fits = c.loop-tail.invariant.0 in (
      omega (arith, n, count, fits),
      λ start sink input is so_far.
          let inv = c.loop-tail.invariant.1 start sink input is so_far in
          let x = inv.begun ++ tail in
          let line : c.as_slice.result.now ≡ kept_part x = c.as_slice.ensures ∙ c.extend.ensures ∙ goes_on inv.begun tail inv.keeps in
          let reads = kept_reads c.args.nation x c.read_line.result (subst (λ (t : List ℕ). ReadsLine c.args.nation t c.read_line.result) line c.read_line.ensures) in record {
            done = inv.done ++ x ∷ [];
            begun = [];
            keeps = c.clear.ensures;
            answered = one_more c.push.new.self x c.read_line.result inv.answered reads pushed.count pushed.all_read pushed.block;
            ahead = ahead_next inv x behind (line_cut inv.begun tail behind cut c.in-Some.ensures.whole);
            left = sym (left_cut inv.begun tail behind cut c.in-Some.ensures.whole) ∙ inv.left;
          },
    )

pub returns-clause-answered : goal.returns-clause-answered
returns-clause-answered c start sink input is so_far =
    let inv = c.loop-tail.invariant.1 start sink input is so_far in
    let none = no_line inv.begun c.loop-tail.rest.now c.in_default.ensures.none in (
      c.extend-2.ensures ∙ goes_on inv.begun c.loop-tail.rest.now inv.keeps ∙ ap kept_part (sym none.1 ∙ inv.left),
      same_lines (sym (append-nil inv.done) ∙ ap (λ (t : List (List ℕ)). inv.done ++ t) (sym none.0) ∙ inv.ahead) inv.answered,
    )

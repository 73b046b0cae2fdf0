use Rattle.std.proofs.Common.{arith, ap, sym, ◌≡◌, ◌∙◌, ◌+◌, ◌<◌, ◌++◌, ◌∷◌, [], length, length-append, map, rules}
use Rattle.std.proofs.lemmas.List.{append-nil, append_assoc, map-append, nil_from_length}
use Rattle.nmvs_stream.proofs.LinesOfPieces.{no_line, line_cut, left_cut}
use Rattle.nmvs_operator.specs.UsersFaults.{shown, line_faults, end_faults, faults_from}
use Rattle.nmvs_operator.proofs.FaultLemmas.{faults_from-line, faults_from-end, end_faults-some}
use Rattle.nmvs_operator.proofs.users_check.users_faults.Goals.{then-not-is_empty+in_ok-push, else-not-is_empty}
use Rattle.nmvs_operator.proofs.users_check.users_faults.Goals as goal

pub loop-line-preserved : goal.loop-line-preserved
loop-line-preserved c =
    let cut = c.in-Some.ensures in
    let line = c.in-Some.line.now in
    let behind = c.in-Some.behind.now in
    let number = c.loop-line.number in
    let old = map shown c.loop-line.faults.items in
    let next = faults_from-line number _ line behind (line_cut [] _ _ cut.cut cut.whole) (left_cut [] _ _ cut.cut cut.whole) in (
      omega (arith, c.loop-line.invariant.0, ap length cut.cut, length-append line (10 ∷ behind)),
      ap (λ t. t ++ faults_from (number + 1) behind) c.in_ok-push_fault.ensures
          ∙ append_assoc old (line_faults number line) (faults_from (number + 1) behind)
          ∙ ap (λ t. old ++ t) (sym next)
          ∙ c.loop-line.invariant.1,
    )

pub returns : goal.returns
returns c =
    let rest = c.loop-line.rest.now in
    let number = c.loop-line.number in
    let old = map shown c.loop-line.faults.items in
    let none = no_line [] rest c.in_default.ensures.none in
    let left = faults_from-end number rest none.0 none.1 in
    let all : old ++ end_faults number rest ≡ faults_from 1 c.args.bytes.now = ap (λ t. old ++ t) (sym left) ∙ c.loop-line.invariant.1 in
    elim c.if-not-is_empty.branch [
      | then-not-is_empty+in_ok-push w ↦
          let some : 0 < length rest = search rules in
          let ended = end_faults-some number rest some in
          rw w.faults-is (rw w.in_ok-push.ensures.items (map-append shown c.loop-line.faults.items _ ∙ ap (λ t. old ++ t) (sym ended) ∙ all))
      | else-not-is_empty w ↦
          let empty : rest ≡ [] = nil_from_length rest (search rules) in
          rw w.faults-is (sym (append-nil old) ∙ ap (λ t. old ++ t) (sym (ap (end_faults number) empty)) ∙ all)
    ]

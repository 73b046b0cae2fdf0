use Rattle.std.proofs.Common.{◌∙◌, ◌==◌, [], ◌∷◌, ℕ, List, length, sym, ap, subst, Err}
use Rattle.std.specs.Prelude.{is_ok}
use Rattle.std.specs.List.{list_all}
use Rattle.std.proofs.lemmas.List.{append-nil}
use Rattle.nmvs_stream.specs.InputLines.{unfinished_line}
use Rattle.nmvs_stream.specs.Delivery.{Delivers}
use Rattle.nmvs_inspect.specs.Gathering.{IsGathered}
use Rattle.nmvs_check.specs.declared.line_fault.LineFault.TheVariants as faults
use Rattle.nmvs_check.specs.declared.scans.Rows.{Rows}
use Rattle.nmvs_check.specs.Scans.{Reading, scans_text}
use Rattle.nmvs_check.proofs.ScanLemmas.{all_more, text_more, unended_none, unended_one, finished}
use Rattle.nmvs_check.proofs.scans.finish.Goals as goal
use Rattle.nmvs_check.proofs.scans.finish.Goals.{then-not-is_empty+in_ok-push, else-not-is_empty}

pub returns : goal.returns
returns g c nation start input is so_far =
    let x = unfinished_line input in
    let last : Reading = Err faults.Unended in
    let sink = g.W.Sink.taken c.args.sink.now in
    let sink' = g.W.Sink.taken c.deliver.new.sink in
    let rows = c.if-not-is_empty.rows in
    let kept = ap (λ (t : List ℕ). length t == 0) (sym is) ∙ sym c.is_empty.ensures in
    let delivers = subst (λ (t : List ℕ). Delivers sink sink' t) c.deref.ensures.value c.in_ok-deliver.ensures.ok in
    elim c.if-not-is_empty.branch [
      | then-not-is_empty+in_ok-push w ↦
          let pushed = w.in_ok-push.ensures in
          let old = c.args.rows.now in
          let all = ap (λ (r : Rows). r.all_read) w.rows-is ∙ all_more so_far.readings last old.all_read w.push.new.self.all_read so_far.all_read pushed.all_read in
          let block = ap (λ (r : Rows). r.block.items) w.rows-is ∙ pushed.block in
          finished rows so_far.readings (last ∷ []) so_far.each (unended_one x (kept ∙ w.if-not-is_empty.true)) all
          (text_more start sink old.block.items rows.block.items old.count so_far.readings last so_far.gathered so_far.count block) delivers
      | else-not-is_empty w ↦
          let all = ap (λ (r : Rows). r.all_read) w.rows-is ∙ so_far.all_read in
          let same = ap (λ (r : Rows). r.block.items) w.rows-is in
          let nothing = append-nil so_far.readings in
          finished rows so_far.readings [] so_far.each (unended_none x (kept ∙ w.if-not-is_empty.false)) (all ∙ ap (λ (l : List Reading). list_all is_ok l) (sym nothing))
          (subst (λ (l : List Reading). IsGathered start sink rows.block.items (scans_text l)) (sym nothing) (subst (λ (t : List ℕ). IsGathered start sink t (scans_text so_far.readings)) (sym same) so_far.gathered)) delivers
    ]

use Rattle.std.proofs.Common.{◌≡◌, ◌∙◌, ◌++◌, ◌∷◌, [], ℕ, List, sym, ap, subst}
use Rattle.nmvs_stream.specs.InputLines.{HasNoLf, lines_after, rest_after}
use Rattle.nmvs_messages.specs.PendingLines.{kept_part}
use Rattle.nmvs_admin.proofs.IncomingLemmas.{line_handed, no_more, kept_on, behind_line}
use Rattle.nmvs_admin.proofs.incoming.Incoming.next_line.Goals as goal

pub returns-in-Some-clause-next : goal.returns-in-Some-clause-next
returns-in-Some-clause-next c sent handed w =
    let old = c.args.self.now.unread.items in
    let tail = c.in-Some.tail.now in
    let behind = c.in-Some.field-0-1.now in
    let whole = w.begun ++ tail in
    let cut : old ≡ tail ++ 10 ∷ behind = sym c.as_slice.ensures.value ∙ c.in-Some.ensures.cut in
    let left : behind ≡ c.pass.new.self.unread.items = sym (c.pass.ensures.unread ∙ behind_line tail behind cut) in
    let s = line_handed w.begun tail behind (record { lines = w.lines; left = w.left }) cut c.in-Some.ensures.whole in (
      whole,
      c.replace.ensures.value ∙ c.pass.ensures.begun ∙ kept_on w.begun tail w.kept c.extend.ensures,
      record {
        begun = [];
        kept = c.replace.ensures.after ∙ c.new.ensures;
        lines = s.lines ∙ ap (λ (t : List ℕ). (handed ++ whole ∷ []) ++ lines_after [] t) left;
        left = s.left ∙ ap (λ (t : List ℕ). rest_after [] t) left;
      },
    )

pub returns-in-None-clause-all : goal.returns-in-None-clause-all
returns-in-None-clause-all c sent handed w =
    let old = c.args.self.now.unread.items in
    let begun = w.begun ++ old in
    let none = subst (λ (t : List ℕ). HasNoLf t) c.as_slice.ensures.value c.in-None.ensures.none in
    let same = ap (λ (t : List ℕ). kept_part (c.args.self.now.begun ++ t)) c.as_slice-in-None.ensures.value in
    let all = no_more w.begun (record { lines = w.lines; left = w.left }) none in (
      all.0,
      record {
        begun = begun;
        kept = kept_on w.begun old w.kept (c.extend-in-None.ensures ∙ same);
        lines = all.1.lines ∙ ap (λ (t : List ℕ). handed ++ lines_after begun t) (sym c.clear.ensures);
        left = all.1.left ∙ ap (λ (t : List ℕ). rest_after begun t) (sym c.clear.ensures);
      },
    )

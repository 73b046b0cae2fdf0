use Rattle.std.proofs.Common.{◌≡◌, ◌-◌, ap, sym, ◌∙◌, replicate, drop, take, nat_eq}
use Rattle.std.specs.Cmp.Lexicographic.{pointwise}
use Rattle.nmvs_identifier.proofs.ShortTexts.{same-before}
use Rattle.nmvs_identifier.proofs.short_text.ShortTextPartialEq.eq.Goals as goal

pub returns-then-self-other : goal.returns-then-self-other
returns-then-self-other g c =
    let s = c.self.inside in
    let t = c.other.inside in
    let long = c.if-self-other.true in
    let behind : drop s.len s.cells ≡ drop s.len t.cells =
    c.self.invariant.zeros ∙ ap (λ n. replicate (g.row.CAP - n) 0) long ∙ sym c.other.invariant.zeros ∙ ap (λ n. drop n t.cells) (sym long) in
    let cells : c.eq.result ≡ pointwise nat_eq (take s.len s.cells) (take s.len t.cells) =
    c.eq.ensures ∙ same-before s.len s.cells t.cells (c.self.invariant.whole ∙ sym c.other.invariant.whole) behind in
    cells ∙ ap (λ n. pointwise nat_eq (take s.len s.cells) (take n t.cells)) long
    ∙ (λ i. pointwise nat_eq (c.self.view_is i).bytes (c.other.view_is i).bytes)

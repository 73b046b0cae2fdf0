use Rattle.std.proofs.Common.{◌≡◌, ◌+◌, ◌-◌, ◌≤◌, ◌++◌, ℕ, List, length, drop, take, replicate, arith, ap, sym, ◌∙◌, subst, IsUtf8}
use Rattle.std.proofs.lemmas.List.{length-append, length-replicate, drop-replicate}
use Rattle.std.proofs.Math.Seq.{drop-append_seam, take-append_seam}
use Rattle.nmvs_identifier.proofs.short_text.ShortText.from.Goals as goal

-- the cells that hold a text, with zeros after it
record Filled (cap : ℕ) (text cells : List ℕ) : Type 0 where
  all : length cells ≡ cap
  zeros : drop (length text) cells ≡ replicate (cap - length text) 0
  front : take (length text) cells ≡ text

filled : (cap : ℕ) (text : List ℕ) → length text ≤ cap → Filled cap text (text ++ drop (length text) (replicate cap 0))
filled cap text fits =
    let behind : drop (length text) (replicate cap 0) ≡ replicate (cap - length text) 0 = drop-replicate (length text) cap 0 in record {
      all = length-append text _ ∙ ap (λ zeros. length text + length zeros) behind
          ∙ ap (λ n. length text + n) (length-replicate (cap - length text) 0) ∙ omega (arith, fits);
      zeros = drop-append_seam text _ ∙ behind;
      front = take-append_seam text _;
    }

pub invariant_of-result : goal.invariant_of-result
invariant_of-result g c =
    let copied : c.copy_from_slice.new.self ≡ c.args.text.now = c.copy_from_slice.ensures.after ∙ c.as_bytes.ensures.value in
    let known = filled g.row.CAP c.args.text.now c.requires.fits in
    let cells = subst (λ front. Filled g.row.CAP c.args.text.now (front ++ drop (length c.args.text.now) (replicate g.row.CAP 0))) (sym copied) known in
    record {
      small = c.requires.short;
      fits = c.requires.fits;
      whole = cells.all;
      zeros = cells.zeros;
      text = ∣ subst IsUtf8 (sym cells.front) c.utf8.text ∣₁;
    }

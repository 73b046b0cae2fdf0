-- A line is about its own alerts.
use Rattle.std.proofs.Common.{◌≡◌, ◌<◌, ◌&&◌, ℕ, Bool, true, false, cond, Option, Some, None, refl, ap, ◌∙◌, arith}
use Rattle.std.specs.Prelude.{unwrap_or}
use Rattle.std.specs.Prelude.{nat_le}
use Rattle.std.proofs.lemmas.Bool.Decides.{nat_tests}
use Rattle.nmvs_identifier.specs.ProductCode.{ProductCode}
use Rattle.nmvs_identifier.specs.Texts.{same_text}
use Rattle.nmvs_cases.specs.declared.case.Case.{Case}
use Rattle.nmvs_cases.specs.declared.hint.Hint.{Hint}
use Rattle.nmvs_cases.specs.declared.line.CaseLine.{CaseLine}
use Rattle.nmvs_cases.specs.declared.range.Hinted.{Hinted}
use Rattle.nmvs_cases.specs.declared.range.Hinted.TheVariants.{Only}
use Rattle.nmvs_cases.specs.Authors.{author_reader, author_user}
use Rattle.nmvs_cases.specs.Cases.{after, has, is_hinted, on}
use Rattle.nmvs_cases.specs.Laws.{RangesHaveTheirOwn}

-- four tests of which one fails
first-fails : (a b c d : Bool) → a ≡ false → (a && b && c && d) ≡ false
first-fails false b c d h = refl
first-fails true b c d h = absurd cc

second-fails : (a b c d : Bool) → b ≡ false → (a && b && c && d) ≡ false
second-fails false b c d h = refl
second-fails true false c d h = refl
second-fails true true c d h = absurd cc

third-fails : (a b c d : Bool) → c ≡ false → (a && b && c && d) ≡ false
third-fails false b c d h = refl
third-fails true false c d h = refl
third-fails true true false d h = refl
third-fails true true true d h = absurd cc

fourth-fails : (a b c d : Bool) → d ≡ false → (a && b && c && d) ≡ false
fourth-fails false b c d h = refl
fourth-fails true false c d h = refl
fourth-fails true true false d h = refl
fourth-fails true true true false h = refl
fourth-fails true true true true h = absurd cc

-- a line says nothing about an alert that is not of its range
untouched : (line : CaseLine) (s : Case) (c : ProductCode) (n : ℕ) (h : Option Hint) → has line.range c n h ≡ false → on line s c n h ≡ s
untouched line s c n h not = ap (λ (b : Bool). cond b (unwrap_or (after s line.act (author_reader line.author) (author_user line.author)) s) s) not

above : (m n : ℕ) → n < m → nat_le m n ≡ false
above m n less = grind (arith, nat_tests, less)

hinted-otherwise : (o : Hinted) (wanted : Hint) (h : Option Hint) → o ≡ Only (Some wanted) → is_hinted (Only (Some wanted)) h ≡ false → is_hinted o h ≡ false
hinted-otherwise o wanted h is not = ap (λ (x : Hinted). is_hinted x h) is ∙ not

pub own-ranges : RangesHaveTheirOwn
own-ranges = record {
  code = λ line s c n h other. untouched line s c n h (first-fails (same_text line.range.code c) (nat_le line.range.first n) (nat_le n line.range.last) (is_hinted line.range.hinted h) other);
  earlier = λ line s c n h less. untouched line s c n h (second-fails (same_text line.range.code c) (nat_le line.range.first n) (nat_le n line.range.last) (is_hinted line.range.hinted h) (above line.range.first n less));
  later = λ line s c n h more. untouched line s c n h (third-fails (same_text line.range.code c) (nat_le line.range.first n) (nat_le n line.range.last) (is_hinted line.range.hinted h) (above n line.range.last more));
  hint = λ line s c n wanted h is other.
      untouched line s c n (Some h) (fourth-fails (same_text line.range.code c) (nat_le line.range.first n) (nat_le n line.range.last) (is_hinted line.range.hinted (Some h)) (hinted-otherwise line.range.hinted wanted (Some h) is other));
  unhinted = λ line s c n wanted is.
      untouched line s c n None (fourth-fails (same_text line.range.code c) (nat_le line.range.first n) (nat_le n line.range.last) (is_hinted line.range.hinted None) (hinted-otherwise line.range.hinted wanted None is refl));
}

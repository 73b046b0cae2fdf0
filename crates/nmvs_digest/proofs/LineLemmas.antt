-- The lines with digests.
use Rattle.std.proofs.Common.{◌≡◌, ℕ, ◌≤◌, List, ◌++◌, length, take, codes, ap, subst, arith}
use Rattle.std.proofs.Math.Seq.{take-append_seam}
use Rattle.std.proofs.lemmas.List.{length-append}
use Rattle.hex.specs.Hex.{encode_lower, lower_digits}
use Rattle.hex.proofs.HexLemmas.{length-encode_with}
use Rattle.nmvs_digest.specs.Digests.{digest_line}

-- a digest of 32 bytes has 64 digits
pub length-digits : (sum : List ℕ) → length sum ≡ 32 → length (encode_lower sum) ≡ 64
length-digits sum sized = omega (arith, length-encode_with lower_digits sum, sized)

-- a line has at least its digits
pub line_long : (text sum name : List ℕ) → length sum ≡ 32 → text ≡ digest_line sum name → 64 ≤ length text
line_long text sum name sized same =
    omega (arith, ap length same, length-append (encode_lower sum) (codes "  " ++ (name ++ codes "\n")), length-digits sum sized)

-- a line begins with its digits
pub digits_first : (text sum name : List ℕ) → length sum ≡ 32 → text ≡ digest_line sum name → take 64 text ≡ encode_lower sum
digits_first text sum name sized same =
    rw same (subst (λ (n : ℕ). take n (digest_line sum name) ≡ encode_lower sum) (length-digits sum sized) (take-append_seam (encode_lower sum) _))

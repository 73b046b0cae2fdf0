use Rattle.std.proofs.Common.{◌≡◌, ℕ, List, [], Result, ap, sym, ◌∙◌, arith}
use Rattle.std.specs.Result.{result_unwrap_or}
use Rattle.hex.specs.Hex.{decode_sized}
use Rattle.hex.specs.declared.error.FromHexError.{FromHexError}
use Rattle.hex.proofs.HexLemmas.{decode_sized-encode_lower}
use lib.Pointwise.{bytes_decides}
use Rattle.nmvs_digest.specs.Digests.{digest_line}
use Rattle.nmvs_digest.proofs.LineLemmas.{line_long, digits_first}
use Rattle.nmvs_digest.proofs.lines.read_digest.Goals as goal

pub returns-in_default-clause-none : goal.returns-in_default-clause-none
returns-in_default-clause-none c = λ sum sized bytes same.
    omega (arith, line_long c.args.text.now sum c.args.name.now sized same, c.in_default.ensures.cases)

pub returns-in_default-from_hex-clause-none : goal.returns-in_default-from_hex-clause-none
returns-in_default-from_hex-clause-none c = λ sum sized bytes same.
    let digits = c.in-Some.ensures.cases.1 ∙ digits_first c.args.text.now sum c.args.name.now sized same in
    c.in_default-from_hex.not-Ok sum
    (c.from_hex.ensures ∙ (ap (λ (s : List ℕ). decode_sized s 32) digits ∙ decode_sized-encode_lower sum 32 sized bytes))

pub returns-clause-none : goal.returns-clause-none
returns-clause-none c = λ sum sized bytes same.
    let digits = c.in-Some.ensures.cases.1 ∙ digits_first c.args.text.now sum c.args.name.now sized same in
    let decoded = c.from_hex.ensures ∙ (ap (λ (s : List ℕ). decode_sized s 32) digits ∙ decode_sized-encode_lower sum 32 sized bytes) in
    let found : c.in-Ok.sum ≡ sum
    = ap (λ (r : Result (List ℕ) FromHexError). result_unwrap_or r []) (sym c.in-Ok.is ∙ decoded) in
    let line = c.as_bytes.ensures.value ∙ (c.in_ok-line.ensures ∙ (ap (λ (s : List ℕ). digest_line s c.args.name.now) found ∙ sym same)) in
    let equal = c.eq.ensures ∙ (bytes_decides c.as_bytes.result.now c.args.text.now).1 line in
    cc (equal, c.if-eq.false)

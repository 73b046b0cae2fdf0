-- The bytes of a side as it sends more, and as its lines are handed over.
use Rattle.std.proofs.Common.{◌≡◌, ◌∙◌, ℕ, List, [], ◌∷◌, ◌++◌, ◌+◌, length, drop, sym, ap, append_assoc, length-append, arith, Result, Ok, Err}
use Rattle.std.proofs.lemmas.List.{append-nil}
use Rattle.std.proofs.Math.Seq.{drop-append_seam}
use Rattle.std.specs.Prelude.{OnOk}
use Rattle.nmvs_stream.specs.InputLines.{HasNoLf, lines_after, rest_after, input_lines, unfinished_line}
use Rattle.nmvs_stream.proofs.LinesOfPieces.{lines_after-append, rest_after-append, no_line, line_cut, left_cut}
use Rattle.nmvs_messages.specs.PendingLines.{kept_part}
use Rattle.nmvs_messages.proofs.KeptLines.{kept_more}

-- the state of a side: the bytes of its next line that were looked at, and the bytes that were not
pub record Stands (sent : List ℕ) (handed : List (List ℕ)) (begun unread : List ℕ) : Type 0 where
  pub lines : input_lines sent ≡ handed ++ lines_after begun unread
  pub left : unfinished_line sent ≡ rest_after begun unread

-- more is sent
pub more_sent : {sent unread unread' : List ℕ} {handed : List (List ℕ)} (begun bytes : List ℕ) → Stands sent handed begun unread → unread' ≡ unread ++ bytes
    → Stands (sent ++ bytes) handed begun unread'
more_sent {sent} {unread} {unread'} {handed} begun bytes s more = record {
  lines = lines_after-append [] sent bytes
      ∙ (λ i. s.lines i ++ lines_after (s.left i) bytes)
      ∙ append_assoc handed (lines_after begun unread) (lines_after (rest_after begun unread) bytes)
      ∙ ap (λ (t : List (List ℕ)). handed ++ t) (sym (lines_after-append begun unread bytes))
      ∙ ap (λ (t : List ℕ). handed ++ lines_after begun t) (sym more);
  left = rest_after-append [] sent bytes
      ∙ ap (λ (t : List ℕ). rest_after t bytes) s.left
      ∙ sym (rest_after-append begun unread bytes)
      ∙ ap (rest_after begun) (sym more);
}

-- the next line is handed over
pub line_handed : {sent unread : List ℕ} {handed : List (List ℕ)} (begun tail behind : List ℕ) → Stands sent handed begun unread → unread ≡ tail ++ 10 ∷ behind → HasNoLf tail
    → Stands sent (handed ++ (begun ++ tail) ∷ []) [] behind
line_handed {handed = handed} begun tail behind s cut one = record {
  lines = s.lines ∙ ap (λ (t : List (List ℕ)). handed ++ t) (line_cut begun tail behind cut one)
      ∙ sym (append_assoc handed ((begun ++ tail) ∷ []) (input_lines behind));
  left = s.left ∙ left_cut begun tail behind cut one;
}

-- there is no more line
pub no_more : {sent unread : List ℕ} {handed : List (List ℕ)} (begun : List ℕ) → Stands sent handed begun unread → HasNoLf unread
    → (handed ≡ input_lines sent) × Stands sent handed (begun ++ unread) []
unfolding lines_after rest_after
no_more {unread = unread} {handed = handed} begun s none =
    let no = no_line begun unread none in
    let all = s.lines ∙ ap (λ (t : List (List ℕ)). handed ++ t) no.0 in (
      sym (all ∙ append-nil handed),
      record { lines = all; left = s.left ∙ no.1 },
    )

-- the begun line after all bytes were looked at
pub all_begun : {sent unread : List ℕ} {handed : List (List ℕ)} (begun : List ℕ) → Stands sent handed begun unread → unread ≡ [] → unfinished_line sent ≡ begun
unfolding rest_after
all_begun begun s none = s.left ∙ ap (rest_after begun) none

-- the kept part of a line that goes on
pub kept_on : {kept kept' : List ℕ} (begun more : List ℕ) → kept ≡ kept_part begun → kept' ≡ kept_part (kept ++ more) → kept' ≡ kept_part (begun ++ more)
kept_on begun more is goes = goes ∙ ap (λ (t : List ℕ). kept_part (t ++ more)) is ∙ kept_more begun more

-- a property of an `Ok` outcome
pub on_ok : {T E : Type 0} (r : Result T E) (v : T) (P : Type 0) → r ≡ Ok v → OnOk r P → P
on_ok (Ok w) v P e p = p
on_ok (Err f) v P e p = absurd cc

-- the bytes after a line and its LF
pub behind_line : {unread : List ℕ} (tail behind : List ℕ) → unread ≡ tail ++ 10 ∷ behind → drop (length tail + 1) unread ≡ behind
behind_line tail behind cut =
    let line = tail ++ 10 ∷ [] in
    let n = length-append tail (10 ∷ []) in
    let many : length tail + 1 ≡ length line = omega (arith, n) in
    ap (λ (t : List ℕ). drop (length tail + 1) t) (cut ∙ sym (append_assoc tail (10 ∷ []) behind))
    ∙ ap (λ (k : ℕ). drop k (line ++ behind)) many
    ∙ drop-append_seam line behind

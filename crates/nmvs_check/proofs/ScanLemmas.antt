-- Lines of scans, one after another.
use Rattle.std.proofs.Common.{◌≡◌, ◌∙◌, ◌<◌, ◌+◌, ◌&&◌, ◌==◌, if◌then◌else◌, nat_lt, ℕ, suc, Bool, true, false, List, [], ◌∷◌, ◌++◌, length, refl, sym, ap, subst, inl, inr, arith, append_assoc, length-append, Option, Result, Err}
use Rattle.std.specs.Prelude.{is_ok}
use Rattle.std.specs.List.{list_all}
use Rattle.std.proofs.lemmas.List.{append-nil, take_all, length-take, length-take-le}
use Rattle.std.proofs.lemmas.List.Folds.{list_all-append}
use Rattle.std.proofs.lemmas.Bool.{cases_lt, lt-ltb, eqb-true}
use Rattle.nmvs_stream.specs.Sink.{Taken}
use Rattle.nmvs_stream.specs.InputLines.{lines_after, rest_after, input_lines, unfinished_line}
use Rattle.nmvs_stream.proofs.LinesOfPieces.{lines_after-append, rest_after-append}
use Rattle.nmvs_messages.specs.PendingLines.{kept_part}
use Rattle.nmvs_messages.proofs.KeptLines.{kept_more}
use Rattle.nmvs_elements.specs.declared.elements.Elements.{Elements}
use Rattle.nmvs_elements.specs.declared.fault.ScanFault.{ScanFault}
use Rattle.nmvs_elements.specs.declared.identifiers.National.{National}
use Rattle.nmvs_elements.specs.declared.fault.ScanFault.TheVariants as scan_faults
use Rattle.nmvs_elements.specs.Scan.{ReadsScan, ReadsBehind}
use Rattle.nmvs_inspect.proofs.GatheringLemmas.{gathered-more, gathered-written, gathered-end}
use Rattle.nmvs_check.specs.declared.scans.Rows.{Rows}
use Rattle.nmvs_inspect.specs.Gathering.{IsGathered}
use Rattle.nmvs_stream.specs.Delivery.{Delivers}
use Rattle.nmvs_check.specs.declared.line_fault.LineFault.TheVariants as faults
use Rattle.nmvs_check.specs.Scans.{Reading, ReadsLine, ReadsLines, Answered, Finished, header, row, rows_from, scans_text, reading_of, unended}

-- the kept bytes of a scan are read as the whole scan is: both are too long, or nothing is lost
long_reads : (nation : Option National) (x y : List ℕ) (r : Result Elements ScanFault) → 100 < length x → 100 < length y → ReadsScan nation x r → ReadsScan nation y r
long_reads nation x y r lx ly h = behind nation (length x) (length y) (nat_lt 100 (length x)) (nat_lt 100 (length y)) _ _ r (lt-ltb 100 (length x) lx) (lt-ltb 100 (length y) ly) h
  where
    behind : (nation : Option National) (m n : ℕ) (p q : Bool) (s t : Result (List ℕ) ScanFault) (r : Result Elements ScanFault) → p ≡ true → q ≡ true
        → ReadsBehind nation m (if p then Err scan_faults.Long else s) r → ReadsBehind nation n (if q then Err scan_faults.Long else t) r
    behind nation m n true true s t r is too h = h
    behind nation m n false q s t r is too h = absurd cc
    behind nation m n true false s t r is too h = absurd cc

pub kept_reads : (nation : Option National) (x : List ℕ) (r : Reading) → ReadsLine nation (kept_part x) r → ReadsLine nation x r
kept_reads nation x r h = elim (cases_lt 201 (length x)) [
  | inr short ↦ subst (λ (t : List ℕ). ReadsLine nation t r) (take_all 201 x short) h
  | inl long ↦ long_line x r long h
]
  where
    long_line : (x : List ℕ) (r : Reading) → 201 < length x → ReadsLine nation (kept_part x) r → ReadsLine nation x r
    long_line [] r long h = absurd (omega (arith, long))
    long_line (b ∷ bs) r long h =
        let n = length-take-le 201 (b ∷ bs) (omega (arith, long)) in
        (h.0, long_reads nation (kept_part (b ∷ bs)) (b ∷ bs) h.0 (omega (arith, n)) (omega (arith, long)) h.1, h.2)

-- one line more
reads_more : (nation : Option National) (lines : List (List ℕ)) (readings : List Reading) (line : List ℕ) (reading : Reading)
    → ReadsLines nation lines readings → ReadsLine nation line reading → ReadsLines nation (lines ++ line ∷ []) (readings ++ reading ∷ [])
reads_more nation [] [] line reading each this = (this, tt)
reads_more nation (l ∷ lines) (r ∷ readings) line reading each this = (each.0, reads_more nation lines readings line reading each.1 this)
reads_more nation [] (r ∷ readings) line reading each this = absurd each
reads_more nation (l ∷ lines) [] line reading each this = absurd each

rows_more : (n : ℕ) (readings : List Reading) (reading : Reading) → rows_from n (readings ++ reading ∷ []) ≡ rows_from n readings ++ row (n + length readings) reading
rows_more n [] reading = let e : n + 0 ≡ n = omega arith in append-nil (row n reading) ∙ ap (λ (m : ℕ). row m reading) (sym e)
rows_more n (r ∷ readings) reading =
    let e : n + 1 + length readings ≡ n + suc (length readings) = omega arith in
    ap (λ (t : List ℕ). row n r ++ t) (rows_more (n + 1) readings reading ∙ ap (λ (m : ℕ). rows_from (n + 1) readings ++ row m reading) e)
    ∙ sym (append_assoc (row n r) (rows_from (n + 1) readings) (row (n + suc (length readings)) reading))

-- a line that is not empty is read as the scan that it is
pub line_reads : (nation : Option National) (line : List ℕ) (read : Result Elements ScanFault) → (length line == 0) ≡ false → ReadsScan nation line read → ReadsLine nation line (reading_of read)
line_reads nation [] read some h = absurd cc
line_reads nation (b ∷ bs) read some h = (read, h, refl)

-- one row more
and_true : (b : Bool) → (b && true) ≡ b
and_true true = refl
and_true false = refl

pub all_more : (readings : List Reading) (reading : Reading) (all all' : Bool) → all ≡ list_all is_ok readings → all' ≡ (all && is_ok reading)
    → all' ≡ list_all is_ok (readings ++ reading ∷ [])
all_more readings reading all all' is more =
    more ∙ ap (λ (b : Bool). b && is_ok reading) is ∙ ap (λ (b : Bool). list_all is_ok readings && b) (sym (and_true (is_ok reading)))
    ∙ sym (list_all-append is_ok readings (reading ∷ []))

pub text_more : (start sink : Taken) (block block' : List ℕ) (count : ℕ) (readings : List Reading) (reading : Reading) → IsGathered start sink block (scans_text readings)
    → count ≡ length readings → block' ≡ block ++ row (count + 1) reading → IsGathered start sink block' (scans_text (readings ++ reading ∷ []))
text_more start sink block block' count readings reading gathered is more =
    let n : 1 + length readings ≡ count + 1 = omega (arith, is) in
    let next : scans_text readings ++ row (count + 1) reading ≡ scans_text (readings ++ reading ∷ []) =
    append_assoc header (rows_from 1 readings) (row (count + 1) reading)
    ∙ ap (λ (m : ℕ). header ++ (rows_from 1 readings ++ row m reading)) (sym n)
    ∙ ap (λ (t : List ℕ). header ++ t) (sym (rows_more 1 readings reading)) in
    subst (λ (t : List ℕ). IsGathered start sink block' t) next (gathered-more start sink block block' (scans_text readings) (row (count + 1) reading) gathered more)

-- one line more
pub one_more : {nation : Option National} {start sink : Taken} {rows : Rows} {lines : List (List ℕ)} (rows' : Rows) (line : List ℕ) (reading : Reading)
    → Answered nation start sink rows lines → ReadsLine nation line reading → rows'.count ≡ rows.count + 1 → rows'.all_read ≡ (rows.all_read && is_ok reading)
    → rows'.block.items ≡ rows.block.items ++ row (rows.count + 1) reading → Answered nation start sink rows' (lines ++ line ∷ [])
one_more {nation = nation} {start = start} {sink = sink} {rows = rows} {lines = lines} rows' line reading so_far reads count all block = record {
  readings = so_far.readings ++ reading ∷ [];
  each = reads_more nation lines so_far.readings line reading so_far.each reads;
  count = let n = length-append so_far.readings (reading ∷ []) in let m = so_far.count in omega (arith, n, m, count);
  all_read = all_more so_far.readings reading rows.all_read rows'.all_read so_far.all_read all;
  gathered = text_more start sink rows.block.items rows'.block.items rows.count so_far.readings reading so_far.gathered so_far.count block;
}

-- the block is written and emptied
pub written : {nation : Option National} {start sink : Taken} {rows : Rows} {lines : List (List ℕ)} (rows' : Rows) (sink' : Taken)
    → Answered nation start sink rows lines → Delivers sink sink' rows.block.items → rows'.count ≡ rows.count → rows'.all_read ≡ rows.all_read → rows'.block.items ≡ []
    → Answered nation start sink' rows' lines
written {start = start} {sink = sink} {rows = rows} rows' sink' so_far delivers count all none = record {
  readings = so_far.readings;
  each = so_far.each;
  count = count ∙ so_far.count;
  all_read = all ∙ so_far.all_read;
  gathered = gathered-written start sink sink' rows.block.items rows'.block.items (scans_text so_far.readings) so_far.gathered delivers none;
}

-- the end, if nothing or something follows the last LF
pub unended_none : (x : List ℕ) → (length (kept_part x) == 0) ≡ true → unended x ≡ []
unended_none [] none = refl
unended_none (b ∷ x) none =
    let counted = length-take 201 (b ∷ x) in
    let e = eqb-true (length (kept_part (b ∷ x))) 0 none in
    absurd (omega (arith, counted, e))

pub unended_one : (x : List ℕ) → (length (kept_part x) == 0) ≡ false → unended x ≡ Err faults.Unended ∷ []
unended_one [] some = absurd cc
unended_one (b ∷ x) some = refl

pub finished : {nation : Option National} {start sink sink' : Taken} {input : List ℕ} (rows : Rows) (lines last : List Reading) → ReadsLines nation (input_lines input) lines
    → unended (unfinished_line input) ≡ last → rows.all_read ≡ list_all is_ok (lines ++ last) → IsGathered start sink rows.block.items (scans_text (lines ++ last))
    → Delivers sink sink' rows.block.items → Finished nation start sink' input rows.all_read
finished {start = start} {sink = sink} {sink' = sink'} rows lines last each is all gathered delivers = record {
  lines = lines;
  each = each;
  delivered = subst (λ (u : List Reading). Delivers start sink' (scans_text (lines ++ u))) (sym is) (gathered-end start sink sink' rows.block.items (scans_text (lines ++ last)) gathered delivers);
  all_read = all ∙ ap (λ (u : List Reading). list_all is_ok (lines ++ u)) (sym is);
}

-- of the lines of some bytes these are answered; the others, and the unfinished one, are in the rest of a read and the line
-- begun before it, of which this part is kept
pub record Ahead (nation : Option National) (start sink : Taken) (rows : Rows) (line rest bytes : List ℕ) : Type 0 where
  pub done : List (List ℕ)
  pub begun : List ℕ
  pub keeps : line ≡ kept_part begun
  pub answered : Answered nation start sink rows done
  pub ahead : done ++ lines_after begun rest ≡ input_lines bytes
  pub left : rest_after begun rest ≡ unfinished_line bytes

-- before anything of a read is looked at
pub ahead_first : {nation : Option National} {start sink : Taken} {rows : Rows} {line : List ℕ} (input chunk : List ℕ)
    → line ≡ kept_part (unfinished_line input) → Answered nation start sink rows (input_lines input) → Ahead nation start sink rows line chunk (input ++ chunk)
ahead_first input chunk is so_far = record {
  done = input_lines input;
  begun = unfinished_line input;
  keeps = is;
  answered = so_far;
  ahead = sym (lines_after-append [] input chunk);
  left = sym (rest_after-append [] input chunk);
}

-- the line that is next, with those after it
pub ahead_next : {nation : Option National} {start sink : Taken} {rows : Rows} {line rest bytes : List ℕ} (p : Ahead nation start sink rows line rest bytes)
    (x behind : List ℕ) → lines_after p.begun rest ≡ x ∷ input_lines behind → (p.done ++ x ∷ []) ++ input_lines behind ≡ input_lines bytes
ahead_next p x behind cut =
    append_assoc p.done (x ∷ []) (input_lines behind) ∙ ap (λ (t : List (List ℕ)). p.done ++ t) (sym cut) ∙ p.ahead

-- the kept part of a line that was begun and goes on
pub goes_on : {line : List ℕ} (begun tail : List ℕ) → line ≡ kept_part begun → kept_part (line ++ tail) ≡ kept_part (begun ++ tail)
goes_on begun tail keeps = ap (λ (t : List ℕ). kept_part (t ++ tail)) keeps ∙ kept_more begun tail

-- the same of equal lines
pub same_lines : {nation : Option National} {start sink : Taken} {rows : Rows} {xs ys : List (List ℕ)} → xs ≡ ys → Answered nation start sink rows xs → Answered nation start sink rows ys
same_lines {nation = nation} {start = start} {sink = sink} {rows = rows} e h = subst (λ (t : List (List ℕ)). Answered nation start sink rows t) e h

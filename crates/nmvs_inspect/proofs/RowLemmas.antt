-- Rows, cell by cell.
use Rattle.std.proofs.Common.{◌≡◌, ◌≢◌, ◌∙◌, ap, sym, arith, ℕ, ◌+◌, ◌<◌, ◌≤◌, List, [], ◌∷◌, ◌++◌, append_assoc, length, drop, map, get_or, slice_index, Bor, length-drop, refl}
use Rattle.std.proofs.lemmas.Bool.Decides.{nat_tests}
use Rattle.std.proofs.lemmas.List.{at_drop_more, at_drop_all, length-map}
use Rattle.nmvs_rules.specs.declared.reply.Reply.{Reply}
use Rattle.nmvs_inspect.specs.Rows.{Dated, filled, ending, table_from, row, header, columns, csv_columns, cells, entry_text, reply_cell, reply_cells}
use Rattle.nmvs_inspect.specs.declared.form.Form.{Form}
use Rattle.nmvs_inspect.specs.declared.form.Form.TheVariants as form

abbrev pub texts : List (Bor (List ℕ)) → List (List ℕ)
texts xs = map (λ c. c.now) xs

-- LF follows the last cell, and a blank each other
pub ending-last : (xs : List (Bor (List ℕ))) (i : ℕ) → i + 1 ≡ length xs → ending (texts (drop (i + 1) xs)) ≡ 10
ending-last xs i e =
    let n = length-map (drop (i + 1) xs) (λ (c : Bor (List ℕ)). c.now) in
    let m = length-drop (i + 1) xs in
    grind (arith, nat_tests)

pub ending-more : (xs : List (Bor (List ℕ))) (i : ℕ) → i + 1 ≢ length xs → i < length xs → ending (texts (drop (i + 1) xs)) ≡ 32
ending-more xs i e l =
    let n = length-map (drop (i + 1) xs) (λ (c : Bor (List ℕ)). c.now) in
    let m = length-drop (i + 1) xs in
    grind (arith, nat_tests)

-- one more cell in a table's row
pub table-step : (ws : List ℕ) (xs : List (Bor (List ℕ))) (i : ℕ) (d : Bor (List ℕ)) (block with_cell new whole : List ℕ) (end : ℕ) → i < length xs
    → block ++ table_from ws i (texts (drop i xs)) ≡ whole → with_cell ≡ block ++ filled (slice_index ws i) (get_or xs i d).now → new ≡ with_cell ++ end ∷ []
    → end ≡ ending (texts (drop (i + 1) xs)) → new ++ table_from ws (i + 1) (texts (drop (i + 1) xs)) ≡ whole
unfolding table_from
table-step ws xs i d block with_cell new whole end l inv cell put e =
    let rest = table_from ws (i + 1) (texts (drop (i + 1) xs)) in
    let f = filled (slice_index ws i) (get_or xs i d).now in
    ap (λ (x : List ℕ). x ++ rest) put ∙ append_assoc with_cell (end ∷ []) rest ∙ ap (λ (x : List ℕ). x ++ end ∷ rest) cell
    ∙ append_assoc block f (end ∷ rest) ∙ ap (λ (k : ℕ). block ++ (f ++ k ∷ rest)) e
    ∙ ap (λ (x : List ℕ). block ++ x) (sym (at_drop_more (λ ys. table_from ws i (texts ys)) xs i d l)) ∙ inv

-- the row is whole after its last cell
pub table-end : (ws : List ℕ) (xs : List (Bor (List ℕ))) (i : ℕ) → length xs ≤ i → table_from ws i (texts (drop i xs)) ≡ []
unfolding table_from
table-end ws xs i l = at_drop_all (λ ys. table_from ws i (texts ys)) xs i l

-- a form with rows has a header row, and a row for each entry
pub header-row : (f : Form) → f ≢ form.Json → f ≢ form.Csv → header f ≡ row f columns
header-row form.Json n m = absurd (n refl)
header-row form.Csv n m = absurd (m refl)
header-row form.Table n m = refl
header-row form.Html n m = refl

pub header-csv : (f : Form) → f ≡ form.Csv → header f ≡ row f csv_columns
header-csv form.Json e = absurd cc
header-csv form.Csv e = refl
header-csv form.Table e = absurd cc
header-csv form.Html e = absurd cc

-- a form without columns for the values of a reply has its words in one cell
pub reply_cells-text : (f : Form) (r : Reply) → f ≢ form.Csv → reply_cells f r ≡ reply_cell r ∷ []
reply_cells-text form.Json r n = refl
reply_cells-text form.Csv r n = absurd (n refl)
reply_cells-text form.Table r n = refl
reply_cells-text form.Html r n = refl

pub entry_text-row : (f : Form) (d : Dated) → f ≢ form.Json → f ≢ form.Html → entry_text f d ≡ row f (cells f d)
entry_text-row form.Json d n m = absurd (n refl)
entry_text-row form.Csv d n m = refl
entry_text-row form.Table d n m = refl
entry_text-row form.Html d n m = absurd (m refl)

-- The listing of batches after one more.
use Rattle.std.proofs.Common.{◌≡◌, ℕ, ◌+◌, ◌≤◌, ◌==◌, Bool, true, false, ◌&&◌, ◌||◌, cond, List, [], ◌∷◌, ◌++◌, map, filter, length, slice_get, Option, Some, None, unwrap_or, refl, sym, ap, ◌∙◌, arith, length-append, append-nil, fold, suc, zero}
use Rattle.std.proofs.lemmas.Bool.Decides.{nat_tests}
use Rattle.std.proofs.lemmas.List.{length-map, map-append}
use Rattle.std.proofs.lemmas.List.Elements.{filter-append}
use Rattle.std.proofs.lemmas.List.Sums.{length-filter, count_by-le-length}
use Rattle.std.specs.Cmp.Derive.{both_true}
use Rattle.std.specs.HashMap.{HashMap, get}
use Rattle.std.specs.List.{cons_option, filter_map, list_any}
use Rattle.nmvs_identifier.specs.ProductCode.{ProductCode}
use Rattle.nmvs_identifier.specs.Batch.{Batch}
use Rattle.nmvs_identifier.specs.Texts.{same_text}
use Rattle.nmvs_rules.specs.declared.entry.Entry.{Entry}
use Rattle.nmvs_rules.proofs.TextLemmas.{same_text-sym, same_text-equal, same_text-refl}
use Rattle.nmvs_tables.specs.declared.batches.BatchKey.{BatchKey}
use Rattle.nmvs_tables.specs.declared.listing.BatchIndex.{BatchIndex}
use Rattle.nmvs_tables.specs.Batches.{same_batch, batch_born, batches_of, with_batch}
use Rattle.nmvs_tables.specs.Listing.{of_code, code_batches, same_index, listed_in}
use Rattle.std.proofs.Math.Bool.{or-true}
use Rattle.nmvs_tables.proofs.BoolLemmas.{not-so}

-- the batches of a product code with one more
of_code-push : (c : ProductCode) (bs : List BatchKey) (b : BatchKey) → of_code c (bs ++ b ∷ []) ≡ of_code c bs ++ cond (same_text c b.code) (b.batch ∷ []) []
of_code-push c bs b =
    ap (map (λ x. x.batch)) (filter-append (λ x. same_text c x.code) bs (b ∷ []))
    ∙ map-append (λ x. x.batch) (filter (λ x. same_text c x.code) bs) (filter (λ x. same_text c x.code) (b ∷ []))
    ∙ by (same_text c b.code)
  where
    by : (h : Bool) → of_code c bs ++ map (λ x. x.batch) (cond h (b ∷ []) []) ≡ of_code c bs ++ cond h (b.batch ∷ []) []
    by true = refl
    by false = refl

not_zero : (n : ℕ) → (suc n == 0) ≡ false
not_zero n = grind (arith, nat_tests)

zero_not : (n : ℕ) → (0 == suc n) ≡ false
zero_not n = grind (arith, nat_tests)

suc_same : (m n : ℕ) → (suc m == suc n) ≡ (m == n)
suc_same m n = grind (arith, nat_tests)

slice_get-push : {X : Type 0} (xs : List X) (x : X) (i : ℕ) → slice_get (xs ++ x ∷ []) i ≡ cond (i == length xs) (Some x) (slice_get xs i)
slice_get-push [] x zero = refl
slice_get-push [] x (suc i) = ap (λ b. cond b (Some x) None) (sym (not_zero i))
slice_get-push (y ∷ ys) x zero = ap (λ b. cond b (Some x) (Some y)) (sym (zero_not (length ys)))
slice_get-push (y ∷ ys) x (suc i) = slice_get-push ys x i ∙ ap (λ b. cond b (Some x) (slice_get ys i)) (sym (suc_same i (length ys)))

-- the counts after one more batch
pub listed_in-push : {S : Type 0} (m n : HashMap ProductCode ℕ S) (bs : List BatchKey) (b : BatchKey) → ((c : ProductCode) → listed_in m c ≡ length (of_code c bs)) → ((c : ProductCode) → get same_text n c ≡ cond (same_text b.code c) (Some (listed_in m b.code + 1)) (get same_text m c)) → (c : ProductCode) → listed_in n c ≡ length (of_code c (bs ++ b ∷ []))
listed_in-push m n bs b counts updates c = ap (λ o. unwrap_or o 0) (updates c) ∙ by (same_text c b.code) refl ∙ sym (ap length (of_code-push c bs b))
  where
    by : (h : Bool) → same_text c b.code ≡ h → unwrap_or (cond (same_text b.code c) (Some (listed_in m b.code + 1)) (get same_text m c)) 0 ≡ length (of_code c bs ++ cond (same_text c b.code) (b.batch ∷ []) [])
    by true h =
        ap (λ g. unwrap_or (cond g (Some (listed_in m b.code + 1)) (get same_text m c)) 0) (same_text-sym c b.code h)
        ∙ ap (λ d. listed_in m d + 1) (sym (same_text-equal c b.code h))
        ∙ ap (λ l. l + 1) (counts c)
        ∙ sym (length-append (of_code c bs) (b.batch ∷ []))
        ∙ sym (ap (λ g. length (of_code c bs ++ cond g (b.batch ∷ []) [])) h)
    by false h =
        ap (λ g. unwrap_or (cond g (Some (listed_in m b.code + 1)) (get same_text m c)) 0) (not-so (same_text b.code c) (λ s. sym h ∙ same_text-sym b.code c s))
        ∙ counts c
        ∙ sym (ap length (append-nil (of_code c bs)))
        ∙ sym (ap (λ g. length (of_code c bs ++ cond g (b.batch ∷ []) [])) h)

-- the places after one more batch
pub placed-push : {S : Type 0} (m n : HashMap BatchIndex Batch S) (bs : List BatchKey) (b : BatchKey) (i : ℕ) → i ≡ length (of_code b.code bs) → ((p : BatchIndex) → get same_index m p ≡ slice_get (of_code p.code bs) p.index) → ((p : BatchIndex) → get same_index n p ≡ cond (same_text b.code p.code && (i == p.index)) (Some b.batch) (get same_index m p)) → (p : BatchIndex) → get same_index n p ≡ slice_get (of_code p.code (bs ++ b ∷ [])) p.index
placed-push m n bs b i last batches updates p = updates p ∙ by (same_text p.code b.code) refl ∙ sym (ap (λ l. slice_get l p.index) (of_code-push p.code bs b))
  where
    at : (h : Bool) → (i == p.index) ≡ h → (p.index == length (of_code p.code bs)) ≡ h → cond (i == p.index) (Some b.batch) (get same_index m p) ≡ slice_get (of_code p.code bs ++ b.batch ∷ []) p.index
    at h new old =
        ap (λ g. cond g (Some b.batch) (get same_index m p)) (new ∙ sym old)
        ∙ ap (λ o. cond (p.index == length (of_code p.code bs)) (Some b.batch) o) (batches p)
        ∙ sym (slice_get-push (of_code p.code bs) b.batch p.index)

    eq-sym : (m n : ℕ) → (m == n) ≡ (n == m)
    eq-sym m n = grind (arith, nat_tests)

    by : (h : Bool) → same_text p.code b.code ≡ h → cond (same_text b.code p.code && (i == p.index)) (Some b.batch) (get same_index m p) ≡ slice_get (of_code p.code bs ++ cond (same_text p.code b.code) (b.batch ∷ []) []) p.index
    by true h =
        ap (λ g. cond (g && (i == p.index)) (Some b.batch) (get same_index m p)) (same_text-sym p.code b.code h)
        ∙ at (i == p.index) refl (eq-sym p.index _ ∙ ap (λ k. k == p.index) (ap (λ c. length (of_code c bs)) (same_text-equal p.code b.code h) ∙ sym last))
        ∙ sym (ap (λ g. slice_get (of_code p.code bs ++ cond g (b.batch ∷ []) []) p.index) h)
    by false h =
        ap (λ g. cond (g && (i == p.index)) (Some b.batch) (get same_index m p)) (not-so (same_text b.code p.code) (λ s. sym h ∙ same_text-sym b.code p.code s))
        ∙ batches p
        ∙ sym (ap (λ l. slice_get l p.index) (append-nil (of_code p.code bs)))
        ∙ sym (ap (λ g. slice_get (of_code p.code bs ++ cond g (b.batch ∷ []) []) p.index) h)

-- a listed batch is among the batches
pub listed-any : (c : ProductCode) (bs : List BatchKey) (i : ℕ) (b : Batch) → slice_get (of_code c bs) i ≡ Some b → list_any (same_batch (record { code = c; batch = b })) bs ≡ true
listed-any c [] i b at = cc
listed-any c (x ∷ xs) i b at = by (same_text c x.code) refl i at (λ j h. listed-any c xs j b h)
  where
    is : BatchKey → Bool
    is = same_batch (record { code = c; batch = b })

    rest : List BatchKey
    rest = filter (λ y. same_text c y.code) xs

    by : (g : Bool) → same_text c x.code ≡ g → (i : ℕ) → slice_get (map (λ y. y.batch) (cond g (x ∷ rest) rest)) i ≡ Some b → ((j : ℕ) → slice_get (of_code c xs) j ≡ Some b → list_any is xs ≡ true) → (is x || list_any is xs) ≡ true
    by true g zero h later = let same : x.batch ≡ b = cc in ap (λ s. s || list_any is xs) (both_true g (ap (same_text b) same ∙ same_text-refl b))
    by true g (suc j) h later = ap (λ r. is x || r) (later j h) ∙ or-true (is x)
    by false g j h later = ap (λ r. is x || r) (later j h) ∙ or-true (is x)

with_batch-le : (bs : List BatchKey) (b : BatchKey) → length (with_batch bs b) ≤ length bs + 1
with_batch-le bs b =
    elim (list_any (same_batch b) bs) as (λ h. length (cond h bs (bs ++ b ∷ [])) ≤ length bs + 1) [
      | true ↦ omega arith
      | false ↦ omega (arith, length-append bs (b ∷ []))
    ]

fold-le : (bs xs : List BatchKey) → length (fold with_batch bs xs) ≤ length bs + length xs
fold-le bs [] = omega arith
fold-le bs (x ∷ xs) = omega (arith, fold-le (with_batch bs x) xs, with_batch-le bs x)

cons-le : {X : Type 0} (o : Option X) (xs : List X) (n : ℕ) → length xs ≤ n → length (cons_option o xs) ≤ n + 1
cons-le None xs n h = omega (arith, h)
cons-le (Some x) xs n h = omega (arith, h)

filter_map-le : {X Y : Type 0} (h : X → Option Y) (xs : List X) → length (filter_map h xs) ≤ length xs
filter_map-le h [] = omega arith
filter_map-le h (x ∷ xs) = omega (arith, cons-le (h x) (filter_map h xs) (length xs) (filter_map-le h xs))

-- a trail has no more batches than entries
pub code_batches-le : (t : List Entry) (c : ProductCode) → length (code_batches t c) ≤ length t
code_batches-le t c =
    let bs = batches_of t in
    let test : BatchKey → Bool = λ b. same_text c b.code in
    omega (arith, length-map (filter test bs) (λ (b : BatchKey). b.batch), length-filter test bs, count_by-le-length test bs, fold-le [] (filter_map batch_born t), filter_map-le batch_born t)

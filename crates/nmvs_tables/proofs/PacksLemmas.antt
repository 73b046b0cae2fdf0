-- The row of a pack after one more entry.
use Rattle.std.proofs.Common.{◌≡◌, ℕ, ◌+◌, ◌-◌, ◌≤◌, Bool, true, false, not, ◌&&◌, cond, List, [], ◌∷◌, ◌++◌, length, refl, ◌∙◌, arith, add-zero, length-append}
use Rattle.std.specs.List.{suffix_len}
use Rattle.nmvs_identifier.specs.declared.pack.Pack.{Pack}
use Rattle.nmvs_rules.specs.declared.entry.Entry.{Entry}
use Rattle.nmvs_rules.specs.Trail.{known, is_about, is_accepted, about_of, marked_by}
use Rattle.nmvs_rules.proofs.PushLemmas.{known-push, about_of-push, suffix_len-push}
use Rattle.nmvs_tables.specs.declared.packs.PackRow.{PackRow}
use Rattle.nmvs_tables.specs.Packs.{last_of, pack_row, row_after, pack_after}

last_arith : (b : Bool) (n s s' m : ℕ) → m ≡ n + 1 → s' ≡ cond (not b) (1 + s) 0 → m - s' ≡ cond b (n + 1) (n - s)
last_arith true n s s' m e f = omega arith
last_arith false n s s' m e f = omega arith

-- the last entry about a pack, after one more
pub last_of-push : (t : List Entry) (e : Entry) (p : Pack) → last_of (t ++ e ∷ []) p ≡ cond (is_about p e) (length t + 1) (last_of t p)
last_of-push t e p =
    last_arith (is_about p e) (length t) (suffix_len (λ x. not (is_about p x)) t) _ _ (length-append t (e ∷ [])) (suffix_len-push (λ x. not (is_about p x)) t e)

-- it stands in the trail
pub last_of-le : (t : List Entry) (p : Pack) → last_of t p ≤ length t
last_of-le t p = omega arith

-- the row of a pack after one more entry
pub pack_row-push : (t : List Entry) (e : Entry) (p : Pack) → pack_row (t ++ e ∷ []) p ≡ pack_after p (length t) e (pack_row t p)
pack_row-push t e p =
    (λ i. record { about = about_of-push t e p i; known = known-push t e p i; last = last_of-push t e p i })
    ∙ by (is_about p e)
  where
    row_more : Bool → PackRow
    row_more b = record {
      about = about_of t p + cond b 1 0;
      known = cond (b && is_accepted e) (marked_by (length t) e (known t p)) (known t p);
      last = cond b (length t + 1) (last_of t p);
    }

    by : (b : Bool) → row_more b ≡ cond b (row_after (length t) e (pack_row t p)) (pack_row t p)
    by true = refl
    by false = λ i. record { about = add-zero (about_of t p) i; known = known t p; last = last_of t p }

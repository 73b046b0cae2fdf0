-- The entries of a table after a write.
use Rattle.std.proofs.Common.{◌≡◌, true≢false, ℕ, ◌<◌, Bool, true, false, cond, List, [], ◌∷◌, length, Some, None, position, slice_get, refl, sym, ap, ◌∙◌}
use Rattle.std.specs.Cmp.{IsEquivalence}
use Rattle.std.specs.List.{IsDistinct}
use Rattle.std.specs.Map.{lookup, keys_of}
use Rattle.indexmap.specs.IndexMap.{insert_entry, set_value_at}
use Rattle.indexmap.proofs.MapLemmas.{Found-position, index-first, insert_entry-first}
use Rattle.indexmap.proofs.RemoveLemmas.{own_first}

twice : {X : Type 0} (b : Bool) (x y z : X) → cond b x z ≡ cond b x (cond b y z)
twice true x y z = refl
twice false x y z = refl

apart : {X : Type 0} (a b : Bool) (x y z : X) → (a ≡ true → b ≡ false) → cond a x (cond b y z) ≡ cond b y (cond a x z)
apart true true x y z h = absurd (true≢false (h refl))
apart true false x y z h = refl
apart false b x y z h = refl

module _ {K X : Type 0} {eq : K → K → Bool} (laws : IsEquivalence eq) (k : K) (v : X) (q : K) where
  here : (es : List (K × X)) (e : K × X) → eq k e.0 ≡ true → cond (eq q e.0) (Some v) (lookup (eq q) es) ≡ cond (eq k q) (Some v) (cond (eq q e.0) (Some e.1) (lookup (eq q) es))
  here es e same =
      let alike : eq q e.0 ≡ eq k q = sym (laws.congr k e.0 q same ∙ laws.symm e.0 q) in
      ap (λ b. cond b (Some v) (lookup (eq q) es)) alike
      ∙ twice (eq k q) (Some v) (Some e.1) (lookup (eq q) es)
      ∙ ap (λ b. cond (eq k q) (Some v) (cond b (Some e.1) (lookup (eq q) es))) (sym alike)

  -- a key that is written has the value, and each other key keeps its own
  pub lookup-insert_entry : (es : List (K × X)) → lookup (eq q) (insert_entry eq es k v) ≡ cond (eq k q) (Some v) (lookup (eq q) es)
  lookup-insert_entry [] = ap (λ b. cond b (Some v) None) (laws.symm q k)
  lookup-insert_entry (e ∷ es) =
      elim (eq k e.0) as (λ b. eq k e.0 ≡ b → lookup (eq q) (cond b ((e.0, v) ∷ es) (e ∷ insert_entry eq es k v)) ≡ cond (eq k q) (Some v) (cond (eq q e.0) (Some e.1) (lookup (eq q) es))) [
        | true ↦ λ same. here es e same
        | false ↦ λ other.
            ap (λ o. cond (eq q e.0) (Some e.1) o) (lookup-insert_entry es)
            ∙ apart (eq q e.0) (eq k q) (Some e.1) (Some v) (lookup (eq q) es)
            (λ same. laws.symm k q ∙ laws.congr q e.0 k same ∙ laws.symm e.0 k ∙ other)
      ] refl

-- a write at the index of a key
pub set_value_at-found : {K X : Type 0} (eq : K → K → Bool) (k : K) (v : X) (es : List (K × X)) (i : ℕ) → Some i ≡ position (eq k) (keys_of es) → set_value_at es i v ≡ insert_entry eq es k v
set_value_at-found eq k v es i found = sym (insert_entry-first eq k v es i (Found-position (eq k) es i (sym found)).first)

-- a key that equals the one at an index has that index, and its value
module _ {K X : Type 0} {eq : K → K → Bool} (laws : IsEquivalence eq) (k q : K) (same : eq k q ≡ true) (es : List (K × X)) where
  alike : eq k ≡ eq q
  alike = λ j x. laws.congr k q x same j

  pub near-index : (i : ℕ) (v : X) → IsDistinct eq (keys_of es) → slice_get es i ≡ Some (k, v) → Some i ≡ position (eq q) (keys_of es)
  near-index i v distinct at = sym (index-first (eq k) es i (own_first eq laws es i k v distinct at)) ∙ ap (λ (t : K → Bool). position t (keys_of es)) alike

  pub near-value : lookup (eq k) es ≡ lookup (eq q) es
  near-value = ap (λ (t : K → Bool). lookup t es) alike

pub index-within : {K X : Type 0} (eq : K → K → Bool) (k : K) (es : List (K × X)) (i : ℕ) → Some i ≡ position (eq k) (keys_of es) → i < length es
index-within eq k es i found = (Found-position (eq k) es i (sym found)).within

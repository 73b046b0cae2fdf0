-- The bytes of a name are text.
use Rattle.std.proofs.Common.{◌≡◌, ◌<◌, ℕ, Bool, true, false, refl, List, [], ◌∷◌, arith}
use Rattle.std.specs.List.{list_all, AllByRecursion}
use Rattle.std.specs.Str.{IsUtf8}
use Rattle.std.proofs.lemmas.Bool.{and_parts}
use Rattle.std.proofs.lemmas.Bool.Decides.{nat_tests}
use Rattle.std.proofs.lemmas.List.Elements.{All-from_recursion}
use Rattle.std.proofs.lemmas.Str.{IsUtf8-from_ascii}
use Rattle.std.proofs.lemmas.Str.Ascii.{IsAscii-from_all}
use Rattle.nmvs_identifier.specs.Name.{is_name}
use Rattle.nmvs_identifier.proofs.PlainTexts.{is_plain, plain_name}

plain_small : (b : ℕ) → is_plain b ≡ true → b < 128
plain_small b e = grind (arith, nat_tests)

all_small : (x : List ℕ) → list_all is_plain x ≡ true → AllByRecursion (λ b. b < 128) x
all_small [] e = tt
all_small (b ∷ bs) e =
    let parts = and_parts (is_plain b) (list_all is_plain bs) e in
    (plain_small b parts.0, all_small bs parts.1)

-- a name is UTF-8
pub name-utf8 : (x : List ℕ) → is_name x ≡ true → IsUtf8 x
name-utf8 x e = IsUtf8-from_ascii x (IsAscii-from_all x (All-from_recursion _ x (all_small x ((plain_name x e).2))))

-- bytes that are not UTF-8 are no name
pub no_name : (x : List ℕ) → (IsUtf8 x → ⊥) → is_name x ≡ false
no_name x not_text = not_true (is_name x) (λ e. not_text (name-utf8 x e))
  where
    not_true : (b : Bool) → (b ≡ true → ⊥) → b ≡ false
    not_true true h = absurd (h refl)
    not_true false h = refl

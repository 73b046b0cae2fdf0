-- A serial number stays one on another keyboard.
use Rattle.std.proofs.Common.{◌≡◌, ◌≤◌, ◌<◌, ◌&&◌, ℕ, suc, Bool, true, List, Result, Ok, Err, [], ◌∷◌, length, map, ◌++◌, append-nil, refl, sym, subst, ap, eqb-true, inl, inr, ◌∙◌, arith}
use Rattle.std.specs.List.{list_all, list_any, AllByRecursion}
use Rattle.std.specs.Prelude.{IsOk, MatchResult, nat_eq, nat_le}
use Rattle.std.specs.Str.{IsUtf8}
use Rattle.std.proofs.lemmas.Bool.{and_parts, or_cases}
use Rattle.std.proofs.lemmas.Bool.Decides.{nat_tests}
use Rattle.std.proofs.lemmas.List.Elements.{All-from_recursion}
use Rattle.std.proofs.lemmas.Str.{IsUtf8-from_ascii}
use Rattle.std.proofs.lemmas.Str.Ascii.{IsAscii-from_all}
use Rattle.nmvs_identifier.specs.Characters.{character_set_82, is_in_set_82}
use Rattle.nmvs_identifier.specs.Serial.{is_serial}
use Rattle.nmvs_identifier.proofs.PlainTexts.{is_plain, plain_serial}
use Rattle.nmvs_cases.specs.declared.keyboard.Keyboard.{Keyboard}
use Rattle.nmvs_cases.specs.declared.keyboard.Keyboard.TheVariants.{CapsLock, ExchangesYAndZ}
use Rattle.nmvs_cases.specs.Hints.{typed_byte}

-- what holds of each of some numbers holds of one of them
any-all : (test : ℕ → Bool) (b : ℕ) (cs : List ℕ) → list_any (nat_eq b) cs ≡ true → list_all test cs ≡ true → test b ≡ true
any-all test b [] among each = absurd cc
any-all test b (c ∷ cs) among each =
    let parts = and_parts (test c) (list_all test cs) each in
    elim (or_cases (nat_eq b c) (list_any (nat_eq b) cs) among) [
      | inl same ↦ ap test (eqb-true b c same) ∙ parts.0
      | inr later ↦ any-all test b cs later parts.1
    ]

set-stays : (k : Keyboard) → list_all (λ b. is_in_set_82 (typed_byte k b)) character_set_82 ≡ true
set-stays CapsLock = refl
set-stays ExchangesYAndZ = refl

byte-stays : (k : Keyboard) (b : ℕ) → is_in_set_82 b ≡ true → is_in_set_82 (typed_byte k b) ≡ true
byte-stays k b among = any-all (λ c. is_in_set_82 (typed_byte k c)) b character_set_82 among (set-stays k)

bytes-stay : (k : Keyboard) (bs : List ℕ) → list_all is_in_set_82 bs ≡ true → list_all is_in_set_82 (map (typed_byte k) bs) ≡ true
bytes-stay k [] each = refl
bytes-stay k (b ∷ bs) each =
    let parts = and_parts (is_in_set_82 b) (list_all is_in_set_82 bs) each in
    ap (λ x. x && list_all is_in_set_82 (map (typed_byte k) bs)) (byte-stays k b parts.0) ∙ bytes-stay k bs parts.1

length-stays : (k : Keyboard) (bs : List ℕ) → length (map (typed_byte k) bs) ≡ length bs
length-stays k [] = refl
length-stays k (b ∷ bs) = ap suc (length-stays k bs)

pub serial-stays : (k : Keyboard) (bs : List ℕ) → is_serial bs ≡ true → is_serial (map (typed_byte k) bs) ≡ true
serial-stays k bs is =
    let outer = and_parts (nat_le 1 (length bs) && nat_le (length bs) 20) (list_all is_in_set_82 bs) is in
    ap (λ n. (nat_le 1 n && nat_le n 20) && list_all is_in_set_82 (map (typed_byte k) bs)) (length-stays k bs)
    ∙ ap (λ x. x && list_all is_in_set_82 (map (typed_byte k) bs)) outer.0 ∙ bytes-stay k bs outer.1

-- a serial number is short, and text
pub serial-short : (bs : List ℕ) → is_serial bs ≡ true → length bs ≤ 20
serial-short bs is = (plain_serial bs is).1

plain-small : (b : ℕ) → is_plain b ≡ true → b < 128
plain-small b e = grind (arith, nat_tests)

pub all-small : (x : List ℕ) → list_all is_plain x ≡ true → AllByRecursion (λ b. b < 128) x
all-small [] e = tt
all-small (b ∷ bs) e = let parts = and_parts (is_plain b) (list_all is_plain bs) e in (plain-small b parts.0, all-small bs parts.1)

pub serial-text : (bs : List ℕ) → is_serial bs ≡ true → IsUtf8 bs
serial-text bs is = IsUtf8-from_ascii bs (IsAscii-from_all bs (All-from_recursion _ bs (all-small bs (plain_serial bs is).2)))

-- a text that is UTF-8 is read
pub utf8-ok : {S E : Type 0} (A : S → Type 0) (B : E → Type 0) (U : Type 0) (r : Result S E) → MatchResult r A (λ e. (U → ⊥) × B e) → U → IsOk r
utf8-ok A B U (Ok s) cases u = refl
utf8-ok A B U (Err e) cases u = absurd (cases.0 u)

pub ok-case : {S E : Type 0} (A : S → Type 0) (B : E → Type 0) (r : Result S E) (s : S) → r ≡ Ok s → MatchResult r A B → A s
ok-case {S = S} {E = E} A B r s is cases = subst (λ (x : Result S E). MatchResult x A B) is cases

-- all bytes are typed where none is left
pub all-typed : (k : Keyboard) (done rest all : List ℕ) → length rest < 1 → done ++ map (typed_byte k) rest ≡ map (typed_byte k) all → done ≡ map (typed_byte k) all
all-typed k done [] all few is = sym (append-nil done) ∙ is
all-typed k done (b ∷ rest) all few is = absurd (omega (arith, few))

-- A certificate's name is found at its place.
use Rattle.std.proofs.Common.{◌≡◌, ◌-◌, ℕ, false, List, length, take, drop, Option, Some, None, IfNone, sym, ap, ◌∙◌, subst, arith}
use Rattle.std.proofs.lemmas.Bool.{false≢true}
use Rattle.std.proofs.lemmas.List.{take_all, drop_at}
use Rattle.nmvs_identifier.specs.Name.{is_name}
use Rattle.nmvs_gateway.specs.Header.{IsOnlyValue, NamesVerified, HasName}
use Rattle.nmvs_gateway.proofs.TypedValues.{only_once}

-- the bytes after the client's bits and the four bytes of a verified certificate
abbrev pub parts_of : List ℕ → List ℕ
parts_of tls = take (length tls - 5) (drop 5 tls)

parts_are : (tls name : List ℕ) (is : NamesVerified tls name) → parts_of tls ≡ is.parts
parts_are tls name is = ap parts_of is.these ∙ take_all _ is.parts (omega arith)

-- without a common name it names nobody
pub no_common_name : (tls : List ℕ) → ((value : List ℕ) → IsOnlyValue (parts_of tls) 34 value → ⊥) → (name : List ℕ) → NamesVerified tls name → ⊥
no_common_name tls none name is = none name (subst (λ (y : List ℕ). IsOnlyValue y 34 name) (sym (parts_are tls name is)) is.common_name)

-- with a common name that is no name it names nobody either
pub no_name_there : (tls value : List ℕ) → IsOnlyValue (parts_of tls) 34 value → is_name value ≡ false → (name : List ℕ) → NamesVerified tls name → ⊥
no_name_there tls value found no_name name is =
    let same = only_once (parts_of tls) 34 value name found (subst (λ (y : List ℕ). IsOnlyValue y 34 name) (sym (parts_are tls name is)) is.common_name) in
    false≢true (sym no_name ∙ ap is_name same ∙ is.grammar)

values_are : (addresses : ℕ) (content name : List ℕ) (is : HasName addresses content name) → drop addresses content ≡ is.values
values_are addresses content name is = ap (drop addresses) is.these ∙ drop_at is.front is.values addresses is.addressed

-- a content without a value about TLS names nobody
pub no_tls : (addresses : ℕ) (content values : List ℕ) → values ≡ drop addresses content → ((value : List ℕ) → IsOnlyValue values 32 value → ⊥) → (name : List ℕ) → HasName addresses content name → ⊥
no_tls addresses content values these none name is =
    none is.tls (subst (λ (y : List ℕ). IsOnlyValue y 32 is.tls) (sym (these ∙ values_are addresses content name is)) is.encrypted)

-- a content whose value about TLS names nobody names nobody either
pub nobody_there : (addresses : ℕ) (content values tls : List ℕ) → values ≡ drop addresses content → IsOnlyValue values 32 tls → ((name : List ℕ) → NamesVerified tls name → ⊥)
    → (name : List ℕ) → HasName addresses content name → ⊥
nobody_there addresses content values tls these found none name is =
    let same = only_once values 32 tls is.tls found (subst (λ (y : List ℕ). IsOnlyValue y 32 is.tls) (sym (these ∙ values_are addresses content name is)) is.encrypted) in
    none name (subst (λ (y : List ℕ). NamesVerified y name) (sym same) is.verified)

-- a consequence, if there is none
pub none_then : {A P Q : Type 0} → (o : Option A) → (P → Q) → IfNone o P → IfNone o Q
none_then None f h = f h
none_then (Some x) f h = tt

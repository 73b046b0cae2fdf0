-- The readings of values.
use Rattle.std.proofs.Common.{◌≡◌, ℕ, Bool, true, false, not, cond, List, [], ◌∷◌, Option, Some, None, is_none, Ok, Err, refl, sym, ap, ◌∙◌, subst}
use Rattle.std.specs.List.{find}
use Rattle.std.specs.Borrow.{Bor}
use Rattle.nmvs_identifier.specs.Texts.{Text}
use Rattle.nmvs_elements.specs.declared.identifiers.National.{National}
use Rattle.nmvs_elements.specs.declared.identifiers.ApplicationIdentifier.{ApplicationIdentifier}
use Rattle.nmvs_elements.specs.declared.identifiers.ApplicationIdentifier.TheVariants as identifiers
use Rattle.nmvs_elements.specs.declared.elements.Elements.{Elements}
use Rattle.nmvs_elements.specs.declared.fault.ScanFault.TheVariants as faults
use Rattle.nmvs_elements.specs.Elements.{is_value, required, national_numbers}
use Rattle.nmvs_elements.specs.Found.{now_of}
use Rattle.nmvs_elements.specs.Scan.{is_missing, is_wrong, has_wrong, HasNational, ArePack, ReadsBy, ReadsValues}

-- whether a value lacks does not depend on where it lies
pub now_none : (o : Option (Bor (List ℕ))) → is_none (now_of o) ≡ is_none o
now_none None = refl
now_none (Some v) = refl

-- the first that passes a test
pub hit : {A : Type 0} (test : A → Bool) (x : A) (xs : List A) → test x ≡ true → find test (x ∷ xs) ≡ Some x
hit test x xs e = ap (λ t. cond t (Some x) (find test xs)) e

pub skip : {A : Type 0} (test : A → Bool) (x : A) (xs : List A) → test x ≡ false → find test (x ∷ xs) ≡ find test xs
skip test x xs e = ap (λ t. cond t (Some x) (find test xs)) e

chosen : {A : Type 0} (t : Bool) (x : A) (o : Option A) → cond t (Some x) o ≡ None → (t ≡ false) × (o ≡ None)
chosen true x o e = absurd cc
chosen false x o e = (refl, e)

pub skipped : {A : Type 0} (test : A → Bool) (x : A) (xs : List A) → find test (x ∷ xs) ≡ None → (test x ≡ false) × (find test xs ≡ None)
skipped test x xs e = chosen (test x) x (find test xs) e

-- if the first four pass no test
pub past_four : (test : ApplicationIdentifier → Bool) (nation : Option National) → test identifiers.Code ≡ false → test identifiers.Serial ≡ false → test identifiers.Batch ≡ false → test identifiers.Expiry ≡ false
    → find test (required nation) ≡ find test (national_numbers nation)
past_four test nation code serial batch expiry =
    skip test identifiers.Code (identifiers.Serial ∷ identifiers.Batch ∷ identifiers.Expiry ∷ national_numbers nation) code ∙ skip test identifiers.Serial (identifiers.Batch ∷ identifiers.Expiry ∷ national_numbers nation) serial ∙ skip test identifiers.Batch (identifiers.Expiry ∷ national_numbers nation) batch ∙ skip test identifiers.Expiry (national_numbers nation) expiry

-- if nothing is missing, each value is there
pub record AreThere (nation : Option National) (values : ApplicationIdentifier → Option (List ℕ)) : Type 0 where
  pub code : is_missing values identifiers.Code ≡ false
  pub serial : is_missing values identifiers.Serial ≡ false
  pub batch : is_missing values identifiers.Batch ≡ false
  pub expiry : is_missing values identifiers.Expiry ≡ false
  pub national : find (is_missing values) (national_numbers nation) ≡ None

pub are_there : (nation : Option National) (values : ApplicationIdentifier → Option (List ℕ)) → find (is_missing values) (required nation) ≡ None → AreThere nation values
are_there nation values e =
    let code = skipped (is_missing values) identifiers.Code (identifiers.Serial ∷ identifiers.Batch ∷ identifiers.Expiry ∷ national_numbers nation) e in
    let serial = skipped (is_missing values) identifiers.Serial (identifiers.Batch ∷ identifiers.Expiry ∷ national_numbers nation) code.1 in
    let batch = skipped (is_missing values) identifiers.Batch (identifiers.Expiry ∷ national_numbers nation) serial.1 in
    let expiry = skipped (is_missing values) identifiers.Expiry (national_numbers nation) batch.1 in
    record { code = code.0; serial = serial.0; batch = batch.0; expiry = expiry.0; national = expiry.1 }

-- a value that is there and in no way in its grammar is wrong
pub wrong_there : (identifier : ApplicationIdentifier) (o : Option (List ℕ)) → is_none o ≡ false → ((v : List ℕ) → o ≡ Some v → is_value identifier v ≡ false) → is_wrong identifier o ≡ true
wrong_there identifier None there none = absurd cc
wrong_there identifier (Some v) there none = ap not (none v refl)

pub right_there : (identifier : ApplicationIdentifier) (o : Option (List ℕ)) (v : List ℕ) → o ≡ Some v → is_value identifier v ≡ true → is_wrong identifier o ≡ false
right_there identifier o v e right = ap (is_wrong identifier) e ∙ ap not right

pub some_there : (o : Option (List ℕ)) (v : List ℕ) → o ≡ Some v → is_none o ≡ false
some_there o v e = ap is_none e

-- a pack's values are there, and none is wrong
pub none_missing : (nation : Option National) (values : ApplicationIdentifier → Option (List ℕ)) (pack : Elements) → ArePack nation values pack → find (is_missing values) (required nation) ≡ None
none_missing nation values pack is =
    past_four (is_missing values) nation (some_there _ _ is.code) (some_there _ _ is.serial) (some_there _ _ is.batch) (some_there _ _ is.expiry)
    ∙ national nation pack.national is.national
  where
    national : (nation : Option National) (number : Option Text) → HasNational nation values number → find (is_missing values) (national_numbers nation) ≡ None
    national None number has = refl
    national (Some n) None has = absurd has
    national (Some n) (Some number) has = skip (is_missing values) (identifiers.NationalNumber n) [] (some_there _ _ has.0)

pub none_wrong : (nation : Option National) (values : ApplicationIdentifier → Option (List ℕ)) (pack : Elements) → ArePack nation values pack → find (has_wrong values) (required nation) ≡ None
none_wrong nation values pack is =
    past_four (has_wrong values) nation
    (right_there identifiers.Code _ _ is.code is.is_code) (right_there identifiers.Serial _ _ is.serial is.is_serial)
    (right_there identifiers.Batch _ _ is.batch is.is_batch) (right_there identifiers.Expiry _ _ is.expiry is.is_expiry)
    ∙ national nation pack.national is.national
  where
    national : (nation : Option National) (number : Option Text) → HasNational nation values number → find (has_wrong values) (national_numbers nation) ≡ None
    national None number has = refl
    national (Some n) None has = absurd has
    national (Some n) (Some number) has = skip (has_wrong values) (identifiers.NationalNumber n) [] (right_there (identifiers.NationalNumber n) _ _ has.0 has.1)

-- the reading if a value is missing, if one is wrong, and if all are a pack's
pub reads_missing : (nation : Option National) (values : ApplicationIdentifier → Option (List ℕ)) (identifier : ApplicationIdentifier) → find (is_missing values) (required nation) ≡ Some identifier
    → ReadsValues nation values (Err (faults.Missing identifier))
reads_missing nation values identifier e =
    subst (λ (o : Option ApplicationIdentifier). ReadsBy o (find (has_wrong values) (required nation)) nation values (Err (faults.Missing identifier))) (sym e) refl

pub reads_wrong : (nation : Option National) (values : ApplicationIdentifier → Option (List ℕ)) (identifier : ApplicationIdentifier) → find (is_missing values) (required nation) ≡ None
    → find (has_wrong values) (required nation) ≡ Some identifier → ReadsValues nation values (Err (faults.Value identifier))
reads_wrong nation values identifier none e =
    subst (λ (o : Option ApplicationIdentifier). ReadsBy o (find (has_wrong values) (required nation)) nation values (Err (faults.Value identifier))) (sym none)
    (subst (λ (o : Option ApplicationIdentifier). ReadsBy None o nation values (Err (faults.Value identifier))) (sym e) refl)

pub reads_pack : (nation : Option National) (values : ApplicationIdentifier → Option (List ℕ)) (pack : Elements) → ArePack nation values pack → ReadsValues nation values (Ok pack)
reads_pack nation values pack is =
    subst (λ (o : Option ApplicationIdentifier). ReadsBy o (find (has_wrong values) (required nation)) nation values (Ok pack)) (sym (none_missing nation values pack is))
    (subst (λ (o : Option ApplicationIdentifier). ReadsBy None o nation values (Ok pack)) (sym (none_wrong nation values pack is)) (pack, refl, is))

-- the first that is wrong is the expiry date
pub wrong_expiry : (nation : Option National) (values : ApplicationIdentifier → Option (List ℕ)) (code serial batch : List ℕ) → find (is_missing values) (required nation) ≡ None
    → values identifiers.Code ≡ Some code → is_value identifiers.Code code ≡ true → values identifiers.Serial ≡ Some serial → is_value identifiers.Serial serial ≡ true
    → values identifiers.Batch ≡ Some batch → is_value identifiers.Batch batch ≡ true → ((v : List ℕ) → values identifiers.Expiry ≡ Some v → is_value identifiers.Expiry v ≡ false)
    → find (has_wrong values) (required nation) ≡ Some identifiers.Expiry
wrong_expiry nation values code serial batch there c cv s sv b bv none =
    skip (has_wrong values) identifiers.Code (identifiers.Serial ∷ identifiers.Batch ∷ identifiers.Expiry ∷ national_numbers nation) (right_there identifiers.Code (values identifiers.Code) code c cv)
    ∙ skip (has_wrong values) identifiers.Serial (identifiers.Batch ∷ identifiers.Expiry ∷ national_numbers nation) (right_there identifiers.Serial (values identifiers.Serial) serial s sv)
    ∙ skip (has_wrong values) identifiers.Batch (identifiers.Expiry ∷ national_numbers nation) (right_there identifiers.Batch (values identifiers.Batch) batch b bv)
    ∙ hit (has_wrong values) identifiers.Expiry (national_numbers nation) (wrong_there identifiers.Expiry (values identifiers.Expiry) (are_there nation values there).expiry none)

-- or the national number
pub wrong_national : (nation : Option National) (n : National) (values : ApplicationIdentifier → Option (List ℕ)) (code serial batch expiry : List ℕ) → nation ≡ Some n
    → find (is_missing values) (required nation) ≡ None
    → values identifiers.Code ≡ Some code → is_value identifiers.Code code ≡ true → values identifiers.Serial ≡ Some serial → is_value identifiers.Serial serial ≡ true
    → values identifiers.Batch ≡ Some batch → is_value identifiers.Batch batch ≡ true → values identifiers.Expiry ≡ Some expiry → is_value identifiers.Expiry expiry ≡ true
    → ((v : List ℕ) → values (identifiers.NationalNumber n) ≡ Some v → is_value (identifiers.NationalNumber n) v ≡ false)
    → find (has_wrong values) (required nation) ≡ Some (identifiers.NationalNumber n)
wrong_national nation n values code serial batch expiry is there c cv s sv b bv e ev none =
    let found : find (is_missing values) (national_numbers (Some n)) ≡ None = ap (λ (o : Option National). find (is_missing values) (national_numbers o)) (sym is) ∙ (are_there nation values there).national in
    let here = (skipped (is_missing values) (identifiers.NationalNumber n) [] found).0 in
    past_four (has_wrong values) nation
    (right_there identifiers.Code (values identifiers.Code) code c cv) (right_there identifiers.Serial (values identifiers.Serial) serial s sv)
    (right_there identifiers.Batch (values identifiers.Batch) batch b bv) (right_there identifiers.Expiry (values identifiers.Expiry) expiry e ev)
    ∙ ap (λ (o : Option National). find (has_wrong values) (national_numbers o)) is
    ∙ hit (has_wrong values) (identifiers.NationalNumber n) [] (wrong_there (identifiers.NationalNumber n) (values (identifiers.NationalNumber n)) here none)

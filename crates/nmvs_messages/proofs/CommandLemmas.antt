-- The line of a command is read as it, and is the line of no other command.
use Rattle.std.proofs.Common.{◌≡◌, ◌&&◌, ◌<◌, ◌≤◌, not, ℕ, true, cond, List, [], ◌∷◌, ◌++◌, length, get_or, take, drop, Option, Some, None, Result, Ok, Err, refl, sym, ap, ◌∙◌, lit≤, codes, arith}
use Rattle.std.specs.Prelude.{IfOk, IsTrue}
use Rattle.std.specs.Option.{is_some}
use Rattle.std.specs.Str.{bytes_eq}
use Rattle.std.specs.Result.{result_err}
use Rattle.std.proofs.lemmas.Bool.{and_parts}
use Rattle.nmvs_identifier.specs.Codes.{Codes, is_codes}
use Rattle.nmvs_identifier.specs.Expiry.{Expiry, is_expiry}
use Rattle.nmvs_identifier.specs.Name.{Name, is_name}
use Rattle.nmvs_rules.specs.declared.actor.Actor.{Actor}
use Rattle.nmvs_rules.specs.declared.enrolment.Enrolment.{Enrolment}
use Rattle.nmvs_rules.specs.declared.role.Role.{Role}
use Rattle.nmvs_rules.specs.declared.role.Role.TheVariants as role
use Rattle.nmvs_rules.specs.Entries.{is_actor}
use Rattle.nmvs_rules.specs.Enrolments.{is_if_there, is_enrolment}
use Rattle.nmvs_words.specs.Words.{role_word}
use Rattle.nmvs_words.proofs.WordLemmas.{role_named-of_word, role_word-one}
use Rattle.nmvs_words.proofs.PlainWords.{role_plain}
use Rattle.nmvs_messages.specs.declared.command.Command.{Command}
use Rattle.nmvs_messages.specs.declared.command.Command.TheVariants.{Enrol, Suspend, Remove}
use Rattle.nmvs_messages.specs.declared.command.CommandFault.{CommandFault}
use Rattle.nmvs_messages.specs.declared.command.CommandFault.TheVariants as fault
use Rattle.nmvs_messages.specs.Fields.{fields_in, line_of_fields}
use Rattle.nmvs_messages.specs.Commands.{actor_fields, terms_fields, command_fields, command_line, enrol_fault, terms_fault, codes_fault, user_fault, fields_fault, first_command_fault, is_role, is_command, ReadsCommand, EachCommandIsRead, OneCommandSpelling}
use Rattle.nmvs_identifier.proofs.PlainTexts.{IsPlain, plain_name, plain_expiry, plain_codes}
use Rattle.nmvs_messages.proofs.PlainLemmas.{IsWord, IsPlainLine, word_line, plain_line, length-room, line_fault-plain}
use Rattle.nmvs_messages.proofs.FieldLemmas.{line_of_kept}

-- the texts of an enrolment that is one are in their grammars
record IsEnrolment (user : Name) (a : Actor) (until : Option Expiry) (products : Option Codes) : Type 0 where
  name : is_name user.bytes ≡ true
  authorisation : is_name a.authorisation.bytes ≡ true
  premises : is_name a.premises.bytes ≡ true
  day : is_if_there is_expiry until ≡ true
  listed : is_if_there is_codes products ≡ true

enrolment : (user : Name) (e : Enrolment) → is_command (Enrol user e) ≡ true → IsEnrolment user e.actor e.until e.codes
enrolment user e is =
    let whole = and_parts (is_name user.bytes) (is_enrolment e) is in
    let products = and_parts (is_actor e.actor && is_if_there is_expiry e.until) (is_if_there is_codes e.codes) whole.1 in
    let until = and_parts (is_actor e.actor) (is_if_there is_expiry e.until) products.0 in
    let names = and_parts (is_name e.actor.authorisation.bytes) (is_name e.actor.premises.bytes) until.0 in
    record { name = whole.0; authorisation = names.0; premises = names.1; day = until.1; listed = products.1 }

-- the fields of an enrolment
abbrev enrol_fields : Name → Actor → Option Expiry → Option Codes → List (List ℕ)
enrol_fields user a until products = codes "ENROL" ∷ user.bytes ∷ actor_fields a ++ terms_fields until products

role_short : (r : Role) → length (role_word r) ≤ 12
role_short role.Holder = lit≤ tt
role_short role.Manufacturer = lit≤ tt
role_short role.Wholesaler = lit≤ tt
role_short role.Pharmacy = lit≤ tt
role_short role.Authority = lit≤ tt

plain_word : (t : List ℕ) → IsPlain t → IsWord t
plain_word t plain = (plain.0, plain.2)

-- the line of an enrolment is made of plain fields
plain_enrolment : (user : Name) (a : Actor) (until : Option Expiry) (products : Option Codes) → IsEnrolment user a until products
    → IsPlainLine (enrol_fields user a until products)
plain_enrolment user a None None is =
    plain_line (enrol_fields user a None None) (lit≤ tt) (lit≤ tt) (
      (lit≤ tt, lit≤ tt, refl),
      (plain_name user.bytes is.name, (role_plain a.role, (plain_name a.authorisation.bytes is.authorisation, (plain_name a.premises.bytes is.premises, tt)))),
    )
plain_enrolment user a (Some last) None is =
    plain_line (enrol_fields user a (Some last) None) (lit≤ tt) (lit≤ tt) (
      (lit≤ tt, lit≤ tt, refl),
      (
        plain_name user.bytes is.name,
        (
          role_plain a.role,
          (
            plain_name a.authorisation.bytes is.authorisation,
            (
              plain_name a.premises.bytes is.premises,
              ((lit≤ tt, lit≤ tt, refl), (plain_expiry last.bytes is.day, tt)),
            ),
          ),
        ),
      ),
    )
plain_enrolment user a None (Some products) is =
    let n = plain_name user.bytes is.name in
    let h = plain_name a.authorisation.bytes is.authorisation in
    let p = plain_name a.premises.bytes is.premises in
    let k = plain_codes products.bytes is.listed in
    let role = role_short a.role in
    let whole = length-room (codes "ENROL") (user.bytes ∷ actor_fields a ++ terms_fields None (Some products)) in
    let short : length (line_of_fields (enrol_fields user a None (Some products))) ≤ 147 = omega (arith, whole, n.1, role, h.1, p.1, k.1) in
    word_line (enrol_fields user a None (Some products)) (lit≤ tt) (lit≤ tt) short (
      (lit≤ tt, refl),
      (
        plain_word user.bytes n,
        (
          plain_word (role_word a.role) (role_plain a.role),
          (
            plain_word a.authorisation.bytes h,
            (
              plain_word a.premises.bytes p,
              ((lit≤ tt, refl), ((k.0, k.2), tt)),
            ),
          ),
        ),
      ),
    )
plain_enrolment user a (Some last) (Some products) is =
    let n = plain_name user.bytes is.name in
    let h = plain_name a.authorisation.bytes is.authorisation in
    let p = plain_name a.premises.bytes is.premises in
    let d = plain_expiry last.bytes is.day in
    let k = plain_codes products.bytes is.listed in
    let role = role_short a.role in
    let whole = length-room (codes "ENROL") (user.bytes ∷ actor_fields a ++ terms_fields (Some last) (Some products)) in
    let short : length (line_of_fields (enrol_fields user a (Some last) (Some products))) ≤ 189 = omega (arith, whole, n.1, role, h.1, p.1, d.1, k.1) in
    word_line (enrol_fields user a (Some last) (Some products)) (lit≤ tt) (lit≤ tt) short (
      (lit≤ tt, refl),
      (
        plain_word user.bytes n,
        (
          plain_word (role_word a.role) (role_plain a.role),
          (
            plain_word a.authorisation.bytes h,
            (
              plain_word a.premises.bytes p,
              ((lit≤ tt, refl), (plain_word last.bytes d, ((lit≤ tt, refl), ((k.0, k.2), tt)))),
            ),
          ),
        ),
      ),
    )

-- the line of a command is made of plain fields
plain_command : (c : Command) → is_command c ≡ true → IsPlainLine (command_fields c)
plain_command (Enrol user e) is = plain_enrolment user e.actor e.until e.codes (enrolment user e is)
plain_command (Suspend user) e = plain_line (command_fields (Suspend user)) (lit≤ tt) (lit≤ tt) ((lit≤ tt, lit≤ tt, refl), (plain_name user.bytes e, tt))
plain_command (Remove user) e = plain_line (command_fields (Remove user)) (lit≤ tt) (lit≤ tt) ((lit≤ tt, lit≤ tt, refl), (plain_name user.bytes e, tt))

abbrev name_of : List ℕ → Name
name_of x = record { bytes = x }

same_terms : (u v : Option Expiry) (j k : Option Codes) → terms_fields u j ≡ terms_fields v k → (u ≡ v) × (j ≡ k)
same_terms None None None None e = (refl, refl)
same_terms None None (Some j) (Some k) e = (refl, ap (λ fs. Some (name_of (get_or fs 1 []))) e)
same_terms (Some u) (Some v) None None e = (ap (λ fs. Some (name_of (get_or fs 1 []))) e, refl)
same_terms (Some u) (Some v) (Some j) (Some k) e = (ap (λ fs. Some (name_of (get_or fs 1 []))) e, ap (λ fs. Some (name_of (get_or fs 3 []))) e)
same_terms None None None (Some k) e = absurd (cc e)
same_terms None None (Some j) None e = absurd (cc e)
same_terms None (Some v) None None e = absurd (cc e)
same_terms (Some u) None None None e = absurd (cc e)
same_terms None (Some v) None (Some k) e = let shorter = ap (λ fs. drop 2 fs) e in absurd cc
same_terms (Some u) None (Some j) None e = let shorter = ap (λ fs. drop 2 fs) e in absurd cc
same_terms None (Some v) (Some j) None e = let first = ap (λ fs. get_or (get_or fs 0 []) 0 0) e in absurd (omega (arith, first))
same_terms (Some u) None None (Some k) e = let first = ap (λ fs. get_or (get_or fs 0 []) 0 0) e in absurd (omega (arith, first))
same_terms None (Some v) (Some j) (Some k) e = let shorter = ap (λ fs. drop 2 fs) e in absurd cc
same_terms (Some u) None (Some j) (Some k) e = let shorter = ap (λ fs. drop 2 fs) e in absurd cc
same_terms (Some u) (Some v) None (Some k) e = let shorter = ap (λ fs. drop 2 fs) e in absurd cc
same_terms (Some u) (Some v) (Some j) None e = let shorter = ap (λ fs. drop 2 fs) e in absurd cc

same_fields : (c d : Command) → command_fields c ≡ command_fields d → c ≡ d
same_fields (Enrol user d) (Enrol user' d') e =
    let a = d.actor in
    let b = d'.actor in
    let name : user ≡ user' = ap (λ fs. name_of (get_or fs 1 [])) e in
    let role = role_word-one a.role b.role (ap (λ fs. get_or fs 2 []) e) in
    let authorisation : a.authorisation ≡ b.authorisation = ap (λ fs. name_of (get_or fs 3 [])) e in
    let premises : a.premises ≡ b.premises = ap (λ fs. name_of (get_or fs 4 [])) e in
    let terms = same_terms d.until d'.until d.codes d'.codes (ap (λ fs. drop 5 fs) e) in
    λ i. Enrol (name i) (record { actor = record { role = role i; authorisation = authorisation i; premises = premises i }; until = terms.0 i; codes = terms.1 i })
same_fields (Suspend user) (Suspend user') e = ap (λ fs. Suspend (name_of (get_or fs 1 []))) e
same_fields (Remove user) (Remove user') e = ap (λ fs. Remove (name_of (get_or fs 1 []))) e
same_fields (Enrol user d) (Suspend user') e = let shorter = ap (λ fs. drop 2 fs) e in absurd cc
same_fields (Suspend user) (Enrol user' d') e = let shorter = ap (λ fs. drop 2 fs) e in absurd cc
same_fields (Enrol user d) (Remove user') e = let shorter = ap (λ fs. drop 2 fs) e in absurd cc
same_fields (Remove user) (Enrol user' d') e = let shorter = ap (λ fs. drop 2 fs) e in absurd cc
same_fields (Suspend user) (Remove user') e = let other = ap (λ fs. drop 6 (get_or fs 0 [])) e in absurd cc
same_fields (Remove user) (Suspend user') e = let other = ap (λ fs. drop 6 (get_or fs 0 [])) e in absurd cc

-- different commands have different lines
pub one_spelling : OneCommandSpelling
one_spelling c d is_c is_d e = same_fields c d (sym (plain_command c is_c).fields ∙ ap fields_in e ∙ (plain_command d is_d).fields)

-- the fields of a last day and products have no fault
terms_fault-fields : (until : Option Expiry) (products : Option Codes) → is_if_there is_expiry until ≡ true → is_if_there is_codes products ≡ true
    → terms_fault (terms_fields until products) ≡ None
terms_fault-fields None None day listed = refl
terms_fault-fields None (Some products) day listed = λ i. cond (listed i) None (Some fault.Codes)
terms_fault-fields (Some last) None day listed = λ i. cond (day i) None (Some fault.Until)
terms_fault-fields (Some last) (Some products) day listed = λ i. cond (day i) (cond (listed i) None (Some fault.Codes)) (Some fault.Until)

-- the line of a command has no fault
first_fault-line : (c : Command) → is_command c ≡ true → first_command_fault (command_line c) ≡ None
unfolding first_command_fault is_role
first_fault-line (Enrol user d) e =
    let named = ap is_some (role_named-of_word d.actor.role) in
    let texts = enrolment user d e in
    let terms = terms_fault-fields d.until d.codes texts.day texts.listed in
    line_fault-plain fault.Long fault.Bytes fault.Fields fields_fault (command_fields (Enrol user d)) (plain_command (Enrol user d) e)
    ∙ (λ i. cond (not (named i)) (Some fault.Role)
    (cond (not (texts.name i)) (Some fault.User) (cond (not (texts.authorisation i)) (Some fault.Authorisation) (cond (not (texts.premises i)) (Some fault.Premises) (terms i)))))
first_fault-line (Suspend user) e =
    line_fault-plain fault.Long fault.Bytes fault.Fields fields_fault (command_fields (Suspend user)) (plain_command (Suspend user) e)
    ∙ (λ i. cond (e i) None (Some fault.User))
first_fault-line (Remove user) e =
    line_fault-plain fault.Long fault.Bytes fault.Fields fields_fault (command_fields (Remove user)) (plain_command (Remove user) e)
    ∙ (λ i. cond (e i) None (Some fault.User))

-- the line of a command is read as that command
pub each_is_read : EachCommandIsRead
each_is_read c is_c = (refl, first_fault-line c is_c, is_c)

few_enrolment : (user : Name) (a : Actor) (until : Option Expiry) (products : Option Codes) → length (enrol_fields user a until products) < 10
few_enrolment user a None None = lit≤ tt
few_enrolment user a None (Some products) = lit≤ tt
few_enrolment user a (Some last) None = lit≤ tt
few_enrolment user a (Some last) (Some products) = lit≤ tt

pub few_fields : (c : Command) → length (command_fields c) < 10
few_fields (Enrol user d) = few_enrolment user d.actor d.until d.codes
few_fields (Suspend user) = lit≤ tt
few_fields (Remove user) = lit≤ tt

-- a line is read as a command, or with a fault, if its fields are
pub reads_fields : (x : List ℕ) (fs : List (List ℕ)) (r : Result Command CommandFault) → fs ≡ take 10 (fields_in x)
    → IfOk r (λ c. command_fields c ≡ fs) → IfOk r (λ c. IsTrue (is_command c)) → result_err r ≡ first_command_fault x → ReadsCommand x r
reads_fields x fs (Ok c) kept same valid none = (line_of_kept x (command_fields c) (sym (same ∙ kept)) (few_fields c), sym none, valid)
reads_fields x fs (Err f) kept same valid told = sym told

-- a last day has two texts
pub terms_fault-few : (texts : List (List ℕ)) → length texts < 2 → terms_fault texts ≡ codes_fault texts
terms_fault-few [] few = refl
terms_fault-few (a ∷ []) few = refl
terms_fault-few (a ∷ b ∷ texts) few = absurd (omega (arith, few))

-- an enrolment has at least four texts
pub enrol_fault-few : (texts : List (List ℕ)) → length texts < 4 → enrol_fault texts ≡ Some fault.Fields
enrol_fault-few [] few = refl
enrol_fault-few (a ∷ []) few = refl
enrol_fault-few (a ∷ b ∷ []) few = refl
enrol_fault-few (a ∷ b ∷ c ∷ []) few = refl
enrol_fault-few (a ∷ b ∷ c ∷ d ∷ texts) few = absurd (omega (arith, few))

enrol_fault-take : (texts : List (List ℕ)) → enrol_fault (take 9 texts) ≡ enrol_fault texts
enrol_fault-take [] = refl
enrol_fault-take (a ∷ []) = refl
enrol_fault-take (a ∷ b ∷ []) = refl
enrol_fault-take (a ∷ b ∷ c ∷ []) = refl
enrol_fault-take (a ∷ b ∷ c ∷ d ∷ []) = refl
enrol_fault-take (a ∷ b ∷ c ∷ d ∷ e ∷ []) = refl
enrol_fault-take (a ∷ b ∷ c ∷ d ∷ e ∷ f ∷ []) = refl
enrol_fault-take (a ∷ b ∷ c ∷ d ∷ e ∷ f ∷ g ∷ []) = refl
enrol_fault-take (a ∷ b ∷ c ∷ d ∷ e ∷ f ∷ g ∷ h ∷ []) = refl
enrol_fault-take (a ∷ b ∷ c ∷ d ∷ e ∷ f ∷ g ∷ h ∷ i ∷ texts) = refl

user_fault-take : (texts : List (List ℕ)) → user_fault (take 9 texts) ≡ user_fault texts
user_fault-take [] = refl
user_fault-take (a ∷ []) = refl
user_fault-take (a ∷ b ∷ texts) = refl

-- the kept fields of a line have the fault of all its fields
pub fields_fault-take : (fs : List (List ℕ)) → fields_fault (take 10 fs) ≡ fields_fault fs
fields_fault-take [] = refl
fields_fault-take (word ∷ texts) = λ i.
    cond (bytes_eq word (codes "ENROL")) (enrol_fault-take texts i)
    (cond (bytes_eq word (codes "SUSPEND")) (user_fault-take texts i)
    (cond (bytes_eq word (codes "REMOVE")) (user_fault-take texts i) (Some fault.Word)))

-- The lines of items, and the bodies of answers.
use Rattle.std.proofs.Common.{◌≡◌, ◌||◌, ℕ, Bool, true, false, cond, List, [], ◌∷◌, ◌++◌, drop, map, Option, Some, None, Result, Ok, Err, Vec, refl, sym, ap, ◌∙◌, append_assoc}
use Rattle.std.specs.Prelude.{OnOk, option_map}
use Rattle.std.proofs.lemmas.List.{append-nil}
use Rattle.std.proofs.lemmas.Option.{same_Some}
use Rattle.json.proofs.Trees.{view-Array}
use Rattle.json.specs.Json.{Json}
use Rattle.json.specs.Value.{items_of, value_view}
use Rattle.json.specs.declared.value.Value.{Value, Array}
use Rattle.nmvs_words.specs.Words.{spaced}
use Rattle.nmvs_json.specs.declared.question_fault.QuestionFault.{QuestionFault}
use Rattle.nmvs_json.specs.declared.question_fault.QuestionFault.TheVariants as fault
use Rattle.nmvs_json.specs.declared.refusal.Refusal.{Refusal}
use Rattle.nmvs_json.specs.declared.subject.Subject.{Subject}
use Rattle.nmvs_json.specs.Bulks.{appended, as_values, item_fields, item_key, item_line, item_line_with, line_and, numbered, others_of, values_of, wrong_in}
use Rattle.nmvs_json.specs.Questions.{is_key, key_text, line_of}
use Rattle.nmvs_json.specs.Replies.{bodies, body_where, first_line, first_word, has_passing, passes, places_of, problem_where}

-- one line more
pub line_more : (n : ℕ) (j : Json) (lines new : List ℕ) (r : Result (List ℕ) QuestionFault) (rest : Result (List ℕ) Refusal) → appended lines r ≡ Ok new → line_and (Ok new) rest ≡ line_and (Ok lines) (line_and (numbered n j r) rest)
line_more n j lines new (Err f) rest e = absurd (cc e)
line_more n j lines new (Ok line) (Err f) e = refl
line_more n j lines new (Ok line) (Ok later) e =
    let same : lines ++ line ≡ new = cc e in ap Ok (ap (λ (t : List ℕ). t ++ later) (sym same) ∙ append_assoc lines line later)

-- the fault of a line
pub line_faulty : (n : ℕ) (j : Json) (lines : List ℕ) (r : Result (List ℕ) QuestionFault) (rest : Result (List ℕ) Refusal) (f : QuestionFault) → r ≡ Err f → line_and (Ok lines) (line_and (numbered n j r) rest) ≡ Err (record { fault = f; item = Some n; member = wrong_in f j })
line_faulty n j lines r rest f e = ap (λ (s : Result (List ℕ) QuestionFault). line_and (Ok lines) (line_and (numbered n j s) rest)) e

-- all lines
pub lines_all : (lines : List ℕ) → line_and (Ok lines) (Ok []) ≡ Ok lines
lines_all lines = ap Ok (append-nil lines)

-- the fields of a line after its key
pub fields_put : (key : Option (List ℕ)) (old mid new : List ℕ) (o : Option (List (List ℕ))) → mid ≡ old ++ key_text key → option_map (λ fs. mid ++ spaced fs) o ≡ Some new → appended old (line_of key o) ≡ Ok new
fields_put key old mid new None front e = absurd (cc e)
fields_put key old mid new (Some fs) front e =
    ap Ok (sym (append_assoc old (key_text key) (spaced fs)) ∙ ap (λ (t : List ℕ). t ++ spaced fs) (sym front) ∙ same_Some (mid ++ spaced fs) new e)

-- the line of an item, by its key and its fields
pub item_put : {T E : Type 0} (r : Result T E) (j : Json) (key : Option (List ℕ)) (others : ℕ) (old mid new : List ℕ) → item_key j ≡ Some key → is_key key ≡ true → others ≡ others_of key → mid ≡ old ++ key_text key
    → OnOk r (option_map (λ fs. mid ++ spaced fs) (item_fields others j) ≡ Some new) → OnOk r (appended old (item_line j) ≡ Ok new)
unfolding item_line
item_put (Err f) j key others old mid new k t o front e = tt
item_put (Ok v) j key others old mid new k t o front e =
    ap (appended old)
    (ap (item_line_with j) k ∙ ap (λ (b : Bool). cond b (line_of key (item_fields (others_of key) j)) (Err fault.Key)) t ∙ ap (λ (n : ℕ). line_of key (item_fields n j)) (sym o))
    ∙ fields_put key old mid new (item_fields others j) front e

-- the values in an array
values_back : (js : List Json) → values_of (items_of js) ≡ js
values_back [] = refl
values_back (j ∷ js) = ap (λ (later : List Json). j ∷ later) (values_back js)

pub array_values : {A : Type 0} (v : Vec (Value A) A) → as_values (value_view (Array v)) ≡ Some (map value_view v.items)
array_values v = ap as_values (view-Array v) ∙ ap Some (values_back (map value_view v.items))

or_more : (a b c : Bool) → ((a || b) || c) ≡ (a || (b || c))
or_more true b c = refl
or_more false b c = refl

or_none : (a : Bool) → a ≡ (a || false)
or_none true = refl
or_none false = refl

-- one body more, or none
pub body_more : (all others : List Subject) (subject : Subject) (lines after : List (List ℕ)) → all ≡ subject ∷ others → after ≡ drop 1 lines
    → bodies all lines ≡ body_where (places_of (first_word (first_line lines))) subject (first_line lines) [] ∷ bodies others after
unfolding bodies
body_more all others subject lines after some is =
    ap (λ (ss : List Subject). bodies ss lines) some
    ∙ ap (λ (ls : List (List ℕ)). body_where (places_of (first_word (first_line lines))) subject (first_line lines) [] ∷ bodies others ls) (sym is)

pub no_bodies : (all : List Subject) (lines : List (List ℕ)) → all ≡ [] → bodies all lines ≡ []
unfolding bodies
no_bodies all lines none = ap (λ (ss : List Subject). bodies ss lines) none

-- one answer more, or none
pub passing_more : (all others : List Subject) (subject : Subject) (lines after : List (List ℕ)) (old new whole : Bool) → all ≡ subject ∷ others → after ≡ drop 1 lines
    → new ≡ (old || passes (problem_where (places_of (first_word (first_line lines))) (first_line lines))) → (old || has_passing all lines) ≡ whole → (new || has_passing others after) ≡ whole
unfolding has_passing
passing_more all others subject lines after old new whole some is next e =
    let its = passes (problem_where (places_of (first_word (first_line lines))) (first_line lines)) in
    let more : has_passing all lines ≡ (its || has_passing others after) =
    ap (λ (ss : List Subject). has_passing ss lines) some ∙ ap (λ (ls : List (List ℕ)). its || has_passing others ls) (sym is) in
    ap (λ (b : Bool). b || has_passing others after) next ∙ or_more old its (has_passing others after) ∙ ap (λ (b : Bool). old || b) (sym more) ∙ e

pub no_passing : (all : List Subject) (lines : List (List ℕ)) (found whole : Bool) → all ≡ [] → (found || has_passing all lines) ≡ whole → found ≡ whole
unfolding has_passing
no_passing all lines found whole none e =
    or_none found ∙ ap (λ (ss : List Subject). found || has_passing ss lines) (sym none) ∙ e

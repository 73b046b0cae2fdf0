-- The object of a body, the tag of a key, and a line with one text more.
use Rattle.std.proofs.Common.{◌≡◌, ◌<◌, ◌++◌, ◌∷◌, [], ℕ, Bool, true, false, List, length, codes, Option, Some, None, Result, Ok, Err, Bor, Vec, cond, refl, sym, ap, ◌∙◌, append_assoc, arith}
use Rattle.std.specs.Prelude.{OnOk, option_and_then, option_map}
use Rattle.std.proofs.lemmas.Option.{same_Some}
use Rattle.std.specs.List.{list_all, AllByRecursion}
use Rattle.std.specs.Str.{IsUtf8, is_utf8}
use Rattle.std.proofs.lemmas.Bool.{and_parts}
use Rattle.std.proofs.lemmas.Bool.Decides.{nat_tests}
use Rattle.std.proofs.lemmas.List.Elements.{All-from_recursion}
use Rattle.std.proofs.lemmas.Str.{IsUtf8-from_ascii, IsUtf8-from_is_utf8, is_utf8-from_IsUtf8}
use Rattle.std.proofs.lemmas.Str.Ascii.{IsAscii-from_all}
use Rattle.json.proofs.Trees.{view-Object}
use Rattle.json.specs.Json.{Json}
use Rattle.json.specs.Strict.{keys}
use Rattle.json.specs.Value.{value_view, members_view}
use Rattle.json.specs.declared.value.Value.{Value, Object}
use Rattle.nmvs_identifier.specs.Tag.{is_tag}
use Rattle.nmvs_identifier.proofs.PlainTexts.{is_plain, plain_tag}
use Rattle.nmvs_words.specs.Words.{followed, spaced}
use Rattle.nmvs_json.specs.Questions.{as_object, count_of, object_in, preceded, value_in}
use Rattle.nmvs_json.specs.Scans.{Scanned}

plain-small : (b : ℕ) → is_plain b ≡ true → b < 128
plain-small b e = grind (arith, nat_tests)

all_small : (x : List ℕ) → list_all is_plain x ≡ true → AllByRecursion (λ b. b < 128) x
all_small [] e = tt
all_small (b ∷ bs) e =
    let parts = and_parts (is_plain b) (list_all is_plain bs) e in
    (plain-small b parts.0, all_small bs parts.1)

-- bytes that are no text are no tag
pub no_tag : (key : List ℕ) → (IsUtf8 key → ⊥) → is_tag key ≡ false
no_tag key other = by (is_tag key) refl
  where
    by : (b : Bool) → is_tag key ≡ b → b ≡ false
    by false e = refl
    by true e = absurd (other (IsUtf8-from_ascii key (IsAscii-from_all key (All-from_recursion _ key (all_small key (plain_tag key e).2)))))

-- bytes that are no text are no object
pub no_object : (body : List ℕ) → (IsUtf8 body → ⊥) → object_in body ≡ None
no_object body other = by (is_utf8 body) refl
  where
    by : (b : Bool) → is_utf8 body ≡ b → cond b (option_and_then as_object (value_in body)) None ≡ None
    by false e = refl
    by true e = absurd (other (IsUtf8-from_is_utf8 body e))

-- a text is the object that its value is
pub object_of : (body : List ℕ) (o : Option Json) → IsUtf8 body → value_in body ≡ o → object_in body ≡ option_and_then as_object o
object_of body o text is = (λ i. cond (is_utf8-from_IsUtf8 body text i) (option_and_then as_object (is i)) None)

members_counted : {A : Type 0} (ms : List (Bor (List ℕ) × Value A)) → length (keys (members_view ms)) ≡ length ms
members_counted [] = refl
members_counted (m ∷ ms) = let rest = members_counted ms in omega (arith, rest)

-- the number of members of an object
pub object_count : {A : Type 0} (v : Vec (Bor (List ℕ) × Value A) A) → count_of (value_view (Object v)) ≡ length v.items
object_count v = ap count_of (view-Object v) ∙ members_counted v.items

-- the value of an object is an object
pub object_same : {A : Type 0} (v : Vec (Bor (List ℕ) × Value A) A) → as_object (value_view (Object v)) ≡ Some (value_view (Object v))
object_same v = ap as_object (view-Object v) ∙ ap Some (sym (view-Object v))

-- a line with one text more
pub line_more : (line text : List ℕ) (o : Option (List (List ℕ)))
    → option_map (λ ts. ((line ++ codes " ") ++ text) ++ preceded ts) o ≡ option_map (λ ts. line ++ preceded ts) (option_map (λ ts. text ∷ ts) o)
line_more line text None = refl
line_more line text (Some ts) = ap Some (append_assoc (line ++ codes " ") text (preceded ts) ∙ append_assoc line (codes " ") (text ++ preceded ts))

-- a line with the texts of a scan
pub scan_put : {T E : Type 0} (r : Result T E) (there : Bool) (line new : List ℕ) (texts : List ℕ → List (List ℕ)) (o : Option (List ℕ)) (others : Option (List (List ℕ))) → there ≡ true
    → OnOk r (option_map (λ scan. line ++ preceded (texts scan)) o ≡ Some new) → OnOk r (option_map (λ ts. line ++ preceded ts) (cond there (option_map texts o) others) ≡ Some new)
scan_put (Err f) there line new texts o others is e = tt
scan_put (Ok v) there line new texts None others is e = absurd (cc e)
scan_put (Ok v) false line new texts (Some scan) others is e = absurd (cc is)
scan_put (Ok v) true line new texts (Some scan) others is e = e

-- texts, and LF after them
preceded_lf : (ts : List (List ℕ)) → preceded ts ++ codes "\n" ≡ followed ts
preceded_lf [] = refl
preceded_lf (t ∷ ts) = append_assoc (codes " ") (t ++ preceded ts) (codes "\n") ∙ ap (λ (x : List ℕ). codes " " ++ x) (append_assoc t (preceded ts) (codes "\n") ∙ ap (λ (x : List ℕ). t ++ x) (preceded_lf ts))

preceded_both : (ts us : List (List ℕ)) → preceded (ts ++ us) ≡ preceded ts ++ preceded us
preceded_both [] us = refl
preceded_both (t ∷ ts) us =
    ap (λ (x : List ℕ). codes " " ++ (t ++ x)) (preceded_both ts us) ∙ ap (λ (x : List ℕ). codes " " ++ x) (sym (append_assoc t (preceded ts) (preceded us))) ∙ sym (append_assoc (codes " ") (t ++ preceded ts) (preceded us))

-- the fields of a line, by the texts after its word
pub line_ended : (line user word mid : List ℕ) (o : Option (List (List ℕ))) → option_map (λ ts. (((line ++ user) ++ codes " ") ++ word) ++ preceded ts) o ≡ Some mid
    → option_map (λ ts. line ++ spaced (user ∷ word ∷ ts)) o ≡ Some (mid ++ codes "\n")
line_ended line user word mid None e = absurd (cc e)
line_ended line user word mid (Some ts) e =
    let front = ((line ++ user) ++ codes " ") ++ word in
    let same : front ++ preceded ts ≡ mid = same_Some (front ++ preceded ts) mid e in
    ap Some
    (sym (append_assoc line user (codes " " ++ (word ++ followed ts)))
    ∙ sym (append_assoc (line ++ user) (codes " ") (word ++ followed ts))
    ∙ sym (append_assoc ((line ++ user) ++ codes " ") word (followed ts))
    ∙ ap (λ (x : List ℕ). front ++ x) (sym (preceded_lf ts))
    ∙ sym (append_assoc front (preceded ts) (codes "\n"))
    ∙ ap (λ (x : List ℕ). x ++ codes "\n") same)

-- texts, and a condition after them
condition_put : (line mid new : List ℕ) (names condition : Option (List (List ℕ))) → option_map (λ ts. line ++ preceded ts) names ≡ Some mid → option_map (λ cs. mid ++ preceded cs) condition ≡ Some new
    → option_map (λ ts. line ++ preceded ts) (option_and_then (λ ns. option_map (λ cs. ns ++ cs) condition) names) ≡ Some new
condition_put line mid new None condition e f = absurd (cc e)
condition_put line mid new (Some ns) None e f = absurd (cc f)
condition_put line mid new (Some ns) (Some cs) e f =
    ap Some
    (ap (λ (x : List ℕ). line ++ x) (preceded_both ns cs) ∙ sym (append_assoc line (preceded ns) (preceded cs)) ∙ ap (λ (x : List ℕ). x ++ preceded cs) (same_Some (line ++ preceded ns) mid e))
    ∙ f

-- a condition
pub if_put : (refuses asks : Bool) (line mid new : List ℕ) (o : Option (List (List ℕ))) → refuses ≡ false → asks ≡ true → mid ≡ line ++ codes " IF" → option_map (λ ts. mid ++ preceded ts) o ≡ Some new
    → option_map (λ us. line ++ preceded us) (cond refuses None (cond asks (option_map (λ ts. codes "IF" ∷ ts) o) (Some []))) ≡ Some new
if_put true asks line mid new o goes there front e = absurd (cc goes)
if_put false false line mid new o goes there front e = absurd (cc there)
if_put false true line mid new None goes there front e = absurd (cc e)
if_put false true line mid new (Some ts) goes there front e =
    ap Some (sym (append_assoc line (codes " IF") (preceded ts)) ∙ ap (λ (x : List ℕ). x ++ preceded ts) (sym front)) ∙ e

-- the texts after the word of a line, by its scanned values
pub subject_put : (line mid new : List ℕ) (names : Option (List (List ℕ))) (values : Option (Option Scanned)) (scanned : Option Scanned) (condition : Option Scanned → Option (List (List ℕ)))
    → option_map (λ ts. line ++ preceded ts) names ≡ Some mid → values ≡ Some scanned → option_map (λ cs. mid ++ preceded cs) (condition scanned) ≡ Some new
    → option_map (λ ts. line ++ preceded ts) (option_and_then (λ ns. option_and_then (λ s. option_map (λ cs. ns ++ cs) (condition s)) values) names) ≡ Some new
subject_put line mid new names values scanned condition e v f =
    ap (λ (o : Option (Option Scanned)). option_map (λ ts. line ++ preceded ts) (option_and_then (λ ns. option_and_then (λ s. option_map (λ cs. ns ++ cs) (condition s)) o) names)) v
    ∙ condition_put line mid new names (condition scanned) e f

-- the fields of a line whose members were counted
pub line_counted : (counted : Bool) (line user word front mid new : List ℕ) (users : Option (List ℕ)) (o : Option (List (List ℕ))) → counted ≡ true → users ≡ Some user → front ≡ ((line ++ user) ++ codes " ") ++ word
    → option_map (λ ts. front ++ preceded ts) o ≡ Some mid → new ≡ mid ++ codes "\n" → option_map (λ fs. line ++ spaced fs) (cond counted (option_and_then (λ u. option_map (λ ts. u ∷ word ∷ ts) o) users) None) ≡ Some new
line_counted false line user word front mid new users o is u begun e end = absurd (cc is)
line_counted true line user word front mid new None o is u begun e end = absurd (cc u)
line_counted true line user word front mid new (Some v) None is u begun e end = absurd (cc e)
line_counted true line user word front mid new (Some v) (Some ts) is u begun e end =
    ap (λ (w : List ℕ). Some (line ++ spaced (w ∷ word ∷ ts))) (same_Some v user u)
    ∙ line_ended line user word mid (Some ts) (ap (λ (x : List ℕ). Some (x ++ preceded ts)) (sym begun) ∙ e) ∙ ap Some (sym end)

-- The words and lines of texts, and texts with commas between them.
use Rattle.std.proofs.Common.{◌≡◌, ◌+◌, ◌-◌, ℕ, Bool, true, false, cond, List, [], ◌∷◌, ◌++◌, codes, length, take, drop, get_or, map, Some, option_map, Result, Ok, Err, refl, sym, ap, ◌∙◌, arith}
use Rattle.std.specs.Prelude.{find, is_ok, OnOk}
use Rattle.std.specs.Str.{bytes_eq}
use Rattle.std.specs.List.{position_or_len}
use Rattle.std.proofs.lemmas.Bool.{false_from_ne_true}
use Rattle.std.proofs.lemmas.List.{append-nil, append_assoc, drop_all, length-drop, take_all}
use Rattle.std.proofs.lemmas.List.Sums.{position_or_len_is}
use Rattle.memchr.specs.Find.{Nowhere, NoneBefore, Passes, is_byte}
use Rattle.nmvs_stream.specs.InputLines.{input_lines, lines_after}
use Rattle.nmvs_messages.specs.Fields.{is_space}
use Rattle.nmvs_json.specs.Replies.{batch_object, batch_objects, first_word, later_words, separated, untagged}

-- a line up to its first space, and what follows that
space_at : (line : List ℕ) (k : ℕ) → NoneBefore (Passes (is_byte 32) line) 0 (length line) k → Passes (is_byte 32) line k → position_or_len is_space line ≡ k
space_at line k before here =
    position_or_len_is is_space line k 0 (omega (arith, before.high)) (λ i lt. false_from_ne_true (is_space (get_or line i 0)) (λ e. before.before i (omega arith) lt e)) (λ _. here)

no_space : (line : List ℕ) → Nowhere (Passes (is_byte 32) line) 0 (length line) → position_or_len is_space line ≡ length line
no_space line none =
    position_or_len_is is_space line (length line) 0 (omega arith) (λ i lt. false_from_ne_true (is_space (get_or line i 0)) (λ e. none i (omega arith) lt e)) (λ lt. absurd (omega (arith, lt)))

pub first_cut : (line : List ℕ) (k : ℕ) → NoneBefore (Passes (is_byte 32) line) 0 (length line) k → Passes (is_byte 32) line k → take k line ≡ first_word line
first_cut line k before here = ap (λ (n : ℕ). take n line) (sym (space_at line k before here))

pub later_cut : (line : List ℕ) (k : ℕ) → NoneBefore (Passes (is_byte 32) line) 0 (length line) k → Passes (is_byte 32) line k → take (length line - (k + 1)) (drop (k + 1) line) ≡ later_words line
later_cut line k before here =
    let left = length-drop (k + 1) line in
    take_all (length line - (k + 1)) (drop (k + 1) line) (omega (arith, left)) ∙ ap (λ (n : ℕ). drop (n + 1) line) (sym (space_at line k before here))

pub first_whole : (line : List ℕ) → Nowhere (Passes (is_byte 32) line) 0 (length line) → line ≡ first_word line
first_whole line none = sym (ap (λ (n : ℕ). take n line) (no_space line none) ∙ take_all (length line) line (omega arith))

pub later_none : (line : List ℕ) → Nowhere (Passes (is_byte 32) line) 0 (length line) → [] ≡ later_words line
later_none line none = sym (ap (λ (n : ℕ). drop (n + 1) line) (no_space line none) ∙ drop_all (length line + 1) line (omega arith))

-- no bytes have no lines
pub no_lines : input_lines [] ≡ []
unfolding lines_after
no_lines = refl

-- one text more
separated_more : (front x : List ℕ) (xs : List (List ℕ)) → separated front (x ∷ xs) ≡ front ++ (x ++ separated (codes ",") xs)
unfolding separated
separated_more front x xs = refl

separated_none : (front : List ℕ) → separated front [] ≡ []
unfolding separated
separated_none front = refl

pub text_put : (old mid new front text whole : List ℕ) (texts later : List (List ℕ)) → mid ≡ old ++ front → new ≡ mid ++ text → texts ≡ text ∷ later → old ++ separated front texts ≡ whole
    → new ++ separated (codes ",") later ≡ whole
text_put old mid new front text whole texts later first next more is =
    let rest = separated (codes ",") later in
    ap (λ (t : List ℕ). t ++ rest) (next ∙ ap (λ (t : List ℕ). t ++ text) first)
    ∙ append_assoc (old ++ front) text rest ∙ append_assoc old front (text ++ rest)
    ∙ ap (λ (t : List ℕ). old ++ t) (sym (separated_more front text later)) ∙ ap (λ (ts : List (List ℕ)). old ++ separated front ts) (sym more) ∙ is

pub texts_put : (old front whole : List ℕ) (texts : List (List ℕ)) → texts ≡ [] → old ++ separated front texts ≡ whole → old ≡ whole
texts_put old front whole texts none is =
    sym (append-nil old) ∙ ap (λ (t : List ℕ). old ++ t) (sym (separated_none front)) ∙ ap (λ (ts : List (List ℕ)). old ++ separated front ts) (sym none) ∙ is

-- one batch more, or none
pub batch_more : (line : List ℕ) (lines : List (List ℕ)) → bytes_eq (first_word (untagged line)) (codes "BATCH") ≡ true → batch_objects (line ∷ lines) ≡ batch_object (later_words (untagged line)) ∷ batch_objects lines
unfolding batch_objects
batch_more line lines its = ap (λ (b : Bool). cond b (batch_object (later_words (untagged line)) ∷ batch_objects lines) []) its

pub batches_end : (line : List ℕ) (lines : List (List ℕ)) → bytes_eq (first_word (untagged line)) (codes "BATCH") ≡ false → batch_objects (line ∷ lines) ≡ []
unfolding batch_objects
batches_end line lines other = ap (λ (b : Bool). cond b (batch_object (later_words (untagged line)) ∷ batch_objects lines) []) other

pub no_batches : batch_objects [] ≡ []
unfolding batch_objects
no_batches = refl

-- a search in a table finds the same in a view of the table
pub find_view : {R S : Type 0} (view : R → S) (p : R → Bool) (q : S → Bool) → ((r : R) → p r ≡ q (view r)) → (rs : List R) → option_map view (find p rs) ≡ find q (map view rs)
find_view view p q same [] = refl
find_view view p q same (r ∷ rs) =
    ap (λ (b : Bool). option_map view (cond b (Some r) (find p rs))) (same r)
    ∙ elim (q (view r)) as (λ b. option_map view (cond b (Some r) (find p rs)) ≡ cond b (Some (view r)) (find q (map view rs))) [
      | true ↦ refl
      | false ↦ find_view view p q same rs
    ]

-- three texts, one after the other
pub five_put : {T E : Type 0} (r : Result T E) (old a b c d new x y z v w : List ℕ) → a ≡ old ++ x → b ≡ a ++ y → c ≡ b ++ z → d ≡ c ++ v → new ≡ cond (is_ok r) (d ++ w) d
    → OnOk r (new ≡ old ++ (x ++ (y ++ (z ++ (v ++ w)))))
five_put (Err e) old a b c d new x y z v w p q s t last = tt
five_put (Ok u) old a b c d new x y z v w p q s t last =
    last ∙ ap (λ (l : List ℕ). l ++ w) (t ∙ ap (λ (l : List ℕ). l ++ v) (s ∙ ap (λ (l : List ℕ). l ++ z) (q ∙ ap (λ (l : List ℕ). l ++ y) p)))
    ∙ append_assoc (((old ++ x) ++ y) ++ z) v w ∙ append_assoc ((old ++ x) ++ y) z (v ++ w) ∙ append_assoc (old ++ x) y (z ++ (v ++ w)) ∙ append_assoc old x (y ++ (z ++ (v ++ w)))

pub three_put : {T E : Type 0} (r : Result T E) (old mid later new a b d : List ℕ) → mid ≡ old ++ a → later ≡ mid ++ b → new ≡ cond (is_ok r) (later ++ d) later → OnOk r (new ≡ old ++ (a ++ (b ++ d)))
three_put (Ok t) old mid later new a b d first next last =
    last ∙ ap (λ (t : List ℕ). t ++ d) (next ∙ ap (λ (t : List ℕ). t ++ b) first) ∙ append_assoc (old ++ a) b d ∙ append_assoc old a (b ++ d)
three_put (Err e) old mid later new a b d first next last = tt

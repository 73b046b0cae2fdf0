-- The parts of an export, and the whole.
use Rattle.std.proofs.Common.{◌≡◌, ◌⊎◌, inl, inr, ◌+◌, ◌<◌, ◌≤◌, ◌==◌, ◌&&◌, Bool, not, true, false, ℕ, zero, suc, List, [], ◌∷◌, ◌++◌, length, map, take, drop, refl, sym, ap, ◌∙◌, subst, cond, arith, append_assoc, All, Option, Some, None}
use Rattle.std.specs.Prelude.{◌↔◌, IsTrue, filter}
use Rattle.std.specs.List.{list_all}
use Rattle.std.specs.Str.Parse.{digits_value}
use Rattle.std.proofs.lemmas.Bool.{and_parts, cases_lt, eqb-true, ne_eqb}
use Rattle.std.proofs.lemmas.Bool.Decides.{nat_tests}
use Rattle.std.proofs.lemmas.List.{append-nil, take-map, length-map, map-append}
use Rattle.std.proofs.Math.Seq.{take-append_seam}
use Rattle.std.proofs.lemmas.List.{take-append-drop}
use Rattle.std.proofs.lemmas.List.Elements.{All-nil, All-cons, All-head, All-tail, All-take, All-filter, filter-append}
use Rattle.std.proofs.lemmas.Nat.{mod_below}
use Rattle.nmvs_identifier.specs.ProductCode.{ProductCode}
use Rattle.nmvs_stream.specs.InputLines.{HasNoLf, input_lines}
use Rattle.nmvs_stream.proofs.LinesOfPieces.{line_cut, no_line}
use Rattle.nmvs_rules.specs.declared.entry.Entry.{Entry}
use Rattle.nmvs_rules.specs.declared.put.Put.{Put}
use Rattle.nmvs_rules.specs.declared.repeat.Repeat.TheVariants as repeat
use Rattle.nmvs_rules.specs.Entries.{is_entry, AreEntries}
use Rattle.nmvs_rules.specs.Laws.{kept, placed_at}
use Rattle.nmvs_rules.specs.Questions.{code_of}
use Rattle.nmvs_rules.specs.Repeats.{repeat_of}
use Rattle.nmvs_rules.specs.Rules.{reply_of, answered, IsLawful}
use Rattle.nmvs_rules.proofs.LawfulLemmas.{IsLawful-push, IsLawful-rest, IsLawfulAfter-first}
use Rattle.nmvs_rules.proofs.MergeLemmas.{IsLawful-kept, IsLawful-placed}
use Rattle.nmvs_shard.specs.Placing.{place_of, shard_of}
use Rattle.nmvs_shard.proofs.Newness.{new-part}
use Rattle.nmvs_reader.specs.declared.objection.Objection.{Objection}
use Rattle.nmvs_reader.specs.declared.objection.Objection.TheVariants as against
use Rattle.nmvs_reader.specs.Lines.{Written, written_line, written_text, lines_text, trail_of, is_told, older_lines, IsLineOf, Imported}
use Rattle.nmvs_reader.proofs.NoLf.{is_seen, IsSeen, seen_line}
use Rattle.nmvs_reader.proofs.Readings.{line_in-injective}
use Rattle.nmvs_record.specs.Import as whole
use Rattle.nmvs_parts.specs.Part.{PartView, is_others, is_others_code, code_in, own_lines}
use Rattle.nmvs_parts.specs.Import.{ended, text_of, AreLawful, IsText, StopsAtLine}
use Rattle.nmvs_parts.specs.Laws.{part_of, Accepts, GoesTo}
use Rattle.nmvs_parts.proofs.LineCodes.{others-line}

-- ---- the lines of a text

-- an entry's line has no LF
seen-no_lf : (t : List ℕ) → IsSeen t → HasNoLf t
seen-no_lf [] h k lt = absurd (omega (arith, lt))
seen-no_lf (b ∷ t) h zero lt = let seen = (and_parts (is_seen b) (list_all is_seen t) h).0 in λ is. cc (ap is_seen (sym is) ∙ seen)
seen-no_lf (b ∷ t) h (suc k) lt = seen-no_lf t (and_parts (is_seen b) (list_all is_seen t) h).1 k (omega (arith, lt))

-- lines stand at the front of the lines of their text and more
text-front : (lines : List (List ℕ)) (more : List ℕ) → All HasNoLf lines → input_lines (text_of lines ++ more) ≡ lines ++ input_lines more
text-front [] more each = refl
text-front (l ∷ lines) more each =
    let cut : text_of (l ∷ lines) ++ more ≡ l ++ 10 ∷ (text_of lines ++ more) = append_assoc (ended l) (text_of lines) more ∙ append_assoc l (10 ∷ []) (text_of lines ++ more) in
    line_cut [] l (text_of lines ++ more) cut (All-head HasNoLf l lines each) ∙ ap (λ (ls : List (List ℕ)). l ∷ ls) (text-front lines more (All-tail HasNoLf l lines each))

-- a text has these lines alone
text-lines : {input : List ℕ} {lines : List (List ℕ)} {begun : List ℕ} → IsText input lines begun → input_lines input ≡ lines
text-lines {input} {lines} {begun} text =
    ap input_lines text.these ∙ text-front lines begun text.each ∙ ap (λ (ls : List (List ℕ)). lines ++ ls) (no_line [] begun text.one).0 ∙ append-nil lines

-- lines of the same list, of which the first are no more, begin the others
begin-others : {X : Type 0} (xs ys us vs : List X) → xs ++ ys ≡ us ++ vs → length xs ≤ length us → (more : List X) × (us ≡ xs ++ more)
begin-others [] ys us vs same few = (us, refl)
begin-others (x ∷ xs) ys [] vs same few = absurd (omega (arith, few))
begin-others (x ∷ xs) ys (u ∷ us) vs same few =
    let first : x ≡ u = cc same in
    let later : xs ++ ys ≡ us ++ vs = cc same in
    let rest = begin-others xs ys us vs later (omega (arith, few)) in
    (rest.0, (λ i. sym first i ∷ rest.1 i))

-- ---- the entries of a part

abbrev IsTold : Written → Type 0
IsTold w = IsTrue (is_told w)

abbrev IsInRange : Entry → Type 0
IsInRange e = IsTrue (is_entry e)

-- the number of the part of an entry
abbrev place : ℕ → Written → ℕ
place count w = shard_of count (code_of w.entry.put.question)

abbrev entries_at : ℕ → ℕ → List Written → List Written
entries_at count index ws = filter (λ w. place count w == index) ws

trail-at : (count index : ℕ) (ws : List Written) → trail_of (entries_at count index ws) ≡ placed_at (place_of count) index (trail_of ws)
trail-at count index [] = refl
trail-at count index (w ∷ ws) = by (place count w == index) refl (trail-at count index ws)
  where
    by : (b : Bool) → (place count w == index) ≡ b → trail_of (entries_at count index ws) ≡ placed_at (place_of count) index (trail_of ws)
        → trail_of (entries_at count index (w ∷ ws)) ≡ placed_at (place_of count) index (trail_of (w ∷ ws))
    by true is rest = rw is (ap (λ (t : List Entry). w.entry ∷ t) rest)
    by false is rest = rw is rest

own-cons : (part : PartView) (l : List ℕ) (ls : List (List ℕ)) (b : Bool) → is_others part l ≡ b → own_lines part (l ∷ ls) ≡ cond b (own_lines part ls) (l ∷ own_lines part ls)
own-cons part l ls true is = ap (λ c. cond (not c) (l ∷ own_lines part ls) (own_lines part ls)) is
own-cons part l ls false is = ap (λ c. cond (not c) (l ∷ own_lines part ls) (own_lines part ls)) is

not_not : (b : Bool) → not (not b) ≡ b
not_not true = refl
not_not false = refl

-- the part's own lines of entries are those of its entries
own-at : (count index : ℕ) (ws : List Written) → AreEntries (trail_of ws) → own_lines (part_of count index) (map written_line ws) ≡ map written_line (entries_at count index ws)
own-at count index [] in_range = refl
own-at count index (w ∷ ws) in_range =
    by (place count w == index) refl (own-at count index ws (All-tail IsInRange w.entry (trail_of ws) in_range))
    (others-line (part_of count index) w.version w.entry (All-head IsInRange w.entry (trail_of ws) in_range))
  where
    by : (b : Bool) → (place count w == index) ≡ b → own_lines (part_of count index) (map written_line ws) ≡ map written_line (entries_at count index ws)
        → is_others (part_of count index) (written_line w) ≡ not (place count w == index)
        → own_lines (part_of count index) (map written_line (w ∷ ws)) ≡ map written_line (entries_at count index (w ∷ ws))
    by true here rest is =
        own-cons (part_of count index) (written_line w) (map written_line ws) false (is ∙ ap not here) ∙ ap (λ (ls : List (List ℕ)). written_line w ∷ ls) rest
        ∙ ap (λ c. map written_line (cond c (w ∷ entries_at count index ws) (entries_at count index ws))) (sym here)
    by false here rest is =
        own-cons (part_of count index) (written_line w) (map written_line ws) true (is ∙ ap not here) ∙ rest
        ∙ ap (λ c. map written_line (cond c (w ∷ entries_at count index ws) (entries_at count index ws))) (sym here)

in_range-at : (count index : ℕ) (ws : List Written) → AreEntries (trail_of ws) → AreEntries (trail_of (entries_at count index ws))
in_range-at count index ws in_range =
    subst AreEntries (sym (trail-at count index ws)) (All-filter (λ e. place_of count (code_of e.put.question).bytes == index) IsInRange (trail_of ws) in_range)

abbrev imported : List Written → Imported
imported ws = record { trail = trail_of ws; older = older_lines ws; shards = 1 }

-- a part of a lawful trail is lawful
lawful-at : (count index : ℕ) (ws : List Written) → All IsTold ws → AreEntries (trail_of ws) → IsLawful (trail_of ws)
    → AreLawful (part_of count index) (map written_line ws) (imported (entries_at count index ws))
lawful-at count index ws told in_range lawful = record {
  own = entries_at count index ws;
  these = own-at count index ws in_range;
  are = record { trail = refl; older = refl; told = All-filter (λ w. place count w == index) IsTold ws told };
  lawful = subst IsLawful (sym (trail-at count index ws)) (IsLawful-kept (λ c. place_of count c == index) (trail_of ws) lawful);
  in_range = in_range-at count index ws in_range;
}

-- the first lines of a part are lawful
lawful-first : (part : PartView) (xs more : List (List ℕ)) (it : Imported) → AreLawful part (xs ++ more) it → (it' : Imported) × AreLawful part xs it'
lawful-first part xs more it all =
    let n = length (own_lines part xs) in
    let first = take n all.own in
    let rest = drop n all.own in
    let cut : all.own ≡ first ++ rest = sym (take-append-drop n all.own) in
    let trail : it.trail ≡ trail_of first ++ trail_of rest = all.are.trail ∙ ap trail_of cut ∙ map-append (λ (w : Written). w.entry) first rest in (
      imported first,
      record {
        own = first;
        these = sym (take-append_seam (own_lines part xs) (own_lines part more)) ∙ ap (take n) (sym (filter-append (λ l. not (is_others part l)) xs more) ∙ all.these)
            ∙ take-map written_line n all.own;
        are = record { trail = refl; older = refl; told = All-take IsTold n all.own all.are.told };
        lawful = IsLawfulAfter-first [] (trail_of first) (trail_of rest) (subst IsLawful trail all.lawful);
        in_range = subst AreEntries (take-append_seam (trail_of first) (trail_of rest))
            (All-take IsInRange (length (trail_of first)) (trail_of first ++ trail_of rest) (subst AreEntries trail all.in_range));
      },
    )

-- ---- the whole, by its parts

record Good (part : PartView) (lines : List (List ℕ)) (own : List Written) : Type 0 where
  pub these : own_lines part lines ≡ map written_line own
  pub told : All IsTold own
  pub in_range : AreEntries (trail_of own)

record Merged (count : ℕ) (lines : List (List ℕ)) (own : ℕ → List Written) : Type 0 where
  pub ws : List Written
  pub these : lines ≡ map written_line ws
  pub told : All IsTold ws
  pub in_range : AreEntries (trail_of ws)
  pub parts : (i : ℕ) → i < count → own i ≡ entries_at count i ws

none-written : (own : List Written) → [] ≡ map written_line own → own ≡ []
none-written [] e = refl
none-written (w ∷ own) e = absurd cc

-- the lines that follow the first one
abbrev after_first : List Written → List Written
after_first [] = []
after_first (w ∷ ws) = ws

-- the first line, if there is one
record First (l : List ℕ) (ls : List (List ℕ)) (own : List Written) : Type 0 where
  pub w : Written
  pub is : own ≡ w ∷ after_first own
  pub line : l ≡ written_line w
  pub rest : ls ≡ map written_line (after_first own)

first-written : (l : List ℕ) (ls : List (List ℕ)) (own : List Written) → l ∷ ls ≡ map written_line own → First l ls own
first-written l ls [] e = absurd cc
first-written l ls (w ∷ own) e = record { w = w; is = refl; line = cc e; rest = cc e }

-- the number of a part whose own the line is
abbrev owner_by : ℕ → Option ProductCode → ℕ
owner_by count None = 0
owner_by count (Some c) = shard_of count c

owner-below : (count : ℕ) (o : Option ProductCode) → 0 < count → owner_by count o < count
owner-below count None some = some
owner-below count (Some c) some = mod_below (digits_value 10 c.bytes) count some

same : (n : ℕ) → (n == n) ≡ true
same n = grind (arith, nat_tests)

not_others : (a b : Bool) → b ≡ false → (a && b) ≡ false
not_others true b is = is
not_others false b is = refl

owner-own : (count : ℕ) (l : List ℕ) → is_others (part_of count (owner_by count (code_in l))) l ≡ false
owner-own count l = not_others _ _ (by (code_in l))
  where
    by : (o : Option ProductCode) → is_others_code (part_of count (owner_by count o)) o ≡ false
    by None = refl
    by (Some c) = ap not (same (shard_of count c))

-- the first line, and whose own it is
record Head (count : ℕ) (l : List ℕ) (own : ℕ → List Written) : Type 0 where
  pub w : Written
  pub at : ℕ
  pub is : own at ≡ w ∷ after_first (own at)
  pub told : IsTold w
  pub in_range : IsInRange w.entry
  pub line : l ≡ written_line w
  pub others : (i : ℕ) → is_others (part_of count i) l ≡ not (place count w == i)
  pub placed : place count w ≡ at

head-of : (count : ℕ) (l : List ℕ) (ls : List (List ℕ)) (own : List Written) (at : ℕ) (owns : ℕ → List Written) → own ≡ owns at
    → is_others (part_of count at) l ≡ false → Good (part_of count at) (l ∷ ls) own → Head count l owns
head-of count l ls own at owns same-own mine g =
    let first = first-written l (own_lines (part_of count at) ls) own (sym (own-cons (part_of count at) l ls false mine) ∙ g.these) in
    let told = All-head IsTold first.w (after_first own) (subst (All IsTold) first.is g.told) in
    let in_range = All-head IsInRange first.w.entry (trail_of (after_first own)) (subst (λ (ws : List Written). AreEntries (trail_of ws)) first.is g.in_range) in
    let others : (i : ℕ) → is_others (part_of count i) l ≡ not (place count first.w == i) =
    λ i. ap (is_others (part_of count i)) first.line ∙ others-line (part_of count i) first.w.version first.w.entry in_range in
    record {
      w = first.w;
      at = at;
      is = subst (λ (ws : List Written). ws ≡ first.w ∷ after_first ws) same-own first.is;
      told = told;
      in_range = in_range;
      line = first.line;
      others = others;
      placed = eqb-true (place count first.w) at (sym (not_not (place count first.w == at)) ∙ ap not (sym (others at) ∙ mine));
    }

-- the lines of each part that are left
abbrev left_by : (ℕ → List Written) → Bool → ℕ → List Written
left_by own b i = cond b (after_first (own i)) (own i)

abbrev left : ℕ → Written → (ℕ → List Written) → ℕ → List Written
left count w own i = left_by own (place count w == i) i

still : (count : ℕ) (l : List ℕ) (ls : List (List ℕ)) (own : ℕ → List Written) → ((i : ℕ) → i < count → Good (part_of count i) (l ∷ ls) (own i)) → (h : Head count l own)
    → (i : ℕ) → i < count → (b : Bool) → (place count h.w == i) ≡ b → Good (part_of count i) ls (left_by own b i)
still count l ls own good h i lt true is =
    let g = good i lt in
    let f = first-written l (own_lines (part_of count i) ls) (own i) (sym (own-cons (part_of count i) l ls false (h.others i ∙ ap not is)) ∙ g.these) in
    record {
      these = f.rest;
      told = All-tail IsTold f.w (after_first (own i)) (subst (All IsTold) f.is g.told);
      in_range = All-tail IsInRange f.w.entry (trail_of (after_first (own i))) (subst (λ (ws : List Written). AreEntries (trail_of ws)) f.is g.in_range);
    }
still count l ls own good h i lt false is =
    let g = good i lt in
    record { these = sym (own-cons (part_of count i) l ls true (h.others i ∙ ap not is)) ∙ g.these; told = g.told; in_range = g.in_range }

joined : (count : ℕ) (l : List ℕ) (own : ℕ → List Written) (h : Head count l own) (ws : List Written)
    → ((i : ℕ) → i < count → left count h.w own i ≡ entries_at count i ws) → (i : ℕ) → i < count → (b : Bool) → (place count h.w == i) ≡ b → own i ≡ entries_at count i (h.w ∷ ws)
joined count l own h ws parts i lt true is =
    let here : h.at ≡ i = sym h.placed ∙ eqb-true (place count h.w) i is in
    let rest : after_first (own i) ≡ entries_at count i ws = ap (λ b. left_by own b i) (sym is) ∙ parts i lt in
    subst (λ (n : ℕ). own n ≡ h.w ∷ after_first (own n)) here h.is ∙ ap (λ (xs : List Written). h.w ∷ xs) rest
    ∙ ap (λ b. cond b (h.w ∷ entries_at count i ws) (entries_at count i ws)) (sym is)
joined count l own h ws parts i lt false is =
    ap (λ b. left_by own b i) (sym is) ∙ parts i lt ∙ ap (λ b. cond b (h.w ∷ entries_at count i ws) (entries_at count i ws)) (sym is)

merge : (count : ℕ) → 0 < count → (lines : List (List ℕ)) (own : ℕ → List Written) → ((i : ℕ) → i < count → Good (part_of count i) lines (own i)) → Merged count lines own
merge count some [] own good = record {
  ws = [];
  these = refl;
  told = All-nil IsTold;
  in_range = All-nil IsInRange;
  parts = λ i lt. none-written (own i) (good i lt).these;
}
merge count some (l ∷ ls) own good =
    let at = owner_by count (code_in l) in
    let h = head-of count l ls (own at) at own refl (owner-own count l) (good at (owner-below count (code_in l) some)) in
    let later = merge count some ls (left count h.w own) (λ i lt. still count l ls own good h i lt (place count h.w == i) refl) in
    record {
      ws = h.w ∷ later.ws;
      these = (λ i. h.line i ∷ later.these i);
      told = All-cons IsTold h.w later.ws h.told later.told;
      in_range = All-cons IsInRange h.w.entry (trail_of later.ws) h.in_range later.in_range;
      parts = λ i lt. joined count l own h later.ws later.parts i lt (place count h.w == i) refl;
    }

-- no product code has a place past the last part
none-past : (count i : ℕ) (ws : List Written) → 0 < count → count ≤ i → entries_at count i ws ≡ []
none-past count i [] some past = refl
none-past count i (w ∷ ws) some past =
    let below = mod_below (digits_value 10 (code_of w.entry.put.question).bytes) count some in
    let apart : (place count w == i) ≡ false = ne_eqb (place count w) i (λ is. omega (arith, is, below, past)) in
    ap (λ b. cond b (w ∷ entries_at count i ws) (entries_at count i ws)) apart ∙ none-past count i ws some past

-- entries whose parts are lawful are lawful
record Whole (count : ℕ) (lines : List (List ℕ)) : Type 0 where
  pub ws : List Written
  pub these : lines ≡ map written_line ws
  pub told : All IsTold ws
  pub in_range : AreEntries (trail_of ws)
  pub lawful : IsLawful (trail_of ws)

abbrev EachLawful : ℕ → List (List ℕ) → Type 0
EachLawful count lines = (i : ℕ) → i < count → (it : Imported) × AreLawful (part_of count i) lines it

abbrev own_by : (count : ℕ) (lines : List (List ℕ)) → EachLawful count lines → (i : ℕ) → (i < count) ⊎ (count ≤ i) → List Written
own_by count lines each i (inl lt) = (each i lt).1.own
own_by count lines each i (inr past) = []

own-good : (count : ℕ) (lines : List (List ℕ)) (each : EachLawful count lines) (i : ℕ) (c : (i < count) ⊎ (count ≤ i)) → i < count
    → Good (part_of count i) lines (own_by count lines each i c) × IsLawful (trail_of (own_by count lines each i c))
own-good count lines each i (inl lt) within =
    let a = (each i lt).1 in
    (record { these = a.these; told = a.are.told; in_range = subst AreEntries a.are.trail a.in_range }, subst IsLawful a.are.trail a.lawful)
own-good count lines each i (inr past) within = absurd (omega (arith, past, within))

lawful-each : (count : ℕ) (own : ℕ → List Written) (ws : List Written) → 0 < count → ((i : ℕ) → i < count → own i ≡ entries_at count i ws)
    → ((i : ℕ) → i < count → IsLawful (trail_of (own i))) → (i : ℕ) → (i < count) ⊎ (count ≤ i) → IsLawful (trail_of (entries_at count i ws))
lawful-each count own ws some parts lawful i (inl lt) = subst (λ (xs : List Written). IsLawful (trail_of xs)) (parts i lt) (lawful i lt)
lawful-each count own ws some parts lawful i (inr past) = subst (λ (xs : List Written). IsLawful (trail_of xs)) (sym (none-past count i ws some past)) tt

whole-by : (count : ℕ) (lines : List (List ℕ)) → 0 < count → EachLawful count lines → Whole count lines
whole-by count lines some each =
    let own : ℕ → List Written = λ i. own_by count lines each i (cases_lt i count) in
    let merged = merge count some lines own (λ i lt. (own-good count lines each i (cases_lt i count) lt).0) in
    record {
      ws = merged.ws;
      these = merged.these;
      told = merged.told;
      in_range = merged.in_range;
      lawful = IsLawful-placed (place_of count) (trail_of merged.ws)
          (λ i. subst IsLawful (trail-at count i merged.ws)
          (lawful-each count own merged.ws some merged.parts (λ k lt. (own-good count lines each k (cases_lt k count) lt).1) i (cases_lt i count)));
    }

text-written : (ws : List Written) → text_of (map written_line ws) ≡ lines_text ws
text-written [] = refl
text-written (w ∷ ws) = ap (λ (t : List ℕ). written_text w ++ t) (text-written ws)

lines-written : (ws : List Written) → AreEntries (trail_of ws) → All HasNoLf (map written_line ws)
lines-written [] in_range = All-nil HasNoLf
lines-written (w ∷ ws) in_range =
    All-cons HasNoLf (written_line w) (map written_line ws) (seen-no_lf (written_line w) (seen_line w.version w.entry (All-head IsInRange w.entry (trail_of ws) in_range)))
    (lines-written ws (All-tail IsInRange w.entry (trail_of ws) in_range))

-- each part accepts an input exactly if the whole does
pub parts-whole : (count : ℕ) → 0 < count → (input begun : List ℕ)
    → ((index : ℕ) → index < count → Accepts (part_of count index) input begun) ↔ ((it : Imported) × whole.Begins input it begun)
parts-whole count some input begun = (together, apart)
  where
    together : ((index : ℕ) → index < count → Accepts (part_of count index) input begun) → (it : Imported) × whole.Begins input it begun
    together each =
        let text = (each 0 some).text in
        let lines = (each 0 some).lines in
        let all : EachLawful count lines = λ i lt.
        let a = each i lt in
        (a.it, subst (λ (ls : List (List ℕ)). AreLawful (part_of count i) ls a.it) (sym (text-lines a.text) ∙ text-lines text) a.lawful) in
        let w = whole-by count lines some all in (
          imported w.ws,
          record {
            lines = w.ws;
            are = record { trail = refl; older = refl; told = w.told };
            lawful = w.lawful;
            in_range = w.in_range;
            these = text.these ∙ ap (λ (t : List ℕ). t ++ begun) (ap text_of w.these ∙ text-written w.ws);
            one = text.one;
            short = text.short;
          },
        )

    apart : ((it : Imported) × whole.Begins input it begun) → (index : ℕ) → index < count → Accepts (part_of count index) input begun
    apart b index lt =
        let ws = b.1.lines in
        let in_range = subst AreEntries b.1.are.trail b.1.in_range in
        record {
          it = imported (entries_at count index ws);
          lines = map written_line ws;
          text = record {
            these = b.1.these ∙ ap (λ (t : List ℕ). t ++ begun) (sym (text-written ws));
            each = lines-written ws in_range;
            one = b.1.one;
            short = b.1.short;
          };
          lawful = lawful-at count index ws b.1.are.told in_range (subst IsLawful b.1.are.trail b.1.lawful);
        }

-- ---- the first line that is refused

-- lines are those of one trail
same-trail : (xs ys : List Written) → All IsTold xs → All IsTold ys → AreEntries (trail_of xs) → AreEntries (trail_of ys) → map written_line xs ≡ map written_line ys
    → trail_of xs ≡ trail_of ys
same-trail [] [] p q a b e = refl
same-trail [] (y ∷ ys) p q a b e = absurd cc
same-trail (x ∷ xs) [] p q a b e = absurd cc
same-trail (x ∷ xs) (y ∷ ys) p q a b e =
    let line : written_line x ≡ written_line y = cc e in
    let lines : map written_line xs ≡ map written_line ys = cc e in
    let first = (line_in-injective x.version y.version x.entry y.entry (All-head IsInRange x.entry (trail_of xs) a) (All-head IsInRange y.entry (trail_of ys) b) (All-head IsTold x xs p) (All-head IsTold y ys q) line).1 in
    let rest = same-trail xs ys (All-tail IsTold x xs p) (All-tail IsTold y ys q) (All-tail IsInRange x.entry (trail_of xs) a) (All-tail IsInRange y.entry (trail_of ys) b) lines in
    (λ i. first i ∷ rest i)

-- the reply to a question of a part is that on the whole trail
reply-part : (count index : ℕ) (t : List Entry) (q : Put) → IsLawful t → shard_of count (code_of q.question) ≡ index → reply_of (placed_at (place_of count) index t) q ≡ reply_of t q
reply-part count index t q lawful at =
    let keep : List ℕ → Bool = λ c. place_of count c == index in
    let e : Entry = answered q (reply_of t q) in
    let here : keep (code_of q.question).bytes ≡ true = ap (λ n. n == index) at ∙ same index in
    let pushed : kept keep (t ++ e ∷ []) ≡ kept keep t ++ e ∷ [] =
    filter-append (λ x. keep (code_of x.put.question).bytes) t (e ∷ []) ∙ ap (λ c. kept keep t ++ cond c (e ∷ []) []) here in
    let part : IsLawful (kept keep t ++ e ∷ []) = subst IsLawful pushed (IsLawful-kept keep (t ++ e ∷ []) (IsLawful-push t e lawful refl)) in
    sym (IsLawful-rest (kept keep t) (e ∷ []) part).0

-- the number of the part whose own an entry's line is
own-place : (count index : ℕ) (line : List ℕ) (w : Written) → IsLineOf w line → is_others (part_of count index) line ≡ false → place count w ≡ index
own-place count index line w is own =
    eqb-true (place count w) index
    (sym (not_not (place count w == index)) ∙ ap not (sym (others-line (part_of count index) w.version w.entry is.in_range) ∙ ap (is_others (part_of count index)) (sym is.spelt) ∙ own))

-- an objection to a line of a part is one to that line of the whole
objects-whole : (count index : ℕ) (t : List Entry) (line : List ℕ) (o : Objection) → IsLawful t → is_others (part_of count index) line ≡ false
    → whole.Objects (placed_at (place_of count) index t) line o → whole.Objects t line o
objects-whole count index t line against.Memory lawful own h = h
objects-whole count index t line against.Long lawful own h = h
objects-whole count index t line against.Bytes lawful own h = h
objects-whole count index t line (against.NoEntry f) lawful own h = h
objects-whole count index t line (against.Unlawful stored rules) lawful own h =
    (h.0, h.1, h.2, h.3 ∙ reply-part count index t h.0.entry.put lawful (own-place count index line h.0 h.1 own), h.4)
objects-whole count index t line against.Repeated lawful own h =
    let at = own-place count index line h.0 h.1 own in
    let new = new-part count t h.0.entry.put in (
      h.0,
      h.1,
      h.2 ∙ reply-part count index t h.0.entry.put lawful at,
      λ is. h.3 (subst (λ (n : ℕ). repeat_of (placed_at (place_of count) n t) h.0.entry.put ≡ repeat.New) at (new.0 is)),
    )

-- a part takes its own of the lines before another part's stop
lawful-before : (part other : PartView) (input : List ℕ) (number : ℕ) (o : Objection) → (s : StopsAtLine part input number o) → GoesTo other input number
    → (it : Imported) × AreLawful other s.before it
lawful-before part other input number o s (inl all) =
    let rest = input_lines (s.line ++ s.behind) in
    let these : input_lines input ≡ s.before ++ rest = ap input_lines s.these ∙ text-front s.before (s.line ++ s.behind) s.each in
    let a = all.1 in
    let cut : a.lines ≡ s.before ++ rest = sym (text-lines a.text) ∙ these in
    lawful-first other s.before rest a.it (subst (λ (ls : List (List ℕ)). AreLawful other ls a.it) cut a.lawful)
lawful-before part other input number o s (inr later) =
    let rest = input_lines (s.line ++ s.behind) in
    let these : input_lines input ≡ s.before ++ rest = ap input_lines s.these ∙ text-front s.before (s.line ++ s.behind) s.each in
    let r = later.2 in
    let cut = ap input_lines r.these ∙ text-front r.before (r.line ++ r.behind) r.each in
    let few : length s.before ≤ length r.before = omega (arith, s.count, r.count, later.3) in
    let more = begin-others s.before rest r.before (input_lines (r.line ++ r.behind)) (sym these ∙ cut) few in
    lawful-first other s.before more.0 r.it (subst (λ (ls : List (List ℕ)). AreLawful other ls r.it) more.1 r.lawful)

-- the first line at which a part stops is that at which the whole stops
pub first-whole : (count : ℕ) (input : List ℕ) (index number : ℕ) (o : Objection) → index < count → StopsAtLine (part_of count index) input number o
    → ((other : ℕ) → other < count → GoesTo (part_of count other) input number) → whole.StopsAtLine input number o
first-whole count input index number o within s goes =
    let some : 0 < count = omega (arith, within) in
    let w = whole-by count s.before some (λ i lt. lawful-before (part_of count index) (part_of count i) input number o s (goes i lt)) in
    let own = s.lawful.own in
    let lines : map written_line own ≡ map written_line (entries_at count index w.ws) =
    sym s.lawful.these ∙ ap (own_lines (part_of count index)) w.these ∙ own-at count index w.ws w.in_range in
    let trail : s.it.trail ≡ placed_at (place_of count) index (trail_of w.ws) =
    s.lawful.are.trail
    ∙ same-trail own (entries_at count index w.ws) s.lawful.are.told (All-filter (λ x. place count x == index) IsTold w.ws w.told)
    (subst AreEntries s.lawful.are.trail s.lawful.in_range) (in_range-at count index w.ws w.in_range) lines
    ∙ trail-at count index w.ws in
    record {
      before = w.ws;
      line = s.line;
      behind = s.behind;
      lawful = w.lawful;
      in_range = w.in_range;
      told = w.told;
      these = s.these ∙ ap (λ (t : List ℕ). t ++ (s.line ++ s.behind)) (ap text_of w.these ∙ text-written w.ws);
      one = s.one;
      cut = s.cut;
      count = s.count ∙ ap (λ n. n + 1) (ap length w.these ∙ length-map w.ws written_line);
      objects = objects-whole count index (trail_of w.ws) s.line o w.lawful s.own (subst (λ (t : List Entry). whole.Objects t s.line o) trail s.objects);
    }

-- No word of a reply is left out.
use Rattle.std.proofs.Common.{◌≡◌, ℕ, List, [], ◌∷◌, length, map, inl, inr, refl, sym, ap, ◌∙◌, arith}
use Rattle.std.specs.List.{position_or_len}
use Rattle.std.proofs.lemmas.Bool.{cases_lt}
use Rattle.std.proofs.lemmas.List.{nil_from_length, take_all}
use Rattle.std.proofs.lemmas.List.Splits.{length-slice_split, slice_split_first, slice_split_none}
use Rattle.std.proofs.lemmas.List.Sums.{fails_before_first}
use Rattle.nmvs_rules.specs.declared.reply.Reply.TheVariants as replies
use Rattle.nmvs_messages.specs.Fields.{fields_in, is_space}
use Rattle.nmvs_json.specs.Replies.{Place, first_word, later_words, placed, places_of}
use Rattle.nmvs_json.specs.Laws.{AllArePlaced, EachFits}

pub all_are_placed : AllArePlaced
all_are_placed [] line same = let n = length-slice_split is_space line in absurd (omega (arith, n, same))
all_are_placed (place ∷ places) line same = elim (cases_lt (position_or_len is_space line) (length line)) [
  | inl more ↦ let cut = slice_split_first is_space line 0 more in
      let n = ap length cut in
      let rest : length places ≡ length (fields_in (later_words line)) = omega (arith, n, same) in
      ap (λ (ws : List (List ℕ)). first_word line ∷ ws) (all_are_placed places (later_words line) rest) ∙ sym cut
  | inr none ↦ let whole = slice_split_none is_space line (λ k d within. fails_before_first is_space line k d (omega (arith, none, within))) in
      let n = ap length whole in
      let last : places ≡ [] = nil_from_length places (omega (arith, n, same)) in
      ap (λ (ps : List Place). map (λ word. word.1) (placed (place ∷ ps) line)) last
      ∙ ap (λ (w : List ℕ). w ∷ []) (take_all (position_or_len is_space line) line none) ∙ sym whole
]

pub each_fits : EachFits
unfolding places_of
each_fits replies.Uploaded = (refl, refl)
each_fits (replies.Authentic batch expiry expired) = (refl, refl)
each_fits (replies.Alert cause flagged number) = (refl, refl)
each_fits (replies.StatusIs own lock onward batch expiry) = (refl, refl)
each_fits replies.NoPack = (refl, refl)
each_fits replies.Decommissioned = (refl, refl)
each_fits replies.HandedOver = (refl, refl)
each_fits replies.Reverted = (refl, refl)
each_fits (replies.LockedNow count) = (refl, refl)
each_fits replies.MarkedStolen = (refl, refl)
each_fits (replies.Shown count) = (refl, refl)
each_fits (replies.Refused refusal) = (refl, refl)

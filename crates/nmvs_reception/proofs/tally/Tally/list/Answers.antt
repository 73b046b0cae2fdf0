use Rattle.std.proofs.Common.{◌≡◌, ◌<◌, ℕ, suc, ◌+◌, arith, List, [], ◌∷◌, ◌++◌, take, length, None, Some, inl, inr, ap, ◌∙◌, sym}
use Rattle.std.specs.List.{slice_get}
use Rattle.std.proofs.lemmas.Option.{slice_get_within, slice_get_cases, get_or_from_slice_get}
use lib.Seq.{take-suc}
use Rattle.nmvs_identifier.specs.Name.{Name}
use Rattle.nmvs_reception.specs.declared.tally.Raised.{Raised}
use Rattle.nmvs_reception.proofs.tally.Tally.list.Goals as goal
use Rattle.nmvs_reception.proofs.tally.Tally.list.Goals.{in-Some+in_ok-push-in-Some, in-None}

-- one more row
take_more : {X : Type 0} (xs : List X) (i : ℕ) (x : X) → slice_get xs i ≡ Some x → take (i + 1) xs ≡ take i xs ++ x ∷ []
take_more xs i x e =
    let on : i + 1 ≡ suc i = omega arith in
    ap (λ n. take n xs) on ∙ take-suc xs i x (slice_get_within xs i x e) ∙ ap (λ y. take i xs ++ y ∷ []) (get_or_from_slice_get xs i x x e)

-- each place of a list has a row
none_behind : {X : Type 0} (xs : List X) (i : ℕ) → None ≡ slice_get xs i → i < length xs → ⊥
none_behind xs i none within = elim (slice_get_cases xs i).1 [
  | inl there ↦ let e = there.2 in absurd (cc (e, none))
  | inr past ↦ absurd (omega (arith, past.0, within))
]

pub loop-place-preserved : goal.loop-place-preserved
loop-place-preserved g c =
    let users = c.self.inside.users.entries in
    let place = c.loop-place.place in
    elim c.match-get_index.branch [
      | in-Some+in_ok-push-in-Some w ↦
          let row : Name × Raised = (w.in-Some.user.now, w.in-Some.raised.now) in
          let there : slice_get users place ≡ Some row = sym w.in-Some.ensures.entry in
          rw w.list-is (w.in_ok-push-in-Some.ensures.items ∙ ap (λ rows. rows ++ row ∷ []) c.loop-place.invariant ∙ sym (take_more users place row there))
      | in-None w ↦
          absurd (none_behind users place w.in-None.ensures.entry (omega (arith, c.loop-place-test.true, c.len-place-end.ensures.len)))
    ]

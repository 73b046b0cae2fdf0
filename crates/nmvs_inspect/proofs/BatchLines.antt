-- The lines of batches, one by one.
use Rattle.std.proofs.Common.{◌≡◌, ℕ, suc, ◌+◌, List, [], ◌∷◌, ◌++◌, take, Some, ap, ◌∙◌, arith}
use Rattle.std.specs.List.{flat_map, slice_get}
use Rattle.std.proofs.lemmas.List.{append-nil}
use Rattle.std.proofs.lemmas.List.Concat.{flat_map-append}
use Rattle.std.proofs.lemmas.Option.{slice_get_within, get_or_from_slice_get}
use lib.Seq.{take-suc}
use Rattle.nmvs_identifier.specs.Batch.{Batch}

-- the lines of one more batch
pub lines-next : (f : Batch → List ℕ) (bs : List Batch) (i : ℕ) (b : Batch) → slice_get bs i ≡ Some b → flat_map f (take (i + 1) bs) ≡ flat_map f (take i bs) ++ f b
lines-next f bs i b e =
    let on : i + 1 ≡ suc i = omega arith in
    ap (λ n. flat_map f (take n bs)) on ∙ ap (flat_map f) (take-suc bs i b (slice_get_within bs i b e) ∙ ap (λ x. take i bs ++ x ∷ []) (get_or_from_slice_get bs i b b e))
    ∙ flat_map-append f (take i bs) (b ∷ []) ∙ ap (λ (x : List ℕ). flat_map f (take i bs) ++ x) (append-nil (f b))

-- The lengths of trails, one after another.
use Rattle.std.proofs.Common.{◌≡◌, ℕ, suc, ◌+◌, ◌<◌, arith, List, [], ◌∷◌, ◌++◌, take, length, get_or, ap, ◌∙◌}
use Rattle.std.specs.List.{flat_map}
use Rattle.std.proofs.lemmas.List.{append-nil}
use Rattle.std.proofs.lemmas.List.Concat.{flat_map-append}
use lib.Seq.{take-suc}
use Rattle.nmvs_rules.specs.declared.entry.Entry.{Entry}
use Rattle.nmvs_service.specs.Announcements.{length_text}

pub lengths-next : (ts : List (List Entry)) (i : ℕ) (d : List Entry) → i < length ts
    → flat_map length_text (take (i + 1) ts) ≡ flat_map length_text (take i ts) ++ length_text (get_or ts i d)
lengths-next ts i d l =
    let on : i + 1 ≡ suc i = omega arith in
    ap (λ (n : ℕ). flat_map length_text (take n ts)) on ∙ ap (flat_map length_text) (take-suc ts i d l)
    ∙ flat_map-append length_text (take i ts) (get_or ts i d ∷ []) ∙ ap (λ (x : List ℕ). flat_map length_text (take i ts) ++ x) (append-nil (length_text (get_or ts i d)))

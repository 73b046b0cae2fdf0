-- Packs of a batch.
use Rattle.std.proofs.Common.{◌≡◌, ◌∙◌, ap, sym, refl, ℕ, ◌<◌, Bool, true, false, ◌&&◌, List, length, get_or, Option, Some, None}
use Rattle.std.specs.Option.{is_some}
use Rattle.std.proofs.lemmas.List.Folds.{list_any-from_Any}
use Rattle.nmvs_identifier.specs.ProductCode.{ProductCode}
use Rattle.nmvs_identifier.specs.Batch.{Batch}
use Rattle.nmvs_identifier.specs.declared.pack.Pack.{Pack}
use Rattle.nmvs_rules.specs.declared.entry.Entry.{Entry}
use Rattle.nmvs_rules.specs.declared.question.Question.{Question}
use Rattle.nmvs_rules.specs.declared.question.Question.TheVariants.{Upload}
use Rattle.nmvs_rules.specs.Facts.{pack_fact}
use Rattle.nmvs_rules.specs.Questions.{pack_of, names}
use Rattle.nmvs_rules.specs.Trail.{born, is_about, is_accepted, is_birth_in, is_upload, uploads_batch}
use Rattle.nmvs_rules.proofs.BirthLemmas.{is_some-known}
use Rattle.nmvs_rules.proofs.FindLemmas.{is_some-find}
use Rattle.nmvs_rules.proofs.TextLemmas.{same_pack-refl}

both : (a b : Bool) → a ≡ true → b ≡ true → (a && b) ≡ true
both true b h k = k
both false b h k = absurd (let e : false ≡ true = h in cc)

first : (a b : Bool) → (a && b) ≡ true → a ≡ true
first true b h = refl
first false b h = absurd (let e : false ≡ true = h in cc)

second : (a b : Bool) → (a && b) ≡ true → b ≡ true
second true b h = h
second false b h = absurd (let e : false ≡ true = h in cc)

-- an upload names a pack, and is about it
named : (t : List Entry) (c : ProductCode) (b : Batch) (i : ℕ) (e : Entry) (q : Question) → e.put.question ≡ q → i < length t → get_or t i e ≡ e → uploads_batch c b q ≡ true → is_accepted e ≡ true
    → is_some (pack_fact t (pack_of q)) ≡ true
named t c b i e (Upload p d x) is l at h accepted =
    let uploads = ap is_upload is in
    let about = ap (λ (r : Question). names p (pack_of r)) is ∙ same_pack-refl p in
    let passes = both (is_upload e.put.question && is_about p e) (is_accepted e) (both (is_upload e.put.question) (is_about p e) uploads about) accepted in
    is_some-known t p ∙ is_some-find (λ (e : Entry). (is_upload e.put.question && is_about p e) && is_accepted e) t ∙ list_any-from_Any (λ (e : Entry). (is_upload e.put.question && is_about p e) && is_accepted e) t (i, e, l, at, passes)
named t c b i e q is l at h accepted = absurd (let e : false ≡ true = h in cc)

-- the pack of an accepted upload of the trail is known
pub uploaded-known : (t : List Entry) (c : ProductCode) (b : Batch) (i : ℕ) (e : Entry) → i < length t → e ≡ get_or t i e → is_birth_in c b e ≡ true
    → is_some (pack_fact t (pack_of e.put.question)) ≡ true
uploaded-known t c b i e l at h =
    named t c b i e e.put.question refl l (sym at) (first (uploads_batch c b e.put.question) (is_accepted e) h) (second (uploads_batch c b e.put.question) (is_accepted e) h)

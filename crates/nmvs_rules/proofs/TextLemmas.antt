-- Texts and packs that are written alike are the same.
use Rattle.std.proofs.Common.{◌≡◌, true, refl, sym, ap, ◌∙◌}
use Rattle.std.specs.Cmp.{first_so, second_so}
use Rattle.std.specs.Cmp.Derive.{both_true}
use Rattle.std.proofs.lemmas.Slice.Eq.{bytes_eq-Decides}
use Rattle.nmvs_identifier.specs.Texts.{Text, same_text}
use Rattle.nmvs_identifier.specs.Pack.{same_pack}
use Rattle.nmvs_identifier.specs.declared.pack.Pack.{Pack}

-- the same texts have the same bytes
pub same_text-bytes : (s t : Text) → same_text s t ≡ true → s.bytes ≡ t.bytes
same_text-bytes s t same = (bytes_eq-Decides s.bytes t.bytes).0 same

-- texts with the same bytes are the same
pub same_text-from_bytes : (s t : Text) → s.bytes ≡ t.bytes → same_text s t ≡ true
same_text-from_bytes s t same = (bytes_eq-Decides s.bytes t.bytes).1 same

-- the same texts are equal
pub same_text-equal : (s t : Text) → same_text s t ≡ true → s ≡ t
same_text-equal s t same = λ i. record { bytes = same_text-bytes s t same i }

-- a text is the same as itself
pub same_text-refl : (s : Text) → same_text s s ≡ true
same_text-refl s = same_text-from_bytes s s refl

-- and the other way round
pub same_text-sym : (s t : Text) → same_text s t ≡ true → same_text t s ≡ true
same_text-sym s t same = same_text-from_bytes t s (sym (same_text-bytes s t same))

-- the same packs are equal
pub same_pack-equal : (p q : Pack) → same_pack p q ≡ true → p ≡ q
same_pack-equal p q same = λ i. record {
  code = same_text-equal p.code q.code (first_so _ _ same) i;
  serial = same_text-equal p.serial q.serial (second_so (same_text p.code q.code) _ same) i;
}

-- a pack is the same as itself
pub same_pack-refl : (p : Pack) → same_pack p p ≡ true
same_pack-refl p = both_true (same_text-refl p.code) (same_text-refl p.serial)

-- and the other way round
pub same_pack-sym : (p q : Pack) → same_pack p q ≡ true → same_pack q p ≡ true
same_pack-sym p q same = ap (λ r. same_pack r p) (sym (same_pack-equal p q same)) ∙ same_pack-refl p

-- Bytes are read as a header in one way.
use Rattle.std.proofs.Common.{◌≡◌, ◌⊎◌, ◌≤◌, ◌-◌, ◌+◌, ℕ, List, ◌∷◌, ◌++◌, length, get_or, drop, refl, sym, ap, ◌∙◌, subst, arith, inl, inr}
use Rattle.std.proofs.lemmas.Bool.{cases_lt}
use Rattle.std.proofs.lemmas.List.{append_assoc, append_cancel_left, length-append, length-drop}
use Rattle.nmvs_identifier.specs.Name.{Name}
use Rattle.nmvs_gateway.specs.declared.header.Header.{Header}
use Rattle.nmvs_gateway.specs.declared.header.Header.TheVariants as headers
use Rattle.nmvs_gateway.specs.Header.{IsOnlyValue, IsFrame, HasName, NamesVerified, IsRead, IsBegun, ReadsOver, start_of, ReadsIpv4, ReadsIpv6, ReadsHeader}
use Rattle.nmvs_gateway.proofs.TypedValues.{same_halves, only_once}
use Rattle.nmvs_gateway.proofs.Frames.{begun_start, front_of, behind_start}

-- a value about TLS has one name, and so has a content
one_verified : (tls name other : List ℕ) → NamesVerified tls name → NamesVerified tls other → name ≡ other
one_verified tls name other is is_too =
    let same : is.parts ≡ is_too.parts = tails (sym is.these ∙ is_too.these) in
    only_once is_too.parts 34 name other (subst (λ (y : List ℕ). IsOnlyValue y 34 name) same is.common_name) is_too.common_name
  where
    tails : {a b : ℕ} {p q : List ℕ} → a ∷ 0 ∷ 0 ∷ 0 ∷ 0 ∷ p ≡ b ∷ 0 ∷ 0 ∷ 0 ∷ 0 ∷ q → p ≡ q
    tails e = cc

one_name : (addresses : ℕ) (content name other : List ℕ) → HasName addresses content name → HasName addresses content other → name ≡ other
one_name addresses content name other is is_too =
    let values = (same_halves is.front is_too.front is.values is_too.values (is.addressed ∙ sym is_too.addressed) (sym is.these ∙ is_too.these)).1 in
    let tls = only_once is_too.values 32 is.tls is_too.tls (subst (λ (y : List ℕ). IsOnlyValue y 32 is.tls) values is.encrypted) is_too.encrypted in
    one_verified is_too.tls name other (subst (λ (y : List ℕ). NamesVerified y name) tls is.verified) is_too.verified

-- the bytes that a header is read from
spelled : (start : List ℕ) (addresses : ℕ) (bytes name : List ℕ) (size : ℕ) (is : IsRead start addresses bytes name size) → bytes ≡ start ++ length is.is_header.content ∷ (is.is_header.content ++ is.behind)
spelled start addresses bytes name size is =
    is.these ∙ ap (λ y. y ++ is.behind) is.is_header.frame.these ∙ append_assoc start (length is.is_header.content ∷ is.is_header.content) is.behind

-- the lemma behind_start with no more bytes
parts_at : (start bytes x y : List ℕ) (m n : ℕ) → bytes ≡ start ++ m ∷ x → bytes ≡ start ++ n ∷ y → (m ≡ n) × (x ≡ y)
parts_at start bytes x y m n e f =
    let same : m ∷ x ≡ n ∷ y = append_cancel_left start (m ∷ x) (n ∷ y) (sym e ∙ f) in
    (cc, cc)

whole_parts : (start : List ℕ) (addresses : ℕ) (bytes name other : List ℕ) (size more : ℕ) → IsRead start addresses bytes name size → IsRead start addresses bytes other more → (name ≡ other) × (size ≡ more)
whole_parts start addresses bytes name other size more is is_too =
    let parts = parts_at start bytes (is.is_header.content ++ is.behind) (is_too.is_header.content ++ is_too.behind) _ _ (spelled start addresses bytes name size is) (spelled start addresses bytes other more is_too) in
    let halves = same_halves is.is_header.content is_too.is_header.content is.behind is_too.behind parts.0 parts.1 in
    let headers_same : is.header ≡ is_too.header = is.is_header.frame.these ∙ ap (λ y. start ++ length y ∷ y) halves.0 ∙ sym is_too.is_header.frame.these in (
      one_name addresses is_too.is_header.content name other (subst (λ (y : List ℕ). HasName addresses y name) halves.0 is.is_header.names) is_too.is_header.names,
      is.sized ∙ ap length headers_same ∙ sym is_too.sized,
    )

one_begun : (start bytes : List ℕ) (missing other : ℕ) → IsBegun start bytes missing → IsBegun start bytes other → missing ≡ other
one_begun start bytes missing other is is_too =
    let below = is.least is_too.more is_too.content is_too.frame in
    let above = is_too.least is.more is.content is.frame in
    omega (arith, is.many, is_too.many)

-- a whole header is no beginning of one
not_both : (start : List ℕ) (addresses : ℕ) (bytes name : List ℕ) (size missing : ℕ) → IsRead start addresses bytes name size → IsBegun start bytes missing → ⊥
not_both start addresses bytes name size missing is begun =
    let parts = behind_start start bytes (is.is_header.content ++ is.behind) begun.more begun.content (length is.is_header.content) (spelled start addresses bytes name size is) begun.frame.these in
    let sizes = sym (length-append (is.is_header.content ++ is.behind) begun.more) ∙ ap length parts.1 in
    omega (arith, parts.0, length-append is.is_header.content is.behind, begun.some, begun.many)

-- headers with one start are the same
one_over : (start : List ℕ) (addresses : ℕ) (bytes : List ℕ) (r s : Header) → ReadsOver start addresses bytes r → ReadsOver start addresses bytes s → r ≡ s
one_over start addresses bytes (headers.Begun m) (headers.Begun n) is is_too = ap headers.Begun (one_begun start bytes m n is is_too)
one_over start addresses bytes (headers.Whole name m) (headers.Whole other n) is is_too =
    let parts = whole_parts start addresses bytes name.bytes other.bytes m n is is_too in
    λ i. headers.Whole (record { bytes = parts.0 i }) (parts.1 i)
one_over start addresses bytes headers.Broken headers.Broken is is_too = refl
one_over start addresses bytes (headers.Begun m) (headers.Whole name n) is is_too = absurd (not_both start addresses bytes name.bytes n m is_too is)
one_over start addresses bytes (headers.Whole name n) (headers.Begun m) is is_too = absurd (not_both start addresses bytes name.bytes n m is is_too)
one_over start addresses bytes (headers.Begun m) headers.Broken is is_too = absurd (is_too.not_begun is.more is.content (omega (arith, is.some, is.many)) is.frame)
one_over start addresses bytes headers.Broken (headers.Begun m) is is_too = absurd (is.not_begun is_too.more is_too.content (omega (arith, is_too.some, is_too.many)) is_too.frame)
one_over start addresses bytes (headers.Whole name n) headers.Broken is is_too = absurd (is_too.no_header is.header is.behind name.bytes is.these is.is_header)
one_over start addresses bytes headers.Broken (headers.Whole name n) is is_too = absurd (is.no_header is_too.header is_too.behind name.bytes is_too.these is_too.is_header)

-- no bytes begin with both starts
two_starts : (bytes x y : List ℕ) → bytes ≡ start_of 17 ++ x → bytes ≡ start_of 33 ++ y → ⊥
two_starts bytes x y e f =
    let same : start_of 17 ++ x ≡ start_of 33 ++ y = sym e ∙ f in
    let codes : 17 ≡ 33 = ap (λ (b : List ℕ). get_or b 13 0) same in
    omega (arith, codes)

whole_and_begun : (a b missing : ℕ) (start other bytes name : List ℕ) (size : ℕ) → ((bytes x y : List ℕ) → bytes ≡ start ++ x → bytes ≡ other ++ y → ⊥)
    → IsRead start a bytes name size → IsBegun other bytes missing → ⊥
whole_and_begun a b missing start other bytes name size apart is begun =
    apart (bytes ++ begun.more) _ _ (ap (λ y. y ++ begun.more) (spelled start a bytes name size is) ∙ append_assoc start _ begun.more) begun.frame.these

-- if a frame with either start may still come, the same number of bytes is missing
begun_short : (start bytes : List ℕ) (missing : ℕ) → length bytes ≤ length start → IsBegun start bytes missing → missing ≡ length start - length bytes + 1
begun_short start bytes missing short is =
    one_begun start bytes missing _ is (begun_start start bytes _ (front_of bytes start is.more (length is.content ∷ is.content) short is.frame.these))

begun_both : (bytes : List ℕ) (m n : ℕ) → IsBegun (start_of 17) bytes m → IsBegun (start_of 33) bytes n → m ≡ n
begun_both bytes m n is is_too = elim (cases_lt 15 (length bytes)) [
  | inl long ↦ absurd (two_starts bytes _ _
      (front_of (start_of 17) bytes (length is.content ∷ is.content) is.more (omega arith) (sym is.frame.these))
      (front_of (start_of 33) bytes (length is_too.content ∷ is_too.content) is_too.more (omega arith) (sym is_too.frame.these)))
  | inr short ↦ begun_short (start_of 17) bytes m short is ∙ sym (begun_short (start_of 33) bytes n short is_too)
]

starts_two : (bytes x y : List ℕ) → bytes ≡ start_of 33 ++ x → bytes ≡ start_of 17 ++ y → ⊥
starts_two bytes x y e f = two_starts bytes y x f e

longer : (start : List ℕ) (addresses : ℕ) (bytes more name : List ℕ) (size : ℕ) → IsRead start addresses bytes name size → IsRead start addresses (bytes ++ more) name size
longer start addresses bytes more name size is = record {
  header = is.header;
  behind = is.behind ++ more;
  these = ap (λ y. y ++ more) is.these ∙ append_assoc is.header is.behind more;
  is_header = is.is_header;
  sized = is.sized;
}

-- headers of the two families are the same too
across : (bytes : List ℕ) (r s : Header) → ReadsIpv4 bytes r → ReadsIpv6 bytes s → (r ≡ headers.Broken → ⊥) → (s ≡ headers.Broken → ⊥) → r ≡ s
across bytes (headers.Begun m) (headers.Begun n) is is_too some other = ap headers.Begun (begun_both bytes m n is is_too)
across bytes (headers.Whole name m) (headers.Whole given n) is is_too some other =
    absurd (two_starts bytes _ _ (spelled (start_of 17) 12 bytes name.bytes m is) (spelled (start_of 33) 36 bytes given.bytes n is_too))
across bytes (headers.Begun m) (headers.Whole name n) is is_too some other = absurd (whole_and_begun 36 12 m (start_of 33) (start_of 17) bytes name.bytes n starts_two is_too is)
across bytes (headers.Whole name n) (headers.Begun m) is is_too some other = absurd (whole_and_begun 12 36 m (start_of 17) (start_of 33) bytes name.bytes n two_starts is is_too)
across bytes headers.Broken s is is_too some other = absurd (some refl)
across bytes (headers.Begun m) headers.Broken is is_too some other = absurd (other refl)
across bytes (headers.Whole name n) headers.Broken is is_too some other = absurd (other refl)

-- the reading of a header, over IPv4 or over IPv6
abbrev Either : List ℕ → Header → Type 0
Either bytes r = ReadsIpv4 bytes r ⊎ ReadsIpv6 bytes r

both_some : (bytes : List ℕ) (r s : Header) → Either bytes r → Either bytes s → (r ≡ headers.Broken → ⊥) → (s ≡ headers.Broken → ⊥) → r ≡ s
both_some bytes r s (inl is) (inl is_too) some other = one_over (start_of 17) 12 bytes r s is is_too
both_some bytes r s (inr is) (inr is_too) some other = one_over (start_of 33) 36 bytes r s is is_too
both_some bytes r s (inl is) (inr is_too) some other = across bytes r s is is_too some other
both_some bytes r s (inr is) (inl is_too) some other = sym (across bytes s r is_too is other some)

one_broken : (bytes : List ℕ) (s : Header) → ReadsHeader bytes headers.Broken → Either bytes s → headers.Broken ≡ s
one_broken bytes s is (inl is_too) = one_over (start_of 17) 12 bytes headers.Broken s is.0 is_too
one_broken bytes s is (inr is_too) = one_over (start_of 33) 36 bytes headers.Broken s is.1 is_too

begun_some : (m : ℕ) → headers.Begun m ≡ headers.Broken → ⊥
begun_some m e = cc

whole_some : (name : Name) (n : ℕ) → headers.Whole name n ≡ headers.Broken → ⊥
whole_some name n e = cc

pub one_reading : (bytes : List ℕ) (r s : Header) → ReadsHeader bytes r → ReadsHeader bytes s → r ≡ s
one_reading bytes (headers.Begun m) (headers.Begun n) is is_too = both_some bytes _ _ is is_too (begun_some m) (begun_some n)
one_reading bytes (headers.Begun m) (headers.Whole name n) is is_too = both_some bytes _ _ is is_too (begun_some m) (whole_some name n)
one_reading bytes (headers.Whole name m) (headers.Begun n) is is_too = both_some bytes _ _ is is_too (whole_some name m) (begun_some n)
one_reading bytes (headers.Whole name m) (headers.Whole other n) is is_too = both_some bytes _ _ is is_too (whole_some name m) (whole_some other n)
one_reading bytes headers.Broken headers.Broken is is_too = refl
one_reading bytes headers.Broken (headers.Begun n) is is_too = one_broken bytes _ is is_too
one_reading bytes headers.Broken (headers.Whole name n) is is_too = one_broken bytes _ is is_too
one_reading bytes (headers.Begun m) headers.Broken is is_too = sym (one_broken bytes _ is_too is)
one_reading bytes (headers.Whole name m) headers.Broken is is_too = sym (one_broken bytes _ is_too is)

pub looks_not_behind : (bytes more : List ℕ) (name : Name) (size : ℕ) → ReadsHeader bytes (headers.Whole name size) → ReadsHeader (bytes ++ more) (headers.Whole name size)
looks_not_behind bytes more name size (inl is) = inl (longer (start_of 17) 12 bytes more name.bytes size is)
looks_not_behind bytes more name size (inr is) = inr (longer (start_of 33) 36 bytes more name.bytes size is)

-- with one start a header that had begun has all the bytes that were missing
ends_over : (start : List ℕ) (addresses : ℕ) (bytes more : List ℕ) (missing : ℕ) (name : List ℕ) (size : ℕ) → IsBegun start bytes missing → length more ≤ missing
    → IsRead start addresses (bytes ++ more) name size → size ≡ length (bytes ++ more)
ends_over start addresses bytes more missing name size begun few is = elim (cases_lt (length bytes) (length is.header)) [
  | inl long ↦
      let cut : is.header ≡ bytes ++ drop (length bytes) is.header = front_of bytes is.header more is.behind (omega arith) is.these in
      let needed = begun.least (drop (length bytes) is.header) is.is_header.content (subst (λ (y : List ℕ). IsFrame start y is.is_header.content) cut is.is_header.frame) in
      let all = sym (length-append bytes more) ∙ ap length is.these ∙ length-append is.header is.behind in
      let rest = length-drop (length bytes) is.header in
      is.sized ∙ omega (arith, needed, all, rest, length-append bytes more)
  | inr short ↦
      let cut : bytes ≡ is.header ++ drop (length is.header) bytes = front_of is.header bytes is.behind more short (sym is.these) in
      absurd (not_both start addresses bytes name size missing
      (record { header = is.header; behind = drop (length is.header) bytes; these = cut; is_header = is.is_header; sized = is.sized }) begun)
]

-- bytes that begin a frame with this start, and one with the other, have begun the other too
begun_too : (start other bytes more content : List ℕ) (missing : ℕ) → length start ≡ 15 → length other ≡ 15 → ((bytes x y : List ℕ) → bytes ≡ start ++ x → bytes ≡ other ++ y → ⊥)
    → IsBegun start bytes missing → IsFrame other (bytes ++ more) content → IsBegun other bytes missing
begun_too start other bytes more content missing long long_too apart begun frame = elim (cases_lt 15 (length bytes)) [
  | inl far ↦ absurd (apart bytes _ _
      (front_of start bytes (length begun.content ∷ begun.content) begun.more (omega arith) (sym begun.frame.these))
      (front_of other bytes (length content ∷ content) more (omega arith) (sym frame.these)))
  | inr near ↦
      let here = begun_short start bytes missing (omega arith) begun in
      let there = begun_start other bytes _ (front_of bytes other more (length content ∷ content) (omega arith) frame.these) in
      let same : length other - length bytes + 1 ≡ missing = omega (arith, here, long, long_too) in
      subst (λ (n : ℕ). IsBegun other bytes n) same there
]

-- and a header with the other start has them too
ends_across : (start other : List ℕ) (a : ℕ) (bytes more : List ℕ) (missing : ℕ) (name : List ℕ) (size : ℕ) → length start ≡ 15 → length other ≡ 15
    → ((bytes x y : List ℕ) → bytes ≡ start ++ x → bytes ≡ other ++ y → ⊥) → IsBegun start bytes missing → length more ≤ missing
    → IsRead other a (bytes ++ more) name size → size ≡ length (bytes ++ more)
ends_across start other a bytes more missing name size long long_too apart begun few is = elim (cases_lt (length bytes) (length is.header)) [
  | inl far ↦
      let cut : is.header ≡ bytes ++ drop (length bytes) is.header = front_of bytes is.header more is.behind (omega arith) is.these in
      let too = begun_too start other bytes _ is.is_header.content missing long long_too apart begun (subst (λ (y : List ℕ). IsFrame other y is.is_header.content) cut is.is_header.frame) in
      ends_over other a bytes more missing name size too few is
  | inr near ↦
      let cut : bytes ≡ is.header ++ drop (length is.header) bytes = front_of is.header bytes is.behind more near (sym is.these) in
      let read : IsRead other a bytes name size = record { header = is.header; behind = drop (length is.header) bytes; these = cut; is_header = is.is_header; sized = is.sized } in
      absurd (apart (bytes ++ begun.more) _ _ begun.frame.these (ap (λ y. y ++ begun.more) (spelled other a bytes name size read) ∙ append_assoc other _ begun.more))
]

pub ends_there : (bytes more : List ℕ) (missing : ℕ) (name : Name) (size : ℕ) → ReadsHeader bytes (headers.Begun missing) → length more ≤ missing
    → ReadsHeader (bytes ++ more) (headers.Whole name size) → size ≡ length (bytes ++ more)
ends_there bytes more missing name size (inl begun) few (inl is) = ends_over (start_of 17) 12 bytes more missing name.bytes size begun few is
ends_there bytes more missing name size (inr begun) few (inr is) = ends_over (start_of 33) 36 bytes more missing name.bytes size begun few is
ends_there bytes more missing name size (inl begun) few (inr is) = ends_across (start_of 17) (start_of 33) 36 bytes more missing name.bytes size refl refl two_starts begun few is
ends_there bytes more missing name size (inr begun) few (inl is) = ends_across (start_of 33) (start_of 17) 12 bytes more missing name.bytes size refl refl starts_two begun few is

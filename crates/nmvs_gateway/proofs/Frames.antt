-- Frames, and their beginnings.
use Rattle.std.proofs.Common.{◌≡◌, ◌≢◌, ◌<◌, ◌≤◌, ◌-◌, ◌+◌, ℕ, List, [], ◌∷◌, ◌++◌, length, get_or, take, drop, replicate, refl, sym, ap, ◌∙◌, subst, arith, inl, inr}
use Rattle.std.proofs.lemmas.List.{append-nil, append_assoc, append_cancel_left, length-append, length-replicate, take-append-drop, take_at, take_all, take-append-le, get_or-append-add}
use Rattle.std.proofs.lemmas.Bool.{cases_lt}
use Rattle.nmvs_gateway.proofs.TypedValues.{same_halves}
use Rattle.nmvs_gateway.specs.Header.{HasName, IsRead, IsBegun, IsBroken}

-- a beginning of the start
pub begun_start : (start bytes more : List ℕ) → start ≡ bytes ++ more → IsBegun start bytes (length start - length bytes + 1)
begun_start start bytes more e =
    let lengths : length start ≡ length bytes + length more = ap length e ∙ length-append bytes more in
    record {
      some = omega arith;
      more = more ++ 0 ∷ [];
      content = [];
      frame = record { these = sym (append_assoc bytes more (0 ∷ [])) ∙ ap (λ y. y ++ 0 ∷ []) (sym e); short = omega arith };
      many = length-append more (0 ∷ []) ∙ omega arith;
      least = λ others content frame.
          let sizes = sym (length-append bytes others) ∙ ap length frame.these ∙ length-append start (length content ∷ content) in
          omega arith;
    }

-- the whole of it
pub begun_whole_start : (start bytes : List ℕ) → bytes ≡ start → IsBegun start bytes 1
begun_whole_start start bytes e =
    let one : length start - length bytes + 1 ≡ 1 = omega (arith, ap length e) in
    subst (λ (n : ℕ). IsBegun start bytes n) one (begun_start start bytes [] (sym e ∙ sym (append-nil bytes)))

-- the front of a list that is as long as one of its beginnings
pub front_of : (p q r s : List ℕ) → length p ≤ length q → p ++ r ≡ q ++ s → q ≡ p ++ drop (length p) q
front_of p q r s short e =
    sym (take-append-drop (length p) q)
    ∙ ap (λ y. y ++ drop (length p) q) (sym (take-append-le (length p) q s short) ∙ ap (take (length p)) (sym e) ∙ take_at p r (length p) refl)

-- bytes that are no beginning of the start, and do not begin with it
pub no_start : (start bytes : List ℕ) (addresses : ℕ) → ((rest : List ℕ) → bytes ≢ start ++ rest) → ((rest : List ℕ) → start ≢ bytes ++ rest) → IsBroken start addresses bytes
no_start start bytes addresses not_behind not_before = record {
  no_header = λ header behind name e is.
      not_behind _ (e ∙ ap (λ y. y ++ behind) is.frame.these ∙ append_assoc start (length is.content ∷ is.content) behind);
  not_begun = λ more content some frame.
      elim (cases_lt (length bytes) (length start)) [
        | inl short ↦ not_before _ (front_of bytes start more (length content ∷ content) (omega arith) frame.these)
        | inr long ↦ not_behind _ (front_of start bytes (length content ∷ content) more long (sym frame.these))
      ];
}

-- a list of one byte or more
pub first_and_rest : (x : List ℕ) → 0 < length x → x ≡ get_or x 0 0 ∷ take (length x - 1) (drop 1 x)
first_and_rest [] some = absurd (omega (arith, some))
first_and_rest (b ∷ bs) some = λ i. b ∷ sym (take_all (length (b ∷ bs) - 1) bs (omega arith)) i

-- bytes that go on after the start, with the low byte of the length first
pub behind_length : (start bytes x : List ℕ) (size : ℕ) → bytes ≡ start ++ x → 0 < length x → size ≡ get_or x 0 0 → bytes ≡ start ++ size ∷ take (length x - 1) (drop 1 x)
behind_length start bytes x size these some first =
    these ∙ ap (λ y. start ++ y) (first_and_rest x some) ∙ ap (λ n. start ++ n ∷ take (length x - 1) (drop 1 x)) (sym first)

-- which is a byte
pub size_fits : (start bytes x : List ℕ) (size : ℕ) → bytes ≡ start ++ x → size ≡ get_or x 0 0 → ((i : ℕ) → get_or bytes i 0 < 256) → size < 256
size_fits start bytes x size these first fits =
    let there : get_or bytes (length start + 0) 0 ≡ get_or x 0 0 = ap (λ y. get_or y (length start + 0) 0) these ∙ get_or-append-add start x 0 0 in
    omega (arith, fits (length start + 0), there, first)

-- the bytes after the start of a frame that goes on these bytes
pub behind_start : (start bytes rest more content : List ℕ) (size : ℕ) → bytes ≡ start ++ size ∷ rest → bytes ++ more ≡ start ++ length content ∷ content → (size ≡ length content) × (rest ++ more ≡ content)
behind_start start bytes rest more content size these frame =
    let same : size ∷ (rest ++ more) ≡ length content ∷ content =
    append_cancel_left start _ _ (sym (append_assoc start (size ∷ rest) more) ∙ ap (λ y. y ++ more) (sym these) ∙ frame) in
    (cc, cc)

-- a start, and fewer bytes than the content after it has
pub begun_content : (start bytes rest : List ℕ) (size : ℕ) → bytes ≡ start ++ size ∷ rest → length rest < size → size < 256 → IsBegun start bytes (size - length rest)
begun_content start bytes rest size these short fits =
    let more : List ℕ = replicate (size - length rest) 0 in
    let whole : length (rest ++ more) ≡ size = length-append rest more ∙ ap (λ n. length rest + n) (length-replicate (size - length rest) 0) ∙ omega arith in
    record {
      some = omega arith;
      more = more;
      content = rest ++ more;
      frame = record {
        these = ap (λ y. y ++ more) these ∙ append_assoc start (size ∷ rest) more ∙ ap (λ n. start ++ n ∷ (rest ++ more)) (sym whole);
        short = omega (arith, whole);
      };
      many = length-replicate (size - length rest) 0;
      least = λ others content frame.
          let parts = behind_start start bytes rest others content size these frame.these in
          let sizes = sym (length-append rest others) ∙ ap length parts.1 in
          omega (arith, parts.0);
    }

-- the content, and the bytes after it
pub cut_content : (start bytes rest content behind : List ℕ) (size : ℕ) → bytes ≡ start ++ size ∷ rest → content ≡ take size rest → behind ≡ drop size rest → bytes ≡ start ++ size ∷ (content ++ behind)
cut_content start bytes rest content behind size these front back =
    these ∙ ap (λ y. start ++ size ∷ y) (sym (take-append-drop size rest) ∙ (λ i. sym front i ++ sym back i))

-- a whole frame with a name
pub whole_header : (start bytes content behind name : List ℕ) (size addresses : ℕ) → bytes ≡ start ++ size ∷ (content ++ behind) → length content ≡ size → size < 256
    → HasName addresses content name → IsRead start addresses bytes name (length bytes - length behind)
whole_header start bytes content behind name size addresses these long fits names =
    let cut : bytes ≡ (start ++ size ∷ content) ++ behind = these ∙ sym (append_assoc start (size ∷ content) behind) in
    record {
      header = start ++ size ∷ content;
      behind = behind;
      these = cut;
      is_header = record {
        content = content;
        frame = record { these = ap (λ n. start ++ n ∷ content) (sym long); short = omega arith };
        names = names;
      };
      sized = let sizes = ap length cut ∙ length-append (start ++ size ∷ content) behind in omega arith;
    }

-- a whole frame without one
pub nameless : (start bytes content behind : List ℕ) (size addresses : ℕ) → bytes ≡ start ++ size ∷ (content ++ behind) → length content ≡ size
    → ((name : List ℕ) → HasName addresses content name → ⊥) → IsBroken start addresses bytes
nameless start bytes content behind size addresses these long none = record {
  no_header = λ header after name e is.
      let same : size ∷ (content ++ behind) ≡ length is.content ∷ (is.content ++ after) =
      append_cancel_left start _ _ (sym these ∙ e ∙ ap (λ y. y ++ after) is.frame.these ∙ append_assoc start (length is.content ∷ is.content) after) in
      let sizes : size ≡ length is.content = cc in
      let tails : content ++ behind ≡ is.content ++ after = cc in
      let halves = same_halves content is.content behind after (long ∙ sizes) tails in
      none name (subst (λ (y : List ℕ). HasName addresses y name) (sym halves.0) is.names);
  not_begun = λ more other some frame.
      let parts = behind_start start bytes (content ++ behind) more other size these frame.these in
      let sizes = sym (length-append (content ++ behind) more) ∙ ap length parts.1 in
      omega (arith, parts.0, length-append content behind);
}

-- A line of an act has no LF.
use Rattle.std.proofs.Common.{◌≡◌, ◌<◌, ◌^◌, ◌+◌, ◌%◌, ◌==◌, ◌&&◌, ◌||◌, not, ℕ, Bool, true, false, cond, nat_le, List, [], ◌∷◌, ◌++◌, length, decimal, codes, Option, Some, None, refl, ◌∙◌, arith}
use Rattle.std.specs.List.{flat_map, list_all, AllByRecursion}
use Rattle.std.specs.Char.{is_ascii_digit}
use Rattle.std.proofs.lemmas.Bool.{and_parts, leb-true}
use Rattle.std.proofs.lemmas.Bool.Decides.{nat_tests}
use Rattle.std.proofs.lemmas.Fmt.{decimal_by_steps}
use Rattle.std.proofs.lemmas.List.Folds.{list_all-append}
use Rattle.nmvs_identifier.specs.Characters.{is_name_character}
use Rattle.nmvs_identifier.specs.Moment.{last_moment}
use Rattle.nmvs_identifier.specs.Name.{begins_alphanumeric, has_name_characters, is_name}
use Rattle.nmvs_identifier.specs.ProductCode.{is_checked, is_product_code}
use Rattle.nmvs_identifier.specs.Tag.{Tag, longest_tag}
use Rattle.nmvs_identifier.specs.Texts.{longest_text}
use Rattle.nmvs_rules.specs.declared.role.Role.{Role}
use Rattle.nmvs_rules.specs.declared.role.Role.TheVariants as role
use Rattle.nmvs_rules.specs.Entries.{is_actor, is_tag_or_none}
use Rattle.nmvs_words.specs.Words.{role_word}
use Rattle.nmvs_cases.specs.declared.act.Act.{Act}
use Rattle.nmvs_cases.specs.declared.act.Act.TheVariants.{Take, Leave, Note, Close, Confirm, Inform, Reopen}
use Rattle.nmvs_cases.specs.declared.act.Verdict.TheVariants.{Technical, Procedural, Market}
use Rattle.nmvs_cases.specs.declared.act.Whom.TheVariants as whom
use Rattle.nmvs_cases.specs.declared.author.Author.{Author}
use Rattle.nmvs_cases.specs.declared.author.Author.TheVariants.{Officer, User}
use Rattle.nmvs_cases.specs.declared.hint.Hint.TheVariants.{Late, Caps, Layout, NoCode, Own, House}
use Rattle.nmvs_cases.specs.declared.range.Hinted.{Hinted}
use Rattle.nmvs_cases.specs.declared.range.Hinted.TheVariants.{Any, Only}
use Rattle.nmvs_cases.specs.ActWords.{act_word}
use Rattle.nmvs_cases.specs.Authors.{author_authorisation, author_premises, author_role, author_user, is_author}
use Rattle.nmvs_cases.specs.CaseLines.{act_text, array, case_text, escaped, key_items, led, marked, quoted, range_text}
use Rattle.nmvs_cases.specs.Hints.{hinted_word}
use Rattle.nmvs_cases.specs.Laws.{LinesHaveNoLf}
use Rattle.nmvs_cases.specs.Texts.{is_no_control, lacks_later_controls}
use Rattle.nmvs_cases.proofs.KeyLemmas.{lacks-by}
use Rattle.nmvs_cases.proofs.PieceLemmas.{lacks}

abbrev IsClean : List ℕ → Type 0
IsClean t = lacks 10 t ≡ true

both : (xs ys : List ℕ) → IsClean xs → IsClean ys → IsClean (xs ++ ys)
both xs ys p q = list_all-append (λ b. not (b == 10)) xs ys ∙ (λ i. p i && q i)

clean-marked : (t : List ℕ) → IsClean t → IsClean (marked t)
clean-marked t h = both t (34 ∷ []) h refl

clean-led : (xs : List (List ℕ)) → AllByRecursion IsClean xs → IsClean (led xs)
clean-led [] h = refl
clean-led (x ∷ xs) h = both x (led xs) h.0 (clean-led xs h.1)

clean-array : (x : List ℕ) (xs : List (List ℕ)) → IsClean x → AllByRecursion IsClean xs → IsClean (array x xs)
clean-array x xs p q = both x (led xs ++ 93 ∷ []) p (both (led xs) (93 ∷ []) (clean-led xs q) refl)

clean-digit : (n : ℕ) → n < 10 → not ((48 + n) == 10) ≡ true
clean-digit n small = grind (arith, nat_tests)

clean-number : (n : ℕ) → n < 2 ^ 64 → IsClean (decimal n)
clean-number n small =
    decimal_by_steps (λ m ds. IsClean ds) (λ m few. λ i. clean-digit m few i && true) (λ m ds more h. both ds ((48 + m % 10) ∷ []) h (λ i. clean-digit (m % 10) (omega arith) i && true)) n small

clean-characters : (t : List ℕ) → has_name_characters t ≡ true → IsClean t
clean-characters t is = lacks-by is_name_character 10 (λ h. cc h) t (and_parts (begins_alphanumeric t) (list_all is_name_character t) is).1

clean-name : (t : List ℕ) → is_name t ≡ true → IsClean t
clean-name t is = clean-characters t (and_parts (nat_le 1 (length t) && nat_le (length t) longest_text) (has_name_characters t) is).1

clean-role : (r : Role) → IsClean (role_word r)
clean-role role.Holder = refl
clean-role role.Manufacturer = refl
clean-role role.Wholesaler = refl
clean-role role.Pharmacy = refl
clean-role role.Authority = refl

record AreClean (a : Author) : Type 0 where
  user : IsClean (author_user a).bytes
  role : IsClean (author_role a)
  authorisation : IsClean (author_authorisation a)
  premises : IsClean (author_premises a)

clean-author : (a : Author) → is_author a ≡ true → AreClean a
clean-author (Officer n) is = record { user = clean-name n.bytes is; role = refl; authorisation = refl; premises = refl }
clean-author (User n actor) is =
    let parts = and_parts (is_name n.bytes) (is_actor actor) is in
    let names = and_parts (is_name actor.authorisation.bytes) (is_name actor.premises.bytes) parts.1 in
    record { user = clean-name n.bytes parts.0; role = clean-role actor.role; authorisation = clean-name actor.authorisation.bytes names.0; premises = clean-name actor.premises.bytes names.1 }

clean-code : (t : List ℕ) → is_product_code t ≡ true → IsClean t
clean-code t is =
    let outer = and_parts ((length t == 14) && list_all is_ascii_digit t) (is_checked t) is in
    lacks-by is_ascii_digit 10 (λ h. cc h) t (and_parts (length t == 14) (list_all is_ascii_digit t) outer.0).1

clean-hint : (h : Hinted) → IsClean (hinted_word h)
clean-hint Any = refl
clean-hint (Only None) = refl
clean-hint (Only (Some Late)) = refl
clean-hint (Only (Some Caps)) = refl
clean-hint (Only (Some Layout)) = refl
clean-hint (Only (Some NoCode)) = refl
clean-hint (Only (Some Own)) = refl
clean-hint (Only (Some House)) = refl

clean-escaped : (t : List ℕ) → IsClean t → IsClean (flat_map escaped t)
clean-escaped [] h = refl
clean-escaped (x ∷ t) h =
    let parts = and_parts (not (x == 10)) (lacks 10 t) h in
    both (escaped x) (flat_map escaped t) (one ((x == 34) || (x == 92)) parts.0) (clean-escaped t parts.1)
  where
    one : (b : Bool) → not (x == 10) ≡ true → IsClean (cond b (92 ∷ x ∷ []) (x ∷ []))
    one true k = λ i. k i && true
    one false k = λ i. k i && true

clean-quoted : (t : List ℕ) → IsClean t → IsClean (quoted t)
clean-quoted t h = clean-marked (flat_map escaped t) (clean-escaped t h)

clean-act : (a : Act) (t : List ℕ) → IsClean t → IsClean (act_text a t)
clean-act Take t h = refl
clean-act Leave t h = refl
clean-act Note t h = clean-array (marked (act_word Note)) (quoted t ∷ []) refl (clean-quoted t h, tt)
clean-act (Close Technical) t h = clean-array (marked (act_word (Close Technical))) (marked (codes "TECHNICAL") ∷ quoted t ∷ []) refl (refl, (clean-quoted t h, tt))
clean-act (Close Procedural) t h = clean-array (marked (act_word (Close Procedural))) (marked (codes "PROCEDURAL") ∷ quoted t ∷ []) refl (refl, (clean-quoted t h, tt))
clean-act (Close Market) t h = clean-array (marked (act_word (Close Market))) (marked (codes "MARKET") ∷ quoted t ∷ []) refl (refl, (clean-quoted t h, tt))
clean-act Confirm t h = clean-array (marked (act_word Confirm)) (quoted t ∷ []) refl (clean-quoted t h, tt)
clean-act (Inform whom.Authority) t h = clean-array (marked (act_word (Inform whom.Authority))) (marked (codes "AUTHORITY") ∷ quoted t ∷ []) refl (refl, (clean-quoted t h, tt))
clean-act (Inform whom.Agency) t h = clean-array (marked (act_word (Inform whom.Agency))) (marked (codes "EMA") ∷ quoted t ∷ []) refl (refl, (clean-quoted t h, tt))
clean-act (Inform whom.Commission) t h = clean-array (marked (act_word (Inform whom.Commission))) (marked (codes "COMMISSION") ∷ quoted t ∷ []) refl (refl, (clean-quoted t h, tt))
clean-act (Inform whom.Holder) t h = clean-array (marked (act_word (Inform whom.Holder))) (marked (codes "HOLDER") ∷ quoted t ∷ []) refl (refl, (clean-quoted t h, tt))
clean-act Reopen t h = clean-array (marked (act_word Reopen)) (quoted t ∷ []) refl (clean-quoted t h, tt)

clean-key : (k : Option Tag) → is_tag_or_none k ≡ true → AllByRecursion IsClean (key_items k)
clean-key None is = tt
clean-key (Some g) is = (clean-marked g.bytes (clean-characters g.bytes (and_parts (nat_le 1 (length g.bytes) && nat_le (length g.bytes) longest_tag) (has_name_characters g.bytes) is).1), tt)

pub no-lf : LinesHaveNoLf
unfolding case_text
no-lf w h =
    let author = clean-author w.line.author h.author in
    let late = leb-true w.line.moment last_moment h.moment in
    let controls = and_parts (nat_le (length w.text.bytes) 400) (list_all is_no_control w.text.bytes && lacks_later_controls w.text.bytes) h.text in
    let text = lacks-by is_no_control 10 (λ e. cc e) w.text.bytes (and_parts (list_all is_no_control w.text.bytes) (lacks_later_controls w.text.bytes) controls.1).0 in
    let range = clean-array (marked w.line.range.code.bytes) (decimal w.line.range.first ∷ decimal w.line.range.last ∷ marked (hinted_word w.line.range.hinted) ∷ [])
    (clean-marked w.line.range.code.bytes (clean-code w.line.range.code.bytes h.code))
    (clean-number w.line.range.first h.first, (clean-number w.line.range.last h.last, (clean-marked (hinted_word w.line.range.hinted) (clean-hint w.line.range.hinted), tt))) in
    clean-array (codes "1")
    (decimal w.line.at ∷ decimal w.line.moment ∷ marked (author_user w.line.author).bytes ∷ marked (author_role w.line.author) ∷ marked (author_authorisation w.line.author) ∷ marked (author_premises w.line.author) ∷ range_text w.line.range ∷ act_text w.line.act w.text.bytes ∷ key_items w.key)
    refl
    (clean-number w.line.at h.at, (clean-number w.line.moment (omega (arith, late)), (clean-marked (author_user w.line.author).bytes author.user, (clean-marked (author_role w.line.author) author.role, (clean-marked (author_authorisation w.line.author) author.authorisation, (clean-marked (author_premises w.line.author) author.premises, (range, (clean-act w.line.act w.text.bytes text, clean-key w.key h.key))))))))

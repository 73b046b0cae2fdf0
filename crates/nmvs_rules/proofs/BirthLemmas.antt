-- Births of packs: known packs, and one accepted upload for each.
use Rattle.std.proofs.Common.{◌≡◌, ℕ, ◌+◌, Bool, true, false, cond, List, [], ◌∷◌, ◌++◌, Option, Some, None, refl, sym, ap, ◌∙◌, arith}
use Rattle.std.specs.Cmp.{first_so}
use Rattle.std.specs.List.{count_by}
use Rattle.std.specs.Option.{is_some, option_or, unwrap_or}
use Rattle.nmvs_identifier.specs.declared.pack.Pack.{Pack}
use Rattle.nmvs_rules.specs.declared.question.Question.{Question}
use Rattle.nmvs_rules.specs.declared.question.Question.TheVariants.{Upload}
use Rattle.nmvs_rules.specs.declared.entry.Entry.{Entry}
use Rattle.nmvs_rules.specs.Trail.{born, mark, known, known_from, known_at, is_upload}
use Rattle.nmvs_rules.specs.Rules.{reply_of, IsLawful}
use Rattle.nmvs_rules.specs.Operations.{uploads}
use Rattle.nmvs_rules.proofs.Accepted.{accepted_upload, uploads-is}
use Rattle.nmvs_rules.proofs.FindLemmas.{find-passes}
use Rattle.nmvs_rules.proofs.PushLemmas.{born-push, count_by-push}
use Rattle.nmvs_rules.proofs.LawfulLemmas.{IsLawful-keeps}
use Rattle.nmvs_rules.proofs.ReplyLemmas.{accepted_upload-tells}

is_some-known_at : (t : List Entry) (p : Pack) (m : Entry) (q : Question) → is_upload q ≡ true → is_some (known_at t p m q) ≡ true
is_some-known_at t p m (Upload r b x) h = refl
is_some-known_at t p m q h = cc

is_some-known_from : (t : List Entry) (p : Pack) (o : Option Entry) → born t p ≡ o → is_some (known_from t p o) ≡ is_some o
is_some-known_from t p None h = refl
is_some-known_from t p (Some u) h =
    is_some-known_at t p (unwrap_or (mark t p) u) u.put.question (first_so _ _ (first_so _ _ (find-passes (accepted_upload p) t u h)))

-- a pack is known exactly if it was uploaded
pub is_some-known : (t : List Entry) (p : Pack) → is_some (known t p) ≡ is_some (born t p)
is_some-known t p = is_some-known_from t p (born t p) refl

births-more : (o : Option Entry) (b : Bool) (e : Entry) (n m : ℕ) → (b ≡ true → is_some o ≡ false) → n ≡ cond (is_some o) 1 0 → m ≡ n + cond b 1 0 → m ≡ cond (is_some (option_or o (cond b (Some e) None))) 1 0
births-more None true e n m fresh h k = omega arith
births-more None false e n m fresh h k = omega arith
births-more (Some u) true e n m fresh h k = let wrong = fresh refl in cc
births-more (Some u) false e n m fresh h k = omega arith

-- in a lawful trail a pack has one accepted upload if there is a first one
births-exact : (t : List Entry) (p : Pack) → IsLawful t → count_by (accepted_upload p) t ≡ cond (is_some (born t p)) 1 0
births-exact t p lawful = IsLawful-keeps P step refl t lawful
  where
    P : List Entry → Type 0
    P u = count_by (accepted_upload p) u ≡ cond (is_some (born u p)) 1 0

    step : (u : List Entry) (e : Entry) → P u → e.reply ≡ reply_of u e.put → P (u ++ e ∷ [])
    step u e h is =
        births-more (born u p) (accepted_upload p e) e _ _ (λ b. sym (is_some-known u p) ∙ accepted_upload-tells u e p is b) h (count_by-push (accepted_upload p) u e)
        ∙ ap (λ o. cond (is_some o) 1 0) (sym (born-push u e p))

-- in a lawful trail a pack has one accepted upload if it is known, and else none
pub births-known : (t : List Entry) (p : Pack) → IsLawful t → count_by (accepted_upload p) t ≡ cond (is_some (known t p)) 1 0
births-known t p lawful = births-exact t p lawful ∙ ap (λ b. cond b 1 0) (sym (is_some-known t p))

-- a known pack has one accepted upload, an unknown one none
pub uploads-known : (t : List Entry) (p : Pack) → IsLawful t → count_by (uploads p) t ≡ cond (is_some (known t p)) 1 0
uploads-known t p lawful = (λ i. count_by (λ e. uploads-is p e i) t) ∙ births-known t p lawful

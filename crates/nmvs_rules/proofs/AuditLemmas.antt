-- The entries that an audit shows.
use Rattle.std.proofs.Common.{◌≡◌, ◌≢◌, true, false, cond, List, [], length, refl, sym, ap, ◌∙◌}
use Rattle.std.specs.Prelude.{filter}
use Rattle.std.proofs.lemmas.List.Sums.{length-filter}
use Rattle.nmvs_identifier.specs.declared.pack.Pack.{Pack}
use Rattle.nmvs_rules.specs.declared.entry.Entry.{Entry}
use Rattle.nmvs_rules.specs.declared.put.Put.{Put}
use Rattle.nmvs_rules.specs.declared.question.Question.{Question}
use Rattle.nmvs_rules.specs.declared.question.Question.TheVariants.{OfPack}
use Rattle.nmvs_rules.specs.declared.pack_question.PackQuestion.TheVariants.{Audit}
use Rattle.nmvs_rules.specs.declared.refusal.Refusal.TheVariants as refusal
use Rattle.nmvs_rules.specs.declared.reply.Reply.TheVariants as reply
use Rattle.nmvs_rules.specs.declared.role.Role.{Role}
use Rattle.nmvs_rules.specs.Questions.{may_ask}
use Rattle.nmvs_rules.specs.Trail.{is_about, about_of}
use Rattle.nmvs_rules.specs.Rules.{reply_of, shown_of, shown_to}

-- an audit by a user who may ask it shows the entries about its pack
pub shown-audit : (t : List Entry) (q : Put) (p : Pack) → q.question ≡ OfPack Audit p → may_ask q.actor.role q.question ≡ true → shown_of t q ≡ filter (is_about p) t
shown-audit t q p is may =
    ap (shown_to t q.actor.role) is
    ∙ ap (λ b. cond b (filter (is_about p) t) []) (ap (may_ask q.actor.role) (sym is) ∙ may)

-- and its reply counts them
pub shown-counted : (t : List Entry) (q : Put) (p : Pack) → q.question ≡ OfPack Audit p → may_ask q.actor.role q.question ≡ true → reply_of t q ≡ reply.Shown (length (shown_of t q))
shown-counted t q p is may =
    let asked : Put = record q { question = OfPack Audit p } in
    let same : q ≡ asked = λ i. record q { question = is i } in
    ap (reply_of t) same
    ∙ ap (λ b. cond b (reply.Shown (about_of t p)) (reply.Refused refusal.Role)) (ap (may_ask q.actor.role) (sym is) ∙ may)
    ∙ ap reply.Shown (sym (ap length (shown-audit t q p is may) ∙ length-filter (is_about p) t))

-- a question of a user who may not ask it shows nothing
pub shown-refused : (t : List Entry) (q : Put) → may_ask q.actor.role q.question ≡ false → shown_of t q ≡ []
shown-refused t q = by q.actor.role q.question
  where
    by : (r : Role) (asked : Question) → may_ask r asked ≡ false → shown_to t r asked ≡ []
    by r (OfPack Audit p) may = ap (λ b. cond b (filter (is_about p) t) []) may
    by r asked may = refl

-- no other question shows anything
pub shown-others : (t : List Entry) (q : Put) → ((p : Pack) → q.question ≢ OfPack Audit p) → shown_of t q ≡ []
shown-others t q = by q.question
  where
    by : (asked : Question) → ((p : Pack) → asked ≢ OfPack Audit p) → shown_to t q.actor.role asked ≡ []
    by (OfPack Audit p) other = absurd (other p refl)
    by asked other = refl

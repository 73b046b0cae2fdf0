use Rattle.std.proofs.Common.{◌∙◌, ℕ, List, All, ap, sym, subst, length, arith}
use Rattle.std.proofs.lemmas.List.{length-map}
use Rattle.nmvs_rules.specs.declared.entry.Entry.{Entry}
use Rattle.nmvs_desk.specs.Opening.{IsNew}
use Rattle.nmvs_desk.specs.Views.{LockedView}
use Rattle.nmvs_desk.proofs.Opened.{few, numbered, opened}
use Rattle.nmvs_desk.proofs.repository.Repository.open.Goals as goal

pub lock_all-requires-clause-few : goal.lock_all-requires-clause-few
lock_all-requires-clause-few g c =
    few _ g.H.Histories.shards _ c.give_tokens.new.shards.items c.in_ok-sets.ensures.given (omega (arith, c.keep_all.ensures.count.1, c.requires.named.0))

pub lock_all-requires-clause-opened : goal.lock_all-requires-clause-opened
lock_all-requires-clause-opened g c =
    let h = g.H.Histories in
    opened _ h.shards h.opening c.give_tokens.new.shards.items c.in_ok-sets.ensures.given h.clerks (omega (arith, c.len-count.ensures, c.requires.named.1, c.requires.few))

pub invariant_of-repository : goal.invariant_of-repository
invariant_of-repository g c =
    let named = c.requires.named in
    let given = c.in_ok-sets.ensures.given in
    let locked = c.give_tokens.new.shards.items in (
      ap length c.lock_all.ensures ∙ length-map locked (λ (x : LockedView). x.index) ∙ given.length,
      omega (arith, c.keep_all.ensures.count.0, named.0),
      omega (arith, c.keep_all.ensures.count.1, named.0),
      c.len-count.ensures ∙ sym named.1,
      omega (arith, c.requires.few, named.1),
      rw c.lock_all.ensures (numbered _ _ _ locked given),
    )

pub returns-clause-shards : goal.returns-clause-shards
returns-clause-shards g c =
    let given = c.in_ok-sets.ensures.given in
    let locked = c.give_tokens.new.shards.items in
    ap length c.lock_all.ensures ∙ length-map locked (λ (x : LockedView). x.index) ∙ given.length ∙ c.requires.named.0

pub returns-clause-new : goal.returns-clause-new
returns-clause-new g c =
    let named = c.requires.named in
    let P : ℕ × (ℕ → List Entry) → Type 0 = λ p. All (IsNew p.0 p.1) c.clerks_over.new.clerks.items in
    subst P (λ i. (named.0 i, λ n. named.2 n i)) c.clerks_over.ensures.new

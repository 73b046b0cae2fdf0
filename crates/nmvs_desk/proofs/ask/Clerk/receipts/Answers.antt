use Rattle.std.proofs.Common.{◌≡◌, ◌∙◌, ◌<◌, ℕ, List, sym, ap, subst}
use Rattle.std.specs.Prelude.{Some, slice_get}
use Rattle.nmvs_desk.specs.declared.ask.Receipt.{Receipt}
use Rattle.nmvs_rules.specs.declared.entry.Entry.{Entry}
use Rattle.nmvs_rules.specs.Entries.{AreEntries}
use Rattle.nmvs_rules.specs.Rules.{IsLawful}
use Rattle.nmvs_desk.specs.Placing.{IsPartOf}
use Rattle.nmvs_desk.specs.Settlement.{row, at, AreOwn}
use Rattle.nmvs_desk.specs.Views.{ClerkView}
use Rattle.nmvs_desk.proofs.Clerks.{stand, own, lawful}
use Rattle.nmvs_desk.proofs.ask.Clerk.receipts.Goals as goal

pub returns-clause-stand : goal.returns-clause-stand
returns-clause-stand g c =
    let h = g.H.Histories in
    let same = ap (λ (v : ClerkView). v.sights) c.self.view_is in
    λ n r there.
    subst (λ (s : List (List Entry)). at s r.shard r.place ≡ Some r.entry) same
    (stand h.tables h.shards _ _ c.self.invariant n r (ap (λ l. slice_get l n) (sym c.as_slice.ensures.value) ∙ there))

pub returns-clause-own : goal.returns-clause-own
returns-clause-own g c =
    let h = g.H.Histories in
    subst (λ (p : List (List ℕ) × List Receipt). (i : ℕ) → i < h.shards → AreOwn i p.1 (row p.0 i)) (λ i. (ap (λ (v : ClerkView). v.places) c.self.view_is i, sym c.as_slice.ensures.value i))
    (own h.tables h.shards _ _ c.self.invariant)

pub returns-clause-lawful : goal.returns-clause-lawful
returns-clause-lawful g c =
    let h = g.H.Histories in
    subst (λ (s : List (List Entry)). (i : ℕ) → IsLawful (row s i) × AreEntries (row s i) × IsPartOf h.shards i (row s i)) (ap (λ (v : ClerkView). v.sights) c.self.view_is)
    (lawful h.tables h.shards _ _ c.self.invariant)

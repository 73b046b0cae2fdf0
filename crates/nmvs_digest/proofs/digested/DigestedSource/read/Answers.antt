use Rattle.std.proofs.Common.{ℕ, List, sym, subst}
use Rattle.std.proofs.Math.Logic.{∥∥₁_elim}
use Rattle.std.proofs.lemmas.Grind.{merely}
use Rattle.std.proofs.lemmas.Option.{same_Some}
use Rattle.sha2.specs.Hashers.{Holds256}
use Rattle.nmvs_digest.specs.declared.digested.Expected.{Expected}
use Rattle.nmvs_digest.proofs.digested.DigestedSource.read.Goals as goal

pub invariant_of-self-in-Some : goal.invariant_of-self-in-Some
invariant_of-self-in-Some g c = record {
  digests = λ x is.
      let held = c.args.self.now.digests c.in-Some.expected c.in-Some.is in
      ∥∥₁_elim held squash₁ (λ holds.
      merely (subst (λ (e : Expected). Holds256 e.hasher (g.S.Source.told c.read.new.self).bytes) (same_Some _ x is)
      (subst (λ (m : List ℕ). Holds256 c.update.new.self m) (sym c.in_ok-count.ensures.ok.bytes)
      (c.update.ensures (g.S.Source.told c.args.self.now.source).bytes holds))));
}

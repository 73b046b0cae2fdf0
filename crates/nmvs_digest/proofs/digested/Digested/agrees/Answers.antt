use Rattle.std.proofs.Common.{◌≡◌, ◌∙◌, sym}
use Rattle.std.proofs.Math.Logic.{∥∥₁_elim}
use Rattle.sha2.specs.Sha256.{sha256}
use base.Stored.{Coded-set, coded_ℕ, coded_list}
use lib.Pointwise.{bytes_decides}
use Rattle.nmvs_digest.proofs.digested.Digested.agrees.Goals as goal

pub returns : goal.returns
returns g c =
    let bytes = (g.S.Source.told c.args.self.source).bytes in
    let summed : c.finalize.result ≡ sha256 bytes
    = ∥∥₁_elim (c.args.self.digests c.in-Some.expected c.in-Some.is) (Coded-set (coded_list coded_ℕ) _ _) (λ holds. c.finalize.ensures bytes holds) in
    let decides = bytes_decides c.finalize.result c.in-Some.expected.sum in
    rw c.in-Some.is (
      λ equal. sym (decides.0 (sym c.eq.ensures ∙ equal)) ∙ summed,
      λ agrees. c.eq.ensures ∙ decides.1 (summed ∙ sym agrees),
    )

use Rattle.std.proofs.Common.{subst}
use Rattle.nmvs_http.specs.Codecs.{CarriesRequests, CodecState}
use Rattle.nmvs_http.proofs.codec.HttpCodec.unsent.Goals as goal

pub returns-clause-carries : goal.returns-clause-carries
returns-clause-carries c =
    subst (λ (s : CodecState). CarriesRequests s) c.self.view_is
    (λ sound. let x = c.self.invariant.1 sound in (x.0, c.note_read.ensures x.1))

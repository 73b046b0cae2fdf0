-- Gathered texts.
use Rattle.std.proofs.Common.{◌≡◌, ◌∙◌, ap, sym, refl, ℕ, List, [], ◌++◌, append_assoc}
use Rattle.std.proofs.lemmas.List.{append-nil}
use Rattle.nmvs_stream.specs.Delivery.{Delivers}
use Rattle.nmvs_stream.specs.Sink.{Taken}
use Rattle.nmvs_inspect.specs.Gathering.{IsGathered}

-- nothing is gathered yet
pub gathered-begin : (s : Taken) (block text : List ℕ) → block ≡ text → IsGathered s s block text
gathered-begin s block text e = record { written = []; bytes = sym (append-nil s.bytes); whole = e; failed = refl }

-- more text at the end of the block
pub gathered-more : (old new : Taken) (block block' text more : List ℕ) → IsGathered old new block text → block' ≡ block ++ more → IsGathered old new block' (text ++ more)
gathered-more old new block block' text more g e = record {
  written = g.written;
  bytes = g.bytes;
  whole = ap (λ (x : List ℕ). g.written ++ x) e ∙ sym (append_assoc g.written block more) ∙ ap (λ (x : List ℕ). x ++ more) g.whole;
  failed = g.failed;
}

-- the block is written and emptied
pub gathered-written : (old new new' : Taken) (block block' text : List ℕ) → IsGathered old new block text → Delivers new new' block → block' ≡ [] → IsGathered old new' block' text
gathered-written old new new' block block' text g d e = record {
  written = text;
  bytes = d.bytes ∙ ap (λ (x : List ℕ). x ++ block) g.bytes ∙ append_assoc old.bytes g.written block ∙ ap (λ (x : List ℕ). old.bytes ++ x) g.whole;
  whole = ap (λ (x : List ℕ). text ++ x) e ∙ append-nil text;
  failed = d.failed ∙ g.failed;
}

-- the last block is written
pub gathered-end : (old new new' : Taken) (block text : List ℕ) → IsGathered old new block text → Delivers new new' block → Delivers old new' text
gathered-end old new new' block text g d = record {
  bytes = d.bytes ∙ ap (λ (x : List ℕ). x ++ block) g.bytes ∙ append_assoc old.bytes g.written block ∙ ap (λ (x : List ℕ). old.bytes ++ x) g.whole;
  flushed = d.flushed;
  failed = d.failed ∙ g.failed;
}

use Rattle.std.proofs.Common.{◌∙◌, Some, ap}
use Rattle.nmvs_rate.specs.declared.bucket.Bucket.{Bucket}
use Rattle.nmvs_rate.specs.Buckets.{after}
use Rattle.nmvs_rate.proofs.limiter.RateLimiter.admit.Goals as goal

pub returns-in-Ok-clause-asked : goal.returns-in-Ok-clause-asked
returns-in-Ok-clause-asked g c =
    let updates = c.in-Ok.ensures.updates in record {
      own = updates.1 ∙ ap (λ (b : Bucket). Some b) (c.take-passed.ensures.left ∙ ap (λ (b : Bucket). after c.args.self.now.rate b c.args.now) c.bucket_of-bucket.ensures);
      others = updates.2;
    }

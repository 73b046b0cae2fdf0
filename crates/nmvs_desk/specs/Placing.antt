-- The shard of an entry.
pub use Rattle.nmvs_shard.specs.Placing.{place_of, shard_of, IsPlaced, IsPartOf}

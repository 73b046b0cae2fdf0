-- The rules before a pack could be handed over: the definitions that have changed since, and those that rest on them. All
-- others are shared with `specs/Trail` and `specs/Rules`. The law of old trails (`laws::old_trails`) says that a trail
-- without a handover is lawful now exactly if it was lawful then.
pub mod Trail
pub mod Rules

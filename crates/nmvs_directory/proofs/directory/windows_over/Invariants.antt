use Rattle.std.proofs.Common.{◌≡◌, vec_len, All}
use Rattle.nmvs_directory.specs.Window.{IsFresh}
use Rattle.nmvs_directory.proofs.directory.windows_over.Given as goal

abbrev pub invariant-loop-made : goal.invariant-loop-made
invariant-loop-made g l = (vec_len l.windows ≡ l._made) × All IsFresh l.windows.items

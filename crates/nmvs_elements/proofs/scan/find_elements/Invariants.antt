use Rattle.std.proofs.Common.{length}
use Rattle.nmvs_elements.specs.Found.{HasFound}
use Rattle.nmvs_elements.proofs.scan.find_elements.Given as goal

-- the elements before the rest were found
abbrev pub invariant-loop-found : goal.invariant-loop-found
invariant-loop-found l =
    HasFound l.nation l.fn.string (record { code = l.found.0; serial = l.found.1.0; batch = l.found.1.1.0; expiry = l.found.1.1.1.0; national = l.found.1.1.1.1.0 }) l.rest

abbrev pub decreases-loop-found : goal.decreases-loop-found
decreases-loop-found l = length l.rest

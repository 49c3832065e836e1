use Rattle.std.proofs.Common.{length}
use Rattle.package.specs.Package.{Package}
use Rattle.package.proofs.Tracking.{Tracks}
use Rattle.package.proofs.reading.read.Given as goal

abbrev pub invariant-loop-rest : goal.invariant-loop-rest
invariant-loop-rest l = (k : Package) × Tracks l.bytes l.tally l.rest k

abbrev pub decreases-loop-rest : goal.decreases-loop-rest
decreases-loop-rest l = length l.rest

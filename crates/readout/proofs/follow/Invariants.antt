-- `readout::follow` meets its contract: it ends where the scribe has ended, or standard output takes no more. What is left to do is the characters that may
-- still come.
-- Assumes nothing.
use mathlib.Core.Path.{◌≡◌}
use lib.ListN.{length}
use Rattle.scribe.specs.Told.{Brought}
use Rattle.readout.proofs.follow.Given as goal

abbrev pub invariant-loop-now : goal.invariant-loop-now
invariant-loop-now l = Brought l.now × (length l.piece ≡ length l.initial.piece) × (length l.out ≡ length l.initial.out)

abbrev pub decreases-loop-now : goal.decreases-loop-now
decreases-loop-now l = l.now.left

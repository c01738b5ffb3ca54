-- `readout::told_piece` meets its contract: there is room for what is told, so that it is not turned away.
-- Assumes nothing.
use native.Mathlib.Omega.{arith}
use Prim.Native.Nat.{ℕ, ◌*◌, ◌≤◌}
use lib.ListN.{length, take, length-take}
use Rattle.readout.proofs.Told.{lines_told, never_refused}
use Rattle.readout.proofs.told_piece.Goals as goal
use Rattle.readout.proofs.told_piece.Goals.{After-tell}

-- no more came than the piece has places for
room : (c : After-tell) → 64 * length (take c.unwrap_or-count.result c.read.new.buf) ≤ length c.args.out.now
room c = omega (arith, length-take {A = ℕ}, c.requires.1, c.read.auto.buf)

pub unwrap-requires : goal.unwrap-requires
unwrap-requires c = never_refused _ c.requires.0 _ _ c.tell.ensures (room (goal.at.unwrap-requires c).After-tell)

pub returns : goal.returns
returns c = lines_told _ c.requires.0 _ _ c.tell.ensures (room (goal.at.returns c).After-tell) _ c.unwrap.ensures

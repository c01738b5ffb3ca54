-- `readout::follow` meets its contract: it ends where the scribe has ended, or standard output takes no more. What is left to do is the characters that may
-- still come.
-- Assumes nothing.
use mathlib.Core.Path.{refl, sym, subst}
use native.Mathlib.Omega.{arith}
use borrow.Author.Rules.{rules}
use Rattle.scribe.specs.Told.{Brought, fresh}
use Rattle.readout.proofs.Told.{goes_on, grows_less, within, sized}
use Rattle.readout.proofs.follow.Goals as goal

pub loop-now-init : goal.loop-now-init
loop-now-init c = (subst Brought (sym c.fresh-now.ensures) fresh, refl, refl)

pub slice_bounds-write_all-end : goal.slice_bounds-write_all-end
slice_bounds-write_all-end c = within _ _ c.told_piece-told.ensures

pub slice_bounds-write_all-end-in-loop-now : goal.slice_bounds-write_all-end-in-loop-now
slice_bounds-write_all-end-in-loop-now c = sized _ _ c.told_piece-told.ensures

pub returns-then-is_err-clause-closed : goal.returns-then-is_err-clause-closed
returns-then-is_err-clause-closed c = goes_on _ _ c.told_piece-told.ensures c.loop-now.invariant.0

pub loop-now-smaller : goal.loop-now-smaller
loop-now-smaller c = grows_less _ _ c.told_piece-told.ensures (omega arith)

pub loop-now-preserved : goal.loop-now-preserved
loop-now-preserved c = (goes_on _ _ c.told_piece-told.ensures c.loop-now.invariant.0, search rules, search rules)

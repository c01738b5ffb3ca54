-- `runs::carry::gather` meets its contract. At each turn the number is that of the elements that were yielded, none of them above 1.
-- Assumes nothing.
use Prim.Native.Nat.{◌<◌, ◌^◌}
use native.Mathlib.Omega.{arith}
use Rattle.runs.proofs.Turns.{gather_too_long, gather_begins, gather_turns, gather_room, gather_no_bit, gather_ends}
use Rattle.runs.proofs.carry.gather.Goals as goal

pub returns-then-run-gt64 : goal.returns-then-run-gt64
returns-then-run-gt64 c = search gather_too_long

pub loop-bit-init : goal.loop-bit-init
loop-bit-init c = gather_begins _ _ (cc) (omega arith)

pub returns-then-bit-gt1 : goal.returns-then-bit-gt1
returns-then-bit-gt1 c = gather_no_bit _ _ _ c.loop-bit.invariant _ _ c.in-Some.ensures.steps c.if-bit-gt1.true

pub overflow_mul-number : goal.overflow_mul-number
overflow_mul-number c = let low : c.loop-bit.number < 2 ^ 63 = gather_room _ _ _ c.loop-bit.invariant _ _ c.in-Some.ensures.steps in omega arith

pub overflow_add-number : goal.overflow_add-number
overflow_add-number c = let low : c.loop-bit.number < 2 ^ 63 = gather_room _ _ _ c.loop-bit.invariant _ _ c.in-Some.ensures.steps in omega arith

pub loop-bit-preserved : goal.loop-bit-preserved
loop-bit-preserved c = gather_turns _ _ _ c.loop-bit.invariant _ _ c.in-Some.ensures.steps (omega arith)

pub returns : goal.returns
returns c = gather_ends _ _ _ c.loop-bit.invariant c.in-None.ensures.steps.0

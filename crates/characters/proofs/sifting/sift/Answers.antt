-- `characters::sifting::sift` meets its contract. At each turn the bits of the characters read stand at the run's start.
-- Assumes nothing.
use native.Mathlib.Omega.{arith}
use Rattle.characters.proofs.Sifts.{behind, sift_begins}
use Rattle.characters.proofs.SiftTests.{writes, skips, takes, stops, ends}
use Rattle.characters.proofs.sifting.sift.Goals as goal

pub loop-read-init : goal.loop-read-init
loop-read-init c = search sift_begins

pub loop-read-preserved-then-is_skipped : goal.loop-read-preserved-then-is_skipped
loop-read-preserved-then-is_skipped c = search skips

pub bounds-run-write : goal.bounds-run-write
bounds-run-write c = search writes

pub overflow_add-write : goal.overflow_add-write
overflow_add-write c = omega (arith, behind _ _ _ _ c.loop-read.invariant)

pub loop-read-preserved : goal.loop-read-preserved
loop-read-preserved c = search takes

pub returns-in-loop-read : goal.returns-in-loop-read
returns-in-loop-read c = stops _ _ _ _ c.loop-read.invariant c.loop-read-test.true _ c.is_skipped.ensures _ c.is_digit.ensures c.if-is_skipped.false c.if-is_digit.false

pub returns : goal.returns
returns c = ends _ _ _ _ c.loop-read.invariant c.loop-read-test.false

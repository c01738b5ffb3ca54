-- `atc::reading::digits_in` meets its contract. At each turn the number is what the words behind those that are still to come hold.
-- Assumes nothing.
use Prim.Native.Nat.{◌+◌, ◌*◌, ◌/◌, ◌%◌, ◌^◌, ◌<◌}
use native.Mathlib.Omega.{arith}
use Rattle.atc.proofs.Turns.{gather_ends, digits_begin, coming_turns, digit_turns, digit_fits}
use Rattle.atc.proofs.reading.digits_in.Goals as goal
use Rattle.atc.proofs.reading.digits_in.Goals.{After-from-in-loop-word}

-- the number and one digit more
room : (g : _) (c : After-from-in-loop-word g) → c.from.result + c.from-in-loop-word.result * c.loop-word.number < 2 ^ 64
room g c = digit_fits (λ word. word / g.row.WEIGHT % g.row.BASE) g.row.BASE _ _ _ _ c.loop-word.invariant.0 c.in-Some.ensures.steps _ c.loop-word.invariant.1 (2 ^ 64) _ _ c.from.ensures c.from-in-loop-word.ensures c.requires.some.1 (λ word. omega (arith, c.requires.some.1)) c.requires.fits

pub loop-word-init : goal.loop-word-init
loop-word-init g c = digits_begin _ _ _ _ (cc)

pub overflow_mul-number : goal.overflow_mul-number
overflow_mul-number g c = omega (arith, room g c)

pub overflow_add-number : goal.overflow_add-number
overflow_add-number g c = omega (arith, room g (goal.at.overflow_add-number g c).After-from-in-loop-word)

pub loop-word-preserved : goal.loop-word-preserved
loop-word-preserved g c = (
  coming_turns _ _ _ _ c.loop-word.invariant.0 c.in-Some.ensures.steps,
  digit_turns _ _ _ _ _ _ c.loop-word.invariant.0 c.in-Some.ensures.steps _ c.loop-word.invariant.1 _ _ c.from.ensures c.from-in-loop-word.ensures,
)

pub returns : goal.returns
returns g c = gather_ends _ _ _ _ _ c.loop-word.invariant.1 (omega (arith, c.in-None.ensures.steps.0))

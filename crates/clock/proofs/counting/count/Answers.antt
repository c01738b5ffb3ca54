-- `clock::counting::count` meets its contract: the place of the address at the rate's rate, less what drop-frame skips.
-- Assumes nothing.
use Prim.Native.Nat.{◌<◌}
use native.Mathlib.Omega.{arith}
use borrow.Author.Rules.{rules}
use Rattle.clock.specs.Counting.{place_of}
use Rattle.clock.proofs.CountTests.{dropped, whole, large, small}
use Rattle.clock.proofs.counting.count.Goals as goal
use Rattle.clock.proofs.counting.count.Goals.{After-frames_in_second-fps}

-- the whole place is below 30,000,000
fits : (c : After-frames_in_second-fps) → place_of c.frames_in_second-fps.result c.args.a < 30000000
fits c =
    let call = c.frames_in_second-fps in
    small c.args.rate call.result c.args.a call.ensures
    (record { hours = search rules; minutes = search rules; seconds = search rules; frames = search rules })

pub overflow_mul-place-2 : goal.overflow_mul-place-2
overflow_mul-place-2 c = omega (arith, fits (goal.at.overflow_mul-place-2 c).After-frames_in_second-fps)

pub overflow_add-place-2 : goal.overflow_add-place-2
overflow_add-place-2 c = omega (arith, fits (goal.at.overflow_add-place-2 c).After-frames_in_second-fps)

pub overflow_sub-number-then-drop : goal.overflow_sub-number-then-drop
overflow_sub-number-then-drop c =
    let args = c.args in
    let call = c.frames_in_second-fps in
    omega (arith, large args.rate call.result args.a call.ensures)

pub returns-then-drop : goal.returns-then-drop
returns-then-drop c = search dropped

pub returns : goal.returns
returns c = search whole

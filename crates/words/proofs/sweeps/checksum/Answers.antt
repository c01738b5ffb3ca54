-- `words::sweeps::checksum` meets its contract. At each turn the sum so far and the words ahead make the whole.
-- Assumes nothing.
use mathlib.Core.Path.{◌∙◌, ap}
use native.Mathlib.Omega.{arith}
use Prim.Native.Nat.{ℕ}
use Rattle.words.specs.Words.{with_opposite}
use Rattle.words.proofs.Turns.{sum_begins, sum_turns, sum_ends}
use Rattle.words.proofs.sweeps.checksum.Goals as goal

pub loop-word-init : goal.loop-word-init
loop-word-init c = sum_begins _

pub loop-word-preserved : goal.loop-word-preserved
loop-word-preserved c = sum_turns _ _ _ c.loop-word.invariant (omega arith)

pub returns : goal.returns
returns c = c.with_opposite.ensures ∙ ap (λ (n : ℕ). with_opposite n) (sum_ends _ _ _ c.loop-word.invariant (omega arith))

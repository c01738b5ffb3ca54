-- `polarity::even::has_odd_zeros` meets its contract: the zeros of the word are what the count of ones leaves of 67.
-- Assumes nothing.
use native.Mathlib.Omega.{arith}
use Rattle.polarity.proofs.Zeros.{odd_by_count, few_ones}
use Rattle.polarity.proofs.even.has_odd_zeros.Goals as goal

pub overflow_sub-zeros : goal.overflow_sub-zeros
overflow_sub-zeros c = omega (arith, few_ones c.args.info c.ranges.info.fits)

pub returns : goal.returns
returns c = odd_by_count c.args.info c.ranges.info.fits

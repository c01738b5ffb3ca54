-- `ltc::reading::read` meets its contract: each test is a row of the list, and a word that passes them is heard as its information bits.
-- Assumes nothing.
use native.Mathlib.Omega.{arith}
use Rattle.refusals.proofs.Results.{passed_on}
use Rattle.ltc.proofs.ReadTests.{wrong_size, no_mode, no_bit_low, no_bit_high, another_sync, heard}
use Rattle.ltc.proofs.reading.read.Goals as goal

pub returns-then-word-ne80 : goal.returns-then-word-ne80
returns-then-word-ne80 c = wrong_size _ _ (λ e. omega arith)

pub returns-in_err-rate_of : goal.returns-in_err-rate_of
returns-in_err-rate_of c = passed_on c.from_residual.ensures.1 (search (no_mode, c.in_err-rate_of.was))

pub returns-in_default : goal.returns-in_default
returns-in_default c = search (no_bit_low, c.in_ok-rate_of.was, c.in_default.not-Ok)

pub returns-in_default-high : goal.returns-in_default-high
returns-in_default-high c = search (no_bit_high, c.in_ok-rate_of.was, c.in_default-high.not-Ok)

pub returns-then-sync-ne49148 : goal.returns-then-sync-ne49148
returns-then-sync-ne49148 c = search (another_sync, c.in_ok-rate_of.was)

pub returns : goal.returns
returns c = search (heard, c.in_ok-rate_of.was)

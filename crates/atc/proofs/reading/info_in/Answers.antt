-- `atc::reading::info_in` meets its contract: sixteen digits of four bits fit 64 bits.
-- Assumes nothing.
use native.Mathlib.Nat.{pow-le-pow_right}
use native.Mathlib.Omega.{arith}
use Rattle.atc.proofs.reading.info_in.Goals as goal

pub digits_in-requires-clause-fits : goal.digits_in-requires-clause-fits
digits_in-requires-clause-fits c = pow-le-pow_right {n = 16} (omega arith) c.requires

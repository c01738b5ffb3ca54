-- A face inside the clock: each field is within its range.
-- Assumes nothing.
use Prim.Native.Nat.{ℕ, ◌<◌}
use mathlib.Core.Path.{◌≡◌}
use mathlib.Core.Bool.{false}
use native.Mathlib.Omega.{arith}
use lib.Dec.{ltb}
use borrow.Author.Tests.{ltb-false, leb-false, le-ltb, lt-leb}
use Rattle.refusals.proofs.Answered.{neither}
use Rattle.rates.specs.declared.types.Address.{Address}
use Rattle.rates.specs.Face.{outside}

pub record Inside (fps : ℕ) (a : Address) : Type 0 where
  pub hours : a.hours < 24
  pub minutes : a.minutes < 60
  pub seconds : a.seconds < 60
  pub frames : a.frames.0 < fps

pub inside : (fps : ℕ) (a : Address) → outside fps a ≡ false → Inside fps a
inside fps a e =
    let hours = neither (ltb 23 a.hours) _ e in
    let minutes = neither (ltb 59 a.minutes) _ hours.1 in
    let seconds = neither (ltb 59 a.seconds) _ minutes.1 in
    record {
      hours = omega (arith, ltb-false 23 a.hours hours.0);
      minutes = omega (arith, ltb-false 59 a.minutes minutes.0);
      seconds = omega (arith, ltb-false 59 a.seconds seconds.0);
      frames = leb-false fps a.frames.0 seconds.1;
    }

pub inside_not_outside : (fps : ℕ) (a : Address) → Inside fps a → outside fps a ≡ false
inside_not_outside fps a i =
    rw (le-ltb 23 a.hours (omega arith), le-ltb 59 a.minutes (omega arith), le-ltb 59 a.seconds (omega arith))
    (lt-leb fps a.frames.0 i.frames)

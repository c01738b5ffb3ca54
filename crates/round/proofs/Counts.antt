-- A signed count of frames, taken apart: how far on, or one less than how far back.
-- Assumes nothing.
use mathlib.Core.Path.{◌≡◌, refl, ◌∙◌}
use mathlib.Core.Bool.{true, false, true≢false, false≢true}
use Prim.Native.Nat.{ℕ, suc, ◌-◌, ◌^◌, ◌<◌}
use native.Mathlib.Omega.{arith}
use lib.Dec.{T}
use lib.IntN.{ℤ, pos, negsuc, nat_abs}
use lib.Signed.{mag, non_neg, lt_z}
use borrow.Author.Tests.{ltb-true}
use mir.Syntax.{w32}
use mir.Val.{SFits, Fits, to_z, of_z}
use mir.Facts.{to_z_pos, to_z-of_z}

pub on : (z : ℤ) → non_neg z ≡ true → z ≡ pos (mag z)
on (pos n) e = refl
on (negsuc n) e = absurd (false≢true e)

pub back : (z : ℤ) → non_neg z ≡ false → z ≡ negsuc (mag z)
back (pos n) e = absurd (true≢false e)
back (negsuc n) e = refl

-- the test that parts them
pub below_zero : (z : ℤ) → lt_z z (pos 0) ≡ true → non_neg z ≡ false
below_zero (pos n) e = let none : n < 0 = ltb-true n 0 e in absurd (omega arith)
below_zero (negsuc n) e = refl

pub not_below_zero : (z : ℤ) → lt_z z (pos 0) ≡ false → non_neg z ≡ true
not_below_zero (pos n) e = refl
not_below_zero (negsuc n) e = absurd (true≢false e)

module _ (z : ℤ) (fits : SFits w32 z) where
  -- what the machine reads of a count that is not below 0, and of the complement of one that is
  pub read_on : non_neg z ≡ true → to_z w32 (of_z w32 z) ≡ pos (mag z)
  read_on e = to_z-of_z fits ∙ on z e

  pub read_back : non_neg z ≡ false → to_z w32 (4294967295 - of_z w32 z) ≡ pos (mag z)
  read_back e = go z fits e
    where
      go : (y : ℤ) → SFits w32 y → non_neg y ≡ false → to_z w32 (4294967295 - of_z w32 y) ≡ pos (mag y)
      go (pos n) f e = absurd (true≢false e)
      go (negsuc n) f e =
          let low : n < 2 ^ 31 = f.sfits in
          let bits : 4294967295 - (2 ^ 32 - suc n) ≡ n = omega arith in
          rw bits (to_z_pos w32 low)

-- a number so read can be cast
pub castable : (y : ℤ) (n : ℕ) → y ≡ pos n → n < 2 ^ 31 → T (non_neg y) × Fits w32 (nat_abs y)
castable y n e low = rw e (tt, record { fits = omega arith })

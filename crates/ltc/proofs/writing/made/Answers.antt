-- `ltc::writing::made` meets its contract: where correction is asked for and the zeros would be odd, the value of the polarity bit's place is added.
-- Assumes nothing.
use Prim.Native.Nat.{ℕ, ◌+◌, ◌^◌}
use mathlib.Core.Path.{◌≡◌}
use mathlib.Core.Bool.{Bool, true, false}
use Rattle.rates.specs.declared.types.Rate.{Rate}
use Rattle.layout.specs.Flags.{places}
use Rattle.polarity.specs.declared.types.Found.{Found}
use Rattle.polarity.specs.declared.types.Found.TheVariants.{Corrected, Uncorrected}
use Rattle.polarity.specs.Word.{word_with, odd_zeros, made}
use Rattle.ltc.proofs.writing.made.Goals as goal

module _ (rate : Rate) (make : Found) (clear : ℕ) where
  uncorrected : make ≡ Uncorrected → clear ≡ made make clear (clear + 2 ^ (places rate).mark)
  uncorrected e = rw e

  module _ (e : make ≡ Corrected) (odd : Bool) (tested : odd ≡ odd_zeros (word_with clear)) where
    set : (value : ℕ) → value ≡ 2 ^ (places rate).mark → odd ≡ true → clear + value ≡ made make clear (clear + 2 ^ (places rate).mark)
    set value is t = rw (e, ← tested, t, ← is)

    even : odd ≡ false → clear ≡ made make clear (clear + 2 ^ (places rate).mark)
    even t = rw (e, ← tested, t)

pub returns-then-has_odd_zeros : goal.returns-then-has_odd_zeros
returns-then-has_odd_zeros c = search set

pub returns-in-Uncorrected : goal.returns-in-Uncorrected
returns-in-Uncorrected c = search uncorrected

pub returns-else-has_odd_zeros : goal.returns-else-has_odd_zeros
returns-else-has_odd_zeros c = search even

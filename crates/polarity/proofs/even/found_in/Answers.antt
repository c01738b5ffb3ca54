-- `polarity::even::found_in` meets its contract: the zeros say which was found.
-- Assumes nothing.
use Prim.Native.Nat.{ℕ}
use mathlib.Core.Path.{◌≡◌}
use mathlib.Core.Bool.{Bool, true, false}
use Rattle.polarity.specs.declared.types.Found.TheVariants.{Corrected, Uncorrected}
use Rattle.polarity.specs.Word.{word_with, odd_zeros, found_in}
use Rattle.polarity.proofs.even.found_in.Goals as goal

module _ (info : ℕ) (odd : Bool) (counted : odd ≡ odd_zeros (word_with info)) where
  uncorrected : odd ≡ true → Uncorrected ≡ found_in (word_with info)
  uncorrected e = rw (← counted, e)

  corrected : odd ≡ false → Corrected ≡ found_in (word_with info)
  corrected e = rw (← counted, e)

pub returns-then-has_odd_zeros : goal.returns-then-has_odd_zeros
returns-then-has_odd_zeros c = search uncorrected

pub returns : goal.returns
returns c = search corrected

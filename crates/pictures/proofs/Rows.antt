-- "The lowest that applies is given": the list of each call follows the table's order.
-- Assumes nothing.
use Prim.Native.Nat.{ℕ}
use mathlib.Core.Path.{◌≡◌, refl}
use mathlib.Core.Bool.{true}
use Rattle.refusals.specs.Table.{the_order}
use Rattle.refusals.specs.Answer.{in_order}
use Rattle.rates.specs.declared.types.Rate.{Rate}
use Rattle.rates.specs.declared.types.Flag.{Flag}
use Rattle.pictures.specs.declared.types.Picture.{Picture}
use Rattle.pictures.specs.Calls.{picture_refusals, two_refusals, number_refusals}

module _ (rate : Rate) (pictures : ℕ) (drop : Flag) where
  pub picture_rows_in_order : (p : Picture) → in_order the_order (picture_refusals rate pictures drop p) ≡ true
  picture_rows_in_order p = refl

  pub two_rows_in_order : (p q : Picture) → in_order the_order (two_refusals rate pictures drop p q) ≡ true
  two_rows_in_order p q = refl

  pub number_rows_in_order : (n : ℕ) → in_order the_order (number_refusals rate pictures drop n) ≡ true
  number_rows_in_order n = refl

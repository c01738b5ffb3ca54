-- In a mode that is known, each call that counts answers as it does by the mode's row: so its laws hold by mode.
-- Assumes nothing.
use Prim.Native.Nat.{ℕ}
use mathlib.Core.Path.{◌≡◌}
use mathlib.Core.Bool.{false}
use lib.IntN.{ℤ}
use Rattle.std.specs.Prelude.{Err}
use Rattle.rates.specs.declared.types.Flag.{Flag}
use Rattle.clock.specs.declared.types.DayFrame.{DayFrame}
use Rattle.pictures.specs.declared.types.Picture.{Picture}
use Rattle.pictures.specs.Calls.{number_of, in_second_of, picture_of, fields_of, span_of, plus_of}
use Rattle.modes.specs.Modes.{uncounted, rate_at, pictures_at}
use Rattle.modes.specs.Calls.{number_in, in_second_in, picture_in, fields_in, span_in, plus_in}
use Rattle.modes.proofs.InMode.{known_is}

module _ (mode : ℕ) (drop : Flag) where
  pub number_by_row : (p : Picture) → uncounted mode ≡ false → number_in mode drop p ≡ number_of (rate_at mode) (pictures_at mode) drop p
  unfolding number_in
  number_by_row p known = known_is Err mode (λ rate pictures. number_of rate pictures drop p) known

  pub in_second_by_row : (p : Picture) → uncounted mode ≡ false → in_second_in mode drop p ≡ in_second_of (rate_at mode) (pictures_at mode) drop p
  unfolding in_second_in
  in_second_by_row p known = known_is Err mode (λ rate pictures. in_second_of rate pictures drop p) known

  pub picture_by_row : (n : DayFrame) → uncounted mode ≡ false → picture_in mode drop n ≡ picture_of (rate_at mode) (pictures_at mode) drop n
  unfolding picture_in
  picture_by_row n known = known_is Err mode (λ rate pictures. picture_of rate pictures drop n) known

  pub fields_by_row : (p : Picture) → uncounted mode ≡ false → fields_in mode drop p ≡ fields_of (rate_at mode) (pictures_at mode) drop p
  unfolding fields_in
  fields_by_row p known = known_is Err mode (λ rate pictures. fields_of rate pictures drop p) known

  pub span_by_row : (from to : Picture) → uncounted mode ≡ false → span_in mode drop from to ≡ span_of (rate_at mode) (pictures_at mode) drop from to
  unfolding span_in
  span_by_row from to known = known_is Err mode (λ rate pictures. span_of rate pictures drop from to) known

  pub plus_by_row : (p : Picture) (z : ℤ) → uncounted mode ≡ false → plus_in mode drop p z ≡ plus_of (rate_at mode) (pictures_at mode) drop p z
  unfolding plus_in
  plus_by_row p z known = known_is Err mode (λ rate pictures. plus_of rate pictures drop p z) known

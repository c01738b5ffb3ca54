-- "The lowest that applies is given": the calls by mode have one list each, 2 before what the row's own call refuses, and the list follows the table's order.
-- Assumes nothing.
use Prim.Native.Nat.{ℕ}
use mathlib.Core.Path.{◌≡◌, refl}
use mathlib.Core.Bool.{true}
use lib.IntN.{ℤ}
use Rattle.std.specs.Prelude.{Err, Ok}
use Rattle.refusals.specs.Table.{the_order}
use Rattle.refusals.specs.Answer.{answer, in_order}
use Rattle.rates.specs.declared.types.Flag.{Flag}
use Rattle.clock.specs.declared.types.DayFrame.{DayFrame}
use Rattle.rates.specs.Rates.{is_yes, frames_in_second}
use Rattle.round.specs.Round.{distance_of, sum_of}
use Rattle.pictures.specs.declared.types.Picture.{Picture}
use Rattle.pictures.specs.Pictures.{pictures_in_day, picture_number, number_in_second, picture_at}
use Rattle.pictures.specs.Calls.{picture_refusals, two_refusals, number_refusals, number_of, in_second_of, picture_of, fields_of, span_of, plus_of}
use Rattle.record.specs.declared.types.Record.{Record}
use Rattle.modes.specs.declared.types.Shows.{Shows}
use Rattle.modes.specs.Modes.{rate_at, pictures_at, with_mode, with_counting}
use Rattle.modes.proofs.Told.{carried_rows}
use Rattle.modes.specs.Calls.{number_in, in_second_in, picture_in, fields_in, span_in, plus_in, bits_refusals_in, write_refusals_in}

module _ (mode : ℕ) (drop : Flag) where
  abbrev number : Picture → ℕ
  number p = picture_number (frames_in_second (rate_at mode)) (pictures_at mode) (is_yes drop) p

  abbrev numbered : ℕ → Picture
  numbered n = picture_at (frames_in_second (rate_at mode)) (pictures_at mode) (is_yes drop) n

  abbrev day : ℕ
  day = pictures_in_day (rate_at mode) (pictures_at mode) (is_yes drop)

  -- the calls that count, each as one list
  pub number_rows :
      (p : Picture)
      → number_in mode drop p ≡ answer Err (with_counting mode (picture_refusals (rate_at mode) (pictures_at mode) drop p)) (Ok (record { 0 = number p }))
  unfolding number_in number_of
  number_rows p = refl

  pub in_second_rows :
      (p : Picture)
      → in_second_in mode drop p
      ≡ answer Err (with_counting mode (picture_refusals (rate_at mode) (pictures_at mode) drop p)) (Ok (record { 0 = number_in_second (pictures_at mode) p }))
  unfolding in_second_in in_second_of
  in_second_rows p = refl

  pub picture_rows :
      (n : DayFrame)
      → picture_in mode drop n ≡ answer Err (with_counting mode (number_refusals (rate_at mode) (pictures_at mode) drop n.0)) (Ok (numbered n.0))
  unfolding picture_in picture_of
  picture_rows n = refl

  pub fields_rows : (p : Picture) → fields_in mode drop p ≡ answer Err (with_counting mode (picture_refusals (rate_at mode) (pictures_at mode) drop p)) (Ok p)
  unfolding fields_in fields_of
  fields_rows p = refl

  pub span_rows :
      (from to : Picture)
      → span_in mode drop from to
      ≡ answer Err (with_counting mode (two_refusals (rate_at mode) (pictures_at mode) drop from to)) (Ok (distance_of day (number from) (number to)))
  unfolding span_in span_of
  span_rows from to = refl

  pub plus_rows :
      (p : Picture) (z : ℤ)
      → plus_in mode drop p z
      ≡ answer Err (with_counting mode (picture_refusals (rate_at mode) (pictures_at mode) drop p)) (Ok (numbered (sum_of day (number p) z)))
  unfolding plus_in plus_of
  plus_rows p z = refl

  -- and each follows the order
  pub picture_rows_in_order : (p : Picture) → in_order the_order (with_counting mode (picture_refusals (rate_at mode) (pictures_at mode) drop p)) ≡ true
  picture_rows_in_order p = refl

  pub two_rows_in_order : (from to : Picture) → in_order the_order (with_counting mode (two_refusals (rate_at mode) (pictures_at mode) drop from to)) ≡ true
  two_rows_in_order from to = refl

  pub number_rows_in_order : (n : ℕ) → in_order the_order (with_counting mode (number_refusals (rate_at mode) (pictures_at mode) drop n)) ≡ true
  number_rows_in_order n = refl

-- the calls of the record have one list by definition
pub bits_rows_in_order : (mode info : ℕ) → in_order the_order (with_mode mode (bits_refusals_in mode info)) ≡ true
bits_rows_in_order mode info = refl

pub write_rows_in_order : (mode : ℕ) (r : Record) → in_order the_order (with_mode mode (write_refusals_in mode r)) ≡ true
write_rows_in_order mode r = refl

pub carried_rows_in_order : (mode : ℕ) (shows : Shows) (r : Record) → in_order the_order (carried_rows mode r shows) ≡ true
carried_rows_in_order mode shows r = refl

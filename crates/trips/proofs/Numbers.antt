-- The laws of counting, said by mode: numbers and pictures match one to one, and adding the distance arrives.
-- Assumes nothing.
use Prim.Native.Nat.{ℕ}
use mathlib.Core.Path.{◌≡◌, ◌∙◌}
use mathlib.Core.Logic.{◌↔◌}
use lib.IntN.{ℤ}
use Rattle.std.specs.Prelude.{Ok}
use Rattle.rates.specs.declared.types.Flag.{Flag}
use Rattle.clock.specs.declared.types.DayFrame.{DayFrame}
use Rattle.pictures.specs.declared.types.Picture.{Picture}
use Rattle.pictures.specs.Calls.{number_of, picture_of, span_of}
use Rattle.pictures.proofs.Answers as pictures
use Rattle.pictures.proofs.Moves as moves
use Rattle.modes.specs.Modes.{rate_at, pictures_at}
use Rattle.modes.specs.Calls.{number_in, picture_in, span_in, plus_in}
use Rattle.modes.proofs.InMode.{accepted_in}
use Rattle.modes.proofs.EachMode.{some_picture}
use Rattle.modes.proofs.Counted.{number_by_row, picture_by_row, plus_by_row}

module _ (mode : ℕ) (drop : Flag) where
  -- "Frame numbers of a day and addresses match one to one, drop-frame or not": where pictures are counted, of pictures
  pub one_to_one : (p : Picture) (n : DayFrame) → number_in mode drop p ≡ Ok n ↔ picture_in mode drop n ≡ Ok p
  unfolding number_in picture_in
  one_to_one p n = (
    λ e. (let at = accepted_in mode (λ rate pictures. number_of rate pictures drop p) n e in
        picture_by_row mode drop n at.0 ∙ (pictures.one_to_one (rate_at mode) (pictures_at mode) drop (some_picture mode) p n).0 at.1),
    λ e. (let at = accepted_in mode (λ rate pictures. picture_of rate pictures drop n) p e in
        number_by_row mode drop p at.0 ∙ (pictures.one_to_one (rate_at mode) (pictures_at mode) drop (some_picture mode) p n).1 at.1),
  )

  -- "Adding the distance gives the second address back"
  pub adding_the_distance : (from to : Picture) (z : ℤ) → span_in mode drop from to ≡ Ok z → plus_in mode drop from z ≡ Ok to
  unfolding span_in
  adding_the_distance from to z e =
      let at = accepted_in mode (λ rate pictures. span_of rate pictures drop from to) z e in
      plus_by_row mode drop from z at.0
      ∙ moves.adding_the_distance (rate_at mode) (pictures_at mode) drop (some_picture mode) from to z at.1

-- `pictures::finding::add` meets its contract: refused as the number of the picture is, and else the picture of that number moved on or back.
-- Assumes nothing.
use mathlib.Core.Path.{◌≡◌, sym, ◌∙◌}
use mathlib.Core.Bool.{Bool}
use Prim.Native.Nat.{ℕ, ◌+◌, ◌^◌, ◌<◌}
use native.Mathlib.Omega.{arith}
use lib.IntN.{ℤ}
use mir.Facts.{to_z-of_z}
use Rattle.refusals.proofs.Results.{passed_on}
use Rattle.refusals.specs.declared.types.Refusal.{Refusal}
use Rattle.std.specs.Prelude.{Err, Ok, Result}
use Rattle.rates.specs.declared.types.Rate.{Rate}
use Rattle.rates.specs.declared.types.Flag.{Flag}
use Rattle.rates.specs.Rates.{is_yes}
use Rattle.round.specs.Round.{sum_of}
use Rattle.clock.specs.declared.types.DayFrame.{DayFrame}
use Rattle.pictures.specs.declared.types.Picture.{Picture}
use Rattle.pictures.specs.Pictures.{pictures_in_day}
use Rattle.pictures.specs.Calls.{number_of, picture_of, plus_of}
use Rattle.pictures.proofs.Moves.{sum_is, sum_refused}
use Rattle.pictures.proofs.finding.add.Goals as goal

module _
    (rate : Rate) (last : ℕ) (drop : Flag) (p : Picture) (z : ℤ) (found : Result DayFrame Refusal) (asked : found ≡ number_of rate (last + 1) drop p) where
  refused : (n : Refusal) → found ≡ Err n → Err n ≡ plus_of rate (last + 1) drop p z
  refused n e = sym (sum_refused rate (last + 1) drop p n z (sym asked ∙ e))

  moved :
      (start : DayFrame) → found ≡ Ok start → (dropped : Bool) → dropped ≡ is_yes drop
      → (end n : ℕ) (y : ℤ) (given : Result Picture Refusal) → (end + 1 ≡ pictures_in_day rate (last + 1) dropped) × (end < 2 ^ 30)
      → n ≡ sum_of (end + 1) start.0 y → y ≡ z → given ≡ picture_of rate (last + 1) drop (record { 0 = n })
      → given ≡ plus_of rate (last + 1) drop p z
  moved start e dropped may end n y given whole total same told =
      told ∙ rw (total, same, whole.0, may) (sym (sum_is rate (last + 1) drop (omega arith) p start z (sym asked ∙ e)))

pub returns-in_err-start : goal.returns-in_err-start
returns-in_err-start c = passed_on c.from_residual.ensures.1 (search (refused, c.in_err-start.was))

pub returns : goal.returns
returns c = search (moved, to_z-of_z, c.in_ok-start.was)

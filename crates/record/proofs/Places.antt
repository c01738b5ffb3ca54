-- The table of flags has a row for 25 frames and one for the other rates: the flag that stands at each of the three places.
-- Assumes nothing.
use mathlib.Core.Path.{◌≡◌, refl}
use Rattle.rates.specs.declared.types.Rate.{Rate}
use Rattle.rates.specs.declared.types.Rate.TheVariants.{At24, At25, At30}
use Rattle.rates.specs.Rates.{by_rate}
use Rattle.record.specs.declared.types.Flags.{Flags}
use Rattle.layout.specs.Flags.{places}
use Rattle.record.specs.Record.{standing_at}

module _ (f : Flags) where
  pub at_27 : (rate : Rate) → standing_at (places rate) f 27 ≡ by_rate rate f.mark f.bgf0 f.mark
  at_27 At24 = refl
  at_27 At25 = refl
  at_27 At30 = refl

  pub at_43 : (rate : Rate) → standing_at (places rate) f 43 ≡ by_rate rate f.bgf0 f.bgf2 f.bgf0
  at_43 At24 = refl
  at_43 At25 = refl
  at_43 At30 = refl

  pub at_59 : (rate : Rate) → standing_at (places rate) f 59 ≡ by_rate rate f.bgf2 f.mark f.bgf2
  at_59 At24 = refl
  at_59 At25 = refl
  at_59 At30 = refl

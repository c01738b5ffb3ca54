-- What an address, or two, are turned away by at a rate: in the table's order.
-- Assumes nothing.
use Rattle.refusals.specs.declared.types.Refusal.TheVariants.{OutsideTheClock, SkippedAddress, UnusedBitSet}
use Rattle.std.specs.Prelude.{Bool, false, not, ◌&&◌, ◌||◌, List, [], ◌∷◌}
use Rattle.refusals.specs.Answer.{Cause, ◌when◌}
use Rattle.rates.specs.declared.types.Flag.{Flag}
use Rattle.rates.specs.declared.types.Rate.{Rate}
use Rattle.rates.specs.declared.types.Address.{Address}
use Rattle.rates.specs.Rates.{is_yes, frames_in_second, may_drop}
use Rattle.rates.specs.Face.{outside, skipped}

-- 8 a field is outside the clock; 9 at 30, drop set, one of the skipped addresses; 10 drop asked for at 24 or 25, or another unused bit or place
abbrev pub address_refusals : Rate → Bool → Bool → Bool → Bool → List Cause
address_refusals rate drop out skip unused =
    (OutsideTheClock when out)
    ∷ (SkippedAddress when (may_drop rate && (drop && skip)))
    ∷ (UnusedBitSet when (unused || (drop && not (may_drop rate))))
    ∷ []

-- of an address, where something besides it may make 8 apply (`bad`) or 10 (`unused`)
abbrev pub refusals_besides : Bool → Bool → Rate → Flag → Address → List Cause
refusals_besides bad unused rate drop a =
    address_refusals rate (is_yes drop) (bad || outside (frames_in_second rate) a) (skipped a) unused

-- of an address by itself
abbrev pub refusals_of : Rate → Flag → Address → List Cause
refusals_of = refusals_besides false false

-- of two addresses: "One counting mode is named for both"; and again where something besides them may make 8 or 10 apply
abbrev pub refusals_of_two_besides : Bool → Bool → Rate → Flag → Address → Address → List Cause
refusals_of_two_besides bad unused rate drop a b =
    address_refusals rate (is_yes drop)
    (bad || (outside (frames_in_second rate) a || outside (frames_in_second rate) b))
    (skipped a || skipped b)
    unused

abbrev pub refusals_of_two : Rate → Flag → Address → Address → List Cause
refusals_of_two = refusals_of_two_besides false false

-- What each call of the clock answers: its refusals in the table's order, and then what is accepted.
-- Assumes nothing.
use Rattle.refusals.specs.declared.types.Refusal.TheVariants.{NumberPastTheDay, UnusedBitSet}
use Rattle.refusals.specs.declared.types.Refusal.{Refusal}
use Rattle.std.specs.Prelude.{ℕ, not, ◌&&◌, List, [], ◌∷◌, leb, ℤ, Err, Ok, Result}
use Rattle.refusals.specs.Answer.{Cause, ◌when◌, answer}
use Rattle.round.specs.Round.{distance_of, sum_of}
use Rattle.rates.specs.declared.types.Flag.{Flag}
use Rattle.rates.specs.declared.types.Rate.{Rate}
use Rattle.rates.specs.declared.types.Address.{Address}
use Rattle.clock.specs.declared.types.DayFrame.{DayFrame}
use Rattle.rates.specs.Rates.{is_yes, frames_in_second, frames_in_day, may_drop}
use Rattle.rates.specs.Refused.{refusals_of, refusals_of_two}
use Rattle.clock.specs.Counting.{count_of, address_at}

-- 10 drop asked for at 24 or 25; 14 the number is not below the day's count
abbrev pub number_refusals : Rate → Flag → ℕ → List Cause
number_refusals rate drop n =
    (UnusedBitSet when (is_yes drop && not (may_drop rate)))
    ∷ (NumberPastTheDay when leb (frames_in_day rate (is_yes drop)) n)
    ∷ []

-- the frame number of an address
unfoldable pub number_of : Rate → Flag → Address → Result DayFrame Refusal
number_of rate drop a =
    answer Err (refusals_of rate drop a) (Ok (record { 0 = count_of (frames_in_second rate) (is_yes drop) a }))

-- the address of a frame number
unfoldable pub address_of : Rate → Flag → DayFrame → Result Address Refusal
address_of rate drop n = answer Err (number_refusals rate drop n.0) (Ok (address_at (frames_in_second rate) (is_yes drop) n.0))

-- the address that clock fields make
unfoldable pub fields_of : Rate → Flag → Address → Result Address Refusal
fields_of rate drop a = answer Err (refusals_of rate drop a) (Ok a)

-- the signed count of frames from one address to another
unfoldable pub span_of : Rate → Flag → Address → Address → Result ℤ Refusal
span_of rate drop from to =
    let number = count_of (frames_in_second rate) (is_yes drop) in
    answer Err (refusals_of_two rate drop from to)
    (Ok (distance_of (frames_in_day rate (is_yes drop)) (number from) (number to)))

-- an address and a signed count of frames
unfoldable pub plus_of : Rate → Flag → Address → ℤ → Result Address Refusal
plus_of rate drop a count =
    let number = count_of (frames_in_second rate) (is_yes drop) a in
    answer Err (refusals_of rate drop a)
    (Ok (address_at (frames_in_second rate) (is_yes drop) (sum_of (frames_in_day rate (is_yes drop)) number count)))

-- What each call answers, at a rate and with so many pictures to an address: its refusals in the table's order, and then what is accepted.
-- Assumes nothing.
use Rattle.refusals.specs.declared.types.Refusal.TheVariants.{NumberPastTheDay, UnusedBitSet}
use Rattle.refusals.specs.declared.types.Refusal.{Refusal}
use Rattle.pictures.specs.declared.types.PictureInSecond.{PictureInSecond}
use Rattle.std.specs.Prelude.{ℕ, not, ◌&&◌, ◌||◌, List, [], ◌∷◌, leb, ℤ, Err, Ok, Result}
use Rattle.refusals.specs.Answer.{Cause, ◌when◌, answer}
use Rattle.round.specs.Round.{distance_of, sum_of}
use Rattle.rates.specs.declared.types.Flag.{Flag}
use Rattle.rates.specs.declared.types.Rate.{Rate}
use Rattle.rates.specs.Rates.{is_yes, frames_in_second, may_drop}
use Rattle.rates.specs.Refused.{refusals_besides, refusals_of_two_besides}
use Rattle.clock.specs.declared.types.DayFrame.{DayFrame}
use Rattle.pictures.specs.declared.types.Picture.{Picture}
use Rattle.pictures.specs.Pictures.{place_outside, place_unused, pictures_in_day, picture_number, number_in_second, picture_at}

-- of a picture: those of its address, where its place may make 8 apply too, or 10
abbrev pub picture_refusals : Rate → ℕ → Flag → Picture → List Cause
picture_refusals rate pictures drop p =
    refusals_besides (place_outside pictures p.place) (place_unused pictures p.place) rate drop p.address

-- of two: "One counting mode is named for both"
abbrev pub two_refusals : Rate → ℕ → Flag → Picture → Picture → List Cause
two_refusals rate pictures drop p q =
    refusals_of_two_besides
    (place_outside pictures p.place || place_outside pictures q.place)
    (place_unused pictures p.place || place_unused pictures q.place)
    rate drop p.address q.address

-- of a number: 10 drop asked for at 24 or 25; 14 the number is not below the day's count
abbrev pub number_refusals : Rate → ℕ → Flag → ℕ → List Cause
number_refusals rate pictures drop n =
    (UnusedBitSet when (is_yes drop && not (may_drop rate)))
    ∷ (NumberPastTheDay when leb (pictures_in_day rate pictures (is_yes drop)) n)
    ∷ []

-- the number of a picture
unfoldable pub number_of : Rate → ℕ → Flag → Picture → Result DayFrame Refusal
number_of rate pictures drop p =
    answer Err (picture_refusals rate pictures drop p)
    (Ok (record { 0 = picture_number (frames_in_second rate) pictures (is_yes drop) p }))

-- the number that was told, and 0 where none was
abbrev pub number_told : Result DayFrame Refusal → ℕ
number_told (Ok n) = n.0
number_told (Err k) = 0

-- the number of a picture within its second
unfoldable pub in_second_of : Rate → ℕ → Flag → Picture → Result PictureInSecond Refusal
in_second_of rate pictures drop p =
    answer Err (picture_refusals rate pictures drop p) (Ok (record { 0 = number_in_second pictures p }))

-- the picture of a number
unfoldable pub picture_of : Rate → ℕ → Flag → DayFrame → Result Picture Refusal
picture_of rate pictures drop n =
    answer Err (number_refusals rate pictures drop n.0) (Ok (picture_at (frames_in_second rate) pictures (is_yes drop) n.0))

-- the picture that clock fields and a place make
unfoldable pub fields_of : Rate → ℕ → Flag → Picture → Result Picture Refusal
fields_of rate pictures drop p = answer Err (picture_refusals rate pictures drop p) (Ok p)

-- the signed count of pictures from one to another
unfoldable pub span_of : Rate → ℕ → Flag → Picture → Picture → Result ℤ Refusal
span_of rate pictures drop from to =
    let number = picture_number (frames_in_second rate) pictures (is_yes drop) in
    answer Err (two_refusals rate pictures drop from to)
    (Ok (distance_of (pictures_in_day rate pictures (is_yes drop)) (number from) (number to)))

-- a picture and a signed count of pictures
unfoldable pub plus_of : Rate → ℕ → Flag → Picture → ℤ → Result Picture Refusal
plus_of rate pictures drop p count =
    let number = picture_number (frames_in_second rate) pictures (is_yes drop) p in
    answer Err (picture_refusals rate pictures drop p)
    (Ok (picture_at (frames_in_second rate) pictures (is_yes drop) (sum_of (pictures_in_day rate pictures (is_yes drop)) number count)))

-- What each call answers by mode: 2 where the mode is unknown, and else what the pictures or the record answer by the mode's row. Pictures are counted in modes 0 to 10; the calls
-- of the record are those of the linear track and the interval line, and know modes 0 to 5 (those of modes 6 to 10 are in `superframes`).
-- Assumes nothing.
use Rattle.refusals.specs.declared.types.Refusal.{Refusal}
use Rattle.pictures.specs.declared.types.PictureInSecond.{PictureInSecond}
use Rattle.std.specs.Prelude.{ℕ, ◌||◌, List, ℤ, Err, Ok, Result}
use Rattle.refusals.specs.Answer.{Cause, answer}
use Rattle.rates.specs.declared.types.Flag.{Flag}
use Rattle.clock.specs.declared.types.DayFrame.{DayFrame}
use Rattle.pictures.specs.declared.types.Picture.{Picture}
use Rattle.pictures.specs.Pictures.{place_outside, place_unused}
use Rattle.pictures.specs.Calls.{number_of, in_second_of, picture_of, fields_of, span_of, plus_of}
use Rattle.record.specs.declared.types.Record.{Record}
use Rattle.record.specs.Record.{record_of, info_of, group_above_15}
use Rattle.record.specs.Calls.{record_refusals, bits_refusals}
use Rattle.modes.specs.Modes.{rate_at, pictures_at, with_mode, in_mode}

-- the calls that count
unfoldable pub number_in : ℕ → Flag → Picture → Result DayFrame Refusal
number_in mode drop p = in_mode Err mode (λ rate pictures. number_of rate pictures drop p)

unfoldable pub in_second_in : ℕ → Flag → Picture → Result PictureInSecond Refusal
in_second_in mode drop p = in_mode Err mode (λ rate pictures. in_second_of rate pictures drop p)

unfoldable pub picture_in : ℕ → Flag → DayFrame → Result Picture Refusal
picture_in mode drop n = in_mode Err mode (λ rate pictures. picture_of rate pictures drop n)

unfoldable pub fields_in : ℕ → Flag → Picture → Result Picture Refusal
fields_in mode drop p = in_mode Err mode (λ rate pictures. fields_of rate pictures drop p)

unfoldable pub span_in : ℕ → Flag → Picture → Picture → Result ℤ Refusal
span_in mode drop from to = in_mode Err mode (λ rate pictures. span_of rate pictures drop from to)

unfoldable pub plus_in : ℕ → Flag → Picture → ℤ → Result Picture Refusal
plus_in mode drop p count = in_mode Err mode (λ rate pictures. plus_of rate pictures drop p count)

-- the record that 64 information bits hold, in modes 0 to 5 of the first picture, and the information bits that a record makes
abbrev pub record_in : ℕ → ℕ → Record
record_in mode info = record_of (rate_at mode) info

abbrev pub information_in : ℕ → Record → ℕ
information_in mode r = info_of (rate_at mode) r

-- what they are refused with, once the mode is known
abbrev pub bits_refusals_in : ℕ → ℕ → List Cause
bits_refusals_in mode info = bits_refusals (rate_at mode) info

-- "Pair place 1 in a record of modes 0 to 2 is refused by 10", and every other place but the first; in modes 3 to 5 a place that is not below 2 by 8
abbrev pub write_refusals_in : ℕ → Record → List Cause
write_refusals_in mode r =
    record_refusals (rate_at mode)
    (place_outside (pictures_at mode) r.place || group_above_15 r.groups)
    (place_unused (pictures_at mode) r.place)
    r

-- the calls of the record, each as one list, from which those that carry a picture go on
unfoldable pub unpacked_in : ℕ → ℕ → Result Record Refusal
unpacked_in mode info = answer Err (with_mode mode (bits_refusals_in mode info)) (Ok (record_in mode info))

unfoldable pub packed_in : ℕ → Record → Result ℕ Refusal
packed_in mode r = answer Err (with_mode mode (write_refusals_in mode r)) (Ok (information_in mode r))

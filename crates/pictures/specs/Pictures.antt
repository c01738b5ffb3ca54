-- Document 02, A4: "Add counting modes where two pictures share one address". Said of any number of pictures to an address: with one, a picture is an address.
-- Assumes nothing.
use Rattle.std.specs.Prelude.{ℕ, ◌+◌, ◌*◌, ◌/◌, ◌%◌, ◌≡◌, Bool, not, ◌&&◌, ltb, leb}
use Rattle.rates.specs.declared.types.Rate.{Rate}
use Rattle.rates.specs.declared.types.Address.{Address}
use Rattle.rates.specs.Rates.{frames_in_day}
use Rattle.clock.specs.Counting.{count_of, address_at}
use Rattle.pictures.specs.declared.types.Counting.{Counting}
use Rattle.pictures.specs.declared.types.Picture.{Picture}

-- a picture: an address, and a place among the pictures that share it, 0 the first
abbrev pub picture : Address → ℕ → Picture
picture a place = record { address = a; place = place }

-- how pictures are counted: the rate at which their addresses count, and the place of the last picture that shares an address
abbrev pub counting : Rate → ℕ → Counting
counting rate last = record { rate = rate; last = last }

-- more than one picture shares an address
abbrev pub several : ℕ → Bool
several pictures = ltb 1 pictures

-- where several pictures share an address, a place that none of them has. Document 02, A6: the place is "in modes 3 to 10 refused by 8 if not below the pictures to an
-- address"
abbrev pub place_outside : ℕ → ℕ → Bool
place_outside pictures place = several pictures && leb pictures place

-- where a picture has the address to itself, a place but the first is not used. A4: "Pair place 1 in a record of modes 0 to 2 is refused by 10"; A6: "in modes 0 to 2
-- refused by 10 unless it is 0"
abbrev pub place_unused : ℕ → ℕ → Bool
place_unused pictures place = not (several pictures) && ltb 0 place

-- "Day counts are double those in document 01": so many for each frame of the day
abbrev pub pictures_in_day : Rate → ℕ → Bool → ℕ
pictures_in_day rate pictures drop = pictures * frames_in_day rate drop

-- the number of a picture: those of the addresses before its own, and its place
abbrev pub picture_number : ℕ → ℕ → Bool → Picture → ℕ
picture_number fps pictures drop p = pictures * count_of fps drop p.address + p.place

-- two addresses of one second
pub record SameSecond (a b : Address) : Type 0 where
  pub hours : a.hours ≡ b.hours
  pub minutes : a.minutes ≡ b.minutes
  pub seconds : a.seconds ≡ b.seconds

-- "Highest frame within a second goes from 29 to 59 where pictures are counted": the number of a picture within its second, those of the frames before its own, and its place
abbrev pub number_in_second : ℕ → Picture → ℕ
number_in_second pictures p = pictures * p.address.frames.0 + p.place

-- the picture of number n
abbrev pub picture_at : ℕ → ℕ → Bool → ℕ → Picture
picture_at fps pictures drop n = picture (address_at fps drop (n / pictures)) (n % pictures)

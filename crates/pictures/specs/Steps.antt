-- The clock stepped picture by picture: each picture of an address in turn, and then the next address that the clock shows.
-- Assumes nothing.
use Rattle.std.specs.Prelude.{ℕ, zero, suc, ◌+◌, Bool, cond, ltb}
use Rattle.midnight.specs.Steps.{midnight, step}
use Rattle.pictures.specs.declared.types.Picture.{Picture}
use Rattle.pictures.specs.Pictures.{picture}

-- one picture on: the next place, or, after the last, the first place of the address one clock step on
abbrev pub picture_on : ℕ → ℕ → Bool → Picture → Picture
picture_on fps pictures drop p =
    cond (ltb (p.place + 1) pictures) (picture p.address (p.place + 1)) (picture (step fps drop p.address) 0)

-- a number of pictures on from a picture
unfoldable pub pictures_on : ℕ → ℕ → Bool → ℕ → Picture → Picture
pictures_on fps pictures drop zero p = p
pictures_on fps pictures drop (suc n) p = picture_on fps pictures drop (pictures_on fps pictures drop n p)

-- what is shown n pictures after midnight, whose first picture is number 0
abbrev pub picture_shown : ℕ → ℕ → Bool → ℕ → Picture
picture_shown fps pictures drop n = pictures_on fps pictures drop n (picture midnight 0)

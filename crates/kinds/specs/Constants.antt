-- The constants of the kinds: the table of frames in a second and in a day, and of pictures where several share an address.
-- Assumes nothing.
use Rattle.std.specs.Prelude.{ℕ, ◌*◌, List, [], ◌∷◌, ◌++◌}
use Rattle.rates.specs.declared.types.Flag.{Flag}
use Rattle.rates.specs.declared.types.Flag.TheVariants.{No, Yes}
use Rattle.rates.specs.declared.types.Rate.{Rate}
use Rattle.rates.specs.declared.types.Rate.TheVariants.{At24, At25, At30}
use Rattle.rates.specs.Rates.{is_yes, frames_in_second, frames_in_day}
use Rattle.pictures.specs.Pictures.{pictures_in_day}

-- "Each counting mode is a kind with its own constants: frames in a second, frames in a day"
abbrev pub constants_of : Rate → Flag → List ℕ
constants_of rate drop = frames_in_second rate ∷ frames_in_day rate (is_yes drop) ∷ []

-- those of the table's rows: 24, 25, 30 and 30 drop
abbrev pub kind_constants : List ℕ
kind_constants = constants_of At24 No ++ constants_of At25 No ++ constants_of At30 No ++ constants_of At30 Yes

-- Document 02, A4: "Highest frame within a second goes from 29 to 59 where pictures are counted", and "Day counts are double those in document 01": pictures in a second, and in a day
abbrev pub pair_constants_of : Rate → Flag → List ℕ
pair_constants_of rate drop = 2 * frames_in_second rate ∷ pictures_in_day rate 2 (is_yes drop) ∷ []

-- those of 48, 50, 60 and 59.94 drop
abbrev pub pair_constants : List ℕ
pair_constants = pair_constants_of At24 No ++ pair_constants_of At25 No ++ pair_constants_of At30 No ++ pair_constants_of At30 Yes

-- Document 02, A6: the same, of so many pictures to an address
abbrev pub high_constants_of : Rate → ℕ → Flag → List ℕ
high_constants_of rate pictures drop = pictures * frames_in_second rate ∷ pictures_in_day rate pictures (is_yes drop) ∷ []

-- those of 72, 96, 100, 120 as 24x5, 120 as 30x4 and 120 drop
abbrev pub high_constants : List ℕ
high_constants =
    high_constants_of At24 3 No ++ high_constants_of At24 4 No ++ high_constants_of At25 4 No ++ high_constants_of At24 5 No ++ high_constants_of At30 4 No
    ++ high_constants_of At30 4 Yes

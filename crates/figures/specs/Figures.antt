-- "the address (colon before the frames when drop is 0) and groups 1 to 8 in upper-case hex".
-- Assumes nothing.
use Rattle.std.specs.Prelude.{ℕ, ◌/◌, cond, List, [], ◌∷◌, ◌++◌}
use Rattle.rates.specs.declared.types.Flag.{Flag}
use Rattle.rates.specs.Rates.{is_yes}
use Rattle.record.specs.declared.types.Groups.{Groups}
use Rattle.record.specs.declared.types.Record.{Record}
use Rattle.text.specs.Numerals.{last_digit, hex_digit}

-- characters by their numbers
abbrev pub colon : ℕ
colon = 58

abbrev pub semicolon : ℕ
semicolon = 59

-- an hour, a minute, a second, a frame: its last two decimal digits
abbrev pub two_digits : ℕ → List ℕ
two_digits n = last_digit (n / 10) ∷ last_digit n ∷ []

-- "colon before the frames when drop is 0"
abbrev pub before_frames : Flag → ℕ
before_frames drop = cond (is_yes drop) semicolon colon

unfoldable pub address_text : Record → List ℕ
address_text r =
    two_digits r.address.hours
    ++ (colon ∷ two_digits r.address.minutes)
    ++ (colon ∷ two_digits r.address.seconds)
    ++ (before_frames r.flags.drop ∷ two_digits r.address.frames.0)

-- "groups 1 to 8 in upper-case hex"
unfoldable pub groups_text : Groups → List ℕ
groups_text g =
    hex_digit g.group1
    ∷ hex_digit g.group2
    ∷ hex_digit g.group3
    ∷ hex_digit g.group4
    ∷ hex_digit g.group5
    ∷ hex_digit g.group6
    ∷ hex_digit g.group7
    ∷ hex_digit g.group8
    ∷ []

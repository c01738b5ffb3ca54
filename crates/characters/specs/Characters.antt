-- "The program reads characters 0 and 1 in mode 2, skips spaces and line feeds, and ends at the input's end, at any other character,
-- or after 16,777,216 characters in all."
-- Assumes nothing.
use Rattle.std.specs.Prelude.{ℕ, ◌-◌, Bool, true, cond, ◌&&◌, ◌||◌, List, [], ◌∷◌, eqb, length}
use Rattle.text.specs.Ascii.{line_feed, space, zero_digit}
use Rattle.characters.specs.declared.types.Sifted.{Sifted}

abbrev pub one_digit : ℕ
one_digit = 49

-- "skips spaces and line feeds"
abbrev pub is_skipped : ℕ → Bool
is_skipped c = eqb c space || eqb c line_feed

-- "characters 0 and 1"
abbrev pub is_digit : ℕ → Bool
is_digit c = eqb c zero_digit || eqb c one_digit

-- the bits that the characters stand for, up to "any other character"
unfoldable pub bits_in : List ℕ → List ℕ
bits_in [] = []
bits_in (c ∷ cs) = cond (is_skipped c) (bits_in cs) (cond (is_digit c) ((c - zero_digit) ∷ bits_in cs) [])

-- no character ends the reading
unfoldable pub goes_on : List ℕ → Bool
goes_on [] = true
goes_on (c ∷ cs) = (is_skipped c || is_digit c) && goes_on cs

unfoldable pub sifted_of : List ℕ → Sifted
sifted_of run = record { bits = length (bits_in run); more = goes_on run }

-- Table 4 of source document 000 (ST 12-2), "VITC Line select number (SDTV interfaces only)", as it is printed, and request A9 in its own words. `atc` has the
-- ends of each column; that both say the same is a law.
-- Assumes nothing.
use Rattle.std.specs.Prelude.{ℕ, ◌+◌, ◌*◌, ◌/◌, ◌%◌, ◌≡◌, cond, List, [], ◌∷◌, ◌⊎◌, eqb}
use Rattle.atc.specs.declared.types.Interface.{Interface}
use Rattle.atc.specs.declared.types.Interface.TheVariants.{Lines525, Lines625, HighDefinition}

-- an entry is a line, of which field 1's number is given here; where the table has no line, none
abbrev pub none : ℕ
none = 0

-- a row: the number in "DBB2 bits b4 through b0", and its entries under "bit b5 = 0" and "bit b5 = 1" of 525/60, and of 625/50
pub record Row : Type 0 where
  pub number : ℕ
  pub once525 : ℕ
  pub repeated525 : ℕ
  pub once625 : ℕ
  pub repeated625 : ℕ

abbrev row : ℕ → ℕ → ℕ → ℕ → ℕ → ℕ → ℕ → ℕ → ℕ → Row
row b4 b3 b2 b1 b0 once525 repeated525 once625 repeated625 =
    record {
      number = 16 * b4 + 8 * b3 + 4 * b2 + 2 * b1 + b0;
      once525 = once525;
      repeated525 = repeated525;
      once625 = once625;
      repeated625 = repeated625;
    }

unfoldable pub table4 : List Row
table4 =
    row 0 0 1 1 0 none none 6 8
    ∷ row 0 0 1 1 1 none none 7 9
    ∷ row 0 1 0 0 0 none none 8 10
    ∷ row 0 1 0 0 1 none none 9 11
    ∷ row 0 1 0 1 0 10 12 10 12
    ∷ row 0 1 0 1 1 11 13 11 13
    ∷ row 0 1 1 0 0 12 14 12 14
    ∷ row 0 1 1 0 1 13 15 13 15
    ∷ row 0 1 1 1 0 14 16 14 16
    ∷ row 0 1 1 1 1 15 17 15 17
    ∷ row 1 0 0 0 0 16 18 16 18
    ∷ row 1 0 0 0 1 17 19 17 19
    ∷ row 1 0 0 1 0 18 20 18 20
    ∷ row 1 0 0 1 1 19 none 19 21
    ∷ row 1 0 1 0 0 20 none 20 22
    ∷ row 1 0 1 0 1 none none 21 none
    ∷ row 1 0 1 1 0 none none 22 none
    ∷ []

-- the entry of a row in the column of an interface and a bit b5: high definition has no column
abbrev entry_in : Interface → ℕ → Row → ℕ
entry_in Lines525 b5 r = cond (eqb b5 0) r.once525 r.repeated525
entry_in Lines625 b5 r = cond (eqb b5 0) r.once625 r.repeated625
entry_in HighDefinition b5 r = none

-- the entry of six bits: in the row of the lower five, b4 to b0, and the column of the sixth, b5
unfoldable pub entry_among : Interface → ℕ → List Row → ℕ
entry_among interface six [] = none
entry_among interface six (r ∷ rows) = cond (eqb r.number (six % 32)) (entry_in interface (six / 32) r) (entry_among interface six rows)

-- "525 or 625 line interfaces"
abbrev pub OfLines : Interface → Type 0
OfLines Lines525 = Unit {0}
OfLines Lines625 = Unit {0}
OfLines HighDefinition = ⊥

-- "For types 1 and 2 on 525 or 625 line interfaces .. any second byte whose low six bits have no entry in Table 4"
abbrev pub ClaimsImpossibleLine : Interface → ℕ → ℕ → Type 0
ClaimsImpossibleLine interface type second = OfLines interface × ((type ≡ 1) ⊎ (type ≡ 2)) × (entry_among interface (second % 64) table4 ≡ none)

-- Which line numbers the second byte of a packet may claim (document 02, A9). Source document 000 (ST 12-2) calls it DBB2:
-- 6.2.2.1 "Bits b4 through b0 of the distributed binary bit group DBB2 convey the line number .. The line select number depends on the television system and
-- shall be constrained to a range as shown in Table 4."
-- 6.2.2.2 "Bit b5 of DBB2 when set to 1 shall signify that the time codeword .. shall be inserted on the line number specified by DBB2 bits b4 through b0 and
-- shall be repeated again on the selected line number + 2 (see Table 4, bit b5 = 1)."
-- Assumes nothing.
use Rattle.std.specs.Prelude.{ℕ, ◌/◌, ◌%◌, Bool, false, not, ◌&&◌, ◌||◌, List, [], ◌∷◌, eqb, leb}
use Rattle.atc.specs.declared.types.Interface.{Interface}
use Rattle.atc.specs.declared.types.Interface.TheVariants.{Lines525, Lines625, HighDefinition}

-- a column of Table 4: the bit b5 at its head, and the first and the last number in bits b4 to b0 for which it has an entry
pub record Column : Type 0 where
  pub b5 : ℕ
  pub first : ℕ
  pub last : ℕ

abbrev pub column_of : ℕ → ℕ → ℕ → Column
column_of b5 first last = record { b5 = b5; first = first; last = last }

-- "Table 4 - VITC Line select number (SDTV interfaces only)": under "bit b5 = 0", "VITC on line N"; under "bit b5 = 1", "Repeated VITC on line (N+2)", which ends at the
-- same line and so two numbers earlier
-- "525/60": lines 10/273 to 20/283 (field 1/field 2); repeated, 12/275 to 20/283
abbrev pub columns525 : List Column
columns525 = column_of 0 10 20 ∷ column_of 1 10 18 ∷ []

-- "625/50": lines 6/319 to 22/335; repeated, 8/321 to 22/335
abbrev pub columns625 : List Column
columns625 = column_of 0 6 22 ∷ column_of 1 6 20 ∷ []

-- the low six bits of a second byte have an entry in a column
abbrev pub has_entry : ℕ → Column → Bool
has_entry second column =
    eqb (second / 32 % 2) column.b5 && (leb column.first (second % 32) && leb (second % 32) column.last)

abbrev pub some_entry : ℕ → List Column → Bool
some_entry second [] = false
some_entry second (column ∷ columns) = has_entry second column || some_entry second columns

-- "any second byte whose low six bits have no entry in Table 4 .. The caller names the interface; the high definition choice skips the check": there none is lacking,
-- because none is asked for
unfoldable pub lacks_entry : Interface → ℕ → Bool
lacks_entry Lines525 second = not (some_entry second columns525)
lacks_entry Lines625 second = not (some_entry second columns625)
lacks_entry HighDefinition second = false

-- "For types 1 and 2": VITC 1 and VITC 2
abbrev pub is_impossible_line : Interface → ℕ → ℕ → Bool
is_impossible_line interface type second = (eqb type 1 || eqb type 2) && lacks_entry interface second

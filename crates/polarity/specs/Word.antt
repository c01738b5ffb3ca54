-- "LTC. Bits 0-63 and the sync word, bits 64-79: 0011111111111101. All 80 bits must hold an even number of zeros; the polarity bit is set for that." Document 02,
-- A1: the standard "sets the polarity bit only if correction is desired, and leaves it 0 otherwise".
-- Assumes nothing.
use Rattle.std.specs.Prelude.{ℕ, ◌%◌, Bool, ◌&&◌, cond, List, [], ◌∷◌, ◌++◌, eqb, take}
use Rattle.bits.specs.Bits.{value, to_bits, zeros_in}
use Rattle.rates.specs.declared.types.Flag.{Flag}
use Rattle.rates.specs.declared.types.Flag.TheVariants.{No, Yes}
use Rattle.rates.specs.declared.types.Rate.{Rate}
use Rattle.rates.specs.Rates.{is_yes}
use Rattle.layout.specs.Flags.{flag_at, places}
use Rattle.record.specs.declared.types.Record.{Record}
use Rattle.record.specs.Record.{marked}
use Rattle.modes.specs.Calls.{information_in}
use Rattle.polarity.specs.declared.types.Found.{Found}
use Rattle.polarity.specs.declared.types.Word.{Word}
use Rattle.polarity.specs.declared.types.Found.TheVariants.{Corrected, Uncorrected}

-- what a word says: its record, and what was found
abbrev pub reading : Record → Found → Word
reading r found = record { «record» = r; found = found }

unfoldable pub sync_word : List ℕ
sync_word = 0 ∷ 0 ∷ 1 ∷ 1 ∷ 1 ∷ 1 ∷ 1 ∷ 1 ∷ 1 ∷ 1 ∷ 1 ∷ 1 ∷ 1 ∷ 1 ∷ 0 ∷ 1 ∷ []

-- the 80 bits of 64 information bits
abbrev pub word_with : ℕ → List ℕ
word_with info = to_bits 64 info ++ sync_word

-- the information bits of a word
abbrev pub info_in : List ℕ → ℕ
info_in word = value (take 64 word)

unfoldable pub odd_zeros : List ℕ → Bool
odd_zeros word = eqb (zeros_in word % 2) 1

-- "The mark is the polarity bit on LTC": it stands at the mark's place
abbrev pub polarity_bit : Rate → List ℕ → Flag
polarity_bit rate word = flag_at (places rate).mark (info_in word)

-- "its zeros are odd and its polarity bit is 1"
abbrev pub miscorrected : Rate → List ℕ → Bool
miscorrected rate word = odd_zeros word && is_yes (polarity_bit rate word)

-- "Reading tells which was found: corrected when the zeros are even, uncorrected when they are odd."
abbrev pub found_in : List ℕ → Found
found_in word = cond (odd_zeros word) Uncorrected Corrected

-- "Writing is told which to make, and uncorrected writes the bit as 0": corrected takes the information bits with the polarity bit set where with the bit clear
-- the zeros would be odd
abbrev pub made : Found → ℕ → ℕ → ℕ
made Corrected clear set = cond (odd_zeros (word_with clear)) set clear
made Uncorrected clear set = clear

-- the word that is made of a record
unfoldable pub word_of : ℕ → Record → Found → List ℕ
word_of mode r make = word_with (made make (information_in mode (marked No r)) (information_in mode (marked Yes r)))

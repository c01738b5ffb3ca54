-- Lists of words: how many data words there are, some of them, and how high a number can be that words hold together.
-- Assumes nothing.
use Prim.Native.Nat.{ℕ, zero, suc, ◌*◌, ◌/◌, ◌%◌, ◌^◌, ◌<◌}
use mathlib.Core.Path.{◌≡◌, refl, ap}
use mathlib.Core.List.{List, [], ◌∷◌}
use native.Mathlib.Nat.{pow-zero, pow-suc, add_comm, mul_comm}
use native.Mathlib.Omega.{arith}
use lib.Arith.{digits_lt}
use lib.ListN.{length, take, drop}
use Rattle.words.specs.Words.{data_word, data_words, gathered}

-- a data word for each bit
pub length_data_words : (bits : List ℕ) (info : ℕ) → length (data_words bits info) ≡ length bits
unfolding data_words
length_data_words [] info = refl
length_data_words (bit ∷ bits) info = ap suc (length_data_words bits (info / 16))

-- some of the data words, from the first on and up to the last
pub take_data_words : (n : ℕ) (bits : List ℕ) (info : ℕ) → take n (data_words bits info) ≡ data_words (take n bits) info
unfolding data_words
take_data_words zero bits info = refl
take_data_words (suc n) [] info = refl
take_data_words (suc n) (bit ∷ bits) info = ap (λ (rest : List ℕ). data_word (info % 16) bit ∷ rest) (take_data_words n bits (info / 16))

pub shifted : ℕ → ℕ → ℕ
shifted zero info = info
shifted (suc n) info = shifted n (info / 16)

pub drop_data_words : (n : ℕ) (bits : List ℕ) (info : ℕ) → drop n (data_words bits info) ≡ data_words (drop n bits) (shifted n info)
unfolding data_words shifted
drop_data_words zero bits info = refl
drop_data_words (suc n) [] info = refl
drop_data_words (suc n) (bit ∷ bits) info = drop_data_words n bits (info / 16)

module _ (part : ℕ → ℕ) (base : ℕ) where
  -- digits below the base make a number below its power
  pub gathered_below : ((word : ℕ) → part word < base) → (words : List ℕ) → gathered part base words < base ^ length words
  unfolding gathered
  gathered_below low [] = omega (arith, pow-zero base)
  gathered_below low (word ∷ words) =
      rw (add_comm (part word) (base * gathered part base words), mul_comm base (gathered part base words), pow-suc base (length words))
      (digits_lt (gathered_below low words) (low word))

-- Every list of at most 80 bits is exactly one state, and a state is one of these exactly where the check passes.
-- Assumes nothing.
use Prim.Native.Nat.{ℕ, zero, suc, ◌-◌, ◌^◌, ◌<◌, ◌≤◌}
use mathlib.Core.Path.{◌≡◌, refl, sym, ap, ap₂, ◌∙◌}
use mathlib.Core.Bool.{false}
use mathlib.Core.List.{List, [], ◌∷◌, ◌++◌}
use native.Mathlib.Omega.{arith}
use lib.Dec.{ltb}
use lib.ListN.{length, take, drop, replicate, length-append, length-replicate, length-drop, take-append-drop}
use lib.Seq.{length-take-le, take_at, drop_at}
use borrow.Author.Tests.{ltb-false, le-ltb, eqb-true, not-false}
use Rattle.refusals.proofs.Answered.{neither}
use Rattle.bits.specs.Bits.{value, to_bits, some_above, how_many, ones_in, AllBits}
use Rattle.bits.proofs.Bit.{head_within, tail_within, within_append, within_take, within_drop, length_to_bits, bits_of_number}
use Rattle.bits.proofs.Inverse.{value_to_bits, to_bits_value}
use Rattle.register.specs.declared.types.Reader.{Reader}
use Rattle.register.specs.declared.types.Ways.{Ways}
use Rattle.register.specs.Held.{register, held_bits, padded, reader_with, unreached}

-- a register full of zeros, and one with no ones
zeros_clean : (n : ℕ) → AllBits (replicate n 0)
unfolding some_above
zeros_clean zero = refl
zeros_clean (suc n) = zeros_clean n

no_ones : (n : ℕ) → ones_in (replicate n 0) ≡ 0
unfolding how_many
no_ones zero = refl
no_ones (suc n) = rw (no_ones n)

all_zeros : (bits : List ℕ) → AllBits bits → ones_in bits ≡ 0 → bits ≡ replicate (length bits) 0
unfolding how_many
all_zeros [] all none = refl
all_zeros (zero ∷ bits) all none = ap (λ (l : List ℕ). 0 ∷ l) (all_zeros bits (tail_within 1 0 bits all) (omega arith))
all_zeros (suc zero ∷ bits) all none = absurd (omega arith)
all_zeros (suc (suc bit) ∷ bits) all none = let low = head_within 1 (suc (suc bit)) bits all in absurd (omega arith)

-- what a register of 80 bits is cut into, and put together from
module _ (whole : List ℕ) (long : length whole ≡ 80) (all : AllBits whole) where
  joined_again : to_bits 64 (value (take 64 whole)) ++ to_bits 16 (value (drop 64 whole)) ≡ whole
  joined_again =
      let few : length (take 64 whole) ≡ 64 = length-take-le 64 whole (omega arith) in
      let rest : length (drop 64 whole) ≡ 16 = length-drop 64 whole ∙ omega arith in
      let low : to_bits 64 (value (take 64 whole)) ≡ take 64 whole = rw few at (to_bits_value (take 64 whole) (within_take 1 64 whole all)) in
      let high : to_bits 16 (value (drop 64 whole)) ≡ drop 64 whole = rw rest at (to_bits_value (drop 64 whole) (within_drop 1 64 whole all)) in
      ap₂ (λ (xs ys : List ℕ). xs ++ ys) low high ∙ take-append-drop 64 whole

-- the state that holds a list of at most 80 bits
module _ (mode : ℕ) (ways : Ways) (bits : List ℕ) (few : length bits ≤ 80) (all : AllBits bits) where
  padded_length : length (padded bits) ≡ 80
  padded_length = length-append (replicate (80 - length bits) 0) bits ∙ rw (length-replicate {A = ℕ} (80 - length bits) 0) (omega arith)

  padded_clean : AllBits (padded bits)
  padded_clean = within_append 1 (replicate (80 - length bits) 0) bits (zeros_clean (80 - length bits)) all

  pub register_of : register (reader_with mode ways bits) ≡ padded bits
  unfolding reader_with
  register_of = joined_again (padded bits) padded_length padded_clean

  -- it holds these bits
  pub held_of : held_bits (reader_with mode ways bits) ≡ bits
  unfolding reader_with
  held_of = ap (drop (80 - length bits)) register_of ∙ drop_at (replicate (80 - length bits) 0) bits (80 - length bits) (length-replicate {A = ℕ} (80 - length bits) 0)

  -- and the check passes
  pub check_of : unreached (reader_with mode ways bits) ≡ false
  unfolding reader_with unreached
  check_of =
      let below : take (80 - length bits) (register (reader_with mode ways bits)) ≡ replicate (80 - length bits) 0 =
      ap (take (80 - length bits)) register_of ∙ take_at (replicate (80 - length bits) 0) bits (80 - length bits) (length-replicate {A = ℕ} (80 - length bits) 0) in
      rw (le-ltb 80 (length bits) few, below, no_ones (80 - length bits))

module _ (r : Reader) where
  pub register_length : length (register r) ≡ 80
  register_length = length-append (to_bits 64 r.info) (to_bits 16 r.sync) ∙ rw (length_to_bits 64 r.info, length_to_bits 16 r.sync)

  pub register_clean : AllBits (register r)
  register_clean = within_append 1 (to_bits 64 r.info) (to_bits 16 r.sync) (bits_of_number 64 r.info) (bits_of_number 16 r.sync)

  pub held_clean : AllBits (held_bits r)
  held_clean = within_drop 1 (80 - r.held) (register r) register_clean

-- a state that passes the check is the one that holds its bits
module _ (r : Reader) (low : r.info < 2 ^ 64) (high : r.sync < 2 ^ 16) (passes : unreached r ≡ false) where
  pub few : r.held ≤ 80
  unfolding unreached
  few = ltb-false 80 r.held (neither (ltb 80 r.held) _ passes).0

  pub held_length : length (held_bits r) ≡ r.held
  held_length = let few' = few in length-drop (80 - r.held) (register r) ∙ rw (register_length r) (omega arith)

  below_is_zero : take (80 - r.held) (register r) ≡ replicate (80 - r.held) 0
  unfolding unreached
  below_is_zero =
      let k = 80 - r.held in
      let none = eqb-true (ones_in (take k (register r))) 0 (not-false _ (neither (ltb 80 r.held) _ passes).1) in
      let size : length (take k (register r)) ≡ k = length-take-le k (register r) (rw (register_length r) (omega arith)) in
      rw size at (all_zeros (take k (register r)) (within_take 1 k (register r) (register_clean r)) none)

  pub padded_held : padded (held_bits r) ≡ register r
  padded_held =
      rw held_length (ap (λ (l : List ℕ). l ++ held_bits r) (sym below_is_zero) ∙ take-append-drop (80 - r.held) (register r))

  pub reader_of_held : reader_with r.mode r.ways (held_bits r) ≡ r
  unfolding reader_with
  reader_of_held =
      let info : value (take 64 (padded (held_bits r))) ≡ r.info =
      rw (padded_held, take_at (to_bits 64 r.info) (to_bits 16 r.sync) 64 (length_to_bits 64 r.info)) (value_to_bits 64 r.info low) in
      let sync : value (drop 64 (padded (held_bits r))) ≡ r.sync =
      rw (padded_held, drop_at (to_bits 64 r.info) (to_bits 16 r.sync) 64 (length_to_bits 64 r.info)) (value_to_bits 16 r.sync high) in
      λ i. record { mode = r.mode; ways = r.ways; held = held_length i; info = info i; sync = sync i }

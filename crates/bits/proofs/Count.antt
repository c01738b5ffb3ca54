-- The language's count of ones is the number of ones of the bit list, at every width, and what that says of parity.
-- Assumes nothing.
use Prim.Native.Nat.{ℕ, zero, suc, ◌+◌, ◌/◌, ◌%◌, ◌^◌, ◌<◌, ◌≤◌}
use mathlib.Core.Path.{◌≡◌, refl, ap, sym, ◌∙◌}
use mathlib.Core.Bool.{cond}
use mathlib.Core.Logic.{◌↔◌}
use mathlib.Core.List.{List, [], ◌∷◌, ◌++◌}
use native.Mathlib.Omega.{arith}
use native.Mathlib.Nat.{zero-add, not-suc-le-zero, le_of_suc-le-suc, mod-lt}
use lib.Arith.{lt-one}
use lib.Dec.{eqb}
use lib.ListN.{length}
use lib.Count.{ones as counted, ones_step}
use lib.Pow.{pow_pos}
use Rattle.bits.specs.Bits.{to_bits, how_many, ones_in, zeros_in, AllBits}
use Rattle.bits.proofs.Bit.{head_within, tail_within, bits_of_number, length_to_bits}
use Rattle.bits.proofs.Inverse.{half_below, low_bits}

-- a bit counts for itself among the ones, and for what it lacks of one among the zeros
pub one_counts : (bit : ℕ) → bit ≤ 1 → cond (eqb bit 1) 1 0 ≡ bit
one_counts zero h = refl
one_counts (suc zero) h = refl
one_counts (suc (suc n)) h = absurd (not-suc-le-zero (le_of_suc-le-suc h))

zero_counts : (bit : ℕ) → bit ≤ 1 → bit + cond (eqb bit 0) 1 0 ≡ 1
zero_counts zero h = refl
zero_counts (suc zero) h = refl
zero_counts (suc (suc n)) h = absurd (not-suc-le-zero (le_of_suc-le-suc h))

-- `count_ones` of a number is the number of ones of its bit list
pub count_ones : (width n : ℕ) → n < 2 ^ width → counted n ≡ ones_in (to_bits width n)
unfolding to_bits how_many counted
count_ones zero n h = ap counted (lt-one h)
count_ones (suc width) n h =
    rw (ones_step n, count_ones width (n / 2) (half_below width n h), one_counts (n % 2) (omega arith))

-- each bit is a one or a zero
pub ones_and_zeros : (bits : List ℕ) → AllBits bits → ones_in bits + zeros_in bits ≡ length bits
unfolding how_many
ones_and_zeros [] all = refl
ones_and_zeros (bit ∷ bits) all =
    let small = head_within 1 bit bits all in
    let rest = ones_and_zeros bits (tail_within 1 bit bits all) in
    rw (one_counts bit small) (omega (arith, zero_counts bit small))

-- so the zeros of a bit list are what `count_ones` leaves of its width
pub count_zeros : (width n : ℕ) → n < 2 ^ width → counted n + zeros_in (to_bits width n) ≡ width
count_zeros width n h =
    rw (count_ones width n h) (ones_and_zeros (to_bits width n) (bits_of_number width n) ∙ length_to_bits width n)

-- the elements of two lists are counted apart
pub how_many_append : (given : ℕ) (xs ys : List ℕ) → how_many given (xs ++ ys) ≡ how_many given xs + how_many given ys
unfolding how_many
how_many_append given [] ys = sym (zero-add (how_many given ys))
how_many_append given (x ∷ xs) ys = rw (how_many_append given xs ys) (omega arith)

-- one more bit adds itself to the ones
pub ones_snoc : (bits : List ℕ) (bit : ℕ) → bit ≤ 1 → ones_in (bits ++ (bit ∷ [])) ≡ ones_in bits + bit
unfolding how_many
ones_snoc bits bit h = rw (how_many_append 1 bits (bit ∷ []), one_counts bit h) (omega arith)

-- the one bit that makes the count of ones even is the parity of the others: "b8 makes the count of ones in b0 to b8 even"
pub evened : (bits : List ℕ) (bit : ℕ) → bit ≤ 1 → ones_in (bits ++ (bit ∷ [])) % 2 ≡ 0 ↔ bit ≡ ones_in bits % 2
evened bits bit h =
    let all = ones_snoc bits bit h in
    (λ (even : ones_in (bits ++ (bit ∷ [])) % 2 ≡ 0). omega arith, λ (same : bit ≡ ones_in bits % 2). omega arith)

-- the ones among the low bits of a number, whatever stands above them
pub low_ones : (width n : ℕ) → counted (n % 2 ^ width) ≡ ones_in (to_bits width n)
low_ones width n = count_ones width (n % 2 ^ width) (mod-lt n (pow_pos width)) ∙ ap ones_in (low_bits width n)

-- The zeros at the bottom of a register, by the language's count of trailing zeros.
-- Assumes nothing.
use Prim.Native.Nat.{ℕ, zero, suc, ◌+◌, ◌/◌, ◌%◌, ◌<◌, ◌≤◌}
use mathlib.Core.Path.{◌≡◌, refl, sym, ap, ◌∙◌}
use mathlib.Core.Bool.{not}
use mathlib.Core.List.{List, [], ◌∷◌, ◌++◌}
use native.Mathlib.Omega.{arith}
use lib.Count.{count_trailing_zeros, under}
use native.Mathlib.Nat.{zero-add}
use lib.Dec.{ltb, eqb, leb-suc-suc}
use lib.ListN.{length, take}
use borrow.Author.Tests.{lt-ltb, le-ltb, ne_eqb}
use Rattle.bits.specs.Bits.{to_bits, how_many, ones_in, AllBits}
use Rattle.bits.proofs.Bit.{head_within, tail_within}
use Rattle.register.specs.Blank.{blank}

-- of a number's bits
pub blank_of_number : (width n : ℕ) → count_trailing_zeros width n ≡ blank (to_bits width n)
unfolding count_trailing_zeros to_bits blank
blank_of_number zero n = refl
blank_of_number (suc width) n = go (n % 2) (blank_of_number width (n / 2))
  where
    go : (bit : ℕ) → count_trailing_zeros width (n / 2) ≡ blank (to_bits width (n / 2)) → under bit (count_trailing_zeros width (n / 2)) ≡ blank (bit ∷ to_bits width (n / 2))
    go zero e = ap suc e
    go (suc bit) e = refl

-- of two lists side by side
pub blank_short : (xs ys : List ℕ) → blank xs < length xs → blank (xs ++ ys) ≡ blank xs
unfolding blank
blank_short [] ys h = absurd (omega arith)
blank_short (zero ∷ xs) ys h = ap suc (blank_short xs ys (omega arith))
blank_short (suc x ∷ xs) ys h = refl

pub blank_long : (xs ys : List ℕ) → length xs ≤ blank xs → blank (xs ++ ys) ≡ length xs + blank ys
unfolding blank
blank_long [] ys h = omega arith
blank_long (zero ∷ xs) ys h = ap suc (blank_long xs ys (omega arith)) ∙ omega arith
blank_long (suc x ∷ xs) ys h = absurd (omega arith)

-- a part of a list of bits has a one exactly where it is longer than what is blank
pub ones_by_blank : (k : ℕ) (bits : List ℕ) → AllBits bits → k ≤ length bits → not (eqb (ones_in (take k bits)) 0) ≡ ltb (blank bits) k
unfolding how_many blank
ones_by_blank zero bits all h = sym (le-ltb (blank bits) 0 (omega arith))
ones_by_blank (suc k) [] all h = absurd (omega arith)
ones_by_blank (suc k) (zero ∷ bits) all h =
    rw (zero-add (ones_in (take k bits)), leb-suc-suc (suc (blank bits)) k) (ones_by_blank k bits (tail_within 1 0 bits all) (omega arith))
ones_by_blank (suc k) (suc zero ∷ bits) all h =
    rw (ne_eqb (1 + ones_in (take k bits)) 0 (omega arith), lt-ltb 0 (suc k) (omega arith))
ones_by_blank (suc k) (suc (suc n) ∷ bits) all h = let low = head_within 1 (suc (suc n)) bits all in absurd (omega arith)

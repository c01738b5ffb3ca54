-- An element of a list of bits is 0 or 1; a number's bit list is a list of bits, as long as its width.
-- Assumes nothing.
use Prim.Native.Nat.{ℕ, zero, suc, ◌/◌, ◌%◌, ◌≤◌}
use mathlib.Core.Path.{◌≡◌, refl, sym, ap, ◌∙◌}
use mathlib.Core.Bool.{false, ◌||◌, or_assoc}
use mathlib.Core.List.{List, [], ◌∷◌, ◌++◌, reverse, reverse-cons}
use native.Mathlib.Omega.{arith}
use lib.Dec.{ltb}
use lib.ListN.{length, take, drop}
use borrow.Author.Tests.{le-ltb, ltb-false}
use Rattle.refusals.proofs.Answered.{neither}
use Rattle.bits.specs.Bits.{to_bits, some_above, AllBits}

pub head_within : (limit element : ℕ) (elements : List ℕ) → some_above limit (element ∷ elements) ≡ false → element ≤ limit
unfolding some_above
head_within limit element elements e = ltb-false limit element (neither (ltb limit element) (some_above limit elements) e).0

pub tail_within : (limit element : ℕ) (elements : List ℕ) → some_above limit (element ∷ elements) ≡ false → some_above limit elements ≡ false
unfolding some_above
tail_within limit element elements e = (neither (ltb limit element) (some_above limit elements) e).1

pub within_cons : (limit element : ℕ) (elements : List ℕ) → element ≤ limit → some_above limit elements ≡ false → some_above limit (element ∷ elements) ≡ false
unfolding some_above
within_cons limit element elements h e = rw (le-ltb limit element h) e

pub within_drop : (limit n : ℕ) (elements : List ℕ) → some_above limit elements ≡ false → some_above limit (drop n elements) ≡ false
within_drop limit zero elements e = e
within_drop limit (suc n) [] e = e
within_drop limit (suc n) (element ∷ elements) e = within_drop limit n elements (tail_within limit element elements e)

pub within_take : (limit n : ℕ) (elements : List ℕ) → some_above limit elements ≡ false → some_above limit (take n elements) ≡ false
unfolding some_above
within_take limit zero elements e = refl
within_take limit (suc n) [] e = refl
within_take limit (suc n) (element ∷ elements) e =
    within_cons limit element (take n elements) (head_within limit element elements e) (within_take limit n elements (tail_within limit element elements e))

pub bits_of_number : (width n : ℕ) → AllBits (to_bits width n)
unfolding to_bits some_above
bits_of_number zero n = refl
bits_of_number (suc width) n = within_cons 1 (n % 2) (to_bits width (n / 2)) (omega arith) (bits_of_number width (n / 2))

pub length_to_bits : (width n : ℕ) → length (to_bits width n) ≡ width
unfolding to_bits
length_to_bits zero n = refl
length_to_bits (suc width) n = ap suc (length_to_bits width (n / 2))

-- an element above the limit is in the first of two lists or in the second
pub above_append : (limit : ℕ) (xs ys : List ℕ) → some_above limit (xs ++ ys) ≡ (some_above limit xs || some_above limit ys)
unfolding some_above
above_append limit [] ys = refl
above_append limit (x ∷ xs) ys = rw (above_append limit xs ys) (sym (or_assoc (ltb limit x) (some_above limit xs) (some_above limit ys)))

pub within_append :
    (limit : ℕ) (xs ys : List ℕ) → some_above limit xs ≡ false → some_above limit ys ≡ false → some_above limit (xs ++ ys) ≡ false
within_append limit xs ys p q = above_append limit xs ys ∙ rw (p, q)

-- turned round, a list has the same elements
pub within_reverse : (limit : ℕ) (elements : List ℕ) → some_above limit elements ≡ false → some_above limit (reverse elements) ≡ false
unfolding some_above
within_reverse limit [] within = refl
within_reverse limit (element ∷ elements) within =
    let small = head_within limit element elements within in
    rw (reverse-cons element elements)
    (within_append limit (reverse elements) (element ∷ [])
    (within_reverse limit elements (tail_within limit element elements within))
    (within_cons limit element [] small refl))

-- An element for each number below a count, a test of each, and elements that are bits.
-- Assumes nothing.
use Prim.Native.Nat.{ℕ, zero, suc, ◌<◌, ◌≤◌}
use mathlib.Core.Path.{◌≡◌, refl, ap, ◌∙◌}
use mathlib.Core.Bool.{Bool, true, false}
use mathlib.Core.List.{List, [], ◌∷◌}
use native.Mathlib.Omega.{arith}
use native.Mathlib.Nat.{not-suc-le-zero, le_of_suc-le-suc}
use lib.Dec.{ltb}
use lib.ListN.{length, get_or}
use borrow.Author.Tests.{ltb-true, ltb-false}
use Rattle.refusals.proofs.Answered.{neither}
use Rattle.bits.specs.Bits.{some_above}
use Rattle.bits.proofs.Bit.{head_within, tail_within, within_cons}
use Rattle.interval.specs.Line.{each, some_below}

pub length_each : (count : ℕ) (f : ℕ → ℕ) → length (each count f) ≡ count
unfolding each
length_each zero f = refl
length_each (suc count) f = ap suc (length_each count (λ n. f (suc n)))

pub get_d_each : (count : ℕ) (f : ℕ → ℕ) (i : ℕ) → i < count → get_or (each count f) i 0 ≡ f i
unfolding each
get_d_each zero f i h = absurd (not-suc-le-zero h)
get_d_each (suc count) f zero h = refl
get_d_each (suc count) f (suc i) h = get_d_each count (λ n. f (suc n)) i (le_of_suc-le-suc h)

pub within_each : (limit count : ℕ) (f : ℕ → ℕ) → ((i : ℕ) → f i ≤ limit) → some_above limit (each count f) ≡ false
unfolding each some_above
within_each limit zero f small = refl
within_each limit (suc count) f small = within_cons limit (f 0) (each count (λ n. f (suc n))) (small 0) (within_each limit count (λ n. f (suc n)) (λ n. small (suc n)))

-- each element of a run of bits is a bit; past the end it counts as 0
pub within_at : (limit : ℕ) (xs : List ℕ) (i : ℕ) → some_above limit xs ≡ false → get_or xs i 0 ≤ limit
within_at limit [] i e = omega arith
within_at limit (x ∷ xs) zero e = head_within limit x xs e
within_at limit (x ∷ xs) (suc i) e = within_at limit xs i (tail_within limit x xs e)

module _ (test : ℕ → Bool) where
  pub none_of : (count i : ℕ) → i < count → some_below count test ≡ false → test i ≡ false
  unfolding some_below
  none_of zero i h e = absurd (not-suc-le-zero h)
  none_of (suc count) i h e = go (ltb i count) refl (λ lower. none_of count i lower)
    where
      both : (some_below count test ≡ false) × (test count ≡ false)
      both = neither (some_below count test) (test count) e

      go : (t : Bool) → ltb i count ≡ t → (i < count → some_below count test ≡ false → test i ≡ false) → test i ≡ false
      go true t before = before (ltb-true i count t) both.0
      go false t before =
          let last : i ≡ count = omega (arith, ltb-false i count t) in
          ap test last ∙ both.1

  pub none_below : (count : ℕ) → ((i : ℕ) → i < count → test i ≡ false) → some_below count test ≡ false
  unfolding some_below
  none_below zero all = refl
  none_below (suc count) all = rw (none_below count (λ i h. all i (omega arith))) (all count (omega arith))

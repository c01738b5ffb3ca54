-- The sum goes round midnight either way; the distance lies in its range, and adding it arrives.
-- Assumes nothing.
use Prim.Native.Nat.{ℕ, suc, ◌+◌, ◌-◌, ◌*◌, ◌/◌, ◌%◌, ◌<◌, ◌≤◌}
use mathlib.Core.Path.{◌≡◌, refl, ◌∙◌}
use mathlib.Core.Bool.{Bool, true, false}
use mathlib.Core.Logic.{◌⊎◌, inl, inr}
use native.Mathlib.Omega.{arith}
use native.Mathlib.Nat.{mod-lt, mod-eq_of_lt, mod-add-mod, add-mod_right, add-mul-mod_self_right, div-add-mod'}
use lib.Dec.{ltb, leb, le→leb, lt→ltb}
use lib.IntN.{ℤ, pos, negsuc, sub_ℕ}
use lib.Signed.{◌≤ℤ◌, ◌<ℤ◌}
use borrow.Author.Tests.{ltb-true, ltb-false, leb-true, leb-false, lt-ltb, le-ltb}
use Rattle.round.specs.Round.{distance_of, sum_of}

module _ (day : ℕ) where
  -- the sum is a number of the day
  pub sum_below : 0 < day → (n : ℕ) (count : ℤ) → sum_of day n count < day
  unfolding sum_of
  sum_below some n (pos count) = mod-lt (n + count) some
  sum_below some n (negsuc less) = mod-lt (n + (day - suc less % day)) some

  -- going back by a count and on by as much comes back to n
  pub back_and_on : (n less : ℕ) → n < day → sum_of day (sum_of day n (negsuc less)) (pos (suc less)) ≡ n
  unfolding sum_of
  back_and_on n less h =
      let off = suc less % day in
      let low : off < day = mod-lt (suc less) (omega arith) in
      let whole : n + (day - off) + suc less ≡ n + suc (suc less / day) * day = omega (arith, div-add-mod' (suc less) day) in
      mod-add-mod (n + (day - off)) day (suc less) ∙ rw whole (add-mul-mod_self_right n (suc (suc less / day)) day ∙ mod-eq_of_lt h)

-- a difference of two numbers, by which is the larger
pub ahead : (a b : ℕ) → b ≤ a → sub_ℕ a b ≡ pos (a - b)
ahead a b h = rw (le-ltb a b h)

pub behind : (a b : ℕ) → a < b → sub_ℕ a b ≡ negsuc (b - suc a)
behind a b h = rw (lt-ltb a b h)

-- the three ways that the distance is brought into its range: a day more, a day less, or as it is
pub data Brought (day from to : ℕ) : ℤ → Type 0 where
  on : (k : ℕ) → k < day / 2 → (from + k ≡ to) ⊎ (from + k ≡ to + day) → Brought day from to (pos k)
  back : (k : ℕ) → k < day / 2 → (to + suc k ≡ from) ⊎ (to + suc k ≡ from + day) → Brought day from to (negsuc k)

module _ (day from to : ℕ) (even : day % 2 ≡ 0) (a : from < day) (b : to < day) where
  pub brought : Brought day from to (distance_of day from to)
  unfolding distance_of
  brought = go (ltb (to + day / 2) from) refl (leb (from + day / 2) to) refl (ltb to from) refl
    where
      go : (l : Bool) → ltb (to + day / 2) from ≡ l → (m : Bool) → leb (from + day / 2) to ≡ m → (s : Bool) → ltb to from ≡ s
          → Brought day from to (distance_of day from to)
      go true l m' m s' s =
          let far = ltb-true (to + day / 2) from l in
          rw (l, ahead (to + day) from (omega arith)) (on (to + day - from) (omega arith) (inr (omega arith)))
      go false l true m s' s =
          let far = leb-true (from + day / 2) to m in
          rw (l, m, behind to (from + day) (omega arith)) (back (from + day - suc to) (omega arith) (inr (omega arith)))
      go false l false m true s =
          let near = ltb-false (to + day / 2) from l in
          let earlier = ltb-true to from s in
          rw (l, m, behind to from earlier) (back (from - suc to) (omega arith) (inl (omega arith)))
      go false l false m false s =
          let near = leb-false (from + day / 2) to m in
          let later = ltb-false to from s in
          rw (l, m, ahead to from later) (on (to - from) (omega arith) (inl (omega arith)))

-- "Adding the distance gives the second address back"
pub arrives : {day from to : ℕ} {z : ℤ} → to < day → Brought day from to z → sum_of day from z ≡ to
unfolding sum_of
arrives h (on k low (inl e)) = rw (e, mod-eq_of_lt h)
arrives {day} {from} {to} h (on k low (inr e)) = rw e (add-mod_right to day ∙ mod-eq_of_lt h)
arrives {day} {from} {to} h (back k low (inl e)) =
    let off : suc k % day ≡ suc k = mod-eq_of_lt (omega arith) in
    let sum : from + (day - suc k) ≡ to + day = omega arith in
    rw (off, sum) (add-mod_right to day ∙ mod-eq_of_lt h)
arrives {day} {from} {to} h (back k low (inr e)) =
    let off : suc k % day ≡ suc k = mod-eq_of_lt (omega arith) in
    let sum : from + (day - suc k) ≡ to = omega arith in
    rw (off, sum, mod-eq_of_lt h)

-- "from minus half a day up to, and not including, plus half a day"
pub in_range : {day from to : ℕ} {z : ℤ} → Brought day from to z → (sub_ℕ 0 (day / 2) ≤ℤ z) × (z <ℤ pos (day / 2))
in_range {day} (on k low e) =
    rw (behind 0 (day / 2) (omega arith)) (record { le = tt }, record { lt = lt→ltb k (day / 2) low })
in_range {day} (back k low e) =
    rw (behind 0 (day / 2) (omega arith)) (record { le = le→leb k (day / 2 - 1) (omega arith) }, record { lt = tt })

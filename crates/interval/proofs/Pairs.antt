-- The pairs of the groups of ten that were yielded.
-- Assumes nothing.
use Prim.Native.Nat.{ℕ, ◌+◌, ◌*◌, ◌-◌, ◌<◌, ◌≤◌, min}
use mathlib.Core.Path.{◌≡◌, refl, sym, ap, ◌∙◌}
use mathlib.Core.Bool.{Bool, true, false, not, ◌&&◌, ◌||◌}
use mathlib.Core.List.{List, [], ◌∷◌, ◌++◌}
use native.Mathlib.Omega.{arith}
use lib.Dec.{eqb}
use lib.ListN.{length, get_or, take, drop, length-drop}
use lib.Pointwise.{pointwise}
use borrow.Author.Tests.{eqb-true, eqb-false, eq-eqb, ne_eqb}
use lib.Seq.{drop_at, drop-drop, get_or-drop}
use Rattle.interval.specs.Line.{some_below, wrong_at, wrong_pair}
use Rattle.interval.proofs.Turns.{test_turns}

-- so many pairs were looked at, and what is left begins behind their groups
pub record Looked (line : List ℕ) (wrong : Bool) (rest : List ℕ) : Type 0 where
  pub pairs : ℕ
  pub within : pairs ≤ 9
  pub left : rest ≡ drop (10 * pairs) line
  pub told : wrong ≡ some_below pairs (wrong_at line)

pub look_begins : (line rest : List ℕ) → rest ≡ line → Looked line false rest
unfolding some_below
look_begins line rest all = record { pairs = 0; within = omega arith; left = all; told = refl }

-- one is the other's test turned about
swap : (a b : ℕ) → eqb a b ≡ eqb b a
swap a b = go (eqb b a) refl
  where
    go : (t : Bool) → eqb b a ≡ t → eqb a b ≡ t
    go true t = eq-eqb a b (sym (eqb-true b a t))
    go false t = ne_eqb a b (λ e. eqb-false b a t (sym e))

either : (p q : Bool) → not (p && (q && true)) ≡ (not p || not q)
either true true = refl
either true false = refl
either false q = refl

-- a group that does not begin with 1, 0
here : (group rest line : List ℕ) (start : ℕ) → 2 ≤ length group → group ++ rest ≡ drop start line
    → not (pointwise eqb (1 ∷ 0 ∷ []) (take 2 group)) ≡ (not (eqb (get_or line start 0) 1) || not (eqb (get_or line (start + 1) 0) 0))
here [] rest line start two at = absurd (omega (arith, two))
here (x ∷ []) rest line start two at = absurd (omega (arith, two))
here (x ∷ y ∷ group) rest line start two at =
    let none : start + 0 ≡ start = omega arith in
    let first : get_or line start 0 ≡ x = rw (none, ← at) at (sym (get_or-drop start line 0 0)) in
    let second : get_or line (start + 1) 0 ≡ y = rw (← at) at (sym (get_or-drop start line 1 0)) in
    either (eqb 1 x) (eqb 0 y) ∙ rw (first, second, swap 1 x, swap 0 y) refl

module _ (line rest : List ℕ) (wrong : Bool) (l : Looked line wrong rest) (whole : length line ≡ 90) where
  long : length rest ≡ 90 - 10 * l.pairs
  long = rw (l.left, length-drop (10 * l.pairs) line, whole) refl

  pub look_turns : (group next : List ℕ) → rest ≡ group ++ next → length group ≡ min 10 (length rest) → 0 < length rest
      → Looked line (wrong || not (pointwise eqb (1 ∷ 0 ∷ []) (take 2 group))) next
  look_turns group next parted size some =
      let ten : length group ≡ 10 = omega (arith, size, some, long) in
      let more : 10 * (l.pairs + 1) ≡ 10 * l.pairs + 10 = omega arith in
      let begun : group ++ next ≡ drop (10 * l.pairs) line = sym parted ∙ l.left in
      record {
        pairs = l.pairs + 1;
        within = omega (arith, some, long);
        left = rw more (sym (drop_at group next 10 ten) ∙ ap (λ (xs : List ℕ). drop 10 xs) begun ∙ drop-drop 10 (10 * l.pairs) line);
        told = rw (here group next line (10 * l.pairs) (omega (arith, ten)) begun) (test_turns (wrong_at line) wrong l.pairs l.told);
      }

  pub look_ends : length rest ≡ 0 → wrong ≡ wrong_pair line
  unfolding wrong_pair
  look_ends none = let all : l.pairs ≡ 9 = omega (arith, long, l.within) in rw all at l.told

-- All eight counts in one pass, eight places at a time.
-- Assumes nothing.
use Prim.Native.Nat.{ℕ, suc, ◌+◌, ◌-◌, ◌%◌, ◌≤◌, ◌<◌}
use mathlib.Core.Path.{◌≡◌, refl, sym, ◌∙◌}
use mathlib.Core.Bool.{Bool, true, false, cond}
use mathlib.Core.List.{List, [], ◌∷◌, ◌++◌, append_assoc}
use native.Mathlib.Numerals.{add-one}
use native.Mathlib.Omega.{arith}
use lib.Dec.{eqb}
use lib.ListN.{length, get_or, set, take, drop, length-append, length-set, replicate}
use lib.Seq.{ext_get_or, get_or-set_same, get_or-set_other, take-suc, take_all, drop_at, length-take-le}
use borrow.Author.Tests.{eqb-true, eqb-false, eq-eqb}
use Rattle.bits.specs.Bits.{AllBits}
use Rattle.interval.specs.Line.{each, ones_from, ones_at}
use Rattle.interval.proofs.Lists.{length_each, get_d_each, within_at, within_each}
use Rattle.interval.proofs.Stride.{one_in, ones_append}

-- for each remainder, whether its count is odd
abbrev pub odds_of : List ℕ → List ℕ
odds_of run = each 8 (λ remainder. ones_at remainder run % 2)

-- the counts once the ones of a part have been added
abbrev pub added : List ℕ → List ℕ → List ℕ
added before part = each 8 (λ remainder. (get_or before remainder 0 + ones_at remainder part) % 2)

module _ (remainder : ℕ) where
  -- from two places of one remainder by 8 the same is counted
  pub ones_alike : (xs : List ℕ) (place other : ℕ) → place % 8 ≡ other % 8 → ones_from remainder place xs ≡ ones_from remainder other xs
  unfolding ones_from
  ones_alike [] place other same = refl
  ones_alike (x ∷ xs) place other same = rw (same, ones_alike xs (suc place) (suc other) (omega arith))

  -- a part that begins at a place of remainder 0 is counted as if it stood alone
  pub ones_further : (xs ys : List ℕ) → length xs % 8 ≡ 0 → ones_at remainder (xs ++ ys) ≡ ones_at remainder xs + ones_at remainder ys
  ones_further xs ys whole = rw (ones_append remainder xs ys 0, ones_alike ys (length xs + 0) 0 (omega arith))

  -- one element more counts to the remainder of its place
  pub ones_next : (xs : List ℕ) (x : ℕ) → ones_at remainder (xs ++ (x ∷ [])) ≡ ones_at remainder xs + cond (eqb (length xs % 8) remainder) (one_in x) 0
  unfolding ones_from
  ones_next xs x =
      let place : length xs + 0 ≡ length xs = omega arith in
      rw (ones_append remainder xs (x ∷ []) 0, place) (omega arith)

-- elements that are what f gives, one by one
pub each_of : (count : ℕ) (f : ℕ → ℕ) (xs : List ℕ) → length xs ≡ count → ((i : ℕ) → i < count → get_or xs i 0 ≡ f i) → xs ≡ each count f
each_of count f xs long same =
    ext_get_or
    0
    xs
    (each count f)
    (long ∙ sym (length_each count f))
    (λ i h. same i (rw long at h) ∙ sym (get_d_each count f i (rw long at h)))

-- adding the ones of a part, element by element: each count has those of the places so far
pub record Adding (part before odds : List ℕ) (place : ℕ) : Type 0 where
  pub within : place ≤ length part
  pub long : length odds ≡ 8
  pub so_far : (remainder : ℕ) → remainder < 8 → get_or odds remainder 0 ≡ (get_or before remainder 0 + ones_at remainder (take place part)) % 2

module _ (part before : List ℕ) where
  pub add_begins : length before ≡ 8 → AllBits before → Adding part before before 0
  unfolding ones_from
  add_begins long bits =
      record { within = omega arith; long = long; so_far = λ remainder h. omega (arith, within_at 1 before remainder bits) }

  module _ (odds : List ℕ) (place : ℕ) (a : Adding part before odds place) where
    mine : place % 8 < 8
    mine = omega arith

    pub add_small : get_or odds (place % 8) 0 ≤ 1
    add_small = omega (arith, a.so_far (place % 8) mine)

    pub add_turns : (one : ℕ) → one ≡ one_in (get_or part place 0) → place < length part
        → Adding part before (set odds (place % 8) ((get_or odds (place % 8) 0 + one) % 2)) (place + 1)
    add_turns one seen more =
        record {
          within = omega arith;
          long = length-set odds (place % 8) odd ∙ a.long;
          so_far = λ remainder h. rw (add-one place, take-suc part place 0 more) (go remainder h (eqb (place % 8) remainder) refl);
        }
      where
        odd : ℕ
        odd = (get_or odds (place % 8) 0 + one) % 2

        counted : (remainder : ℕ)
            → ones_at remainder (take place part ++ (get_or part place 0 ∷ [])) ≡ ones_at remainder (take place part) + cond (eqb (place % 8) remainder) one 0
        counted remainder = rw (length-take-le place part a.within, ← seen) at (ones_next remainder (take place part) (get_or part place 0))

        go : (remainder : ℕ) → remainder < 8 → (t : Bool) → eqb (place % 8) remainder ≡ t
            → get_or (set odds (place % 8) odd) remainder 0 ≡ (get_or before remainder 0 + ones_at remainder (take place part ++ (get_or part place 0 ∷ []))) % 2
        go remainder h true t =
            let here : place % 8 ≡ remainder = eqb-true (place % 8) remainder t in
            let sum = rw (eq-eqb (place % 8) (place % 8) refl) at (counted (place % 8)) in
            rw (← here)
            (get_or-set_same odds (place % 8) odd 0 (rw a.long mine) ∙ omega (arith, a.so_far (place % 8) mine, sum))
        go remainder h false t =
            let sum = rw t at (counted remainder) in
            get_or-set_other odds (place % 8) remainder odd 0 (λ e. eqb-false (place % 8) remainder t (sym e)) ∙ omega (arith, a.so_far remainder h, sum)

    pub add_ends : length part ≤ place → odds ≡ added before part
    add_ends all =
        each_of
        8
        (λ remainder. (get_or before remainder 0 + ones_at remainder part) % 2)
        odds
        a.long
        (λ remainder h. rw (take_all place part all) at (a.so_far remainder h))

-- the counts of a front of whole eights, and the ones of the part that follows: the counts of both together
pub further : (front part : List ℕ) → length front % 8 ≡ 0 → added (odds_of front) part ≡ odds_of (front ++ part)
further front part whole =
    each_of
    8
    (λ remainder. ones_at remainder (front ++ part) % 2)
    (added (odds_of front) part)
    (length_each 8 steps)
    (λ remainder h. get_d_each 8 steps remainder h ∙ both remainder h)
  where
    steps : ℕ → ℕ
    steps remainder = (get_or (odds_of front) remainder 0 + ones_at remainder part) % 2

    both : (remainder : ℕ) → remainder < 8 → steps remainder ≡ ones_at remainder (front ++ part) % 2
    both remainder h = rw (get_d_each 8 (λ n. ones_at n front % 2) remainder h, ones_further remainder front part whole) (omega arith)

-- the pass: the counts of the elements so far, which are whole eights
pub record Passing (run odds rest : List ℕ) : Type 0 where
  pub front : List ℕ
  pub together : front ++ rest ≡ run
  pub whole : length front % 8 ≡ 0
  pub so_far : odds ≡ odds_of front

module _ (run : List ℕ) where
  pub eights_begin : (rest : List ℕ) → rest ≡ run → Passing run (replicate 8 0) rest
  unfolding each ones_from
  eights_begin rest all = record { front = []; together = all; whole = refl; so_far = refl }

  module _ (odds rest : List ℕ) (p : Passing run odds rest) where
    -- what adding the next elements asks
    pub eights_ask : (length odds ≡ 8) × AllBits odds
    eights_ask = (
      rw p.so_far (length_each 8 (λ remainder. ones_at remainder p.front % 2)),
      rw p.so_far (within_each 1 8 (λ remainder. ones_at remainder p.front % 2) (λ remainder. omega arith)),
    )

    counted : (part after : List ℕ) → after ≡ added odds part → after ≡ odds_of (p.front ++ part)
    counted part after told = rw (told, p.so_far) (further p.front part p.whole)

    pub eights_turn : (part left after : List ℕ) → rest ≡ part ++ left → length part ≡ 8 → after ≡ added odds part → Passing run after left
    eights_turn part left after next eight told = record {
      front = p.front ++ part;
      together = append_assoc p.front part left ∙ (rw next at p.together);
      whole = rw (length-append p.front part, eight) (omega (arith, p.whole));
      so_far = counted part after told;
    }

    pub eights_end : (end after : List ℕ) → length rest < 8 → end ≡ drop (length run - length run % 8) run → after ≡ added odds end → after ≡ odds_of run
    eights_end end after few is told =
        let long : length run ≡ length p.front + length rest = rw (← p.together) (length-append p.front rest) in
        let at : length run - length run % 8 ≡ length p.front = omega (arith, p.whole) in
        let rest_is : end ≡ rest = is ∙ rw (at, ← p.together) (drop_at p.front rest (length p.front) refl) in
        counted end after told ∙ rw (rest_is, p.together)

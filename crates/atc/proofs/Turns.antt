-- The loops begin, go on and end.
-- Assumes nothing.
use Prim.Native.Nat.{ℕ, suc, ◌+◌, ◌-◌, ◌*◌, ◌^◌, ◌≤◌, ◌<◌}
use mathlib.Core.Path.{◌≡◌, refl, sym, ap, ◌∙◌}
use mathlib.Core.List.{List, [], ◌∷◌, ◌++◌, append-nil, append_assoc}
use native.Mathlib.Nat.{pow-le-pow_right, pow-suc, lt_of_lt_of_le, mul_comm}
use native.Mathlib.Omega.{arith}
use lib.Arith.{digits_lt}
use lib.ListN.{length, get_or, drop, length-drop, length-append}
use lib.Seq.{drop-cons, drop-length}
use Rattle.std.proofs.lemmas.List.{get_or_at}
use Rattle.words.specs.Words.{gathered}
use Rattle.words.proofs.Lists.{gathered_below}
use Rattle.atc.specs.Loops.{Gathering}

-- the words that are still to come stand before those that were read
pub record Coming (words rest : List ℕ) : Type 0 where
  pub read : List ℕ
  pub whole : rest ++ read ≡ words

module _ (words rest before : List ℕ) (word : ℕ) (c : Coming words rest) (next : rest ≡ before ++ (word ∷ [])) where
  both : before ++ (word ∷ c.read) ≡ words
  both = sym (append_assoc before (word ∷ []) c.read) ∙ (rw next at c.whole)

  pub coming_turns : Coming words before
  coming_turns = record { read = word ∷ c.read; whole = both }

  pub word_here : get_or words (length before) 0 ≡ word
  word_here = rw (← both) (get_or_at before word c.read 0 (length before) refl)

  pub one_less : length rest ≡ suc (length before)
  one_less = rw (next, length-append before (word ∷ [])) (omega arith)

module _ (part : ℕ → ℕ) (base : ℕ) where
  module _ (words : List ℕ) where
    pub gather_begins : Gathering part base words 0 (length words)
    unfolding gathered
    gather_begins = record { within = omega arith; so_far = rw drop-length }

    module _ (number i : ℕ) (g : Gathering part base words number i) where
      -- there is room for one digit more
      pub gather_room : (most : ℕ) → 0 < base → ((word : ℕ) → part word < base) → 0 < i → length words ≤ suc most → number < base ^ most
      gather_room most some low more short =
          let few : length words - i ≤ most = omega arith in
          let below : number < base ^ (length words - i) = rw (g.so_far, ← length-drop i words) (gathered_below part base low (drop i words)) in
          lt_of_lt_of_le below (pow-le-pow_right some few)

      pub gather_turns : 0 < i → Gathering part base words (part (get_or words (i - 1) 0) + base * number) (i - 1)
      unfolding gathered
      gather_turns some =
          let same : suc (i - 1) ≡ i = omega arith in
          let here : drop (i - 1) words ≡ get_or words (i - 1) 0 ∷ drop i words =
          rw same at (drop-cons words (i - 1) 0 (omega (arith, g.within))) in
          record { within = omega (arith, g.within); so_far = rw (here, ← g.so_far) }

      pub gather_ends : i ≤ 0 → number ≡ gathered part base words
      gather_ends none = let zero : i ≡ 0 = omega arith in rw zero at g.so_far

    -- the same over the words that are still to come
    module _ (rest before : List ℕ) (word : ℕ) (c : Coming words rest) (next : rest ≡ before ++ (word ∷ [])) (number : ℕ) (g : Gathering part base words number (length rest)) where
      less : length rest ≡ suc (length before)
      less = one_less words rest before word c next

      pub digit_turns : (digit scale : ℕ) → digit ≡ part word → scale ≡ base → Gathering part base words (digit + scale * number) (length before)
      digit_turns digit scale d s =
          let last : length rest - 1 ≡ length before = omega (arith, less) in
          rw (d, s) (rw (last, word_here words rest before word c next) at (gather_turns number (length rest) g (omega (arith, less))))

      pub digit_fits : (most digit scale : ℕ) → digit ≡ part word → scale ≡ base → 0 < base → ((n : ℕ) → part n < base) → base ^ length words ≤ most → digit + scale * number < most
      digit_fits most digit scale d s some low fits =
          let size : length words ≡ suc (length words - 1) = omega (arith, g.within, less) in
          let room : number < base ^ (length words - 1) = gather_room number (length rest) g (length words - 1) some low (omega (arith, less)) (omega (arith, size)) in
          let below : number * base + part word < base ^ (length words - 1) * base = digits_lt room (low word) in
          let up : base ^ length words ≡ base ^ (length words - 1) * base = ap (λ (n : ℕ). base ^ n) size ∙ pow-suc base (length words - 1) in
          rw (d, s, mul_comm base number) (omega (arith, below, up, fits))

  pub digits_begin : (words rest : List ℕ) → rest ≡ words → Coming words rest × Gathering part base words 0 (length rest)
  digits_begin words rest all = rw all (record { read = []; whole = append-nil words }, gather_begins words)

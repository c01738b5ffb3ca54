-- The loops begin, go on and end.
-- Assumes nothing.
use Prim.Native.Nat.{ℕ, suc, ◌+◌, ◌-◌, ◌/◌, ◌%◌, ◌≤◌, ◌<◌}
use mathlib.Core.Path.{◌≡◌, sym, ◌∙◌}
use mathlib.Core.List.{List, [], ◌∷◌, append-nil, append_assoc}
use native.Mathlib.Omega.{arith}
use native.Mathlib.Numerals.{add-one}
use lib.ListN.{length, get_or, set, take, drop, length-set, drop_of_length-le}
use lib.Seq.{drop-cons, take_all}
use Rattle.std.proofs.lemmas.List.{take_more_set}
use Rattle.bits.specs.Bits.{to_bits}
use Rattle.words.specs.Words.{data_word, sum9, data_words}
use Rattle.words.specs.Loops.{Summing, Storing}

module _ (words : List ℕ) where
  pub sum_begins : Summing words 0 0
  sum_begins = record { within = omega arith; small = omega arith; so_far = omega arith }

  pub sum_turns : (sum i : ℕ) → Summing words sum i → i < length words → Summing words ((sum + get_or words i 0 % 512) % 512) (i + 1)
  unfolding sum9
  sum_turns sum i s h =
      let next : sum9 (drop i words) ≡ get_or words i 0 % 512 + sum9 (drop (suc i) words) = rw (drop-cons words i 0 h) in
      record { within = omega arith; small = omega arith; so_far = rw (add-one i) (omega (arith, s.so_far)) }

  pub sum_ends : (sum i : ℕ) → Summing words sum i → length words ≤ i → sum ≡ sum9 words % 512
  unfolding sum9
  sum_ends sum i s h = let all = rw (drop_of_length-le words h) at s.so_far in omega (arith, all, s.small)

module _ (info carried size : ℕ) (run : List ℕ) (left bits i : ℕ) (s : Storing info carried size run left bits i) where
  pub store_turns : (word : ℕ) → i < length run → word ≡ data_word (left % 16) (bits % 2) → Storing info carried size (set run i word) (left / 16) (bits / 2) (i + 1)
  unfolding to_bits data_words
  store_turns word h e =
      let more : size - i ≡ suc (size - (i + 1)) = omega (arith, s.long) in
      record {
        within = omega (arith, s.long);
        long = length-set run i word ∙ s.long;
        so_far =
            rw (take_more_set run i word h, e)
            (append_assoc (take i run) (data_word (left % 16) (bits % 2) ∷ []) (data_words (to_bits (size - (i + 1)) (bits / 2)) (left / 16)) ∙ (rw more at s.so_far));
      }

  pub store_ends : length run ≤ i → run ≡ data_words (to_bits size carried) info
  unfolding to_bits data_words
  store_ends h =
      let whole : take i run ≡ run = take_all i run h in
      let none : size - i ≡ 0 = omega (arith, s.long) in
      sym (append-nil run) ∙ rw (whole, none) at s.so_far

-- The CRC: the eight bits that make every count even are these and no others.
-- Assumes nothing.
use Prim.Native.Nat.{ℕ, suc, ◌+◌, ◌%◌, ◌<◌, ◌≤◌}
use mathlib.Core.Path.{◌≡◌, refl, sym, ap, ◌∙◌}
use mathlib.Core.Bool.{Bool, false, not}
use mathlib.Core.List.{List, [], ◌++◌}
use native.Mathlib.Omega.{arith}
use native.Mathlib.Nat.{add-zero}
use lib.Dec.{eqb}
use lib.ListN.{length, get_or, drop, drop_of_length-le}
use lib.Seq.{drop-cons, drop-drop, ext_get_or}
use borrow.Author.Tests.{eq-eqb, eqb-true, not-false}
use Rattle.bits.specs.Bits.{AllBits}
use Rattle.bits.proofs.Count.{one_counts}
use Rattle.interval.specs.Line.{ones_from, ones_at, odd_at, wrong_crc, crc_of}
use Rattle.interval.proofs.Lists.{get_d_each, within_at, none_of, none_below}
use Rattle.interval.proofs.Stride.{ones_append, skip, stride}
use Rattle.interval.proofs.Shape.{length_crc, clean_crc}

module _ (front : List ℕ) (long : length front ≡ 82) where
  -- of each remainder exactly one place is a CRC bit's
  counted : (c : List ℕ) → length c ≡ 8 → AllBits c → (i : ℕ) → i < 8
      → ones_at ((82 + i) % 8) (front ++ c) ≡ ones_at ((82 + i) % 8) front + get_or c i 0
  unfolding ones_from
  counted c eight bits i h =
      let past : length c ≤ suc i + 7 = omega arith in
      let none : drop 7 (drop (suc i) c) ≡ [] = drop-drop 7 (suc i) c ∙ drop_of_length-le c past in
      let from82 : ones_from ((82 + i) % 8) 82 c ≡ get_or c i 0 =
      skip ((82 + i) % 8) i c 82 (λ j l e. omega arith)
      ∙ rw (drop-cons c i 0 (omega arith))
      (stride ((82 + i) % 8) (get_or c i 0) (drop (suc i) c) (82 + i) refl
      ∙ rw (none, one_counts (get_or c i 0) (within_at 1 c i bits)) (add-zero (get_or c i 0))) in
      rw (ones_append ((82 + i) % 8) front c 0, long, from82)

  -- a count that is even in the test's words
  even : (c : List ℕ) (k : ℕ) → odd_at (front ++ c) k ≡ false → ones_at k (front ++ c) % 2 ≡ 0
  even c k e = eqb-true (ones_at k (front ++ c) % 2) 0 (not-false (eqb (ones_at k (front ++ c) % 2) 0) e)

  crc_at : (i : ℕ) → i < 8 → get_or (crc_of front) i 0 ≡ ones_at ((82 + i) % 8) front % 2
  unfolding crc_of
  crc_at i h = get_d_each 8 (λ i. ones_at ((82 + i) % 8) front % 2) i h

  -- the CRC makes every count even
  pub crc_right : wrong_crc (front ++ crc_of front) ≡ false
  unfolding wrong_crc
  crc_right =
      none_below (odd_at (front ++ crc_of front)) 8
      (λ k h.
      let same : (82 + (k + 6) % 8) % 8 ≡ k = omega arith in
      let all = counted (crc_of front) (length_crc front) (clean_crc front) ((k + 6) % 8) (omega arith) in
      let bit = crc_at ((k + 6) % 8) (omega arith) in
      let zero : ones_at ((82 + (k + 6) % 8) % 8) (front ++ crc_of front) % 2 ≡ 0 = omega arith in
      ap (λ (t : Bool). not t) (eq-eqb (ones_at k (front ++ crc_of front) % 2) 0 (rw same at zero)))

  -- and no other eight bits do
  pub crc_only : (c : List ℕ) → length c ≡ 8 → AllBits c → wrong_crc (front ++ c) ≡ false → c ≡ crc_of front
  unfolding wrong_crc
  crc_only c eight bits right =
      ext_get_or 0 c (crc_of front) (eight ∙ sym (length_crc front))
      (λ i h.
      let low : i < 8 = omega arith in
      let all = counted c eight bits i low in
      let zero = even c ((82 + i) % 8) (none_of (odd_at (front ++ c)) 8 ((82 + i) % 8) (omega arith) right) in
      let bit = within_at 1 c i bits in
      let made = crc_at i low in
      omega arith)

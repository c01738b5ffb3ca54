-- A line and its 64 bits: the line that they make is sound, and every sound line is the one that its own bits make.
-- Assumes nothing.
use Prim.Native.Nat.{ℕ, ◌+◌, ◌-◌, ◌*◌, ◌/◌, ◌%◌, ◌^◌, ◌<◌, ◌≤◌}
use mathlib.Core.Path.{◌≡◌, refl, sym, ap, subst, ◌∙◌}
use mathlib.Core.Bool.{Bool, true, false, not}
use mathlib.Core.List.{List, ◌++◌}
use mathlib.Core.Logic.{◌↔◌}
use native.Mathlib.Omega.{arith}
use lib.Dec.{eqb}
use lib.ListN.{length, get_or, take, drop, length-drop, take-append-drop}
use lib.Seq.{ext_get_or, get_or-take, take_at, length-take-le}
use borrow.Author.Tests.{eqb-true, eqb-false, not-false}
use Rattle.refusals.proofs.Answered.{neither}
use Rattle.bits.specs.Bits.{to_bits, AllBits}
use Rattle.bits.proofs.Bit.{within_drop}
use Rattle.bits.proofs.Inverse.{to_bits_value, value_below}
use Rattle.interval.specs.Line.{place_of, information_of, info_in, wrong_at, wrong_pair, wrong_crc, payload, crc_of, line_with}
use Rattle.interval.proofs.Lists.{length_each, get_d_each, within_each, within_at, none_of}
use Rattle.interval.proofs.Shape.{length_payload, length_line, clean_line}
use Rattle.trips.proofs.Crc.{crc_right, crc_only}
use Rattle.trips.proofs.Standing.{bit_stands, pair_stands, pairs_right, info_stands}

-- 90 bits with nine pairs 1, 0 and every count even
pub record Sound (line : List ℕ) : Type 0 where
  pub long : length line ≡ 90
  pub clean : AllBits line
  pub pairs : wrong_pair line ≡ false
  pub crc : wrong_crc line ≡ false

-- the line that 64 bits make is sound
pub made_sound : (info : ℕ) → Sound (line_with info)
unfolding line_with
made_sound info =
    record {
      long = length_line info;
      clean = clean_line info;
      pairs = pairs_right info;
      crc = crc_right (payload info) (length_payload info);
    }

module _ (line : List ℕ) (s : Sound line) where
  clean_information : AllBits (information_of line)
  unfolding information_of
  clean_information = within_each 1 64 (λ n. get_or line (place_of n) 0) (λ n. within_at 1 line (place_of n) s.clean)

  length_information : length (information_of line) ≡ 64
  unfolding information_of
  length_information = length_each 64 (λ n. get_or line (place_of n) 0)

  pub info_below : info_in line < 2 ^ 64
  info_below = rw length_information at (value_below (information_of line) clean_information)

  bit_read : (n : ℕ) → n < 64 → get_or (to_bits 64 (info_in line)) n 0 ≡ get_or line (place_of n) 0
  unfolding information_of
  bit_read n h =
      let same : to_bits 64 (info_in line) ≡ information_of line = rw length_information at (to_bits_value (information_of line) clean_information) in
      rw same (get_d_each 64 (λ n. get_or line (place_of n) 0) n h)

  pair_read : (g : ℕ) → g < 9 → (get_or line (10 * g) 0 ≡ 1) × (get_or line (10 * g + 1) 0 ≡ 0)
  unfolding wrong_pair
  pair_read g h =
      let first = eqb (get_or line (10 * g) 0) 1 in
      let second = eqb (get_or line (10 * g + 1) 0) 0 in
      let right = neither (not first) (not second) (none_of (wrong_at line) 9 g h s.pairs) in
      (eqb-true (get_or line (10 * g) 0) 1 (not-false first right.0), eqb-true (get_or line (10 * g + 1) 0) 0 (not-false second right.1))

  -- the two lines agree at each place below 82: a pair's first, a pair's second, or an information bit's
  agree : (p : ℕ) → p < 82 → get_or (line_with (info_in line)) p 0 ≡ get_or line p 0
  agree p h = first (eqb (p % 10) 0) refl
    where
      made : ℕ → ℕ
      made p = get_or (line_with (info_in line)) p 0

      alike : {p q : ℕ} → q ≡ p → made q ≡ get_or line q 0 → made p ≡ get_or line p 0
      alike same e = subst (λ (p : ℕ). made p ≡ get_or line p 0) same e

      second : (t : Bool) → eqb (p % 10) 1 ≡ t → (p % 10 ≡ 0 → ⊥) → made p ≡ get_or line p 0
      second true t other =
          let one : p % 10 ≡ 1 = eqb-true (p % 10) 1 t in
          let place : 10 * (p / 10) + 1 ≡ p = omega arith in
          let below : p / 10 < 9 = omega arith in
          alike place ((pair_stands (info_in line) (p / 10) below).1 ∙ sym (pair_read (p / 10) below).1)
      second false t other =
          let others : p % 10 ≡ 1 → ⊥ = eqb-false (p % 10) 1 t in
          let high : 2 ≤ p % 10 = omega arith in
          let n : ℕ = 8 * (p / 10) + (p % 10 - 2) in
          let whole : (8 * (p / 10) + (p % 10 - 2)) / 8 ≡ p / 10 = omega arith in
          let place : place_of (8 * (p / 10) + (p % 10 - 2)) ≡ p = omega arith in
          let below : 8 * (p / 10) + (p % 10 - 2) < 64 = omega arith in
          alike place (bit_stands (info_in line) (8 * (p / 10) + (p % 10 - 2)) below ∙ bit_read (8 * (p / 10) + (p % 10 - 2)) below)

      first : (t : Bool) → eqb (p % 10) 0 ≡ t → made p ≡ get_or line p 0
      first true t =
          let none : p % 10 ≡ 0 = eqb-true (p % 10) 0 t in
          let place : 10 * (p / 10) ≡ p = omega arith in
          let below : p / 10 < 9 = omega arith in
          alike place ((pair_stands (info_in line) (p / 10) below).0 ∙ sym (pair_read (p / 10) below).0)
      first false t = second (eqb (p % 10) 1) refl (eqb-false (p % 10) 0 t)

  same_front : payload (info_in line) ≡ take 82 line
  unfolding line_with
  same_front =
      let long = length_payload (info_in line) in
      let cut : take 82 (line_with (info_in line)) ≡ payload (info_in line) = take_at (payload (info_in line)) (crc_of (payload (info_in line))) 82 long in
      ext_get_or 0 (payload (info_in line)) (take 82 line) (long ∙ sym (length-take-le 82 line (omega (arith, s.long))))
      (λ p h.
      let low : p < 82 = rw long at h in
      ap (λ (l : List ℕ). get_or l p 0) (sym cut)
      ∙ get_or-take 82 (line_with (info_in line)) p 0 low
      ∙ agree p low
      ∙ sym (get_or-take 82 line p 0 low))

  -- every sound line is the one that its own bits make
  pub sound_made : line_with (info_in line) ≡ line
  unfolding line_with
  sound_made =
      let apart = take-append-drop 82 line in
      let right : wrong_crc (take 82 line ++ drop 82 line) ≡ false = rw apart s.crc in
      let eight : length (drop 82 line) ≡ 8 = rw (length-drop 82 line, s.long) in
      let crc : drop 82 line ≡ crc_of (take 82 line) =
      crc_only (take 82 line) (length-take-le 82 line (omega (arith, s.long))) (drop 82 line) eight (within_drop 1 82 line s.clean) right in
      rw (same_front, ← crc) apart

-- so 64 bits make a line exactly where the line is sound and they are read from it
pub line_one_to_one : (info : ℕ) (line : List ℕ) → info < 2 ^ 64 → (line_with info ≡ line) ↔ (Sound line × (info_in line ≡ info))
line_one_to_one info line small = (
  λ (made : line_with info ≡ line). (subst Sound made (made_sound info), ap info_in (sym made) ∙ info_stands info small),
  λ (read : Sound line × (info_in line ≡ info)). ap line_with (sym read.1) ∙ sound_made line read.0,
)

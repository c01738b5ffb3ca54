-- Where things stand on a line that 64 bits make: "Information bit n stands at n + 2 + 2 x (n / 8, rounded down)", and the pairs.
-- Assumes nothing.
use Prim.Native.Nat.{ℕ, zero, suc, ◌+◌, ◌-◌, ◌*◌, ◌/◌, ◌%◌, ◌^◌, ◌<◌, ◌≤◌}
use mathlib.Core.Path.{◌≡◌, refl, sym, ap, ◌∙◌}
use mathlib.Core.Bool.{Bool, true, false}
use mathlib.Core.List.{List, [], ◌∷◌, ◌++◌, append_assoc}
use native.Mathlib.Omega.{arith}
use native.Mathlib.Nat.{not-suc-le-zero, le_of_suc-le-suc}
use lib.Dec.{ltb}
use lib.ListN.{length, get_or, get_or-append}
use lib.Seq.{get_or-append-add, ext_get_or}
use borrow.Author.Tests.{ltb-true, ltb-false}
use Rattle.bits.specs.Bits.{to_bits}
use Rattle.bits.proofs.Bit.{length_to_bits}
use Rattle.bits.proofs.Inverse.{value_to_bits, low_bits}
use Rattle.bits.proofs.Joined.{to_bits_append}
use Rattle.interval.specs.Line.{place_of, information_of, info_in, wrong_at, wrong_pair, groups, payload, crc_of, line_with}
use Rattle.interval.proofs.Lists.{length_each, get_d_each, none_below}
use Rattle.interval.proofs.Shape.{length_groups}

-- eight bits and the rest
by_eight : (more n : ℕ) → to_bits (8 + more) n ≡ to_bits 8 n ++ to_bits more (n / 256)
by_eight more n =
    let whole : n % 256 + 256 * (n / 256) ≡ n = omega arith in
    (rw whole at (to_bits_append 8 more (n % 256) (n / 256) (omega arith))) ∙ ap (λ (l : List ℕ). l ++ to_bits more (n / 256)) (low_bits 8 n)

-- past a group of ten, and past eight bits
after_ten : (info m : ℕ) (ys : List ℕ) → get_or (1 ∷ 0 ∷ (to_bits 8 info ++ ys)) (10 + m) 0 ≡ get_or ys m 0
unfolding to_bits
after_ten info m ys = get_or-append-add (1 ∷ 0 ∷ to_bits 8 info) ys m 0

after_eight : (info m : ℕ) (ys : List ℕ) → get_or (to_bits 8 info ++ ys) (8 + m) 0 ≡ get_or ys m 0
unfolding to_bits
after_eight info m ys = get_or-append-add (to_bits 8 info) ys m 0

-- bit n of the information stands at its place among the groups
in_groups : (count info n : ℕ) → n < 8 * count → get_or (groups count info) (place_of n) 0 ≡ get_or (to_bits (8 * count) info) n 0
unfolding groups
in_groups zero info n h = absurd (omega arith)
in_groups (suc count) info n h = go (ltb n 8) refl (in_groups count (info / 256))
  where
    size : 8 * suc count ≡ 8 + 8 * count
    size = omega arith

    go : (t : Bool) → ltb n 8 ≡ t → ((m : ℕ) → m < 8 * count → get_or (groups count (info / 256)) (place_of m) 0 ≡ get_or (to_bits (8 * count) (info / 256)) m 0)
        → get_or (1 ∷ 0 ∷ (to_bits 8 info ++ groups count (info / 256))) (place_of n) 0 ≡ get_or (to_bits (8 * suc count) info) n 0
    go true t rest =
        let low : n < 8 = ltb-true n 8 t in
        let place : place_of n ≡ suc (suc n) = omega arith in
        let within : n < length (to_bits 8 info) = rw (length_to_bits 8 info) low in
        rw (place, size, by_eight (8 * count) info, get_or-append (to_bits 8 info) (groups count (info / 256)) 0 n within, get_or-append (to_bits 8 info) (to_bits (8 * count) (info / 256)) 0 n within)
    go false t rest =
        let high : 8 ≤ n = ltb-false n 8 t in
        let over : n ≡ 8 + (n - 8) = omega arith in
        let whole : n / 8 ≡ 1 + (n - 8) / 8 = omega arith in
        let place : place_of n ≡ 10 + place_of (n - 8) = omega arith in
        rw (place, size, by_eight (8 * count) info, after_ten info (place_of (n - 8)) (groups count (info / 256)))
        (rest (n - 8) (omega arith)
        ∙ sym (after_eight info (n - 8) (to_bits (8 * count) (info / 256)))
        ∙ ap (λ (m : ℕ). get_or (to_bits 8 info ++ to_bits (8 * count) (info / 256)) m 0) (sym over))

-- pair g stands at ten times g, the one after the groups too
in_pairs : (count info g : ℕ) (rest : List ℕ) → g ≤ count
    → (get_or (groups count info ++ (1 ∷ 0 ∷ rest)) (10 * g) 0 ≡ 1) × (get_or (groups count info ++ (1 ∷ 0 ∷ rest)) (10 * g + 1) 0 ≡ 0)
unfolding groups
in_pairs zero info zero rest h = (refl, refl)
in_pairs zero info (suc g) rest h = absurd (not-suc-le-zero h)
in_pairs (suc count) info zero rest h = (refl, refl)
in_pairs (suc count) info (suc g) rest h =
    let before = in_pairs count (info / 256) g rest (le_of_suc-le-suc h) in
    let one : 10 * suc g ≡ 10 + 10 * g = omega arith in
    let two : 10 * suc g + 1 ≡ 10 + (10 * g + 1) = omega arith in
    let side = append_assoc (to_bits 8 info) (groups count (info / 256)) (1 ∷ 0 ∷ rest) in (
      rw (one, side, after_ten info (10 * g) (groups count (info / 256) ++ (1 ∷ 0 ∷ rest))) before.0,
      rw (two, side, after_ten info (10 * g + 1) (groups count (info / 256) ++ (1 ∷ 0 ∷ rest))) before.1,
    )

module _ (info : ℕ) where
  in_line : line_with info ≡ groups 8 info ++ (1 ∷ 0 ∷ crc_of (payload info))
  unfolding line_with payload
  in_line = append_assoc (groups 8 info) (1 ∷ 0 ∷ []) (crc_of (payload info))

  -- "Information bit n stands at n + 2 + 2 x (n / 8, rounded down)"
  pub bit_stands : (n : ℕ) → n < 64 → get_or (line_with info) (place_of n) 0 ≡ get_or (to_bits 64 info) n 0
  bit_stands n h =
      let within : place_of n < length (groups 8 info) = rw (length_groups 8 info) (omega arith) in
      rw (in_line, get_or-append (groups 8 info) (1 ∷ 0 ∷ crc_of (payload info)) 0 (place_of n) within) (in_groups 8 info n h)

  -- "Pairs 1, 0 stand at 0 and 1, 10 and 11, up to 80 and 81"
  pub pair_stands : (g : ℕ) → g < 9 → (get_or (line_with info) (10 * g) 0 ≡ 1) × (get_or (line_with info) (10 * g + 1) 0 ≡ 0)
  pair_stands g h = rw in_line (in_pairs 8 info g (crc_of (payload info)) (le_of_suc-le-suc h))

  -- so no pair is wrong, and the bits that are read are those that were written
  pub pairs_right : wrong_pair (line_with info) ≡ false
  unfolding wrong_pair
  pairs_right = none_below (wrong_at (line_with info)) 9 (λ g h. let pair = pair_stands g h in rw (pair.0, pair.1))

  pub information_stands : information_of (line_with info) ≡ to_bits 64 info
  unfolding information_of
  information_stands =
      let long = length_each 64 (λ n. get_or (line_with info) (place_of n) 0) in
      ext_get_or 0 (information_of (line_with info)) (to_bits 64 info) (long ∙ sym (length_to_bits 64 info))
      (λ n h.
      let low : n < 64 = rw long at h in
      get_d_each 64 (λ n. get_or (line_with info) (place_of n) 0) n low ∙ bit_stands n low)

  pub info_stands : info < 2 ^ 64 → info_in (line_with info) ≡ info
  info_stands small = rw information_stands (value_to_bits 64 info small)

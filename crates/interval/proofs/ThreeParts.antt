-- Three parts that are lent one after the other come back as the groups, the ninth pair and the CRC.
-- Assumes nothing.
use mathlib.Core.Path.{◌≡◌, refl, sym, ap, ◌∙◌}
use Prim.Native.Nat.{ℕ, ◌+◌, ◌≤◌}
use native.Mathlib.Omega.{arith}
use mathlib.Core.List.{List, [], ◌∷◌, ◌++◌}
use lib.ListN.{length, drop, take}
use lib.Seq.{take_all}
use borrow.Rule.Slice.PartMut.{put_mid}
use Rattle.bits.specs.Bits.{value, to_bits}
use Rattle.interval.specs.Line.{groups, payload, crc_of, line_with}
use Rattle.interval.proofs.Shape.{length_groups, length_crc, crc_bits}
use Rattle.interval.proofs.Turns.{lent_length, put_next, put_length}

-- the line once the groups are stored, and once the ninth pair is
abbrev pub grouped : List ℕ → List ℕ → List ℕ
grouped line g = put_mid 0 80 line g

abbrev pub paired : List ℕ → List ℕ → List ℕ → List ℕ
paired line g p = put_mid 80 2 (grouped line g) p

module _
    (info : ℕ) (line g p : List ℕ) (long : length line ≡ 90) (first : g ≡ groups 8 info)
    (second : p ≡ to_bits (length (take 2 (drop 80 (grouped line g)))) 1) where
  eighty : length g ≡ 80
  eighty = rw first (length_groups 8 info)

  with_groups : take 80 (grouped line g) ≡ groups 8 info
  with_groups = put_next line [] g 0 80 refl eighty (omega arith) ∙ first

  grouped_long : length (grouped line g) ≡ 90
  grouped_long = put_length line [] g 0 80 refl eighty (omega arith) ∙ long

  pair : p ≡ 1 ∷ 0 ∷ []
  unfolding to_bits
  pair = second ∙ ap (λ (n : ℕ). to_bits n 1) (lent_length (grouped line g) 80 2 (omega (arith, grouped_long)))

  with_pair : take 82 (paired line g p) ≡ payload info
  unfolding payload
  with_pair =
      put_next (grouped line g) (groups 8 info) p 80 2 with_groups (ap length pair) (omega (arith, grouped_long))
      ∙ ap (λ (l : List ℕ). groups 8 info ++ l) pair

  paired_long : length (paired line g p) ≡ 90
  paired_long =
      put_length (grouped line g) (groups 8 info) p 80 2 with_groups (ap length pair) (omega (arith, grouped_long)) ∙ grouped_long

  module _
      (c : List ℕ) (check : ℕ) (counted : check ≡ value (crc_of (take 82 (paired line g p))))
      (third : c ≡ to_bits (length (take 8 (drop 82 (paired line g p)))) check) where
    crc_stored : c ≡ crc_of (payload info)
    crc_stored =
        third
        ∙ rw (lent_length (paired line g p) 82 8 (omega (arith, paired_long)), counted, with_pair) (crc_bits (payload info))

    pub whole : put_mid 82 8 (paired line g p) c ≡ line_with info
    unfolding line_with
    whole =
        let eight : length c ≡ 8 = rw crc_stored (length_crc (payload info)) in
        let room : 82 + 8 ≤ length (paired line g p) = omega (arith, paired_long) in
        let stored = put_next (paired line g p) (payload info) c 82 8 with_pair eight room in
        let ninety = put_length (paired line g p) (payload info) c 82 8 with_pair eight room in
        sym (take_all 90 (put_mid 82 8 (paired line g p) c) (omega (arith, ninety, paired_long)))
        ∙ stored
        ∙ ap (λ (l : List ℕ). payload info ++ l) crc_stored

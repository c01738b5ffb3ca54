-- The characters that count, sifted where they stand, are the bits that are told, and the lines of these are those of the piece.
-- Assumes nothing.
use Rattle.std.proofs.Common.{◌≡◌, ℕ, ◌+◌, ◌*◌, ◌≤◌, min, Bool, true, false, ltb, List, ◌++◌, length, take, drop, sym, refl, ap, ◌∙◌, append_assoc, arith, take-append-drop, length-take-le, take_all, take_at, ltb-false, ltb-true}
use lib.Seq.{drop-append-le}
use Rattle.bits.specs.Bits.{AllBits}
use Rattle.runs.specs.Run.{placed}
use Rattle.following.specs.Reach.{answers}
use Rattle.text.proofs.Laid.{starts_within}
use Rattle.characters.specs.declared.types.Sifted.{Sifted}
use Rattle.characters.specs.Characters.{bits_in, goes_on, sifted_of}
use Rattle.characters.proofs.Meant.{few_bits, sifted_clean}
use Rattle.scribe.specs.declared.types.Scribe.{Scribe}
use Rattle.scribe.specs.declared.types.Block.{Block}
use Rattle.scribe.specs.Told.{counted, lines_of, text_of, left_after, scribe_after, telling_of}
use Rattle.scribe.specs.Blocks.{run_told}
use Rattle.scribe.specs.Loops.{Ready}

-- so many as there are of the characters that may still come
pub first_of : (left : ℕ) (xs : List ℕ) → take (min left (length xs)) xs ≡ take left xs
first_of left xs = go (ltb left (length xs)) refl
  where
    go : (t : Bool) → ltb left (length xs) ≡ t → take (min left (length xs)) xs ≡ take left xs
    go true t =
        let fewer : min left (length xs) ≡ left = omega (arith, ltb-true left (length xs) t) in
        rw fewer
    go false t =
        let many = ltb-false left (length xs) t in
        let all : min left (length xs) ≡ length xs = omega arith in
        rw (all, take_all (length xs) xs (omega arith), take_all left xs many)

module _
    (before : Scribe) (characters : List ℕ) (end : ℕ) (ends : end ≡ min before.left (length characters))
    {sifted : Sifted} {front : List ℕ}
    (told : sifted ≡ sifted_of (take end characters)) (made : front ≡ placed 0 (bits_in (take end characters)) (take end characters)) where
  abbrev bits : List ℕ
  bits = bits_in (counted before characters)

  -- the characters as they now are
  abbrev whole : List ℕ
  whole = front ++ drop end characters

  counts : take end characters ≡ counted before characters
  counts = rw ends (first_of before.left characters)

  pub all_count : end ≡ length (take end characters)
  all_count = sym (length-take-le end characters (omega (arith, ends)))

  how_many : sifted.bits ≡ length bits
  unfolding sifted_of
  how_many = ap (λ (s : Sifted). s.bits) told ∙ ap (λ (cs : List ℕ). length (bits_in cs)) counts

  few : length bits ≤ end
  few = omega (arith, few_bits (counted before characters), ap length counts, all_count)

  pub whole_is : whole ≡ placed 0 bits characters
  unfolding placed
  whole_is =
      let size : length bits ≤ length (take end characters) = omega (arith, few, all_count) in
      let none : 0 + length bits ≡ length bits = omega arith in
      let kept : drop (length bits) (take end characters) ++ drop end characters ≡ drop (length bits) characters =
      sym (drop-append-le (length bits) (take end characters) (drop end characters) size)
      ∙ ap (drop (length bits)) (take-append-drop end characters) in
      rw made
      (ap (λ (cs : List ℕ). (bits_in cs ++ drop (0 + length (bits_in cs)) (take end characters)) ++ drop end characters) counts
      ∙ rw none (append_assoc bits (drop (length bits) (take end characters)) (drop end characters) ∙ ap (λ (l : List ℕ). bits ++ l) kept))

  pub run_is : take sifted.bits whole ≡ bits
  unfolding placed
  run_is = rw (how_many, whole_is) (take_at bits (drop (0 + length bits) characters) (length bits) refl)

  pub bits_within : sifted.bits ≤ length whole
  bits_within = rw (whole_is, how_many) (starts_within bits characters)

  pub sized : sifted.bits ≡ length (take sifted.bits whole)
  sized = sym (length-take-le sifted.bits whole bits_within)

  pub run_ready : (out : List ℕ) → Ready before.reader characters out → Ready before.reader (take sifted.bits whole) out × AllBits (take sifted.bits whole)
  run_ready out ready =
      let room : 64 * length bits ≤ length out = omega (arith, few, ends, ready.room) in
      rw run_is (record { sound = ready.sound; room = room }, sifted_clean (counted before characters))

  module _
      (out : List ℕ) {run : Block} {after : List ℕ} {left : ℕ}
      (ran : run ≡ run_told before.reader before.bits (take sifted.bits whole))
      (lined : after ≡ placed 0 (lines_of before.bits (answers before.reader (take sifted.bits whole))) out)
      (remains : left ≡ left_after before.left end sifted.more) where
    goes_on_lem : sifted.more ≡ goes_on (counted before characters)
    unfolding sifted_of
    goes_on_lem = ap (λ (s : Sifted). s.more) told ∙ ap goes_on counts

    pub told_whole :
        (record { scribe = record { reader = run.reader; bits = run.bits; left = left }; length = run.at } ≡ telling_of before characters)
        × (whole ≡ placed 0 bits characters)
        × (after ≡ placed 0 (text_of before characters) out)
    unfolding telling_of scribe_after run_told
    told_whole =
        let is : run ≡ run_told before.reader before.bits bits = rw run_is at ran in
        let still : left ≡ left_after before.left (length (counted before characters)) (goes_on (counted before characters)) =
        rw (all_count, counts, goes_on_lem) at remains in (
          λ i. record { scribe = record { reader = (is i).reader; bits = (is i).bits; left = still i }; length = (is i).at },
          whole_is,
          rw run_is at lined,
        )

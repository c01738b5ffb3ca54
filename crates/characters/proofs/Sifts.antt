-- The loop over characters begins, goes on and ends.
-- Assumes nothing.
use Prim.Native.Nat.{ℕ, suc, ◌+◌, ◌-◌, ◌≤◌, ◌<◌}
use mathlib.Core.Path.{◌≡◌, refl, sym, ap, ◌∙◌}
use mathlib.Core.Bool.{true, false}
use mathlib.Core.List.{List, [], ◌∷◌, ◌++◌, append-nil}
use native.Mathlib.Numerals.{add-one}
use native.Mathlib.Omega.{arith}
use lib.ListN.{length, take, drop, set, get_or, length-append}
use lib.Seq.{take-suc, take_all, length-take-le, split_at}
use Rattle.runs.specs.Run.{placed}
use Rattle.text.specs.Ascii.{zero_digit}
use Rattle.text.proofs.Laid.{placed_none, placed_more, placed_length, read_past}
use Rattle.characters.specs.Characters.{is_skipped, is_digit, bits_in, goes_on, sifted_of}
use Rattle.characters.specs.Loops.{Sifting}
use Rattle.characters.proofs.Meant.{in_parts, few_bits}

pub sift_begins : (whole : List ℕ) → Sifting whole whole 0 0
unfolding bits_in goes_on
sift_begins whole = record { within = omega arith; onward = refl; kept = refl; so_far = sym (placed_none 0 whole) }

module _ (whole run : List ℕ) (read write : ℕ) (s : Sifting whole run read write) where
  -- the bits of the characters that were read
  kept : List ℕ
  kept = bits_in (take read whole)

  pub behind : write ≤ read
  behind = rw s.kept (omega (arith, few_bits (take read whole), length-take-le read whole s.within))

  fits : 0 + length kept ≤ length whole
  unfolding kept
  fits = omega (arith, behind, s.kept, s.within)

  pub sift_long : length run ≡ length whole
  unfolding kept
  sift_long = rw s.so_far (placed_length 0 kept whole fits)

  pub looked : get_or run read 0 ≡ get_or whole read 0
  looked = rw s.so_far (read_past (bits_in (take read whole)) whole read (omega (arith, behind, s.kept)))

  module _ (low : read < length run) where
    low' : read < length whole
    low' = rw sift_long at low

    -- the characters that were read, and the next one
    one_more : take (read + 1) whole ≡ take read whole ++ (get_or run read 0 ∷ [])
    one_more = rw (add-one read, take-suc whole read 0 low', looked)

    more_bits : bits_in (take (read + 1) whole) ≡ bits_in (take read whole) ++ bits_in (get_or run read 0 ∷ [])
    more_bits = rw one_more (in_parts (take read whole) (get_or run read 0 ∷ []) s.onward).0

    goes_on_lem : goes_on (take (read + 1) whole) ≡ goes_on (get_or run read 0 ∷ [])
    goes_on_lem = rw one_more (in_parts (take read whole) (get_or run read 0 ∷ []) s.onward).1

    pub sift_skips : is_skipped (get_or run read 0) ≡ true → Sifting whole run (read + 1) write
    unfolding bits_in goes_on
    sift_skips skipped =
        let same : bits_in (take (read + 1) whole) ≡ bits_in (take read whole) = more_bits ∙ rw skipped (append-nil (bits_in (take read whole))) in
        record {
          within = omega (arith, low');
          onward = goes_on_lem ∙ rw skipped;
          kept = s.kept ∙ rw same;
          so_far = s.so_far ∙ rw same;
        }

    module _ (unskipped : is_skipped (get_or run read 0) ≡ false) where
      pub sift_takes : is_digit (get_or run read 0) ≡ true → Sifting whole (set run write (get_or run read 0 - zero_digit)) (read + 1) (write + 1)
      unfolding bits_in goes_on kept
      sift_takes digit =
          let more : bits_in (take (read + 1) whole) ≡ bits_in (take read whole) ++ ((get_or run read 0 - zero_digit) ∷ []) = more_bits ∙ rw (unskipped, digit) in
          let stored = placed_more 0 kept whole fits (get_or run read 0 - zero_digit) (omega (arith, behind, s.kept, low')) in
          let there : 0 + length kept ≡ write = omega (arith, s.kept) in
          record {
            within = omega (arith, low');
            onward = goes_on_lem ∙ rw (unskipped, digit);
            kept = rw (more, length-append) (omega (arith, s.kept));
            so_far = ap (λ (l : List ℕ). set l write (get_or run read 0 - zero_digit)) s.so_far ∙ (rw there at stored) ∙ rw more;
          }

      module _ (other : is_digit (get_or run read 0) ≡ false) where
        parted : whole ≡ take read whole ++ (get_or run read 0 ∷ drop (suc read) whole)
        parted = rw looked (split_at whole read 0 low')

        parts :
            (bits_in (take read whole ++ (get_or run read 0 ∷ drop (suc read) whole)) ≡ bits_in (take read whole) ++ bits_in (get_or run read 0 ∷ drop (suc read) whole))
            × (goes_on (take read whole ++ (get_or run read 0 ∷ drop (suc read) whole)) ≡ goes_on (get_or run read 0 ∷ drop (suc read) whole))
        parts = in_parts (take read whole) (get_or run read 0 ∷ drop (suc read) whole) s.onward

        no_more_bits : bits_in whole ≡ bits_in (take read whole)
        unfolding bits_in
        no_more_bits = ap bits_in parted ∙ (parts.0 ∙ rw (unskipped, other) (append-nil (bits_in (take read whole))))

        stopped : goes_on whole ≡ false
        unfolding goes_on
        stopped = ap goes_on parted ∙ (parts.1 ∙ rw (unskipped, other))

        pub sift_stops : (record { bits = write; more = false } ≡ sifted_of whole) × (run ≡ placed 0 (bits_in whole) whole)
        unfolding sifted_of
        sift_stops = (rw (no_more_bits, stopped, s.kept), rw no_more_bits s.so_far)

  pub sift_ends : length run ≤ read → (record { bits = write; more = true } ≡ sifted_of whole) × (run ≡ placed 0 (bits_in whole) whole)
  unfolding sifted_of
  sift_ends high =
      let all : take read whole ≡ whole = take_all read whole (rw sift_long at high) in
      (rw (s.kept, ← s.onward, all), rw (s.so_far, all))

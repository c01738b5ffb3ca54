-- What each test of a turn over the characters leads to: the turn goes on, or the sifting stops.
-- Assumes nothing.
use Prim.Native.Nat.{ℕ, ◌+◌, ◌-◌, ◌≤◌, ◌<◌}
use mathlib.Core.Path.{◌≡◌, sym, ◌∙◌}
use mathlib.Core.Bool.{Bool, true, false}
use mathlib.Core.List.{List}
use native.Mathlib.Omega.{arith}
use lib.ListN.{length, set, get_or}
use Rattle.runs.specs.Run.{placed}
use Rattle.text.specs.Ascii.{zero_digit}
use Rattle.characters.specs.Characters.{is_skipped, is_digit, bits_in, sifted_of}
use Rattle.characters.specs.Loops.{Sifting}
use Rattle.characters.proofs.Sifts.{behind, sift_long, sift_skips, sift_takes, sift_stops, sift_ends}

module _ (whole run : List ℕ) (read write : ℕ) (s : Sifting whole run read write) (low : read < length whole) where
  there : read < length run
  there = rw (sift_long whole run read write s) low

  pub writes : write < length run
  writes = omega (arith, there, behind whole run read write s)

  module _ (skipped : Bool) (asked : skipped ≡ is_skipped (get_or run read 0)) where
    pub skips : skipped ≡ true → Sifting whole run (read + 1) write
    skips t = sift_skips whole run read write s there (sym asked ∙ t)

    module _ (digit : Bool) (asked_too : digit ≡ is_digit (get_or run read 0)) (u : skipped ≡ false) where
      pub takes : digit ≡ true → Sifting whole (set run write (get_or run read 0 - zero_digit)) (read + 1) (write + 1)
      takes t = sift_takes whole run read write s there (sym asked ∙ u) (sym asked_too ∙ t)

      pub stops : digit ≡ false → (record { bits = write; more = false } ≡ sifted_of whole) × (run ≡ placed 0 (bits_in whole) whole)
      stops t = sift_stops whole run read write s there (sym asked ∙ u) (sym asked_too ∙ t)

pub ends :
    (whole run : List ℕ) (read write : ℕ) (s : Sifting whole run read write)
    → length whole ≤ read → (record { bits = write; more = true } ≡ sifted_of whole) × (run ≡ placed 0 (bits_in whole) whole)
ends whole run read write s high = sift_ends whole run read write s (rw (sift_long whole run read write s) high)

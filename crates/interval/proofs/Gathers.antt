-- The number of bits that stand at given places, gathered from the last one on.
-- Assumes nothing.
use Prim.Native.Nat.{ℕ, ◌+◌, ◌-◌, ◌*◌, ◌^◌, ◌≤◌, ◌<◌}
use mathlib.Core.Path.{◌≡◌, sym, ◌∙◌}
use mathlib.Core.List.{[], ◌∷◌, ◌++◌}
use native.Mathlib.Omega.{arith}
use lib.ListN.{get_or, take}
use lib.Seq.{take_all}
use Rattle.std.proofs.lemmas.List.{take_more}
use Rattle.runs.specs.Loops.{Gathering}
use Rattle.runs.proofs.Turns.{gather_begins, gather_turns, gather_room}
use Rattle.interval.specs.Line.{each}
use Rattle.interval.proofs.Lists.{length_each, get_d_each}

module _ (count : ℕ) (f : ℕ → ℕ) where
  pub each_begins : count ≤ 64 → Gathering (each count f) 0 (take count (each count f))
  each_begins short =
      let long = length_each count f in
      gather_begins (each count f) _ (take_all count (each count f) (omega (arith, long))) (omega (arith, long))

  module _ (i : ℕ) (within : i ≤ count) (some : 0 < i) (bit : ℕ) (told : bit ≡ f (i - 1)) where
    last : take i (each count f) ≡ take (i - 1) (each count f) ++ (bit ∷ [])
    last =
        let one : i - 1 + 1 ≡ i = omega arith in
        let here : get_or (each count f) (i - 1) 0 ≡ bit = get_d_each count f (i - 1) (omega arith) ∙ sym told in
        rw (one, here) at (take_more (each count f) (i - 1) 0 (omega (arith, length_each count f)))

    module _ (number : ℕ) (g : Gathering (each count f) number (take i (each count f))) where
      -- the number still has room for one bit
      pub each_room : number < 2 ^ 63
      each_room = gather_room (each count f) number _ g (take (i - 1) (each count f)) bit last

      pub each_turns : bit ≤ 1 → Gathering (each count f) (2 * number + bit) (take (i - 1) (each count f))
      each_turns low = gather_turns (each count f) number _ g (take (i - 1) (each count f)) bit last low

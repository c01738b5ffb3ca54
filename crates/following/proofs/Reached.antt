-- In a mode that is known, the check passes exactly for the states that feeding a fresh reader reaches.
-- Assumes nothing.
use Prim.Native.Nat.{ℕ, ◌+◌, ◌^◌, ◌<◌, ◌≤◌}
use mathlib.Core.Path.{◌≡◌, refl, sym, ap, ◌∙◌}
use mathlib.Core.Bool.{false}
use mathlib.Core.List.{List, [], ◌∷◌, ◌++◌, append-nil, append_assoc}
use mathlib.Core.Logic.{◌↔◌}
use native.Mathlib.Omega.{arith}
use lib.ListN.{length, length-append}
use borrow.Author.Tests.{le-ltb}
use Rattle.bits.specs.Bits.{some_above, AllBits, value}
use Rattle.bits.proofs.Bit.{head_within, tail_within, within_cons, within_append}
use Rattle.modes.specs.Modes.{unknown}
use Rattle.register.specs.declared.types.Reader.{Reader}
use Rattle.register.specs.declared.types.Ways.{Ways}
use Rattle.register.specs.Held.{held_bits, push, reader_with, fresh_of, unreached}
use Rattle.reader.specs.Steps.{stepped_of}
use Rattle.following.specs.Reach.{fed, Reached}
use Rattle.reader.specs.Feeding.{Passing}
use Rattle.register.proofs.Registers.{held_of, check_of, few, held_length, held_clean, reader_of_held}
use Rattle.register.proofs.Pushed.{push_grows}
use Rattle.following.proofs.Passing.{passing_takes, reached_passing}

fresh_is : (mode : ℕ) (ways : Ways) → fresh_of mode ways ≡ reader_with mode ways []
unfolding reader_with value
fresh_is mode ways = refl

module _ (mode : ℕ) (ways : Ways) (known : unknown mode ≡ false) where
  -- a bit is pushed onto the list that is held
  steps_on :
      (bits : List ℕ) (bit : ℕ) → length bits ≤ 80 → AllBits bits → bit ≤ 1 → (stepped_of (reader_with mode ways bits) bit).reader ≡ reader_with mode ways (push bits bit)
  unfolding reader_with
  steps_on bits bit short clean small =
      let sound : Passing (reader_with mode ways bits) = record { known = known; passes = check_of mode ways bits short clean } in
      rw (passing_takes (reader_with mode ways bits) bit sound (le-ltb 1 bit small), held_of mode ways bits short clean)

  -- and up to the 80th bit the list grows
  feeds_on :
      (bits more : List ℕ) → length bits + length more ≤ 80 → AllBits bits → AllBits more
      → fed (reader_with mode ways bits) more ≡ reader_with mode ways (bits ++ more)
  unfolding fed some_above
  feeds_on bits [] fits all none = ap (reader_with mode ways) (sym (append-nil bits))
  feeds_on bits (bit ∷ more) fits all next =
      let small = head_within 1 bit more next in
      let longer : length (bits ++ (bit ∷ [])) ≡ length bits + 1 = length-append bits (bit ∷ []) in
      rw (steps_on bits bit (omega arith) all small, push_grows bits bit (omega arith))
      (feeds_on (bits ++ (bit ∷ [])) more (rw longer (omega arith)) (within_append 1 bits (bit ∷ []) all (within_cons 1 bit [] small refl))
      (tail_within 1 bit more next)
      ∙ ap (reader_with mode ways) (append_assoc bits (bit ∷ []) more))

-- both directions, for every state whose words are machine words
pub reached_exactly : (r : Reader) → unknown r.mode ≡ false → r.info < 2 ^ 64 → r.sync < 2 ^ 16 → (unreached r ≡ false) ↔ Reached r
unfolding some_above
reached_exactly r known low high = (there, λ reached. (reached_passing r known reached).passes)
  where
    there : unreached r ≡ false → Reached r
    there passes =
        let size : length (held_bits r) ≤ 80 = rw (held_length r low high passes) (few r low high passes) in
        record {
          elements = held_bits r;
          brought = rw (fresh_is r.mode r.ways) (feeds_on r.mode r.ways known [] (held_bits r) (omega arith) refl (held_clean r) ∙ reader_of_held r low high passes);
        }

-- The loops begin, go on and end.
-- Assumes nothing.
use Prim.Native.Nat.{ℕ, suc, ◌+◌, ◌-◌, ◌*◌, ◌/◌, ◌%◌, ◌^◌, ◌≤◌, ◌<◌}
use mathlib.Core.Path.{◌≡◌, refl, sym, ap, ◌∙◌}
use mathlib.Core.Bool.{true, false, or-true}
use mathlib.Core.List.{List, [], ◌∷◌, ◌++◌, append-nil, append_assoc}
use native.Mathlib.Nat.{lt_of_lt_of_le}
use native.Mathlib.Omega.{arith}
use lib.ListN.{length, set, take, length-append, length-set}
use lib.Seq.{take_all}
use lib.Pow.{pow_mono}
use borrow.Author.Tests.{lt-ltb, le-ltb}
use Rattle.std.proofs.Common.{Ok, Err}
use Rattle.std.proofs.lemmas.List.{nil_from_length, take_more_set}
use Rattle.bits.specs.Bits.{value, to_bits, some_above}
use Rattle.bits.proofs.Bit.{within_cons, above_append}
use Rattle.bits.proofs.Inverse.{value_below}
use Rattle.runs.specs.declared.types.NoNumber.TheVariants.{TooLong, NoBit}
use Rattle.runs.specs.Gather.{gathered_of}
use Rattle.runs.specs.Loops.{Gathering, Scattering}

-- an element above 1 is one of the run's
above_within : (before after : List ℕ) (element : ℕ) → 1 < element → some_above 1 (before ++ (element ∷ after)) ≡ true
unfolding some_above
above_within before after element high = rw (above_append 1 before (element ∷ after), lt-ltb 1 element high) (or-true (some_above 1 before))

module _ (run : List ℕ) where
  pub gather_too_long : 64 < length run → Err TooLong ≡ gathered_of run
  unfolding gathered_of
  gather_too_long h = rw (lt-ltb 64 (length run) h)

  pub gather_begins : (rest : List ℕ) → rest ≡ run → length run ≤ 64 → Gathering run 0 rest
  unfolding value some_above
  gather_begins rest all short = record { behind = []; whole = append-nil rest ∙ all; short = short; so_far = refl; clean = refl }

  module _ (number : ℕ) (rest : List ℕ) (g : Gathering run number rest) where
    module _ (before : List ℕ) (bit : ℕ) (here : rest ≡ before ++ (bit ∷ [])) where
      next : before ++ (bit ∷ g.behind) ≡ run
      next = sym (append_assoc before (bit ∷ []) g.behind) ∙ (rw here at g.whole)

      pub gather_turns : bit ≤ 1 → Gathering run (2 * number + bit) before
      unfolding value
      gather_turns low = record {
        behind = bit ∷ g.behind;
        whole = next;
        short = g.short;
        so_far = omega (arith, g.so_far);
        clean = within_cons 1 bit g.behind low g.clean;
      }

      -- the number still has room for one bit
      pub gather_room : number < 2 ^ 63
      gather_room =
          let low : value g.behind < 2 ^ length g.behind = value_below g.behind g.clean in
          let few : length g.behind ≤ 63 = omega (arith, ap length next, length-append before (bit ∷ g.behind), g.short) in
          rw g.so_far (lt_of_lt_of_le low (pow_mono few))

      pub gather_no_bit : 1 < bit → Err NoBit ≡ gathered_of run
      unfolding gathered_of
      gather_no_bit high =
          let above : some_above 1 run ≡ true = rw next at (above_within before g.behind bit high) in
          rw (le-ltb 64 (length run) g.short, above)

    pub gather_ends : length rest ≡ 0 → Ok number ≡ gathered_of run
    unfolding gathered_of
    gather_ends none =
        let all : g.behind ≡ run = rw (nil_from_length rest none) at g.whole in
        let clean : some_above 1 run ≡ false = rw all at g.clean in
        let is : number ≡ value run = rw all at g.so_far in
        rw (le-ltb 64 (length run) g.short, clean, is)

module _ (number size : ℕ) (run : List ℕ) (left i : ℕ) (s : Scattering number size run left i) where
  pub scatter_turns : i < length run → Scattering number size (set run i (left % 2)) (left / 2) (i + 1)
  unfolding to_bits
  scatter_turns h =
      let more : size - i ≡ suc (size - (i + 1)) = omega (arith, s.long) in
      record {
        within = omega (arith, s.long);
        long = length-set run i (left % 2) ∙ s.long;
        so_far =
            rw (take_more_set run i (left % 2) h)
            (append_assoc (take i run) (left % 2 ∷ []) (to_bits (size - (i + 1)) (left / 2)) ∙ (rw more at s.so_far));
      }

  pub scatter_ends : length run ≤ i → run ≡ to_bits size number
  unfolding to_bits
  scatter_ends h =
      let whole : take i run ≡ run = take_all i run h in
      let none : size - i ≡ 0 = omega (arith, s.long) in
      sym (append-nil run) ∙ rw (whole, none) at s.so_far

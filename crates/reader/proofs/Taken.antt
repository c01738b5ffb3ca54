-- The reader after a bit holds the bits so far, and passes the check.
-- Assumes nothing.
use Prim.Native.Nat.{ℕ, ◌-◌, ◌^◌, ◌<◌, ◌≤◌}
use mathlib.Core.Path.{◌≡◌, refl, ap, ap₂, ◌∙◌}
use mathlib.Core.Bool.{false}
use mathlib.Core.List.{List, [], ◌∷◌, ◌++◌}
use native.Mathlib.Omega.{arith}
use lib.ListN.{length}
use borrow.Author.Tests.{le-ltb}
use Rattle.bits.specs.Bits.{some_above, AllBits}
use Rattle.bits.proofs.Bit.{within_drop, within_cons, within_append}
use Rattle.modes.specs.Modes.{unknown}
use Rattle.register.specs.declared.types.Reader.{Reader}
use Rattle.hearing.specs.declared.types.Heard.{Heard}
use Rattle.register.specs.Held.{held_bits, push, reader_with, unreached}
use Rattle.hearing.specs.Window.{heard_in}
use Rattle.reader.specs.Steps.{after, stepped_of}
use Rattle.register.proofs.Registers.{held_clean, held_of, check_of}
use Rattle.register.proofs.Pushed.{push_length}

pub push_clean : (bits : List ℕ) (bit : ℕ) → AllBits bits → bit ≤ 1 → AllBits (push bits bit)
unfolding some_above
push_clean bits bit all small =
    let more = bits ++ (bit ∷ []) in
    within_drop 1 (length more - 80) more (within_append 1 bits (bit ∷ []) all (within_cons 1 bit [] small refl))

pub push_few : (bits : List ℕ) (bit : ℕ) → length (push bits bit) ≤ 80
push_few bits bit = rw (push_length bits bit) (omega arith)

module _ (r : Reader) (bit : ℕ) (low : r.info < 2 ^ 64) (high : r.sync < 2 ^ 16) (passes : unreached r ≡ false) (small : bit ≤ 1) where
  pub pushed_passes : unreached (reader_with r.mode r.ways (push (held_bits r) bit)) ≡ false
  pushed_passes = check_of r.mode r.ways (push (held_bits r) bit) (push_few (held_bits r) bit) (push_clean (held_bits r) bit (held_clean r) small)

  pub pushed_holds : held_bits (reader_with r.mode r.ways (push (held_bits r) bit)) ≡ push (held_bits r) bit
  pushed_holds = held_of r.mode r.ways (push (held_bits r) bit) (push_few (held_bits r) bit) (push_clean (held_bits r) bit (held_clean r) small)

  module _ (known : unknown r.mode ≡ false) (next : Reader) (pushes : next ≡ reader_with r.mode r.ways (push (held_bits r) bit)) where
    pub next_passes : unreached next ≡ false
    next_passes = rw pushes pushed_passes

    pub same_mode : next.mode ≡ r.mode
    unfolding reader_with
    same_mode = rw pushes

    pub step_taken : (heard : Heard) → heard ≡ heard_in next.mode next.ways (held_bits next) → after next heard ≡ stepped_of r bit
    unfolding stepped_of reader_with
    step_taken heard told =
        let answer : heard ≡ heard_in r.mode r.ways (push (held_bits r) bit) = told ∙ rw pushes (ap (heard_in r.mode r.ways) pushed_holds) in
        rw (known, passes, le-ltb 1 bit small) (ap₂ after pushes answer)

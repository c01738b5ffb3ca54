-- `hearing::windows::heard_turned` meets its contract: the register is turned round and read only where it is full and begins with the sync word turned round.
-- Assumes nothing.
use mathlib.Core.Path.{◌≡◌, ap, sym, ◌∙◌}
use mathlib.Core.List.{reverse}
use Prim.Native.Nat.{ℕ, ◌+◌, ◌*◌, ◌/◌, ◌%◌, ◌^◌, ◌≤◌, ◌<◌}
use borrow.Author.Tests.{ne_eqb}
use borrow.Author.Rules.{rules}
use Rattle.polarity.specs.declared.types.Word.{Word}
use Rattle.refusals.specs.declared.types.Refusal.{Refusal}
use Rattle.std.specs.Prelude.{Err, Result, Ok}
use Rattle.bits.specs.Bits.{value, to_bits}
use Rattle.polarity.specs.Heard.{heard_of}
use Rattle.register.specs.declared.types.Reader.{Reader}
use Rattle.register.specs.declared.types.Ways.TheVariants.{Both}
use Rattle.register.specs.Held.{held_bits}
use Rattle.hearing.specs.declared.types.Way.TheVariants.{Backward}
use Rattle.hearing.specs.declared.types.Heard.{Heard}
use Rattle.hearing.specs.declared.types.Heard.TheVariants.{Nothing, Accepted}
use Rattle.hearing.specs.Window.{reporting, told_backward, backward_in}
use Rattle.hearing.proofs.Lower.{short_is_passed_over, other_is_passed_over, lower, full_turned}
use Rattle.hearing.proofs.windows.heard_turned.Goals as goal

module _ (r : Reader) where
  too_few : r.held < 80 → Nothing ≡ backward_in r.mode Both (held_bits r)
  too_few h = sym (short_is_passed_over r Both h)

  module _ (low : r.info < 2 ^ 64) (high : r.sync < 2 ^ 16) where
    no_sync : (r.info % 0x10000 ≡ 0x3ffd → ⊥) → Nothing ≡ backward_in r.mode Both (held_bits r)
    no_sync other = sym (other_is_passed_over r Both (lower r low high ∙ ne_eqb (r.info % 0x10000) 0x3ffd other))

    module _
        (seen : r.info % 0x10000 ≡ 0x3ffd) (h : 80 ≤ r.held) (info : ℕ) (turns : info ≡ value (reverse (to_bits 64 (r.info / 0x10000 + 2 ^ 48 * r.sync))))
        (word : Result Word Refusal) (read : word ≡ heard_of r.mode info) where
      heard_is : told_backward Both word ≡ backward_in r.mode Both (held_bits r)
      heard_is = ap (told_backward Both) read ∙ sym (full_turned r low high info turns seen h Both)

      accepted :
          (says : Word) → word ≡ Ok says → (heard : Heard) → heard ≡ Accepted (reporting says.«record» says.found Backward)
          → heard ≡ backward_in r.mode Both (held_bits r)
      accepted says e heard told = told ∙ ap (told_backward Both) (sym e) ∙ heard_is

      passed_over : (n : Refusal) → word ≡ Err n → Nothing ≡ backward_in r.mode Both (held_bits r)
      passed_over n e = ap (told_backward Both) (sym e) ∙ heard_is

pub returns-then-oldest-ne16381 : goal.returns-then-oldest-ne16381
returns-then-oldest-ne16381 c = search (no_sync, rules)

pub returns-then-reader-lt80 : goal.returns-then-reader-lt80
returns-then-reader-lt80 c = search too_few

pub returns-in-Ok : goal.returns-in-Ok
returns-in-Ok c = search (accepted, rules)

pub returns-in-Err : goal.returns-in-Err
returns-in-Err c = search (passed_over, rules)

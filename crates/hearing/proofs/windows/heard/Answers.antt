-- `hearing::windows::heard` meets its contract: where the register does not end in the sync word it is looked at backward, and where it is full and does, it is read.
-- Assumes nothing.
use mathlib.Core.Path.{◌≡◌, ap, sym, ◌∙◌}
use Prim.Native.Nat.{◌^◌, ◌≤◌, ◌<◌}
use borrow.Author.Tests.{ne_eqb}
use borrow.Author.Rules.{rules}
use Rattle.polarity.specs.declared.types.Word.{Word}
use Rattle.refusals.specs.declared.types.Refusal.{Refusal}
use Rattle.std.specs.Prelude.{Err, Result, Ok}
use Rattle.polarity.specs.Heard.{heard_of}
use Rattle.register.specs.declared.types.Reader.{Reader}
use Rattle.register.specs.Held.{held_bits}
use Rattle.hearing.specs.declared.types.Way.TheVariants.{Forward}
use Rattle.hearing.specs.declared.types.Heard.{Heard}
use Rattle.hearing.specs.declared.types.Heard.TheVariants.{Nothing, Accepted, Refused}
use Rattle.hearing.specs.Window.{reporting, told, backward_in, or_else, heard_in}
use Rattle.hearing.proofs.Upper.{upper, short_hears_nothing, other_hears_nothing, full_hears}
use Rattle.hearing.proofs.Lower.{short_is_passed_over}
use Rattle.hearing.proofs.windows.heard.Goals as goal

module _ (r : Reader) where
  too_few : r.held < 80 → Nothing ≡ heard_in r.mode r.ways (held_bits r)
  unfolding heard_in
  too_few h = rw (short_hears_nothing r h, short_is_passed_over r r.ways h)

  no_sync :
      r.sync < 2 ^ 16 → (r.sync ≡ 0xbffc → ⊥) → (heard : Heard) → heard ≡ backward_in r.mode r.ways (held_bits r)
      → heard ≡ heard_in r.mode r.ways (held_bits r)
  unfolding heard_in
  no_sync high other heard is = rw (other_hears_nothing r (upper r high ∙ ne_eqb r.sync 0xbffc other)) is

  module _ (low : r.info < 2 ^ 64) (seen : r.sync ≡ 0xbffc) (h : 80 ≤ r.held) (word : Result Word Refusal) (read : word ≡ heard_of r.mode r.info) where
    heard_is : or_else (told word) (backward_in r.mode r.ways (held_bits r)) ≡ heard_in r.mode r.ways (held_bits r)
    unfolding heard_in
    heard_is =
        ap (λ (heard : Heard). or_else heard (backward_in r.mode r.ways (held_bits r))) (ap told read ∙ sym (full_hears r low seen h))

    accepted :
        (says : Word) → word ≡ Ok says → (heard : Heard) → heard ≡ Accepted (reporting says.«record» says.found Forward)
        → heard ≡ heard_in r.mode r.ways (held_bits r)
    accepted says e heard is = is ∙ ap (λ (w : Result Word Refusal). or_else (told w) (backward_in r.mode r.ways (held_bits r))) (sym e) ∙ heard_is

    refused : (n : Refusal) → word ≡ Err n → Refused n ≡ heard_in r.mode r.ways (held_bits r)
    refused n e = ap (λ (w : Result Word Refusal). or_else (told w) (backward_in r.mode r.ways (held_bits r))) (sym e) ∙ heard_is

pub returns-then-reader-ne49148 : goal.returns-then-reader-ne49148
returns-then-reader-ne49148 c = search (no_sync, rules)

pub returns-then-reader-lt80 : goal.returns-then-reader-lt80
returns-then-reader-lt80 c = search too_few

pub returns-in-Ok : goal.returns-in-Ok
returns-in-Ok c = search (accepted, rules)

pub returns-in-Err : goal.returns-in-Err
returns-in-Err c = search (refused, rules)

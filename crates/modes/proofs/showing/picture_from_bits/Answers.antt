-- `modes::showing::picture_from_bits` meets its contract: what the record answers, at the place that is shown.
-- Assumes nothing.
use mathlib.Core.Path.{◌≡◌, sym, ap, ◌∙◌}
use Prim.Native.Nat.{ℕ}
use Rattle.refusals.proofs.Results.{passed_on}
use Rattle.refusals.specs.declared.types.Refusal.{Refusal}
use Rattle.std.specs.Prelude.{Err, Ok, Result}
use Rattle.record.specs.declared.types.Record.{Record}
use Rattle.record.specs.Record.{at_place}
use Rattle.modes.specs.declared.types.Shows.{Shows}
use Rattle.modes.specs.Calls.{unpacked_in}
use Rattle.modes.specs.Shown.{place_shown, shown_in}
use Rattle.modes.proofs.Shown.{shown_as, shown_is}
use Rattle.modes.proofs.showing.picture_from_bits.Goals as goal

module _ (mode : ℕ) (shows : Shows) (info : ℕ) (held : Result Record Refusal) (asked : held ≡ unpacked_in mode info) where
  told : shown_as mode shows held ≡ shown_in mode shows info
  told = ap (shown_as mode shows) asked ∙ sym (shown_is mode shows info)

  refused : (n : Refusal) → held ≡ Err n → Err n ≡ shown_in mode shows info
  refused n e = ap (shown_as mode shows) (sym e) ∙ told

  placed :
      (r : Record) → held ≡ Ok r → (place : ℕ) → place ≡ place_shown mode shows r.flags.mark → (s : Record) → s ≡ at_place place r
      → Ok s ≡ shown_in mode shows info
  placed r e place shown s made = rw (made, shown) (ap (shown_as mode shows) (sym e) ∙ told)

pub returns-in_err-held : goal.returns-in_err-held
returns-in_err-held c = passed_on c.from_residual.ensures.1 (search (refused, c.in_err-held.was))

pub returns : goal.returns
returns c = search (placed, c.in_ok-held.was)

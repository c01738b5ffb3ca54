-- `atc::payload::judge` meets its contract: its tests are those of the list of refusals.
-- Assumes nothing.
use Prim.Native.Nat.{ℕ}
use mathlib.Core.Path.{◌≡◌}
use mathlib.Core.Bool.{Bool, true, false}
use Rattle.refusals.specs.declared.types.Refusal.{Refusal}
use Rattle.std.specs.Prelude.{Err, Ok, Result}
use Rattle.refusals.specs.declared.types.Refusal.TheVariants.{ImpossibleLine, MisnamedMode, UnknownType}
use Rattle.refusals.specs.Answer.{verdict_of}
use Rattle.packets.specs.Packet.{is_unknown_type}
use Rattle.superframes.specs.Named.{misnamed}
use Rattle.atc.specs.declared.types.Interface.{Interface}
use Rattle.atc.specs.Lines.{is_impossible_line}
use Rattle.atc.specs.Calls.{payload_refusals}
use Rattle.atc.proofs.payload.judge.Goals as goal

module _ (mode : ℕ) (interface : Interface) (type second : ℕ) (other : Bool) (known : other ≡ is_unknown_type mode type) where
  abbrev judged : Result Unit Refusal
  judged = verdict_of (payload_refusals mode interface type second)

  no_type : other ≡ true → Err UnknownType ≡ judged
  no_type t = rw (← known, t)

  module _ (low : other ≡ false) (claimed : Bool) (asked : claimed ≡ is_impossible_line interface type second) where
    no_line : claimed ≡ true → Err ImpossibleLine ≡ judged
    no_line t = rw (← known, low, ← asked, t)

    module _ (possible : claimed ≡ false) (differs : Bool) (compared : differs ≡ misnamed mode second) where
      no_name : differs ≡ true → Err MisnamedMode ≡ judged
      no_name t = rw (← known, low, ← asked, possible, ← compared, t)

      none : differs ≡ false → Ok tt ≡ judged
      none f = rw (← known, low, ← asked, possible, ← compared, f)

pub returns-then-is_unknown_type : goal.returns-then-is_unknown_type
returns-then-is_unknown_type c = search no_type

pub returns-then-is_impossible_line : goal.returns-then-is_impossible_line
returns-then-is_impossible_line c = search no_line

pub returns-then-is_misnamed : goal.returns-then-is_misnamed
returns-then-is_misnamed c = search no_name

pub returns : goal.returns
returns c = search none

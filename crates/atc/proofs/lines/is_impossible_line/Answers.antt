-- `atc::lines::is_impossible_line` meets its contract: the types by their numbers, the rest by what `lacks_entry` ensures.
-- Assumes nothing.
use Prim.Native.Nat.{ℕ}
use mathlib.Core.Path.{◌≡◌, ap}
use mathlib.Core.Bool.{Bool, ◌&&◌, ◌||◌}
use lib.Dec.{eqb}
use Rattle.atc.specs.declared.types.Interface.{Interface}
use Rattle.atc.specs.Lines.{lacks_entry, is_impossible_line}
use Rattle.atc.proofs.lines.is_impossible_line.Goals as goal

asked :
    (interface : Interface) (type second : ℕ) (lacking : Bool) → lacking ≡ lacks_entry interface second
    → ((eqb type 1 || eqb type 2) && lacking) ≡ is_impossible_line interface type second
asked interface type second lacking e = ap (λ (b : Bool). (eqb type 1 || eqb type 2) && b) e

pub returns : goal.returns
returns c = search asked

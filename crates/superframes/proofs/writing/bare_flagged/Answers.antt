-- `superframes::writing::bare_flagged` meets its contract: two of the three bits.
-- Assumes nothing.
use Prim.Native.Nat.{ℕ, ◌/◌, ◌%◌}
use mathlib.Core.Path.{◌≡◌}
use Rattle.rates.specs.declared.types.Flag.{Flag}
use Rattle.rates.specs.declared.types.Flag.TheVariants.{No}
use Rattle.layout.specs.Flags.{flag_of}
use Rattle.record.specs.declared.types.Record.{Record}
use Rattle.superframes.specs.SubFrames.{flagged}
use Rattle.superframes.specs.Bare.{bare}
use Rattle.superframes.proofs.writing.bare_flagged.Goals as goal

two_of_three :
    (three : ℕ) (r : Record) (first third : Flag) → first ≡ flag_of (three / 4 % 2) → third ≡ flag_of (three % 2)
    → record {
      address = r.address;
      flags = record { drop = No; colour = No; mark = first; bgf0 = third; bgf1 = No; bgf2 = No };
      groups = r.groups;
      place = 0;
    } ≡ bare (flagged three r)
two_of_three three r first third one last = rw (one, last)

pub returns : goal.returns
returns c = search two_of_three

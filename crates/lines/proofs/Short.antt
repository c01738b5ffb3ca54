-- How long a line is at most.
-- Assumes nothing.
use Prim.Native.Nat.{ℕ, ◌≤◌}
use native.Mathlib.Omega.{arith}
use lib.ListN.{length, length-append}
use Rattle.refusals.specs.Table.{number}
use Rattle.hearing.specs.declared.types.Heard.{Heard}
use Rattle.hearing.specs.declared.types.Heard.TheVariants.{Nothing, Accepted, Refused}
use Rattle.text.proofs.Spelled.{at_most}
use Rattle.figures.specs.Figures.{address_text, groups_text}
use Rattle.lines.specs.Lines.{accepted_text, refused_text, line_of}

-- every line has room in 64 places
pub line_short : (bits : ℕ) (heard : Heard) → length (line_of bits heard) ≤ 64
unfolding line_of accepted_text refused_text address_text groups_text
line_short bits Nothing = omega arith
line_short bits (Accepted r) = simp length-append (omega (arith, at_most 20 bits))
line_short bits (Refused refusal) = simp length-append (omega (arith, at_most 20 bits, at_most 20 (number refusal)))

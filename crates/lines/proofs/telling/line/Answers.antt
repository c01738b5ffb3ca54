-- `lines::telling::line` meets its contract: nothing, or the bits so far and what follows them.
-- Assumes nothing.
use borrow.Author.Rules.{rules}
use Prim.Native.Nat.{ℕ, ◌≤◌}
use mathlib.Core.Path.{◌≡◌, refl, sym}
use mathlib.Core.List.{List, ◌++◌}
use native.Mathlib.Omega.{arith}
use lib.ListN.{length}
use Rattle.refusals.specs.declared.types.Refusal.{Refusal}
use Rattle.refusals.specs.Table.{number}
use Rattle.hearing.specs.declared.types.Report.{Report}
use Rattle.hearing.specs.declared.types.Heard.{Heard}
use Rattle.hearing.specs.declared.types.Heard.TheVariants.{Nothing, Accepted, Refused}
use Rattle.runs.specs.Run.{placed}
use Rattle.text.specs.Numerals.{decimal}
use Rattle.text.proofs.Laid.{placed_none, laid_two}
use Rattle.text.proofs.Appends.{Appended, Stands, stands}
use Rattle.text.proofs.Spelled.{at_most}
use Rattle.lines.specs.Lines.{accepted_text, refused_text, line_of}
use Rattle.lines.proofs.telling.line.Goals as goal

nothing : (bits : ℕ) (heard : Heard) (text : List ℕ) → heard ≡ Nothing → (0 ≡ length (line_of bits heard)) × (text ≡ placed 0 (line_of bits heard) text)
unfolding line_of
nothing bits heard text e = rw e (refl, sym (placed_none 0 text))

module _ (bits : ℕ) (text : List ℕ) {p : ℕ} {mid : List ℕ} (long : 48 ≤ length text) (begun : Appended (decimal bits) 0 text p mid) where
  first : Stands (decimal bits) 0 text p mid
  first = stands (decimal bits) 0 text (omega (arith, at_most 20 bits)) begun

  early : p ≤ 20
  early = omega (arith, first.0, at_most 20 bits)

  module _ (heard : Heard) {q : ℕ} {out : List ℕ} where
    told :
        (rest : List ℕ) → line_of bits heard ≡ decimal bits ++ rest → Stands rest p mid q out
        → (q ≡ length (line_of bits heard)) × (out ≡ placed 0 (line_of bits heard) text)
    told rest e next =
        let all = laid_two 0 (decimal bits) rest text (omega (arith, at_most 20 bits)) first.0 first.1 next.0 next.1 in
        rw e (omega (arith, all.0), all.1)

    accepted :
        (report : Report) → heard ≡ Accepted report → Stands (accepted_text report.«record») p mid q out
        → (q ≡ length (line_of bits heard)) × (out ≡ placed 0 (line_of bits heard) text)
    unfolding line_of
    accepted report e = told (accepted_text report.«record») (rw e)

    refused :
        (refusal : Refusal) → heard ≡ Refused refusal → Stands (refused_text (number refusal)) p mid q out
        → (q ≡ length (line_of bits heard)) × (out ≡ placed 0 (line_of bits heard) text)
    unfolding line_of
    refused refusal e = told (refused_text (number refusal)) (rw e)

pub lay_accepted-requires : goal.lay_accepted-requires
lay_accepted-requires c = omega (arith, early c.args.bits _ (search rules) c.append_decimal-at.ensures)

pub lay_refused-requires : goal.lay_refused-requires
lay_refused-requires c = omega (arith, early c.args.bits _ (search rules) c.append_decimal-at-in-Refused.ensures)

pub returns-in-Nothing : goal.returns-in-Nothing
returns-in-Nothing c = nothing c.args.bits _ c.args.text.now c.in-Nothing.is

pub returns-in-Accepted : goal.returns-in-Accepted
returns-in-Accepted c = accepted _ _ (search rules) c.append_decimal-at.ensures _ _ c.in-Accepted.is c.lay_accepted.ensures

pub returns-in-Refused : goal.returns-in-Refused
returns-in-Refused c = refused _ _ (search rules) c.append_decimal-at-in-Refused.ensures _ _ c.in-Refused.is c.lay_refused.ensures

-- `reader::stepping::step` meets its contract: the verdict refuses as the first rows of the list do, then an element that is no bit is refused, and else the
-- bit is taken.
-- Assumes nothing.
use mathlib.Core.Path.{◌≡◌}
use Prim.Native.Nat.{ℕ, ◌^◌, ◌≤◌, ◌<◌}
use native.Mathlib.Omega.{arith}
use borrow.Author.Tests.{lt-ltb}
use borrow.Author.Rules.{rules}
use Rattle.std.specs.Prelude.{[], ◌∷◌, ltb, Result, Ok, Err}
use Rattle.refusals.specs.declared.types.Refusal.{Refusal}
use Rattle.refusals.specs.declared.types.Refusal.TheVariants.{ElementTooHigh}
use Rattle.refusals.specs.Answer.{◌when◌, answer, verdict_of}
use Rattle.refusals.proofs.Verdicts.{refused_by}
use Rattle.register.specs.declared.types.Reader.{Reader}
use Rattle.hearing.specs.declared.types.Heard.{Heard}
use Rattle.hearing.specs.declared.types.Heard.TheVariants.{Refused}
use Rattle.register.specs.Held.{held_bits, push, reader_with}
use Rattle.hearing.specs.Window.{heard_in}
use Rattle.reader.specs.declared.types.Stepped.{Stepped}
use Rattle.reader.specs.Steps.{after, reader_refusals, bit_taken, stepped_of}
use Rattle.reader.proofs.Judged.{passing}
use Rattle.reader.proofs.Taken.{step_taken}
use Rattle.reader.proofs.stepping.step.Goals as goal

module _ (r : Reader) (element : ℕ) (found : Result Unit Refusal) (judged : found ≡ verdict_of (reader_refusals r)) where
  refused : (n : Refusal) → found ≡ Err n → after r (Refused n) ≡ stepped_of r element
  unfolding stepped_of
  refused n e =
      let given : Refusal → Stepped = λ n. after r (Refused n) in
      refused_by given (answer given ((ElementTooHigh when ltb 1 element) ∷ []) (bit_taken r element)) (reader_refusals r) found judged n e

  module _ (sound : found ≡ Ok tt) where
    no_bit : 1 < element → after r (Refused ElementTooHigh) ≡ stepped_of r element
    unfolding stepped_of
    no_bit high = let p = passing r found judged sound in rw (p.known, p.passes, lt-ltb 1 element high)

    module _ (low : r.info < 2 ^ 64) (high : r.sync < 2 ^ 16) (bit : element ≤ 1) where
      taken :
          (next : Reader) (heard : Heard) → next ≡ reader_with r.mode r.ways (push (held_bits r) element)
          → heard ≡ heard_in next.mode next.ways (held_bits next) → after next heard ≡ stepped_of r element
      taken next heard pushes =
          let p = passing r found judged sound in
          step_taken r element low high p.passes bit p.known next pushes heard

pub returns-in-Err : goal.returns-in-Err
returns-in-Err c = search refused

pub returns-then-element-gt1 : goal.returns-then-element-gt1
returns-then-element-gt1 c = search no_bit

pub pushed-next-requires : goal.pushed-next-requires
pushed-next-requires c = ((passing _ _ c.judge.ensures c.in_default.is).passes, omega arith)

pub returns : goal.returns
returns c = search (taken, rules)

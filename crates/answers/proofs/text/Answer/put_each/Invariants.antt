-- `answers::text::Answer::put_each` meets its contract: at each turn the answer so far is the one that was begun, with its place kept apart.
-- Assumes nothing.
use Rattle.answers.specs.Places.{Extended}
use Rattle.answers.proofs.text.Answer.put_each.Given as goal

abbrev pub invariant-loop-byte : goal.invariant-loop-byte
invariant-loop-byte g l = Extended l.initial.self (record { room = l.self.room; length = l.next })

-- "The count is of the steps in which the single-bit rule takes a bit."
-- Assumes nothing.
use Rattle.refusals.specs.declared.types.Refusal.{Refusal}
use Rattle.std.specs.Prelude.{ℕ, ◌+◌, Bool, true, false, cond, List, [], ◌∷◌}
use Rattle.refusals.specs.declared.types.Refusal.{Refusal}
use Rattle.refusals.specs.Answer.{answer}
use Rattle.register.specs.declared.types.Reader.{Reader}
use Rattle.reader.specs.Steps.{feed_refusals, stepped_of}
use Rattle.reader.specs.Blocks.{is_answer}

-- a step takes its bit where it is not refused by 2, 13 or 3
abbrev pub takes_bit : Reader → ℕ → Bool
takes_bit reader element = answer (λ (_ : Refusal). false) (feed_refusals reader element) true

-- in how many steps a bit is taken
unfoldable pub steps_taking : Reader → List ℕ → ℕ
steps_taking reader [] = 0
steps_taking reader (element ∷ elements) = cond (takes_bit reader element) 1 0 + steps_taking (stepped_of reader element).reader elements

-- the elements of a run up to the first step that answers, that one with them
unfoldable pub up_to_answer : Reader → List ℕ → List ℕ
up_to_answer reader [] = []
up_to_answer reader (element ∷ elements) =
    let s = stepped_of reader element in element ∷ cond (is_answer s.heard) [] (up_to_answer s.reader elements)

-- "A block step takes a limit and a lent run of bits. It stops after the first answer, at the limit, before an element that is no bit, or at
-- the end, and returns the number of bits it took." It is the single step, repeated.
-- Assumes nothing.
use Rattle.refusals.specs.declared.types.Refusal.{Refusal}
use Rattle.std.specs.Prelude.{ℕ, ◌+◌, ◌-◌, Bool, true, false, cond, List, [], ◌∷◌, ltb, eqb}
use Rattle.refusals.specs.Answer.{answer}
use Rattle.register.specs.declared.types.Reader.{Reader}
use Rattle.hearing.specs.declared.types.Heard.{Heard}
use Rattle.hearing.specs.declared.types.Heard.TheVariants.{Nothing, Accepted, Refused}
use Rattle.reader.specs.declared.types.Blocked.{Blocked}
use Rattle.reader.specs.Steps.{reader_refusals, stepped_of}

-- a record or a refusal is an answer
abbrev pub is_answer : Heard → Bool
is_answer Nothing = false
is_answer (Accepted r) = true
is_answer (Refused n) = true

-- a block that stopped here, with so many bits taken
abbrev pub stopped : Heard → Reader → ℕ → Blocked
stopped heard reader taken = record { heard = heard; reader = reader; taken = taken }

-- one bit more was taken before this block
abbrev pub one_more : Blocked → Blocked
one_more block = stopped block.heard block.reader (block.taken + 1)

-- from a reader whose mode and state are sound: nothing at the limit or the end; before an element that is no bit, 3, that bit not taken; after an
-- answer, the answer; and else one bit taken, and on
unfoldable pub going : Reader → ℕ → List ℕ → Blocked
going reader limit [] = stopped Nothing reader 0
going reader limit (element ∷ elements) =
    let s = stepped_of reader element in
    let rest = going s.reader (limit - 1) elements in
    cond (eqb limit 0) (stopped Nothing reader 0)
    (cond (ltb 1 element) (stopped s.heard s.reader 0)
    (cond (is_answer s.heard) (stopped s.heard s.reader 1) (one_more rest)))

-- "a bad mode or state answers 2 or 13 with count 0, even at limit 0"
unfoldable pub blocked_of : Reader → ℕ → List ℕ → Blocked
blocked_of reader limit run =
    answer (λ (n : Refusal). stopped (Refused n) reader 0) (reader_refusals reader) (going reader limit run)

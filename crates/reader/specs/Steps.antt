-- "A step takes one bit." What it answers, and the reader after it.
-- Assumes nothing.
use Rattle.refusals.specs.declared.types.Refusal.TheVariants.{ElementTooHigh, StateNotReached, UnknownMode}
use Rattle.refusals.specs.declared.types.Refusal.{Refusal}
use Rattle.std.specs.Prelude.{ℕ, List, [], ◌∷◌, ◌++◌, ltb}
use Rattle.refusals.specs.Answer.{Cause, ◌when◌, answer}
use Rattle.modes.specs.Modes.{unknown}
use Rattle.register.specs.declared.types.Reader.{Reader}
use Rattle.hearing.specs.declared.types.Heard.{Heard}
use Rattle.hearing.specs.declared.types.Heard.TheVariants.{Refused}
use Rattle.hearing.specs.Window.{heard_in}
use Rattle.reader.specs.declared.types.Stepped.{Stepped}
use Rattle.register.specs.Held.{held_bits, push, reader_with, unreached}

-- a reader and what it answers
abbrev pub after : Reader → Heard → Stepped
after reader heard = record { heard = heard; reader = reader }

-- of a reader: 2 a mode that is unknown; 13 straight after it
abbrev pub reader_refusals : Reader → List Cause
reader_refusals reader = (UnknownMode when unknown reader.mode) ∷ (StateNotReached when unreached reader) ∷ []

-- and of what it is fed: 3 an element above 1
abbrev pub feed_refusals : Reader → ℕ → List Cause
feed_refusals reader element = reader_refusals reader ++ ((ElementTooHigh when ltb 1 element) ∷ [])

-- the reader after one bit, and what it answers
abbrev pub bit_taken : Reader → ℕ → Stepped
bit_taken reader bit =
    let bits = push (held_bits reader) bit in
    after (reader_with reader.mode reader.ways bits) (heard_in reader.mode reader.ways bits)

-- "A reader refused with 2, 3 or 13 comes back the same, with that bit not taken .. A code word refused by the reader has had its bit taken."
unfoldable pub stepped_of : Reader → ℕ → Stepped
stepped_of reader element = answer (λ (n : Refusal). after reader (Refused n)) (feed_refusals reader element) (bit_taken reader element)

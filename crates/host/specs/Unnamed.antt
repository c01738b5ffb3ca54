-- "what C can hand over and our types can't is turned away, not trusted: a flag byte above 1 is 3 (after 2), an interface, way or make that is none of those likewise". So each
-- call has the rows that come before 3, and 3 where a byte stands for nothing; where none of these applies it answers as the call below it, whose own list begins with the same rows.
-- Assumes nothing.
use Rattle.refusals.specs.declared.types.Refusal.{Refusal}
use Rattle.refusals.specs.declared.types.Refusal.TheVariants.{ElementTooHigh, UnknownMode}
use Rattle.std.specs.Prelude.{Bool, List, [], ◌∷◌, ◌++◌}
use Rattle.refusals.specs.Answer.{Cause, ◌when◌, answer}
use Rattle.register.specs.declared.types.Reader.{Reader}
use Rattle.reader.specs.Steps.{reader_refusals}

-- 3 where a byte stands for nothing, after what comes before it
abbrev pub then_unnamed : List Cause → Bool → List Cause
then_unnamed before unnamed = before ++ ((ElementTooHigh when unnamed) ∷ [])

-- of a byte that stands for nothing, the number: of a call with a mode, and of a reader, where 13 comes straight after 2
abbrev pub after_mode : Bool → Refusal
after_mode unknown = answer (λ (r : Refusal). r) ((UnknownMode when unknown) ∷ []) ElementTooHigh

abbrev pub after_reader : Reader → Refusal
after_reader reader = answer (λ (r : Refusal). r) (reader_refusals reader) ElementTooHigh

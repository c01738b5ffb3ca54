-- The face of a clock, and which addresses it does not show. The clock itself, stepped from midnight, is in the crate `midnight`.
-- Assumes nothing.
use Rattle.std.specs.Prelude.{ℕ, ◌%◌, Bool, not, ◌&&◌, ◌||◌, ltb, leb, eqb}
use Rattle.rates.specs.declared.types.Address.{Address}

-- hours, minutes, seconds and frames, as a clock shows them
abbrev pub showing : ℕ → ℕ → ℕ → ℕ → Address
showing h m s f = record { hours = h; minutes = m; seconds = s; frames = record { 0 = f } }

-- "Hours 00 to 23, minutes and seconds 00 to 59, frames 00 up to the mode's count less one": is one of them outside?
abbrev pub outside : ℕ → Address → Bool
outside fps a = ltb 23 a.hours || (ltb 59 a.minutes || (ltb 59 a.seconds || leb fps a.frames.0))

-- "frames 00 and 01 are skipped at the start of each minute except minutes 00, 10, 20, 30, 40 and 50": is this one of them?
abbrev pub skipped : Address → Bool
skipped a = ltb a.frames.0 2 && (eqb a.seconds 0 && not (eqb (a.minutes % 10) 0))

-- A step of `to_bits`, which no promise to a caller names: the record as its rate has it.
-- Assumes nothing.
use Rattle.std.specs.Prelude.{ℕ, cond}
use Rattle.pictures.specs.Pictures.{several}
use Rattle.record.specs.declared.types.Record.{Record}
use Rattle.record.specs.Record.{at_place}

-- where several pictures share an address, the place is no matter of the rate's, and none is left for it
abbrev pub place_left : ℕ → ℕ → ℕ
place_left pictures place = cond (several pictures) 0 place

abbrev pub at_rate : ℕ → Record → Record
at_rate pictures r = at_place (place_left pictures r.place) r

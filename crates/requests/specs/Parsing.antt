-- What stands after a field, the most that a field may hold, and an address in the numbers of a request.
-- Assumes nothing.
use Rattle.std.specs.Prelude.{ℕ, ◌+◌, ◌%◌, ◌==◌, ◌≤◌, ◌<◌, nat_lt, if◌then◌else◌, Option, Some, None, List, length, get_or}
use Rattle.std.specs.List.{position_or_len, after_first}
use Rattle.std.specs.Option.{option_copied}
use Rattle.rates.specs.declared.types.Address.{Address}
use Rattle.rates.specs.Face.{showing}
use Rattle.requests.specs.declared.fields.Fields.{Fields}
use Rattle.requests.specs.declared.types.Field.{Field}
use Rattle.requests.specs.declared.types.Field.TheVariants.{Byte, Count, Flag, Kind, HighKind, Length, Number, Start}

-- what is left of a line, before the last field was taken
abbrev pub rest_of : Fields → Option (List ℕ)
rest_of fields = option_copied fields.rest

-- what stands after the first separator, where the text has one
abbrev pub rest_after : ℕ → List ℕ → Option (List ℕ)
rest_after separator text =
    (if nat_lt (position_or_len (λ c. c == separator) text) (length text) then Some (after_first (λ c. c == separator) text) else None)

-- the most that a field may hold; a count is kept as how far it is above the lowest
abbrev pub limit_of : Field → ℕ
limit_of Byte = 255
limit_of Count = 4294967295
limit_of Flag = 1
limit_of Kind = 3
limit_of HighKind = 5
limit_of Length = 400
limit_of Number = 4294967295
limit_of Start = 18446744073709551615

-- each of the first so many numbers is within the limit of its field
pub record Limited (form : List Field) (numbers : List ℕ) (count : ℕ) : Type 0 where
  pub limit : (i : ℕ) → i < count → get_or numbers i 0 ≤ limit_of (get_or form i Byte)

-- the address that four numbers of a request are, from the place on
abbrev pub address_from : ℕ → List ℕ → Address
address_from place n = showing (get_or n place 0 % 256) (get_or n (place + 1) 0 % 256) (get_or n (place + 2) 0 % 256) (get_or n (place + 3) 0 % 256)

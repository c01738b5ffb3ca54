-- The states "that feeding can bring a fresh one to".
-- Assumes nothing.
use Rattle.std.specs.Prelude.{◌≡◌, ℕ, List, [], ◌∷◌}
use Rattle.register.specs.declared.types.Reader.{Reader}
use Rattle.hearing.specs.declared.types.Heard.{Heard}
use Rattle.register.specs.Held.{fresh_of}
use Rattle.reader.specs.Steps.{stepped_of}

-- the reader after a step for each element, whatever the elements are
unfoldable pub fed : Reader → List ℕ → Reader
fed reader [] = reader
fed reader (element ∷ elements) = fed (stepped_of reader element).reader elements

-- one answer for each element
unfoldable pub answers : Reader → List ℕ → List Heard
answers reader [] = []
answers reader (element ∷ elements) = (stepped_of reader element).heard ∷ answers (stepped_of reader element).reader elements

pub record Reached (reader : Reader) : Type 0 where
  pub elements : List ℕ
  pub brought : fed (fresh_of reader.mode reader.ways) elements ≡ reader

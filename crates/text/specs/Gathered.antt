-- Text appended to the output that is gathered: it goes in whole, or not at all.
-- Assumes nothing.
use Rattle.std.specs.Prelude.{ℕ, ◌+◌, cond, List, length}
use Rattle.runs.specs.Run.{placed, lacks_room}

-- the place after the text
unfoldable pub place_after : List ℕ → ℕ → List ℕ → ℕ
place_after text at out = cond (lacks_room (length text) at (length out)) at (at + length text)

-- the output with the text in it from a place on
unfoldable pub out_after : List ℕ → ℕ → List ℕ → List ℕ
out_after text at out = cond (lacks_room (length text) at (length out)) out (placed at text out)

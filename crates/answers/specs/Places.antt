-- Where the next byte goes once something was put.
-- Assumes nothing.
use Rattle.std.specs.Prelude.{◌≡◌, ℕ, ◌+◌, ◌-◌, ◌≤◌, length}
use Rattle.answers.specs.declared.text.Answer.{Answer}

-- Never back, and not past the run: a place past it stays where it is.
pub record Onward (at room next : ℕ) : Type 0 where
  pub on : at ≤ next
  pub within : next ≤ at + (room - at)

-- an answer that something was put into: its run keeps its length
pub record Extended (before after : Answer) : Type 0 where
  pub kept : length after.room.now ≡ length before.room.now
  pub onward : Onward before.length (length before.room.now) after.length

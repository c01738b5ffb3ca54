-- What holds at each turn of a block.
-- Assumes nothing.
use Rattle.std.specs.Prelude.{ℕ, ◌+◌, ◌-◌, ◌^◌, ◌<◌, ◌≤◌, min, ◌≡◌, false, List, length, drop}
use Rattle.modes.specs.Modes.{unknown}
use Rattle.register.specs.declared.types.Reader.{Reader}
use Rattle.reader.specs.declared.types.Blocked.{Blocked}
use Rattle.register.specs.Held.{unreached}
use Rattle.reader.specs.Blocks.{stopped, going}

-- so many bits were taken before this block
abbrev pub more_before : ℕ → Blocked → Blocked
more_before taken block = stopped block.heard block.reader (taken + block.taken)

-- a reader whose mode and state are sound
pub record Passing (reader : Reader) : Type 0 where
  pub known : unknown reader.mode ≡ false
  pub passes : unreached reader ≡ false

-- and whose words are machine words
pub record Sound (reader : Reader) : Type 0 where
  pub passing : Passing reader
  pub low : reader.info < 2 ^ 64
  pub high : reader.sync < 2 ^ 16

-- what is still to come, from the reader as it is now, makes the whole block
pub record Feeding (limit : ℕ) (run : List ℕ) (first : Reader) (end : ℕ) (reader : Reader) (taken : ℕ) : Type 0 where
  pub within : taken ≤ end
  pub ends : end ≡ min limit (length run)
  pub sound : Sound reader
  pub so_far : going first limit run ≡ more_before taken (going reader (limit - taken) (drop taken run))

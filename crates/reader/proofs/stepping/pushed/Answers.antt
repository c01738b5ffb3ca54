-- `reader::stepping::pushed` meets its contract: shifting the register is pushing onto the list.
-- Assumes nothing.
use mathlib.Core.Path.{◌≡◌}
use mathlib.Core.Bool.{false}
use Prim.Native.Nat.{ℕ, ◌+◌, ◌^◌, ◌≤◌, ◌<◌, min}
use native.Mathlib.Omega.{arith}
use borrow.Author.Rules.{rules}
use Rattle.register.specs.declared.types.Reader.{Reader}
use Rattle.register.specs.Held.{held_bits, push, reader_with, unreached}
use Rattle.register.proofs.Pushed.{shifted_to, shifted_is_pushed}
use Rattle.reader.proofs.stepping.pushed.Goals as goal

module _ (r : Reader) (bit : ℕ) (passes : unreached r ≡ false) (small : bit < 2) (low : r.info < 2 ^ 64) (high : r.sync < 2 ^ 16) where
  one_more : r.held < 80 → shifted_to r bit (r.held + 1) ≡ reader_with r.mode r.ways (push (held_bits r) bit)
  one_more h = let next : min (r.held + 1) 80 ≡ r.held + 1 = omega arith in rw next at (shifted_is_pushed r low high passes bit small)

  still_80 : 80 ≤ r.held → shifted_to r bit 80 ≡ reader_with r.mode r.ways (push (held_bits r) bit)
  still_80 h = let next : min (r.held + 1) 80 ≡ 80 = omega arith in rw next at (shifted_is_pushed r low high passes bit small)

pub returns-then-reader-lt80 : goal.returns-then-reader-lt80
returns-then-reader-lt80 c = search (one_more, rules)

pub returns : goal.returns
returns c = search (still_80, rules)

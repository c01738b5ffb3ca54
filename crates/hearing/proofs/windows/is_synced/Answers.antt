-- `hearing::windows::is_synced` meets its contract: 16 places are the sync word, or the sync word turned round, exactly where they are its number.
-- Assumes nothing.
use mathlib.Core.Path.{◌≡◌}
use mathlib.Core.Bool.{true, false}
use Prim.Native.Nat.{◌%◌, ◌^◌, ◌<◌}
use lib.Dec.{eqb}
use borrow.Author.Tests.{eq-eqb, ne_eqb}
use borrow.Author.Rules.{rules}
use Rattle.register.specs.declared.types.Reader.{Reader}
use Rattle.register.specs.declared.types.Ways.TheVariants.{ForwardOnly, Both}
use Rattle.hearing.specs.Looks.{synced}
use Rattle.hearing.proofs.Upper.{upper}
use Rattle.hearing.proofs.Lower.{lower}
use Rattle.hearing.proofs.windows.is_synced.Goals as goal

module _ (r : Reader) (high : r.sync < 2 ^ 16) where
  at_the_top : r.sync ≡ 0xbffc → true ≡ synced r
  unfolding synced
  at_the_top seen = rw (upper r high, eq-eqb r.sync 0xbffc seen)

  module _ (other : r.sync ≡ 0xbffc → ⊥) where
    forward_only : r.ways ≡ ForwardOnly → false ≡ synced r
    unfolding synced
    forward_only hears = rw (upper r high, ne_eqb r.sync 0xbffc other, hears)

    at_the_bottom : r.info < 2 ^ 64 → r.ways ≡ Both → eqb (r.info % 0x10000) 0x3ffd ≡ synced r
    unfolding synced
    at_the_bottom low hears = rw (upper r high, ne_eqb r.sync 0xbffc other, hears, lower r low high)

pub returns-then-reader-eq49148 : goal.returns-then-reader-eq49148
returns-then-reader-eq49148 c = search (at_the_top, rules)

pub returns-in-ForwardOnly : goal.returns-in-ForwardOnly
returns-in-ForwardOnly c = search (forward_only, rules)

pub returns-in-Both : goal.returns-in-Both
returns-in-Both c = search (at_the_bottom, rules)

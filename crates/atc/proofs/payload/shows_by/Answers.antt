-- `atc::payload::shows_by` meets its contract: type 0 shows the first picture, any other by its mark.
-- Assumes nothing.
use mathlib.Core.Path.{◌≡◌}
use Prim.Native.Nat.{ℕ}
use borrow.Author.Tests.{ne_eqb}
use Rattle.modes.specs.declared.types.Shows.TheVariants.{First, ByMark}
use Rattle.atc.specs.Records.{shows_by}
use Rattle.atc.proofs.payload.shows_by.Goals as goal

module _ (type : ℕ) where
  first : type ≡ 0 → First ≡ shows_by type
  first e = rw e

  by_mark : (type ≡ 0 → ⊥) → ByMark ≡ shows_by type
  by_mark other = rw (ne_eqb type 0 other)

pub returns-then-payload_type-eq0 : goal.returns-then-payload_type-eq0
returns-then-payload_type-eq0 c = search first

pub returns : goal.returns
returns c = search by_mark

-- `record::writing::packed` meets its contract: four quarters of sixteen bits are the fields of the layout side by side.
-- Assumes nothing.
use Prim.Native.Nat.{◌<◌}
use mathlib.Core.Path.{◌≡◌, refl, sym}
use native.Mathlib.Omega.{arith}
use Rattle.std.specs.Prelude.{Ok}
use Rattle.refusals.specs.Answer.{verdict_of}
use Rattle.refusals.proofs.Verdicts.{sound_clear}
use Rattle.rates.specs.declared.types.Rate.{Rate}
use Rattle.record.specs.declared.types.Record.{Record}
use Rattle.record.specs.Calls.{write_refusals}
use Rattle.record.proofs.Accepted.{Writable, writable}
use Rattle.record.proofs.Quarters.{small, whole}
use Rattle.record.proofs.writing.packed.Goals as goal
use Rattle.record.proofs.writing.packed.Goals.{After-quarter-fourth}

-- a record that stands fits its bits
fits : (rate : Rate) (r : Record) → verdict_of (write_refusals rate r) ≡ Ok tt → Writable r.address r.groups
fits rate r stands = writable rate r (sound_clear (write_refusals rate r) (Ok tt) (sym stands) refl)

-- each quarter, where all four are known
below :
    (c : After-quarter-fourth)
    → (c.quarter-first.result < 65536) × (c.quarter-second.result < 65536) × (c.quarter-third.result < 65536) × (c.quarter-fourth.result < 65536)
below c =
    let w = fits c.args.rate c.args.r c.requires in
    let first = c.quarter-first.ensures in
    let fourth = c.quarter-fourth.ensures in (
      small _ _ _ _ _ _ first (omega (arith, first.flag, w.frames)) w.group1 w.group2,
      small _ _ _ _ _ _ c.quarter-second.ensures (omega (arith, w.seconds)) w.group3 w.group4,
      small _ _ _ _ _ _ c.quarter-third.ensures (omega (arith, w.minutes)) w.group5 w.group6,
      small _ _ _ _ _ _ fourth (omega (arith, fourth.flag, w.hours)) w.group7 w.group8,
    )

pub overflow_mul-result : goal.overflow_mul-result
overflow_mul-result c = omega (arith, below c)

pub overflow_add-result : goal.overflow_add-result
overflow_add-result c = omega (arith, below c)

pub overflow_mul-result-2 : goal.overflow_mul-result-2
overflow_mul-result-2 c = omega (arith, below c)

pub overflow_add-result-2 : goal.overflow_add-result-2
overflow_add-result-2 c = omega (arith, below c)

pub overflow_mul-result-3 : goal.overflow_mul-result-3
overflow_mul-result-3 c = omega (arith, below c)

pub overflow_add-result-3 : goal.overflow_add-result-3
overflow_add-result-3 c = omega (arith, below c)

pub returns : goal.returns
returns c = search whole

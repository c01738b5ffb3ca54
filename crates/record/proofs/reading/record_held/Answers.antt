-- `record::reading::record_held` meets its contract: an address, flags and groups, and place 0.
-- Assumes nothing.
use mathlib.Core.Path.{◌≡◌}
use Prim.Native.Nat.{ℕ}
use Rattle.rates.specs.declared.types.Rate.{Rate}
use Rattle.rates.specs.declared.types.Address.{Address}
use Rattle.record.specs.declared.types.Flags.{Flags}
use Rattle.record.specs.declared.types.Groups.{Groups}
use Rattle.layout.specs.Flags.{places}
use Rattle.record.specs.Record.{address_held, flags_held, groups_held, record_of}
use Rattle.record.proofs.reading.record_held.Goals as goal

whole :
    (rate : Rate) (info : ℕ) (a : Address) (f : Flags) (g : Groups)
    → a ≡ address_held info → f ≡ flags_held (places rate) info → g ≡ groups_held info
    → record { address = a; flags = f; groups = g; place = 0 } ≡ record_of rate info
unfolding record_of
whole rate info a f g at by in_four = λ i. record { address = at i; flags = by i; groups = in_four i; place = 0 }

pub returns : goal.returns
returns c = search whole

-- The bits of a record whose fields fit are 64, and what the mark adds to them.
-- Assumes nothing.
use Prim.Native.Nat.{ℕ, ◌+◌, ◌*◌, ◌^◌, ◌<◌}
use mathlib.Core.Path.{◌≡◌}
use native.Mathlib.Omega.{arith}
use lib.Dec.{lit<}
use Rattle.rates.specs.declared.types.Rate.{Rate}
use Rattle.rates.specs.declared.types.Rate.TheVariants.{At24, At25, At30}
use Rattle.rates.specs.declared.types.Flag.{Flag}
use Rattle.rates.specs.declared.types.Flag.TheVariants.{No, Yes}
use Rattle.record.specs.declared.types.Record.{Record}
use Rattle.layout.specs.Layout.{join, layout}
use Rattle.layout.specs.Flags.{bit_of, Places, places}
use Rattle.record.specs.Record.{standing_at, fields_of, info_of, marked}
use Rattle.record.proofs.Accepted.{Writable}
use Rattle.layout.proofs.Fields.{Below, join_below}

-- a flag is one bit
bit_below : (f : Flag) → bit_of f < 2
bit_below No = lit< tt
bit_below Yes = lit< tt

module _ (rate : Rate) (r : Record) (fits : Writable r.address r.groups) where
  pub fields_below : Below layout (fields_of rate r)
  unfolding layout fields_of
  fields_below =
      omega (
        arith,
        bit_below r.flags.drop,
        bit_below r.flags.colour,
        bit_below r.flags.bgf1,
        bit_below (standing_at (places rate) r.flags 27),
        bit_below (standing_at (places rate) r.flags 43),
        bit_below (standing_at (places rate) r.flags 59),
      )

  pub info_below : info_of rate r < 2 ^ 64
  unfolding info_of layout
  info_below = join_below layout (fields_of rate r) fields_below

-- the bits whose places the rate decides, each by its weight: only the mark's changes with the mark
abbrev pub weighed : (ℕ → ℕ → ℕ) → Places → Record → ℕ
weighed weight table r =
    let at : ℕ → ℕ = λ place. weight place (bit_of (standing_at table r.flags place)) in
    at 27 + (at 43 + at 59)

pub one_bit :
    (weight : ℕ → ℕ → ℕ) (rate : Rate) (r : Record) → let table = places rate in
    weighed weight table (marked Yes r) + weight table.mark 0 ≡ weighed weight table (marked No r) + weight table.mark 1
one_bit weight At24 r = omega arith
one_bit weight At25 r = omega arith
one_bit weight At30 r = omega arith

-- the mark adds the bit at its place
pub mark_adds : (rate : Rate) (r : Record) → info_of rate (marked Yes r) ≡ info_of rate (marked No r) + 2 ^ (places rate).mark
unfolding info_of join layout fields_of
mark_adds rate r = omega (arith, one_bit (λ place b. 2 ^ place * b) rate r)

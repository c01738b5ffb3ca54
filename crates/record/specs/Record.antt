-- "The 64 information bits": the record that they hold, and the bits that a record makes.
-- Assumes nothing.
use Rattle.std.specs.Prelude.{ℕ, ◌+◌, ◌*◌, ◌/◌, ◌%◌, Bool, ◌||◌, cond, List, [], ◌∷◌, ltb, eqb}
use Rattle.rates.specs.declared.types.Rate.{Rate}
use Rattle.rates.specs.declared.types.Flag.{Flag}
use Rattle.rates.specs.declared.types.Address.{Address}
use Rattle.rates.specs.Face.{showing}
use Rattle.record.specs.declared.types.Flags.{Flags}
use Rattle.record.specs.declared.types.Groups.{Groups}
use Rattle.record.specs.declared.types.Record.{Record}
use Rattle.layout.specs.Layout.{bits, join, layout}
use Rattle.layout.specs.Flags.{bit_of, flag_at, Places, places}

-- "Low bit first in each field": hours, minutes, seconds and frames, each by its units and tens
abbrev pub address_held : ℕ → Address
address_held info =
    showing
    (bits 48 51 info + 10 * bits 56 57 info)
    (bits 32 35 info + 10 * bits 40 42 info)
    (bits 16 19 info + 10 * bits 24 26 info)
    (bits 0 3 info + 10 * bits 8 9 info)

-- three of the flags stand at one place at every rate, and three by the rate's places
abbrev pub flags_held : Places → ℕ → Flags
flags_held table info =
    record {
      drop = flag_at 10 info;
      colour = flag_at 11 info;
      mark = flag_at table.mark info;
      bgf0 = flag_at table.bgf0 info;
      bgf1 = flag_at 58 info;
      bgf2 = flag_at table.bgf2 info;
    }

abbrev pub groups_held : ℕ → Groups
groups_held info =
    record {
      group1 = bits 4 7 info;
      group2 = bits 12 15 info;
      group3 = bits 20 23 info;
      group4 = bits 28 31 info;
      group5 = bits 36 39 info;
      group6 = bits 44 47 info;
      group7 = bits 52 55 info;
      group8 = bits 60 63 info;
    }

-- the record that the bits hold: at a rate an address has one picture, the first
unfoldable pub record_of : Rate → ℕ → Record
record_of rate info = record { address = address_held info; flags = flags_held (places rate) info; groups = groups_held info; place = 0 }

-- the flag that stands at a place, by the same table
abbrev pub standing_at : Places → Flags → ℕ → Flag
standing_at table f place = cond (eqb table.mark place) f.mark (cond (eqb table.bgf0 place) f.bgf0 f.bgf2)

-- the fields of a record in the layout's order
unfoldable pub fields_of : Rate → Record → List ℕ
fields_of rate r =
    let a = r.address in
    let f = r.flags in
    let g = r.groups in
    let at = standing_at (places rate) f in
    a.frames.0 % 10 ∷ g.group1 ∷ a.frames.0 / 10 ∷ bit_of f.drop ∷ bit_of f.colour ∷ g.group2
    ∷ a.seconds % 10 ∷ g.group3 ∷ a.seconds / 10 ∷ bit_of (at 27) ∷ g.group4
    ∷ a.minutes % 10 ∷ g.group5 ∷ a.minutes / 10 ∷ bit_of (at 43) ∷ g.group6
    ∷ a.hours % 10 ∷ g.group7 ∷ a.hours / 10 ∷ bit_of f.bgf1 ∷ bit_of (at 59) ∷ g.group8
    ∷ []

unfoldable pub info_of : Rate → Record → ℕ
info_of rate r = join layout (fields_of rate r)

-- a record with its mark said anew
abbrev pub marked : Flag → Record → Record
marked mark r =
    let f = r.flags in
    record {
      address = r.address;
      flags = record { drop = f.drop; colour = f.colour; mark = mark; bgf0 = f.bgf0; bgf1 = f.bgf1; bgf2 = f.bgf2 };
      groups = r.groups;
      place = r.place;
    }

-- a record with its place said anew
abbrev pub at_place : ℕ → Record → Record
at_place place r = record { address = r.address; flags = r.flags; groups = r.groups; place = place }

-- "digit above 9 in a units field"
abbrev pub digit_above_9 : ℕ → Bool
digit_above_9 info =
    ltb 9 (bits 0 3 info) || (ltb 9 (bits 16 19 info) || (ltb 9 (bits 32 35 info) || ltb 9 (bits 48 51 info)))

-- "in a record, a group above 15"
abbrev pub group_above_15 : Groups → Bool
group_above_15 g =
    ltb 15 g.group1 || (ltb 15 g.group2 || (ltb 15 g.group3 || (ltb 15 g.group4
    || (ltb 15 g.group5 || (ltb 15 g.group6 || (ltb 15 g.group7 || ltb 15 g.group8))))))

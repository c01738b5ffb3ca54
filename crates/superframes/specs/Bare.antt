-- Steps of the calls, which no promise to a caller names. At 24 frames `record` turns a set colour bit away, and here that bit is sub-frame 2: so a record goes to and from
-- `record` without it, and without drop, by which 9 and 10 apply; and what is left to `record` is 8.
-- Assumes nothing.
use Rattle.refusals.specs.declared.types.Refusal.{Refusal}
use Rattle.std.specs.Prelude.{ℕ, ◌-◌, ◌*◌, ◌/◌, ◌%◌, Err, Ok, Result}
use Rattle.refusals.specs.Answer.{answer}
use Rattle.rates.specs.declared.types.Rate.{Rate}
use Rattle.rates.specs.declared.types.Flag.{Flag}
use Rattle.rates.specs.declared.types.Flag.TheVariants.{No}
use Rattle.rates.specs.Refused.{refusals_besides}
use Rattle.pictures.specs.Pictures.{place_outside}
use Rattle.record.specs.declared.types.Record.{Record}
use Rattle.superframes.specs.SubFrames.{place_said, other_set, placed_at}

-- the bits without the two, 10 and 11
abbrev pub without : ℕ → ℕ
without info = info - 1024 * (info / 1024 % 4)

abbrev pub bare : Record → Record
bare r =
    record {
      address = r.address;
      flags = record { drop = No; colour = No; mark = r.flags.mark; bgf0 = r.flags.bgf0; bgf1 = r.flags.bgf1; bgf2 = r.flags.bgf2 };
      groups = r.groups;
      place = 0;
    }

-- read, of a record that is inside the clock: 8 for its place, then 9 and 10
abbrev pub judged_of : Rate → ℕ → Flag → Flag → Record → Result Record Refusal
judged_of rate pictures drop second r =
    let place = place_said pictures r.flags.mark second r.flags.bgf0 in
    answer Err (refusals_besides (place_outside pictures place) (other_set pictures r.flags) rate drop r.address) (Ok (placed_at place drop r))

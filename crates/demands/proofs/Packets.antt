-- A packet can hold a content exactly where its record is acceptable, its type, claimed line and second byte are those of the mode's family, and its picture is the one that is shown.
-- Assumes nothing.
use Prim.Native.Nat.{ℕ}
use mathlib.Core.Logic.{◌↔◌}
use Rattle.refusals.specs.declared.types.Refusal.TheVariants.{MarkSet}
use Rattle.refusals.specs.Answer.{Cause}
use Rattle.refusals.proofs.ByNumber.{clear_at, clear_before, clear_whole}
use mathlib.Core.List.{List}
use Rattle.modes.specs.Modes.{with_counting}
use Rattle.atc.specs.declared.types.Interface.{Interface}
use Rattle.atc.specs.declared.types.Contents.{Contents}
use Rattle.atc.specs.Records.{carried_refusals}
use Rattle.trips.proofs.Packets as atc
use Rattle.demands.specs.Records.{Acceptable, PacketShows}
use Rattle.demands.specs.Table4.{ClaimsImpossibleLine}
use Rattle.demands.specs.Families.{PayloadType, NamesMode}
use Rattle.demands.proofs.Accepted.{known, counted_exactly, acceptable_exactly}
use Rattle.demands.proofs.Pictures.{packet_shows_exactly}
use Rattle.demands.proofs.Families.{payload_exactly}

module _ (mode : ℕ) (interface : Interface) (c : Contents) where
  -- what it is, in the requests' words
  abbrev pub Holdable : Type 0
  Holdable =
      Acceptable mode c.«record»
      × (PayloadType mode c.payload_type × (ClaimsImpossibleLine interface c.payload_type c.second → ⊥) × NamesMode mode c.second)
      × PacketShows mode c.payload_type c.«record»

  abbrev rows : List Cause
  rows = with_counting mode (carried_refusals mode c.payload_type c.«record»)

  pub packet_exactly : atc.Acceptable mode interface c.«record» c.payload_type c.second ↔ Holdable
  packet_exactly = (there, back)
    where
      there : atc.Acceptable mode interface c.«record» c.payload_type c.second → Holdable
      there ok =
          let able = (acceptable_exactly mode c.«record»).0 (clear_before MarkSet rows ok.0) in (
            able,
            (payload_exactly mode ((counted_exactly mode).0 (known able.counts)) interface c.payload_type c.second).0 ok.1,
            (packet_shows_exactly mode c.«record» able c.payload_type).0 (clear_at MarkSet rows ok.0),
          )

      back : Holdable → atc.Acceptable mode interface c.«record» c.payload_type c.second
      back ok = (
        clear_whole MarkSet rows ((acceptable_exactly mode c.«record»).1 ok.0)
            ((packet_shows_exactly mode c.«record» ok.0 c.payload_type).1 ok.2, tt),
        (payload_exactly mode ((counted_exactly mode).0 (known ok.0.counts)) interface c.payload_type c.second).1 ok.1,
      )

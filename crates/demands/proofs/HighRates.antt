-- Document 02, A6, of packets in modes 6 to 10: where a picture's place stands, and the words that a packet opens with. (What they are refused by, exactly, is in Numbers, Refused and Demand2.)
-- Assumes nothing.
use Prim.Native.Nat.{ℕ, ◌≤◌}
use mathlib.Core.Path.{◌≡◌, refl, subst, ◌∙◌}
use mathlib.Core.Bool.{Bool, true, false}
use mathlib.Core.List.{List}
use lib.ListN.{take}
use Rattle.refusals.specs.declared.types.Refusal.TheVariants.{UnknownMode, UnknownType, UnusedBitSet}
use Rattle.refusals.proofs.Answered.{neither}
use Rattle.refusals.proofs.ByNumber.{clear_at, clear_before}
use Rattle.layout.specs.Flags.{flag_at}
use Rattle.record.specs.declared.types.Record.{Record}
use Rattle.record.specs.Record.{address_held, groups_held, record_of}
use Rattle.modes.specs.Modes.{high_rate, pictures_at}
use Rattle.modes.specs.Calls.{record_in}
use Rattle.modes.proofs.EachMode.{high_exactly}
use Rattle.superframes.specs.SubFrames.{other_set}
use Rattle.words.specs.Words.{info_in}
use Rattle.packets.specs.Packet.{data_in}
use Rattle.atc.specs.declared.types.Interface.{Interface}
use Rattle.atc.specs.declared.types.Contents.{Contents}
use Rattle.atc.specs.Calls.{read_refusals}
use Rattle.trips.proofs.WholePacket.{begins}
use Rattle.trips.proofs.Packets.{carried_in, read_clear}
use Rattle.demands.specs.Families.{opening, column, said_at, AllZero}
use Rattle.demands.specs.Carriers.{ancillary}
use Rattle.demands.proofs.Accepted.{counted_exactly}
use Rattle.demands.proofs.Families.{opens, said_as_printed, zeros_as_printed}

abbrev info_of : List ℕ → ℕ
info_of words = info_in (data_in words)

-- "The picture within a super-frame is carried in sub-frame bits, sub-frame 1 the highest": a packet that is read gives the place that its information bits say, by Table 2 of the source
-- as it is printed, and those that shall be zero are. What is written is read as it was written, so the same holds of it. Shut out: the sub-frames the wrong way round, another bit
-- read for one of them, other sub-frame bits ignored.
pub ancillary_sub_frames :
    (interface : Interface) (mode : ℕ) (words : List ℕ) (c : Contents) → 6 ≤ mode → (ancillary interface).Reads mode words c
    → (c.«record».place ≡ said_at (column mode).used (info_of words)) × AllZero (column mode).zeros (info_of words)
ancillary_sub_frames interface mode words c more reads =
    let taken = read_clear mode interface words c reads in
    let rows = read_refusals mode interface words in
    let few = (counted_exactly mode).0 (clear_at UnknownMode rows taken.0) in
    let high = (high_exactly mode).1 (more, few) in
    let other = other_set (pictures_at mode) (record_in mode (info_of words)).flags in
    let ten : other ≡ false = (neither other _ (rw high at (clear_at UnusedBitSet rows taken.0))).0 in
    let place : (carried_in mode words).«record».place ≡ said_at (column mode).used (info_of words) = rw high (said_as_printed mode more few (info_of words)) in (
      subst (λ (held : Contents). held.«record».place ≡ said_at (column mode).used (info_of words)) taken.1 place,
      (zeros_as_printed mode more few (info_of words)).0 ten,
    )

-- In every mode its address, groups and drop stand among the information bits where document 01 has them. Shut out: another place for a group in modes 6 to 10.
fields_held : ℕ → Record → Type 0
fields_held info r = (r.address ≡ address_held info) × (r.groups ≡ groups_held info) × (r.flags.drop ≡ flag_at 10 info)

pub ancillary_fields :
    (interface : Interface) (mode : ℕ) (words : List ℕ) (c : Contents) → (ancillary interface).Reads mode words c
    → (c.«record».address ≡ address_held (info_of words)) × (c.«record».groups ≡ groups_held (info_of words)) × (c.«record».flags.drop ≡ flag_at 10 (info_of words))
unfolding record_of fields_held
ancillary_fields interface mode words c reads =
    let taken = read_clear mode interface words c reads in
    subst (λ (held : Contents). fields_held (info_of words) held.«record») taken.1 (go (high_rate mode) refl)
  where
    go : (t : Bool) → high_rate mode ≡ t → fields_held (info_of words) (carried_in mode words).«record»
    go true t = rw t (refl, refl, refl)
    go false t = rw t (refl, refl, refl)

-- "The packet has 161 (hex) as its fifth word": what is read opens with the words that the documents print for the mode's family. Shut out: the families' fifth words exchanged.
pub ancillary_opens : (interface : Interface) (mode : ℕ) (words : List ℕ) (c : Contents) → (ancillary interface).Reads mode words c → take 6 words ≡ opening mode
ancillary_opens interface mode words c reads =
    let taken = read_clear mode interface words c reads in
    let few = (counted_exactly mode).0 (clear_at UnknownMode (read_refusals mode interface words) taken.0) in
    begins mode words (clear_before UnknownType (read_refusals mode interface words) taken.0) ∙ opens mode few

-- Accepted packets match acceptable contents one to one: what was written reads as record, type and second byte, and what was read,
-- written again, is the same 23 words. The mark is any in modes 0 to 2 and in type 0; in modes 3 to 5 it says the picture, and in modes 6 to 10 the sub-frame bits do.
-- Assumes nothing.
use Prim.Native.Nat.{ℕ, ◌+◌, ◌/◌, ◌^◌, ◌<◌, ◌≤◌}
use mathlib.Core.Path.{◌≡◌, refl, ap, subst, ◌∙◌}
use mathlib.Core.Bool.{Bool, true, false, not, ◌||◌, cond}
use mathlib.Core.List.{List}
use mathlib.Core.Logic.{◌↔◌}
use native.Mathlib.Nat.{lt_of_lt_of_le, pow-le-pow_right}
use native.Mathlib.Omega.{arith}
use lib.ListN.{length, take, drop, length-take}
use lib.Dec.{ltb, eqb}
use borrow.Author.Tests.{ltb-false, eqb-true, not-false}
use Rattle.refusals.proofs.Results.{accepted_so}
use Rattle.std.specs.Prelude.{Err, Ok}
use Rattle.refusals.specs.declared.types.Refusal.TheVariants.{NoRoom, OutsideTheClock, UnknownMode, UnknownType}
use Rattle.refusals.specs.Answer.{Cause}
use Rattle.refusals.proofs.Answered.{Clear, neither, otherwise_accepted}
use Rattle.refusals.proofs.ByNumber.{rows_from, rows_before, clear_at, clear_from, clear_before, clear_whole}
use Rattle.runs.specs.Run.{placed, lacks_room}
use Rattle.runs.proofs.Outcomes.{done_clear, clear_done, stored, stored_reads, has_room, room_for}
use Rattle.record.specs.declared.types.Record.{Record}
use Rattle.record.proofs.Marks.{info_below as info_small}
use Rattle.record.specs.Record.{info_of, group_above_15}
use Rattle.record.proofs.Accepted.{writable}
use Rattle.pictures.specs.Pictures.{place_outside}
use Rattle.modes.specs.Modes.{uncounted, high_rate, rate_at, pictures_at, with_counting}
use Rattle.modes.proofs.Told.{made_by_rows}
use Rattle.superframes.specs.SubFrames.{spread}
use Rattle.superframes.specs.Bare.{bare}
use Rattle.superframes.proofs.Bare.{bare_clear}
use Rattle.trips.proofs.ByMode as line
use Rattle.trips.proofs.SubFrames.{high_one_to_one}
use Rattle.words.specs.Words.{bit_in, info_in}
use Rattle.words.proofs.Lists.{gathered_below}
use Rattle.packets.specs.Packet.{data_in, type_in, second_in, packet_with, is_unknown_type}
use Rattle.packets.specs.Calls.{form_refusals}
use Rattle.packets.proofs.Pieces.{length_packet}
use Rattle.atc.specs.declared.types.Interface.{Interface}
use Rattle.atc.specs.declared.types.Contents.{Contents}
use Rattle.atc.specs.Records.{shows_by, held_in, held_refusals, held_for, info_for, carried_refusals, made_for}
use Rattle.atc.specs.Calls.{payload_refusals, read_refusals, contents_with, read_of, packet_of, written_rows, written_of, run_of}
use Rattle.trips.proofs.WholePacket.{form_clear, info_again, type_again, second_again, packet_again, info_below}
use Rattle.atc.proofs.Families.{high_held, high_made, low_held, low_made}
use Rattle.atc.proofs.Answers.{size, past_the_payload}

-- what a packet can hold on an interface: a record that its own list clears, 11 among it, and a type and a second byte that theirs does
abbrev pub Acceptable : ℕ → Interface → Record → ℕ → ℕ → Type 0
Acceptable mode interface r type second = Clear (with_counting mode (carried_refusals mode type r)) × Clear (payload_refusals mode interface type second)

-- a record is carried by 64 bits exactly where those bits are read as the record: by its sub-frame bits, or as a line's
pub carried_one_to_one : (mode type n : ℕ) (r : Record) → n < 2 ^ 64 → (made_for mode type r ≡ Ok n) ↔ (held_for mode type n ≡ Ok r)
carried_one_to_one mode type n r low = go (high_rate mode) refl
  where
    go : (t : Bool) → high_rate mode ≡ t → (made_for mode type r ≡ Ok n) ↔ (held_for mode type n ≡ Ok r)
    go true t = rw (← high_made mode type t r, ← high_held mode type t n) (high_one_to_one mode t n r low)
    go false t = rw (← low_made mode type t r, ← low_held mode type t n) (line.carried_one_to_one mode (shows_by type) n r low)

-- the bits of such a record are 64
bits_below : (mode type : ℕ) (r : Record) → Clear (with_counting mode (carried_refusals mode type r)) → info_for mode r < 2 ^ 64
bits_below mode type r clear =
    let rows = with_counting mode (carried_refusals mode type r) in
    let rate = rate_at mode in
    let eight = neither (place_outside (pictures_at mode) r.place || group_above_15 r.groups) _ (clear_at OutsideTheClock rows clear) in
    let low = neither (place_outside (pictures_at mode) r.place) (group_above_15 r.groups) eight.0 in
    let fits = writable rate (bare r) (bare_clear rate r low.1 eight.1) in
    go (high_rate mode) (info_small rate (spread (pictures_at mode) r) fits) (info_small rate r fits)
  where
    go : (t : Bool) → info_of (rate_at mode) (spread (pictures_at mode) r) < 2 ^ 64 → info_of (rate_at mode) r < 2 ^ 64
        → cond t (info_of (rate_at mode) (spread (pictures_at mode) r)) (info_of (rate_at mode) r) < 2 ^ 64
    go true high low = high
    go false high low = low

-- a type of either family is a byte
type_byte : (mode type : ℕ) → is_unknown_type mode type ≡ false → type < 256
type_byte mode type known = go (high_rate mode) known
  where
    go : (t : Bool) → cond t (not (eqb (type / 16) 8)) (ltb 2 type) ≡ false → type < 256
    go true e = let eight : type / 16 ≡ 8 = eqb-true (type / 16) 8 (not-false _ e) in omega arith
    go false e = let few = ltb-false 2 type e in omega arith

module _ (mode : ℕ) (interface : Interface) (r : Record) (type second : ℕ) where
  -- what was written reads as record, type and second byte
  pub read_of_written :
      Acceptable mode interface r type second → second < 256 → read_of mode interface (packet_of mode r type second) ≡ Ok (contents_with r type second)
  unfolding made_for
  read_of_written ok low =
      let info = info_for mode r in
      let rows = with_counting mode (carried_refusals mode type r) in
      let known : uncounted mode ≡ false = clear_at UnknownMode rows ok.0 in
      let small : info < 2 ^ 64 = bits_below mode type r ok.0 in
      let made : made_for mode type r ≡ Ok info = otherwise_accepted Err (Ok info) rows ok.0 in
      let held : held_for mode type info ≡ Ok r = (carried_one_to_one mode type info r small).0 made in
      let words = packet_with mode info type second in
      let before = rows_before OutsideTheClock (read_refusals mode interface words) in
      let byte = type_byte mode type (clear_at UnknownType (payload_refusals mode interface type second) ok.1) in
      let typed : type_in words ≡ type = type_again mode info type second byte in
      let next : second_in words ≡ second = second_again mode info type second low in
      past_the_payload mode interface words (clear_whole UnknownType before (form_clear mode info type second known) (rw (typed, next) ok.1))
      ∙ rw (typed, next, info_again mode info type second small, held)

-- what a packet that is clear of refusals holds can be written, and this is its packet
module _ (mode : ℕ) (interface : Interface) (words : List ℕ) (clear : Clear (read_refusals mode interface words)) where
  abbrev info : ℕ
  info = info_in (data_in words)

  form : Clear (form_refusals mode words)
  form = clear_before UnknownType (read_refusals mode interface words) clear

  abbrev held : Record
  held = held_in mode (type_in words) info

  read_again : Acceptable mode interface held (type_in words) (second_in words) × (packet_of mode held (type_in words) (second_in words) ≡ words)
  unfolding held_for made_for
  read_again =
      let rows = read_refusals mode interface words in
      let type = type_in words in
      let known : uncounted mode ≡ false = clear_at UnknownMode rows clear in
      let own : Clear (held_refusals mode info) = clear_from OutsideTheClock rows clear in
      let read : held_for mode type info ≡ Ok held = otherwise_accepted Err (Ok held) (with_counting mode (held_refusals mode info)) (known, own) in
      let written : made_for mode type held ≡ Ok info = (carried_one_to_one mode type info held (info_below mode words form)).1 read in
      let made = made_by_rows (with_counting mode (carried_refusals mode type held)) (info_for mode held) info written in (
        (made.0, clear_before OutsideTheClock (rows_from UnknownType rows) (clear_from UnknownType rows clear)),
        ap (λ (n : ℕ). packet_with mode n type (second_in words)) made.1 ∙ packet_again mode words form,
      )

-- what a packet carries, whether or not it is accepted
abbrev pub carried_in : ℕ → List ℕ → Contents
carried_in mode words = contents_with (held_in mode (type_in words) (info_in (data_in words))) (type_in words) (second_in words)

-- a packet that was read is clear of refusals
pub read_clear :
    (mode : ℕ) (interface : Interface) (words : List ℕ) (contents : Contents) → read_of mode interface words ≡ Ok contents
    → Clear (read_refusals mode interface words) × (carried_in mode words ≡ contents)
unfolding read_of
read_clear mode interface words contents e =
    let taken = accepted_so (read_refusals mode interface words) e in
    (taken.0, taken.1)

-- it had 23 words, and its second byte is a byte
pub read_sized :
    (mode : ℕ) (interface : Interface) (words : List ℕ) (contents : Contents) → read_of mode interface words ≡ Ok contents
    → (length words ≡ 23) × (contents.second < 256)
read_sized mode interface words contents e =
    let taken = read_clear mode interface words contents e in
    let carrying = take 8 (drop 14 words) in
    let few : length carrying ≤ 8 = rw length-take (omega arith) in
    let byte : second_in words < 256 =
    lt_of_lt_of_le (gathered_below bit_in 2 (λ word. omega arith) carrying) (pow-le-pow_right (omega arith) few) in
    (size mode words (form mode interface words taken.0), subst (λ (c : Contents). c.second < 256) taken.1 byte)

-- and what was read, written again, is the same words
pub written_of_read :
    (mode : ℕ) (interface : Interface) (words : List ℕ) (r : Record) (type second : ℕ)
    → read_of mode interface words ≡ Ok (contents_with r type second)
    → Acceptable mode interface r type second × (packet_of mode r type second ≡ words)
written_of_read mode interface words r type second e =
    let taken = read_clear mode interface words (contents_with r type second) e in
    subst
    (λ (c : Contents). Acceptable mode interface c.«record» c.payload_type c.second
    × (packet_of mode c.«record» c.payload_type c.second ≡ words))
    taken.1
    (read_again mode interface words taken.0)

-- the two together: accepted packets and acceptable contents match one to one
pub one_to_one_packets :
    (mode : ℕ) (interface : Interface) (words : List ℕ) (r : Record) (type second : ℕ) → second < 256
    → (Acceptable mode interface r type second × (packet_of mode r type second ≡ words)) ↔ read_of mode interface words ≡ Ok (contents_with r type second)
one_to_one_packets mode interface words r type second low = (
  λ (ok : Acceptable mode interface r type second × (packet_of mode r type second ≡ words)). rw ok.1 at
      (read_of_written mode interface r type second ok.0 low),
  written_of_read mode interface words r type second,
)

-- a write is clear of refusals exactly where its contents are acceptable and there is room
module _ (mode : ℕ) (interface : Interface) (r : Record) (type second start : ℕ) (run : List ℕ) where
  abbrev rows : List Cause
  rows = written_rows mode interface r type second start run

  rows_apart : Clear rows → Acceptable mode interface r type second × (start + 23 ≤ length run)
  rows_apart clear =
      let known : uncounted mode ≡ false = clear_at UnknownMode rows clear in
      let own : Clear (carried_refusals mode type r) = clear_before NoRoom (rows_from OutsideTheClock rows) (clear_from OutsideTheClock rows clear) in (
        ((known, own), clear_before OutsideTheClock (rows_from UnknownType rows) (clear_from UnknownType rows clear)),
        has_room 23 start (length run) (clear_at NoRoom rows clear),
      )

  rows_together : Acceptable mode interface r type second → start + 23 ≤ length run → Clear rows
  rows_together ok room =
      let own_rows = with_counting mode (carried_refusals mode type r) in
      let known : uncounted mode ≡ false = clear_at UnknownMode own_rows ok.0 in
      let own : Clear (carried_refusals mode type r) = clear_from OutsideTheClock own_rows ok.0 in
      let roomy : lacks_room 23 start (length run) ≡ false = room_for 23 start (length run) room in
      clear_whole NoRoom rows (clear_whole OutsideTheClock (rows_before NoRoom rows) (known, ok.1) own) (roomy, tt)

  -- "the lent bits then read as the record": said of a write that is done, and of a packet that was read and has room
  pub done_reads :
      second < 256 → written_of mode interface r type second start run ≡ Ok tt
      → read_of mode interface (take 23 (drop start (run_of mode interface r type second start run))) ≡ Ok (contents_with r type second)
  unfolding written_of run_of
  done_reads low e =
      let clear = done_clear rows e in
      let ok = rows_apart clear in
      let long = length_packet mode (info_for mode r) type second in
      rw (stored_reads rows start (packet_of mode r type second) run 23 long clear ok.1) (read_of_written mode interface r type second ok.0 low)

  pub read_writes :
      (words : List ℕ) → read_of mode interface words ≡ Ok (contents_with r type second) → start + 23 ≤ length run
      → (written_of mode interface r type second start run ≡ Ok tt) × (run_of mode interface r type second start run ≡ placed start words run)
  unfolding written_of run_of
  read_writes words e room =
      let ok = written_of_read mode interface words r type second e in
      let clear = rows_together ok.0 room in
      (clear_done rows clear, stored rows start (packet_of mode r type second) run clear ∙ rw ok.1)

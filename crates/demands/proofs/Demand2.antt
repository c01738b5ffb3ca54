-- Demand 2. "Words on the linear track, vertical interval lines and ancillary packets mean what ITU-R BT.1366-3 says, read or written, in the house
-- choices of document 01. Frame numbers of a day and addresses match one to one, drop-frame or not; an address is turned away exactly when the clock,
-- stepped from midnight by the standard's rule, never shows it." By document 02, A4: "State once, for any number of pictures to an address, that numbers and addresses match
-- one to one; demand 2 reads so from here."
-- What the elements mean is in the definitions of the carriers; that what is carried, read or written, matches one to one is here.
-- Assumes nothing.
use Prim.Native.Nat.{ℕ, ◌+◌, ◌/◌, ◌%◌, ◌<◌, ◌≤◌}
use mathlib.Core.Path.{◌≡◌, refl, sym, ap, ◌∙◌}
use mathlib.Core.Bool.{Bool, true, false, not, ◌&&◌, cond}
use mathlib.Core.List.{List}
use mathlib.Core.Logic.{◌↔◌, ◌⊎◌}
use native.Mathlib.Omega.{arith}
use lib.ListN.{length, take, drop}
use Rattle.std.specs.Prelude.{Err, Ok}
use Rattle.refusals.specs.declared.types.Refusal.TheVariants.{ImpossibleLine, MisnamedMode, OutsideTheClock, SkippedAddress, UnusedBitSet, WrongCheck}
use Rattle.bits.specs.Bits.{some_above}
use Rattle.runs.specs.Run.{placed}
use Rattle.runs.proofs.Parts.{read_back}
use Rattle.rates.specs.declared.types.Flag.{Flag}
use Rattle.rates.specs.declared.types.Flag.TheVariants.{No, Yes}
use Rattle.rates.specs.declared.types.Rate.{Rate}
use Rattle.clock.specs.declared.types.DayFrame.{DayFrame}
use Rattle.pictures.specs.declared.types.Picture.{Picture}
use Rattle.pictures.specs.Pictures.{picture, pictures_in_day}
use Rattle.pictures.specs.Steps.{picture_shown}
use Rattle.pictures.specs.Calls.{number_of, picture_of}
use Rattle.pictures.proofs.Shown.{picture_shown_lem}
use Rattle.pictures.proofs.Answers as any
use Rattle.record.specs.declared.types.Record.{Record}
use Rattle.midnight.specs.Steps.{shown}
use Rattle.rates.specs.Rates.{is_yes, frames_in_second, may_drop}
use Rattle.record.specs.Record.{marked}
use Rattle.modes.specs.Modes.{unknown, rate_at, pictures_at}
use Rattle.modes.specs.Calls.{number_in, picture_in, information_in}
use Rattle.modes.proofs.EachMode.{some_picture}
use Rattle.modes.proofs.Counted.{number_by_row, picture_by_row}
use Rattle.trips.proofs.Numbers.{one_to_one}
use Rattle.polarity.specs.declared.types.Found.{Found}
use Rattle.polarity.specs.declared.types.Found.TheVariants.{Corrected, Uncorrected}
use Rattle.polarity.specs.Word.{reading as a_reading, sync_word, word_with, odd_zeros, polarity_bit, found_in, word_of}
use Rattle.ltc.specs.Calls.{read_of}
use Rattle.trips.proofs.Polarity.{odd_found}
use Rattle.trips.proofs.Five.{five_exactly}
use Rattle.trips.proofs.Words as ltc
use Rattle.vitc.specs.Calls.{line_of}
use Rattle.trips.proofs.Lines as vitc
use Rattle.packets.specs.Packet.{type_in, second_in}
use Rattle.atc.specs.declared.types.Interface.{Interface}
use Rattle.atc.specs.declared.types.Interface.TheVariants.{HighDefinition}
use Rattle.atc.specs.Calls.{packet_of, written_of, run_of, read_of as packet_read}
use Rattle.trips.proofs.Packets as atc
use Rattle.trips.proofs.Nineteen.{read_refused_by_19, read_refused_by_23, written_refused_by_19, written_refused_by_23}
use Rattle.demands.specs.Modes.{CountingMode}
use Rattle.demands.specs.Records.{OnLines, MarkSays}
use Rattle.demands.specs.Table4.{ClaimsImpossibleLine}
use Rattle.demands.specs.Families.{PayloadType, Names}
use Rattle.demands.specs.Form.{Form}
use Rattle.demands.specs.Carriers.{Carrier, linear, with_bit, bit_for, FoundAsMade, interval, ancillary, only, Accepting, Reading, Matches}
use Rattle.demands.proofs.Demand1.{linear_room, interval_room, ancillary_room}
use Rattle.demands.proofs.Accepted.{known, counted_exactly, low_exactly, allowed, on_lines_exactly}
use Rattle.demands.proofs.Pictures.{mark_says_exactly}
use Rattle.demands.proofs.LineNumbers.{impossible_exactly, possible}
use Rattle.demands.proofs.Families.{type_exactly, misnamed_exactly}
use Rattle.demands.proofs.Packets.{packet_exactly}
use Rattle.demands.proofs.Numbers.{with_front, form_exactly}

-- For every N above 0 and every rate: n pictures after midnight show the address that the clock shows n / N steps after midnight, and the place n % N. Shut out: places
-- counted down.
pub pictures_after_midnight :
    (rate : Rate) (pictures : ℕ) (drop : Bool) → 0 < pictures → (n : ℕ)
    → picture_shown (frames_in_second rate) pictures drop n ≡ picture (shown (frames_in_second rate) drop (n / pictures)) (n % pictures)
pictures_after_midnight rate pictures drop some = picture_shown_lem (frames_in_second rate) pictures drop some

-- "State once, for any number of pictures to an address, that numbers and addresses match one to one": picture numbers below N times the day and pictures that are shown; and
-- a picture is turned away exactly where no number of steps, picture by picture, shows it. Of `pictures::number_of` and `pictures::picture_of`, whatever the rate.
module _ (rate : Rate) (pictures : ℕ) (drop : Flag) (some : 0 < pictures) where
  pub numbers_and_pictures : (p : Picture) (n : DayFrame) → (number_of rate pictures drop p ≡ Ok n) ↔ (picture_of rate pictures drop n ≡ Ok p)
  numbers_and_pictures = any.one_to_one rate pictures drop some

  module _ (may : (is_yes drop && not (may_drop rate)) ≡ false) where
    pub every_picture_number : (n : ℕ) → n < pictures_in_day rate pictures (is_yes drop)
        → picture_of rate pictures drop (record { 0 = n }) ≡ Ok (picture_shown (frames_in_second rate) pictures (is_yes drop) n)
    every_picture_number = any.picture_is_shown rate pictures drop some may

    pub picture_turned_away_exactly :
        (p : Picture)
        → ((number_of rate pictures drop p ≡ Err OutsideTheClock)
        ⊎ ((number_of rate pictures drop p ≡ Err SkippedAddress) ⊎ ((number_of rate pictures drop p ≡ Err UnusedBitSet) × (pictures ≡ 1) × (0 < p.place))))
        ↔ ((n : ℕ) → picture_shown (frames_in_second rate) pictures (is_yes drop) n ≡ p → ⊥)
    picture_turned_away_exactly = any.refused_exactly rate pictures drop some may

-- "Frame numbers of a day and addresses match one to one, drop-frame or not": of `modes::number_of` and `modes::picture_of`, in every mode.
pub numbers_and_addresses :
    (mode : ℕ) (drop : Flag) (p : Picture) (n : DayFrame) → (number_in mode drop p ≡ Ok n) ↔ (picture_in mode drop n ≡ Ok p)
numbers_and_addresses = one_to_one

module _ {mode : ℕ} {drop : Flag} (counts : CountingMode mode drop) where
  -- every number below the day's count has a picture: the one that the clock shows so many pictures after midnight. Shut out: drop-frame that skips pictures rather
  -- than numbers, and calls that refuse every number.
  pub every_number : (n : ℕ) → n < pictures_in_day (rate_at mode) (pictures_at mode) (is_yes drop)
      → picture_in mode drop (record { 0 = n }) ≡ Ok (picture_shown (frames_in_second (rate_at mode)) (pictures_at mode) (is_yes drop) n)
  every_number n low =
      picture_by_row mode drop (record { 0 = n }) (known counts)
      ∙ every_picture_number (rate_at mode) (pictures_at mode) drop (some_picture mode) (allowed counts) n low

  -- "an address is turned away exactly when the clock, stepped from midnight by the standard's rule, never shows it", of a picture: by 8 or 9, or by 10 where it would have its
  -- address to itself and is not the first. Shut out: drop-frame that skips at every minute; a place that none of the pictures has taken for one. (Which of the numbers a place
  -- is refused by is in Places.)
  pub turned_away_exactly :
      (p : Picture)
      → ((number_in mode drop p ≡ Err OutsideTheClock)
      ⊎ ((number_in mode drop p ≡ Err SkippedAddress) ⊎ ((number_in mode drop p ≡ Err UnusedBitSet) × (pictures_at mode ≡ 1) × (0 < p.place))))
      ↔ ((n : ℕ) → picture_shown (frames_in_second (rate_at mode)) (pictures_at mode) (is_yes drop) n ≡ p → ⊥)
  turned_away_exactly p =
      rw (number_by_row mode drop p (known counts)) (picture_turned_away_exactly (rate_at mode) (pictures_at mode) drop (some_picture mode) (allowed counts) p)

-- what is known of a carrier: a done write had room; what it leaves reads as its content; what reads is written again, has the carrier's size and is taken; and
-- what is taken has elements that read as it
record Laws {Content : Type 0} (carrier : Carrier Content) : Type 0 where
  roomy : (mode : ℕ) (c : Content) (start : ℕ) (run : List ℕ) → carrier.Writes mode c start run → start + carrier.size ≤ length run
  done_reads :
      (mode : ℕ) (c : Content) (start : ℕ) (run : List ℕ) → start + carrier.size ≤ length run → carrier.Writes mode c start run
      → carrier.Reads mode (take carrier.size (drop start (carrier.leaves mode c start run))) c
  read_writes :
      (mode : ℕ) (c : Content) (start : ℕ) (run elements : List ℕ) → start + carrier.size ≤ length run → carrier.Reads mode elements c
      → carrier.Writes mode c start run × (carrier.leaves mode c start run ≡ placed start elements run)
  sized : (mode : ℕ) (c : Content) (elements : List ℕ) → carrier.Reads mode elements c → length elements ≡ carrier.size
  taken : (mode : ℕ) (c : Content) (elements : List ℕ) → carrier.Reads mode elements c → carrier.Accepts mode c
  elements_of : ℕ → Content → List ℕ
  reads : (mode : ℕ) (c : Content) → carrier.Accepts mode c → carrier.Reads mode (elements_of mode c) c

accepting : {Content : Type 0} (carrier : Carrier Content) → Laws carrier → Accepting carrier
accepting carrier law mode c start run = (
  λ written. (let room = law.roomy mode c start run written in (room, law.taken mode c _ (law.done_reads mode c start run room written))),
  λ ok. (law.read_writes mode c start run (law.elements_of mode c) ok.0 (law.reads mode c ok.1)).0,
)

reading : {Content : Type 0} (carrier : Carrier Content) → Laws carrier → Reading carrier
reading carrier law mode c = (λ read. law.taken mode c read.0 read.1, λ ok. (law.elements_of mode c, law.reads mode c ok))

matches : {Content : Type 0} (carrier : Carrier Content) → Laws carrier → Matches carrier
matches carrier law mode c start run elements room = (there, back)
  where
    there :
        carrier.Writes mode c start run × (length elements ≡ carrier.size) × (carrier.leaves mode c start run ≡ placed start elements run)
        → carrier.Reads mode elements c
    there written =
        let kept : take carrier.size (drop start (carrier.leaves mode c start run)) ≡ elements =
        rw (written.2, ← written.1) (read_back start elements run (omega arith)) in
        rw kept at (law.done_reads mode c start run room written.0)

    back :
        carrier.Reads mode elements c
        → carrier.Writes mode c start run × (length elements ≡ carrier.size) × (carrier.leaves mode c start run ≡ placed start elements run)
    back reads = let written = law.read_writes mode c start run elements room reads in (written.0, law.sized mode c elements reads, written.1)

-- the word that is made of a record, by its bit
word_by_bit : (make : Found) (mode : ℕ) (r : Record) → word_of mode r make ≡ with_bit (bit_for make mode r) mode r
unfolding word_of
word_by_bit Uncorrected mode r = refl
word_by_bit Corrected mode r = go (odd_zeros (with_bit No mode r))
  where
    go : (odd : Bool) → word_with (cond odd (information_in mode (marked Yes r)) (information_in mode (marked No r))) ≡ with_bit (cond odd Yes No) mode r
    go true = refl
    go false = refl

-- a word of an acceptable record is found as it was made, where that can be, and only there
found_as_made : (make : Found) (mode : ℕ) (r : Record) → ltc.Acceptable mode r → FoundAsMade make mode r → found_in (word_of mode r make) ≡ make
unfolding word_of
found_as_made Corrected mode r ok can = ltc.corrected_found mode r ok
found_as_made Uncorrected mode r ok odd = ap (λ (b : Bool). cond b Uncorrected Corrected) odd

made_as_found : (make : Found) (mode : ℕ) (r : Record) (word : List ℕ) → read_of mode word ≡ Ok (a_reading r make) → FoundAsMade make mode r
unfolding word_of
made_as_found Corrected mode r word reads = tt
made_as_found Uncorrected mode r word reads = rw (ltc.written_of_read mode r Uncorrected word reads).1 (odd_found word (ltc.read_clear mode r Uncorrected word reads).2)

linear_laws : (make : Found) → Laws (only (FoundAsMade make) (linear make))
linear_laws make =
    record {
      roomy = λ mode r start run done. linear_room make mode r start run done.0;
      done_reads =
          λ mode r start run room done. rw (found_as_made make mode r (ltc.done_acceptable mode r start run done.0) done.1) at
          (ltc.done_reads mode r make start run done.0);
      read_writes =
          λ mode r start run word room reads. (let written = ltc.read_writes mode r make start run word reads room in
          ((written.0, made_as_found make mode r word reads), written.1));
      sized = λ mode r word reads. ltc.long mode word (ltc.read_clear mode r make word reads).0;
      taken =
          λ mode r word reads. (let again = ltc.written_of_read mode r make word reads in
          (((on_lines_exactly mode r).0 again.0.0, again.0.1, again.0.2), made_as_found make mode r word reads));
      elements_of = λ mode r. word_of mode r make;
      reads =
          λ mode r ok. (let able : ltc.Acceptable mode r = ((on_lines_exactly mode r).1 ok.0.0, ok.0.1, ok.0.2) in
          rw (found_as_made make mode r able ok.1) at (ltc.read_of_written mode r able make));
    }

-- a line can hold a record exactly where the record is acceptable and its mark says its picture
line_exactly : (mode : ℕ) (r : Record) → vitc.Acceptable mode r ↔ (OnLines mode r × MarkSays mode r)
line_exactly mode r = (
  λ able. (let ok = (on_lines_exactly mode r).0 able.0 in (ok, (mark_says_exactly mode r ok.1 ok.0).0 able.1)),
  λ ok. ((on_lines_exactly mode r).1 ok.0, (mark_says_exactly mode r ok.0.1 ok.0.0).1 ok.1),
)

interval_laws : Laws interval
interval_laws =
    record {
      roomy = interval_room;
      done_reads = λ mode r start run room done. (vitc.one_to_one mode r start run _ room).0 (done, refl);
      read_writes = λ mode r start run line room reads. vitc.read_writes mode r start run line room reads;
      sized = λ mode r line reads. ((vitc.reads mode r line).0 reads).0.long;
      taken = λ mode r line reads. (line_exactly mode r).0 ((vitc.made_reads mode r line).1 reads).0;
      elements_of = line_of;
      reads = λ mode r ok. (vitc.made_reads mode r (line_of mode r)).0 ((line_exactly mode r).1 ok, refl);
    }

ancillary_laws : (interface : Interface) → Laws (ancillary interface)
ancillary_laws interface =
    record {
      roomy = ancillary_room interface;
      done_reads =
          λ mode c start run room done. atc.done_reads mode interface c.«record» c.payload_type c.second start run done.0 done.1;
      read_writes =
          λ mode c start run words room reads.
          (let written = atc.read_writes mode interface c.«record» c.payload_type c.second start run words reads room in
          (((atc.read_sized mode interface words c reads).1, written.0), written.1));
      sized = λ mode c words reads. (atc.read_sized mode interface words c reads).0;
      taken =
          λ mode c words reads.
          (let again = atc.written_of_read mode interface words c.«record» c.payload_type c.second reads in
          let able = (packet_exactly mode interface c).0 again.0 in
          (able.0, able.1.0, (atc.read_sized mode interface words c reads).1, able.1.1, able.2, able.1.2));
      elements_of = λ mode c. packet_of mode c.«record» c.payload_type c.second;
      reads =
          λ mode c ok. atc.read_of_written mode interface c.«record» c.payload_type c.second
          ((packet_exactly mode interface c).1 (ok.0, (ok.1, ok.3, ok.5), ok.4)) ok.2;
    }

-- "Words on the linear track, vertical interval lines and ancillary packets .. read or written". A write is done exactly where there is
-- room, the record is acceptable, and what else the carrier asks for holds; on the linear track, whichever is made. Shut out: a writer that refuses each record,
-- one that is done without room.
pub linear_accepts : (make : Found) → Accepting (linear make)
linear_accepts make mode r start run =
    let exactly = accepting (only (FoundAsMade Corrected) (linear Corrected)) (linear_laws Corrected) mode r start run in (
      λ written. (let taken = exactly.0 (written, tt) in (taken.0, taken.1.0)),
      λ ok. (exactly.1 (ok.0, (ok.1, tt))).0,
    )

pub interval_accepts : Accepting interval
interval_accepts = accepting interval interval_laws

pub ancillary_accepts : (interface : Interface) → Accepting (ancillary interface)
ancillary_accepts interface = accepting (ancillary interface) (ancillary_laws interface)

-- Document 02, A1: "refused by 5 only if its zeros are odd and its polarity bit is 1": of 80 bits that end in the sync word, in a mode that is known, exactly
-- then. Shut out: the old rule, by which odd zeros alone are refused, and one that never gives 5.
pub linear_refused_by_5 :
    (mode : ℕ) (word : List ℕ)
    → (read_of mode word ≡ Err WrongCheck)
    ↔ ((length word ≡ 80) × (unknown mode ≡ false) × (some_above 1 word ≡ false) × (drop 64 word ≡ sync_word)
    × (odd_zeros word ≡ true) × (polarity_bit (rate_at mode) word ≡ Yes))
linear_refused_by_5 = five_exactly

-- "corrected when the zeros are even, uncorrected when they are odd".
pub linear_found :
    (mode : ℕ) (r : Record) (found : Found) (word : List ℕ) → (linear found).Reads mode word r → cond (odd_zeros word) Uncorrected Corrected ≡ found
linear_found mode r found word reads = (ltc.read_clear mode r found word reads).2

-- "Writing is told which to make, and uncorrected writes the bit as 0". Shut out: uncorrected words written with the bit set, or as corrected; corrected words
-- written with it clear, or with another bit set for it.
pub linear_leaves :
    (make : Found) (mode : ℕ) (r : Record) (start : ℕ) (run : List ℕ) → (linear make).Writes mode r start run
    → (linear make).leaves mode r start run ≡ placed start (with_bit (bit_for make mode r) mode r) run
linear_leaves make mode r start run done = ltc.done_leaves mode r make start run done ∙ ap (λ (word : List ℕ). placed start word run) (word_by_bit make mode r)

-- and that is its polarity bit
pub linear_bit : (bit : Flag) (mode : ℕ) (r : Record) → OnLines mode r → polarity_bit (rate_at mode) (with_bit bit mode r) ≡ bit
linear_bit bit mode r ok = ltc.bit_of_word mode r ((on_lines_exactly mode r).1 ok) bit

-- "Reading back a written word gives its record": whichever was made, with what its zeros say was found. Shut out, with the above: a reader that refuses each
-- uncorrected word.
pub linear_reads_back :
    (make : Found) (mode : ℕ) (r : Record) (start : ℕ) (run : List ℕ) → (linear make).Writes mode r start run
    → let left = take 80 (drop start ((linear make).leaves mode r start run)) in (linear (found_in left)).Reads mode left r
linear_reads_back make mode r start run done =
    let reads = ltc.done_reads mode r make start run done in
    reads ∙ ap (λ (f : Found). Ok (a_reading r f)) (sym (ltc.read_clear mode r _ _ reads).2)

-- Some elements read as a content exactly where it is taken; as a record and what was found, where a word of it can be found so: as uncorrected, where its
-- word with the polarity bit 0 has odd zeros. Shut out: a reader that refuses each word, or each uncorrected word; one that reports one fixed address; one that
-- tells what was found the other way round, always corrected, or by the polarity bit.
pub linear_reads : (found : Found) → Reading (only (FoundAsMade found) (linear found))
linear_reads found = reading (only (FoundAsMade found) (linear found)) (linear_laws found)

pub interval_reads : Reading interval
interval_reads = reading interval interval_laws

pub ancillary_reads : (interface : Interface) → Reading (ancillary interface)
ancillary_reads interface = reading (ancillary interface) (ancillary_laws interface)

-- And what is read and what is written match one to one. On the linear track: "a word read and written again by what was found is the same". Shut out, with the
-- above: a writer that writes nothing, or touches another element.
pub linear_matches : (found : Found) → Matches (only (FoundAsMade found) (linear found))
linear_matches found = matches (only (FoundAsMade found) (linear found)) (linear_laws found)

pub interval_matches : Matches interval
interval_matches = matches interval interval_laws

pub ancillary_matches : (interface : Interface) → Matches (ancillary interface)
ancillary_matches interface = matches (ancillary interface) (ancillary_laws interface)

-- where a number is given exactly if what comes before is right and its own test holds, the test may be said in the request's words
as_claimed : {Given Before Applies Claims : Type 0} → Given ↔ (Before × Applies) → (Before → Applies ↔ Claims) → Given ↔ (Before × Claims)
as_claimed exactly claimed = (
  λ e. (let is = exactly.0 e in (is.0, (claimed is.0).0 is.1)),
  λ both. exactly.1 (both.0, (claimed both.0).1 both.1),
)

both_exactly : {A B C D : Type 0} → A ↔ C → B ↔ D → (A × B) ↔ (C × D)
both_exactly first second = (λ both. (first.0 both.0, second.0 both.1), λ both. (first.1 both.0, second.1 both.1))

-- Document 02, A9: "For types 1 and 2 on 525 or 625 line interfaces, refuse by a new number 19 any second byte whose low six bits have no entry in Table 4": of words
-- that have the form of a packet in modes 0 to 5 exactly then, whatever record they carry ("It is checked after 7"), and so of a write. Shut out: type 0 or
-- high definition checked; 8 given where 19 applies too; another table.
pub ancillary_refused_by_19 :
    (interface : Interface) (mode : ℕ) (words : List ℕ)
    → (packet_read mode interface words ≡ Err ImpossibleLine)
    ↔ (Form mode words × ((mode ≤ 5) × ClaimsImpossibleLine interface (type_in words) (second_in words)))
ancillary_refused_by_19 interface mode words =
    as_claimed (with_front (read_refused_by_19 mode interface words) (form_exactly mode words))
    (λ form. both_exactly (low_exactly mode form.counted) (impossible_exactly interface (type_in words) (second_in words)))

pub ancillary_written_refused_by_19 :
    (interface : Interface) (mode : ℕ) (r : Record) (type second start : ℕ) (run : List ℕ)
    → (written_of mode interface r type second start run ≡ Err ImpossibleLine) ↔ ((mode ≤ 10) × ((mode ≤ 5) × ClaimsImpossibleLine interface type second))
ancillary_written_refused_by_19 interface mode r type second start run =
    as_claimed (with_front (written_refused_by_19 mode interface r type second start run) (counted_exactly mode))
    (λ few. both_exactly (low_exactly mode few) (impossible_exactly interface type second))

-- Document 02, A6: "A second byte that doesn't name the mode given is refused by 23, straight after 7": of words that have the form of a packet and a type of the mode's family
-- exactly then, whatever record they carry, and so of a write. Shut out: the second byte unchecked; 8 given where 23 applies too; another coding of the byte.
pub ancillary_refused_by_23 :
    (interface : Interface) (mode : ℕ) (words : List ℕ)
    → (packet_read mode interface words ≡ Err MisnamedMode)
    ↔ (Form mode words × (PayloadType mode (type_in words) × ((6 ≤ mode) × (Names mode (second_in words) → ⊥))))
ancillary_refused_by_23 interface mode words =
    as_claimed (with_front (read_refused_by_23 mode interface words) (form_exactly mode words))
    (λ form. (let few = form.counted in both_exactly (type_exactly mode few (type_in words)) (misnamed_exactly mode few (second_in words))))

pub ancillary_written_refused_by_23 :
    (interface : Interface) (mode : ℕ) (r : Record) (type second start : ℕ) (run : List ℕ)
    → (written_of mode interface r type second start run ≡ Err MisnamedMode)
    ↔ ((mode ≤ 10) × (PayloadType mode type × ((6 ≤ mode) × (Names mode second → ⊥))))
ancillary_written_refused_by_23 interface mode r type second start run =
    as_claimed (with_front (written_refused_by_23 mode interface r type second start run) (counted_exactly mode))
    (λ few. both_exactly (type_exactly mode few type) (misnamed_exactly mode few second))

-- And nothing else depends on the interface: where no such line is claimed, a read and a write are what they are in high definition, which "skips the check". Shut
-- out: another refusal, another record or other words on one interface than on another.
pub ancillary_alike_read :
    (interface : Interface) (mode : ℕ) (words : List ℕ) → (ClaimsImpossibleLine interface (type_in words) (second_in words) → ⊥)
    → packet_read mode interface words ≡ packet_read mode HighDefinition words
unfolding packet_read
ancillary_alike_read interface mode words not_claimed =
    rw (possible interface (type_in words) (second_in words) not_claimed, possible HighDefinition (type_in words) (second_in words) (λ claims. claims.0))

pub ancillary_alike_written :
    (interface : Interface) (mode : ℕ) (r : Record) (type second start : ℕ) (run : List ℕ) → (ClaimsImpossibleLine interface type second → ⊥)
    → (written_of mode interface r type second start run ≡ written_of mode HighDefinition r type second start run)
    × (run_of mode interface r type second start run ≡ run_of mode HighDefinition r type second start run)
unfolding written_of run_of
ancillary_alike_written interface mode r type second start run not_claimed =
    let here = possible interface type second not_claimed in
    let there = possible HighDefinition type second (λ claims. claims.0) in
    (rw (here, there), rw (here, there))

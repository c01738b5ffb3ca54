-- What was written, whichever was made, reads as the record, and what was read, written again by what was found, is the same 80 elements. An
-- acceptable record is one that the record's list clears, with its mark no and of the first picture.
-- Assumes nothing.
use Prim.Native.Nat.{ℕ, ◌+◌, ◌^◌, ◌<◌, ◌≤◌}
use mathlib.Core.Path.{◌≡◌, refl, sym, ap, subst, ◌∙◌}
use mathlib.Core.Bool.{false, ◌&&◌}
use mathlib.Core.List.{List}
use mathlib.Core.Logic.{◌↔◌}
use lib.Dec.{eqb}
use lib.ListN.{length, take, drop}
use borrow.Author.Tests.{eqb-true, not-false}
use Rattle.refusals.proofs.Results.{accepted_so}
use Rattle.std.specs.Prelude.{Err, Ok}
use Rattle.refusals.specs.declared.types.Refusal.TheVariants.{ElementTooHigh, MarkSet, NoRoom, OutsideTheClock, SkippedAddress, UnknownMode, UnusedBitSet, WrongCheck, WrongLength, WrongSync}
use Rattle.polarity.specs.declared.types.Word.{Word}
use Rattle.refusals.specs.Answer.{Cause}
use Rattle.refusals.proofs.Answered.{Clear, neither, otherwise_accepted}
use Rattle.refusals.proofs.ByNumber.{clear_at, clear_from, clear_before, clear_whole}
use Rattle.bits.specs.Bits.{value, some_above}
use Rattle.bits.proofs.Inverse.{value_below}
use Rattle.runs.specs.Run.{placed}
use Rattle.runs.proofs.Same.{same_elements}
use Rattle.runs.proofs.Outcomes.{done_clear, clear_done, stored, stored_reads, has_room, room_for}
use Rattle.rates.specs.declared.types.Flag.{Flag}
use Rattle.rates.specs.declared.types.Flag.TheVariants.{No, Yes}
use Rattle.rates.specs.Face.{outside}
use Rattle.rates.specs.Rates.{is_yes, frames_in_second}
use Rattle.layout.specs.Flags.{flag_at, places}
use Rattle.record.specs.declared.types.Record.{Record}
use Rattle.record.specs.Record.{digit_above_9, record_of, marked}
use Rattle.record.proofs.Accepted.{Writable}
use Rattle.record.proofs.Marks.{info_below}
use Rattle.pictures.proofs.Sizes.{place_clear}
use Rattle.trips.proofs.Records.{read_back, at_place_same, written_of_read as info_of_read}
use Rattle.modes.specs.Calls.{information_in, record_in, write_refusals_in, packed_in, unpacked_in}
use Rattle.modes.specs.Modes.{rate_at, pictures_at, with_mode}
use Rattle.modes.proofs.EachMode.{some_picture}
use Rattle.modes.proofs.ByRate.{fits_of}
use Rattle.trips.proofs.ByMode.{one_to_one}
use Rattle.polarity.specs.declared.types.Found.{Found}
use Rattle.polarity.specs.declared.types.Found.TheVariants.{Corrected}
use Rattle.polarity.specs.Word.{reading, sync_word, word_with, info_in, odd_zeros, polarity_bit, miscorrected, found_in, made, word_of}
use Rattle.polarity.proofs.Zeros.{info_of_word}
use Rattle.ltc.specs.Calls.{read_refusals, read_of, written_rows, written_of, run_of}
use Rattle.polarity.proofs.Heard.{with_found, heard_is}
use Rattle.ltc.proofs.Sync.{low_length, above_in_parts, word_is}
use Rattle.ltc.proofs.Words.{word_length}
use Rattle.ltc.proofs.Evened.{is_no, marked_same}
use Rattle.ltc.proofs.Parts.{read_is_heard}
use Rattle.trips.proofs.Polarity.{evened, polarity, only_polarity}

-- a record that is clear of refusals makes its bits
clear_packs : (mode : ℕ) (r : Record) → Clear (with_mode mode (write_refusals_in mode r)) → packed_in mode r ≡ Ok (information_in mode r)
unfolding packed_in
clear_packs mode r clear = otherwise_accepted Err (Ok (information_in mode r)) (with_mode mode (write_refusals_in mode r)) clear

-- a record that a linear word can hold: the record's list clears it, its mark is no, and it is of the first picture
abbrev pub Acceptable : ℕ → Record → Type 0
Acceptable mode r = Clear (with_mode mode (write_refusals_in mode r)) × (r.flags.mark ≡ No) × (r.place ≡ 0)

-- the polarity bit of a record's word is the mark that it was packed with
pub bit_of_word :
    (mode : ℕ) (r : Record) → Clear (with_mode mode (write_refusals_in mode r)) → (bit : Flag)
    → polarity_bit (rate_at mode) (word_with (information_in mode (marked bit r))) ≡ bit
unfolding record_of
bit_of_word mode r clear bit =
    let fits = fits_of mode r (clear_from OutsideTheClock (with_mode mode (write_refusals_in mode r)) clear) in
    let low = info_below (rate_at mode) (marked bit r) fits in
    ap (flag_at (places (rate_at mode)).mark) (info_of_word (information_in mode (marked bit r)) low) ∙ ap (λ (s : Record). s.flags.mark) (read_back (rate_at mode) (marked bit r) fits)

module _ (mode : ℕ) (r : Record) (ok : Acceptable mode r) where
  fits : Writable r.address r.groups
  fits = fits_of mode r (clear_from OutsideTheClock (with_mode mode (write_refusals_in mode r)) ok.0)

  -- "Reading back a written word gives its record", whichever was made, and what is found in it
  pub read_of_written : (make : Found) → read_of mode (word_of mode r make) ≡ Ok (reading r (found_in (word_of mode r make)))
  unfolding word_of record_of
  read_of_written make =
      let bit = polarity mode r fits make in
      let info = made make (information_in mode (marked No r)) (information_in mode (marked Yes r)) in
      let set = marked bit.0 r in
      let low : info < 2 ^ 64 = rw bit.1 (info_below (rate_at mode) set fits) in
      let packed : packed_in mode set ≡ Ok info = rw bit.1 (clear_packs mode set ok.0) in
      let held : unpacked_in mode info ≡ Ok set = ((one_to_one mode info set low).0 packed).0 ∙ ap Ok (at_place_same set 0 ok.2) in
      let mark : polarity_bit (rate_at mode) (word_with info) ≡ bit.0 =
      ap (λ (n : ℕ). polarity_bit (rate_at mode) (word_with n)) bit.1 ∙ bit_of_word mode r ok.0 bit.0 in
      let right : miscorrected (rate_at mode) (word_with info) ≡ false = rw mark bit.2 in
      read_is_heard info low mode
      ∙ heard_is mode info right
      ∙ ap (with_found (found_in (word_with info))) held
      ∙ ap (λ (s : Record). Ok (reading s (found_in (word_with info)))) (marked_same r No ok.1)

  -- and what was made corrected is found so
  pub corrected_found : found_in (word_of mode r Corrected) ≡ Corrected
  unfolding word_of
  corrected_found = rw (evened mode r fits)

-- what a word that is clear of refusals is made of
module _ (mode : ℕ) (word : List ℕ) (clear : Clear (read_refusals mode word)) where
  abbrev info : ℕ
  info = info_in word

  abbrev rows : List Cause
  rows = read_refusals mode word

  pub long : length word ≡ 80
  long = eqb-true (length word) 80 (not-false (eqb (length word) 80) (clear_at WrongLength rows clear))

  elements : (some_above 1 (take 64 word) ≡ false) × (some_above 1 (drop 64 word) ≡ false)
  elements = neither (some_above 1 (take 64 word)) (some_above 1 (drop 64 word)) (sym (above_in_parts word long) ∙ clear_at ElementTooHigh rows clear)

  pub whole : word ≡ word_with info
  unfolding value sync_word
  whole =
      let sync = same_elements (drop 64 word) sync_word (not-false _ (clear_at WrongSync rows clear)) in
      word_is word long elements.0 elements.1 (ap value sync)

  below : info < 2 ^ 64
  below = rw (low_length word long) at (value_below (take 64 word) elements.0)

  -- the record of its bits, the mark taken off, is one that a word can hold, and this is its word by what is found
  read_again : Acceptable mode (marked No (record_in mode info)) × (word_of mode (marked No (record_in mode info)) (found_in word) ≡ word)
  unfolding word_of record_of
  read_again =
      let held = record_in mode info in
      let again = info_of_read (rate_at mode) info below (clear_from OutsideTheClock rows clear) in
      let eight = neither (digit_above_9 info) (outside (frames_in_second (rate_at mode)) held.address) (clear_at OutsideTheClock rows clear) in
      let place = place_clear (pictures_at mode) 0 (some_picture mode) in
      let own : Clear (write_refusals_in mode (marked No held)) =
      (rw (place.0, again.1) eight.1, (clear_at SkippedAddress rows clear, (rw place.1 (clear_at UnusedBitSet rows clear), tt))) in
      let right : (odd_zeros (word_with info) && is_yes held.flags.mark) ≡ false = rw (← whole) (clear_at WrongCheck rows clear) in
      let fits = fits_of mode (marked No held) own in (
        ((clear_at UnknownMode rows clear, own), refl, refl),
        ap (λ (w : List ℕ). word_of mode (marked No held) (found_in w)) whole
            ∙ ap word_with (only_polarity mode (marked No held) fits info held.flags.mark again.0 right)
            ∙ sym whole,
      )

-- a word that was read is clear of refusals
pub read_clear :
    (mode : ℕ) (r : Record) (found : Found) (word : List ℕ) → read_of mode word ≡ Ok (reading r found)
    → Clear (read_refusals mode word) × (marked No (record_in mode (info_in word)) ≡ r) × (found_in word ≡ found)
unfolding read_of
read_clear mode r found word e =
    let taken = accepted_so (read_refusals mode word) e in
    (taken.0, ap (λ (w : Word). w.«record») taken.1, ap (λ (w : Word). w.found) taken.1)

-- "a word read and written again by what was found is the same"
pub written_of_read :
    (mode : ℕ) (r : Record) (found : Found) (word : List ℕ) → read_of mode word ≡ Ok (reading r found) → Acceptable mode r × (word_of mode r found ≡ word)
written_of_read mode r found word e =
    let taken = read_clear mode r found word e in
    let again = read_again mode word taken.0 in
    let by_found = rw taken.2 at again.1 in
    subst (λ (s : Record). Acceptable mode s × (word_of mode s found ≡ word)) taken.1 (again.0, by_found)

-- the two together: a word is read as a record and what was found exactly where it is the record's word of that make, and is found so
pub words_and_records :
    (mode : ℕ) (r : Record) (found : Found) (word : List ℕ)
    → (Acceptable mode r × (word_of mode r found ≡ word) × (found_in word ≡ found)) ↔ read_of mode word ≡ Ok (reading r found)
words_and_records mode r found word = (there, λ e. (let again = written_of_read mode r found word e in (again.0, again.1, (read_clear mode r found word e).2)))
  where
    there : Acceptable mode r × (word_of mode r found ≡ word) × (found_in word ≡ found) → read_of mode word ≡ Ok (reading r found)
    there ok = rw (ok.1, ok.2) at (read_of_written mode r ok.0 found)

-- a write that is done was of an acceptable record
pub done_acceptable : (mode : ℕ) (r : Record) (start : ℕ) (run : List ℕ) → written_of mode r start run ≡ Ok tt → Acceptable mode r
unfolding written_of written_rows
done_acceptable mode r start run e =
    let rows = written_rows mode r start run in
    let clear = done_clear rows e in
    let plain = neither (is_yes r.flags.mark) _ (clear_at MarkSet rows clear) in
    (clear_before MarkSet rows clear, is_no r.flags.mark plain.0, eqb-true r.place 0 (not-false _ plain.1))

-- "the lent bits then read as the record": said of a write that is done, whichever was made, and of a word that was read and has room
module _ (mode : ℕ) (r : Record) (make : Found) (start : ℕ) (run : List ℕ) where
  pub done_reads :
      written_of mode r start run ≡ Ok tt → read_of mode (take 80 (drop start (run_of mode r make start run))) ≡ Ok (reading r (found_in (word_of mode r make)))
  unfolding written_of run_of written_rows
  done_reads e =
      let rows = written_rows mode r start run in
      let clear = done_clear rows e in
      let room = has_room 80 start (length run) (clear_at NoRoom rows clear) in
      let ok = done_acceptable mode r start run e in
      rw (stored_reads rows start (word_of mode r make) run 80 (word_length mode r make) clear room) (read_of_written mode r ok make)

  -- it has left its word from the start on, and every other element as it was
  pub done_leaves : written_of mode r start run ≡ Ok tt → run_of mode r make start run ≡ placed start (word_of mode r make) run
  unfolding written_of run_of
  done_leaves e = let rows = written_rows mode r start run in stored rows start (word_of mode r make) run (done_clear rows e)

  pub read_writes :
      (word : List ℕ) → read_of mode word ≡ Ok (reading r make) → start + 80 ≤ length run
      → (written_of mode r start run ≡ Ok tt) × (run_of mode r make start run ≡ placed start word run)
  unfolding written_of run_of written_rows
  read_writes word e room =
      let rows = written_rows mode r start run in
      let ok = written_of_read mode r make word e in
      let clear = clear_whole MarkSet rows ok.0.0 (rw (ok.0.1, ok.0.2), (room_for 80 start (length run) room, tt)) in
      (clear_done rows clear, stored rows start (word_of mode r make) run clear ∙ rw ok.1)

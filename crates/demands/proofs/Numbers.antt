-- Demand 1 and document 02, A6: "Refusals 4 and 7 apply per packet family": exactly where a packet is refused by 1, by 3 to 7 and by 12. (2 is in Bounds, 8, 9 and 10 are in Refused, 11 in
-- Places, 19 and 23 in Demand2.)
-- Assumes nothing.
use Prim.Native.Nat.{ℕ, ◌+◌, ◌≤◌}
use mathlib.Core.Path.{◌≡◌, refl, sym, ◌∙◌}
use mathlib.Core.Bool.{Bool, true, false, not, ◌||◌, true≢false}
use mathlib.Core.List.{List}
use mathlib.Core.Logic.{◌↔◌}
use native.Mathlib.Omega.{arith}
use lib.Dec.{eqb}
use lib.ListN.{length, take, get_or}
use borrow.Author.Tests.{eqb-true, eq-eqb, not-false}
use Rattle.refusals.specs.declared.types.Refusal.TheVariants.{ElementTooHigh, LowBitsSet, NoRoom, OutsideTheClock, UnknownMode, UnknownType, WrongCheck, WrongLength, WrongSync}
use Rattle.std.specs.Prelude.{Err, Ok}
use Rattle.refusals.specs.Answer.{Cause}
use Rattle.refusals.proofs.Answered.{Clear, neither}
use Rattle.refusals.proofs.ByNumber.{rows_from, rows_before, clear_at, clear_from, clear_before, clear_whole}
use Rattle.refusals.proofs.First.{given_exactly}
use Rattle.bits.specs.Bits.{some_above}
use Rattle.runs.specs.Run.{same, lacks_room}
use Rattle.runs.proofs.Same.{same_itself, same_elements}
use Rattle.runs.proofs.Outcomes.{has_room, room_for}
use Rattle.words.specs.Words.{wrong_word, low_set, some_word}
use Rattle.packets.specs.Packet.{header, is_headed, checksum_of, data_in, type_in, is_unknown_type}
use Rattle.packets.specs.Calls.{form_refusals}
use Rattle.atc.specs.declared.types.Interface.{Interface}
use Rattle.atc.specs.declared.types.Contents.{Contents}
use Rattle.modes.specs.Modes.{with_counting}
use Rattle.atc.specs.Records.{carried_refusals}
use Rattle.atc.specs.Calls.{read_refusals, read_of, written_rows, written_of}
use Rattle.atc.proofs.Answers.{read_rows_in_order, written_rows_in_order}
use Rattle.demands.specs.Families.{PayloadType, opening}
use Rattle.demands.specs.Form.{Form}
use Rattle.demands.proofs.Accepted.{counted_exactly}
use Rattle.demands.proofs.Families.{opens, type_exactly}
use Rattle.demands.proofs.Packets.{Holdable, packet_exactly}

-- what comes first, in other words
pub with_front : {Given Front Rest Before : Type 0} → Given ↔ (Front × Rest) → Front ↔ Before → Given ↔ (Before × Rest)
with_front exactly front = (λ e. (let is = exactly.0 e in (front.0 is.0, is.1)), λ all. exactly.1 (front.1 all.0, all.1))

-- a test that holds exactly where something is not so
pub unless : {So : Type 0} (test : Bool) → (test ≡ false) ↔ So → (test ≡ true) ↔ (So → ⊥)
unless true is = (λ e so. true≢false (is.1 so), λ none. refl)
unless false is = (λ e so. true≢false (sym e), λ none. absurd (none (is.0 refl)))

-- the first six words are the mode's
headed_exactly : (mode : ℕ) (words : List ℕ) → mode ≤ 10 → (not (is_headed mode words) ≡ false) ↔ (take 6 words ≡ opening mode)
unfolding is_headed
headed_exactly mode words few = (
  λ e. same_elements (take 6 words) (header mode) (not-false (same (take 6 words) (header mode)) e) ∙ opens mode few,
  λ e. (let same_words : take 6 words ≡ header mode = e ∙ sym (opens mode few) in rw (same_words, same_itself (header mode))),
)

-- the form of a packet is clear of its refusals exactly where it is the documents'
form_exactly_test : (words : List ℕ) → ((some_word wrong_word (data_in words) || not (eqb (get_or words 22 0) (checksum_of words))) ≡ false)
    ↔ ((some_word wrong_word (data_in words) ≡ false) × (get_or words 22 0 ≡ checksum_of words))
form_exactly_test words = (
  λ e.
      (let both = neither (some_word wrong_word (data_in words)) _ e in
      (both.0, eqb-true (get_or words 22 0) (checksum_of words) (not-false _ both.1))),
  λ both. rw (both.0, eq-eqb (get_or words 22 0) (checksum_of words) both.1),
)

pub form_exactly : (mode : ℕ) (words : List ℕ) → Clear (form_refusals mode words) ↔ Form mode words
form_exactly mode words = (there, back)
  where
    there : Clear (form_refusals mode words) → Form mode words
    there clear =
        let rows = form_refusals mode words in
        let few = (counted_exactly mode).0 (clear_at UnknownMode rows clear) in
        let five = (form_exactly_test words).0 (clear_at WrongCheck rows clear) in
        record {
          size = eqb-true (length words) 23 (not-false _ (clear_at WrongLength rows clear));
          counted = few;
          small = clear_at ElementTooHigh rows clear;
          opens = (headed_exactly mode words few).0 (clear_at WrongSync rows clear);
          right = five.0;
          summed = five.1;
          low_clear = clear_at LowBitsSet rows clear;
        }

    back : Form mode words → Clear (form_refusals mode words)
    back form = (
      rw (eq-eqb (length words) 23 form.size),
      (
        (counted_exactly mode).1 form.counted,
        (form.small, ((headed_exactly mode words form.counted).1 form.opens, ((form_exactly_test words).1 (form.right, form.summed), (form.low_clear, tt)))),
      ),
    )

module _ (interface : Interface) (mode : ℕ) where
  module _ (words : List ℕ) where
    abbrev rows : List Cause
    rows = read_refusals mode interface words

    -- what is known where a number of the form is the first that applies
    abbrev Sized : Type 0
    Sized = (length words ≡ 23) × (mode ≤ 10)

    sized : Clear (rows_before ElementTooHigh rows) ↔ Sized
    sized = (
      λ clear.
          (let before = rows_before ElementTooHigh rows in
          (eqb-true (length words) 23 (not-false _ (clear_at WrongLength before clear)), (counted_exactly mode).0 (clear_at UnknownMode before clear))),
      λ ok. (rw (eq-eqb (length words) 23 ok.0), ((counted_exactly mode).1 ok.1, tt)),
    )

    -- 1: "not exactly .. 23 elements"
    pub ancillary_refused_by_1 : (read_of mode interface words ≡ Err WrongLength) ↔ (length words ≡ 23 → ⊥)
    unfolding read_of
    ancillary_refused_by_1 =
        let exactly = given_exactly _ WrongLength rows (read_rows_in_order mode interface words) in
        let size : (not (eqb (length words) 23) ≡ false) ↔ (length words ≡ 23) =
        (λ e. eqb-true (length words) 23 (not-false _ e), λ e. rw (eq-eqb (length words) 23 e)) in
        let test = unless (not (eqb (length words) 23)) size in
        (λ e. test.0 (exactly.0 e).1, λ other. exactly.1 (tt, test.1 other))

    -- 3: "element .. above 1,023 (words)"
    pub ancillary_refused_by_3 : (read_of mode interface words ≡ Err ElementTooHigh) ↔ (Sized × (some_above 1023 words ≡ true))
    unfolding read_of
    ancillary_refused_by_3 =
        with_front (given_exactly _ ElementTooHigh rows (read_rows_in_order mode interface words)) sized

    -- 4: "one of the first six packet words is wrong", by the family. Shut out: the families' fifth words exchanged, a fifth word unread.
    pub ancillary_refused_by_4 : (read_of mode interface words ≡ Err WrongSync) ↔ (Sized × (some_above 1023 words ≡ false) × (take 6 words ≡ opening mode → ⊥))
    unfolding read_of
    ancillary_refused_by_4 =
        let before = rows_before WrongSync rows in
        let exactly = given_exactly _ WrongSync rows (read_rows_in_order mode interface words) in
        let test : (few : mode ≤ 10) → (not (is_headed mode words) ≡ true) ↔ (take 6 words ≡ opening mode → ⊥) =
        λ few. unless (not (is_headed mode words)) (headed_exactly mode words few) in (
          λ e.
              (let is = exactly.0 e in
              let ok = sized.0 (clear_before ElementTooHigh before is.0) in
              (ok, clear_at ElementTooHigh before is.0, (test ok.1).0 is.1)),
          λ all. exactly.1 (clear_whole ElementTooHigh before (sized.1 all.0) (all.1, tt), (test all.0.1).1 all.2),
        )

    -- 5: "b8 or b9 of a data word, packet checksum word"
    abbrev Opened : Type 0
    Opened = Sized × (some_above 1023 words ≡ false) × (take 6 words ≡ opening mode)

    opened : Clear (rows_before WrongCheck rows) ↔ Opened
    opened =
        let before = rows_before WrongCheck rows in (
          λ clear.
              (let ok = sized.0 (clear_before ElementTooHigh before clear) in
              (ok, clear_at ElementTooHigh before clear, (headed_exactly mode words ok.1).0 (clear_at WrongSync before clear))),
          λ all. clear_whole ElementTooHigh before (sized.1 all.0) (all.1, ((headed_exactly mode words all.0.1).1 all.2, tt)),
        )

    pub ancillary_refused_by_5 :
        (read_of mode interface words ≡ Err WrongCheck) ↔ (Opened × ((some_word wrong_word (data_in words) ≡ false) × (get_or words 22 0 ≡ checksum_of words) → ⊥))
    unfolding read_of
    ancillary_refused_by_5 =
        let exactly =
        with_front (given_exactly _ WrongCheck rows (read_rows_in_order mode interface words)) opened in
        let test = unless (some_word wrong_word (data_in words) || not (eqb (get_or words 22 0) (checksum_of words))) (form_exactly_test words) in
        (λ e. (let is = exactly.0 e in (is.0, test.0 is.1)), λ all. exactly.1 (all.0, test.1 all.1))

    -- 6: "b0 to b2 of a data word not zero"
    pub ancillary_refused_by_6 :
        (read_of mode interface words ≡ Err LowBitsSet)
        ↔ (Opened × ((some_word wrong_word (data_in words) ≡ false) × (get_or words 22 0 ≡ checksum_of words)) × (some_word low_set (data_in words) ≡ true))
    unfolding read_of
    ancillary_refused_by_6 =
        let before = rows_before LowBitsSet rows in
        let exactly = given_exactly _ LowBitsSet rows (read_rows_in_order mode interface words) in (
          λ e.
              (let is = exactly.0 e in
              (opened.0 (clear_before WrongCheck before is.0), (form_exactly_test words).0 (clear_at WrongCheck before is.0), is.1)),
          λ all. exactly.1 (clear_whole WrongCheck before (opened.1 all.0) ((form_exactly_test words).1 all.1, tt), all.2),
        )

    -- 7: of words that have the form of a packet, exactly where the type is not of the family. Shut out: type 90 accepted, or refused by another number.
    pub ancillary_refused_by_7 : (read_of mode interface words ≡ Err UnknownType) ↔ (Form mode words × (PayloadType mode (type_in words) → ⊥))
    unfolding read_of
    ancillary_refused_by_7 =
        let exactly =
        with_front (given_exactly _ UnknownType rows (read_rows_in_order mode interface words))
        (form_exactly mode words) in
        let test : (few : mode ≤ 10) → (is_unknown_type mode (type_in words) ≡ true) ↔ (PayloadType mode (type_in words) → ⊥) =
        λ few. unless (is_unknown_type mode (type_in words)) (type_exactly mode few (type_in words)) in (
          λ e. (let is = exactly.0 e in (is.0, (test is.0.counted).0 is.1)),
          λ all. exactly.1 (all.0, (test all.0.counted).1 all.1),
        )

  module _ (c : Contents) (start : ℕ) (run : List ℕ) where
    -- of a write, in a mode that is counted
    pub ancillary_written_refused_by_7 :
        (written_of mode interface c.«record» c.payload_type c.second start run ≡ Err UnknownType)
        ↔ ((mode ≤ 10) × (PayloadType mode c.payload_type → ⊥))
    unfolding written_of
    ancillary_written_refused_by_7 =
        let type = c.payload_type in
        let rows = written_rows mode interface c.«record» type c.second start run in
        let exactly =
        given_exactly _ UnknownType rows
        (written_rows_in_order mode interface c.«record» type c.second start run) in (
          λ e. (let is = exactly.0 e in
              let few = (counted_exactly mode).0 is.0.0 in (few, (unless (is_unknown_type mode type) (type_exactly mode few type)).0 is.1)),
          λ both. exactly.1 (((counted_exactly mode).1 both.0, tt), (unless (is_unknown_type mode type) (type_exactly mode both.0 type)).1 both.1),
        )

    -- 12: exactly where nothing is wrong with what is to be written, and there is no room for it
    pub ancillary_written_refused_by_12 :
        (written_of mode interface c.«record» c.payload_type c.second start run ≡ Err NoRoom)
        ↔ (Holdable mode interface c × (start + 23 ≤ length run → ⊥))
    unfolding written_of
    ancillary_written_refused_by_12 =
        let r = c.«record» in
        let type = c.payload_type in
        let rows = written_rows mode interface r type c.second start run in
        let before = rows_before NoRoom rows in
        let exactly =
        given_exactly _ NoRoom rows (written_rows_in_order mode interface r type c.second start run) in
        let own = with_counting mode (carried_refusals mode type r) in
        let room : (lacks_room 23 start (length run) ≡ false) ↔ (start + 23 ≤ length run) = (has_room 23 start (length run), room_for 23 start (length run)) in (
          λ e.
              (let is = exactly.0 e in (
                (packet_exactly mode interface c).0 (
                  (clear_at UnknownMode before is.0, clear_from OutsideTheClock before is.0),
                  clear_before OutsideTheClock (rows_from UnknownType before) (clear_from UnknownType before is.0),
                ),
                (unless (lacks_room 23 start (length run)) room).0 is.1,
              )),
          λ both.
              (let ok = (packet_exactly mode interface c).1 both.0 in
              exactly.1 (
                clear_whole OutsideTheClock before (clear_at UnknownMode own ok.0, ok.1) (clear_from OutsideTheClock own ok.0),
                (unless (lacks_room 23 start (length run)) room).1 both.1,
              )),
        )

-- "The lowest that applies is given, except that 13 comes straight after 2": what a host is answered is the first of one list, that of the call below with 3 in its place for a byte that stands
-- for nothing, and the list follows the table's order.
-- Assumes nothing.
use Prim.Native.Nat.{ℕ}
use mathlib.Core.Path.{◌≡◌, refl, ap, ◌∙◌}
use mathlib.Core.Bool.{Bool, true, false, ◌||◌}
use mathlib.Core.List.{List, [], ◌∷◌, ◌++◌}
use lib.Dec.{ltb}
use lib.IntN.{ℤ}
use Rattle.std.specs.Prelude.{Err, Ok}
use Rattle.refusals.specs.declared.types.Refusal.{Refusal}
use Rattle.refusals.specs.declared.types.Refusal.TheVariants.{ElementTooHigh}
use Rattle.refusals.specs.Table.{the_order}
use Rattle.refusals.specs.Answer.{Cause, ◌when◌, answer, in_order}
use Rattle.round.specs.Round.{distance_of, sum_of}
use Rattle.rates.specs.Rates.{is_yes, frames_in_second}
use Rattle.layout.specs.Flags.{flag_of}
use Rattle.pictures.specs.declared.types.Picture.{Picture}
use Rattle.pictures.specs.Pictures.{pictures_in_day, picture_number, number_in_second, picture_at}
use Rattle.pictures.specs.Calls.{picture_refusals, two_refusals, number_refusals}
use Rattle.runs.specs.Run.{placed, written_by, run_after}
use Rattle.polarity.specs.Word.{word_of}
use Rattle.modes.specs.Modes.{rate_at, pictures_at, with_counting}
use Rattle.modes.proofs.Rows.{number_rows, in_second_rows, picture_rows, span_rows, plus_rows}
use Rattle.ltc.specs.Calls as ltc
use Rattle.vitc.specs.Calls as vitc
use Rattle.words.specs.Words.{info_in}
use Rattle.packets.specs.Packet.{data_in, type_in, second_in}
use Rattle.atc.specs.Records.{held_in}
use Rattle.atc.specs.Calls as atc
use Rattle.register.specs.declared.types.Reader.{Reader}
use Rattle.hearing.specs.declared.types.Heard.TheVariants.{Refused as Unheard}
use Rattle.reader.specs.Steps.{reader_refusals, feed_refusals, after, bit_taken, stepped_of}
use Rattle.reader.specs.Blocks.{stopped, going, blocked_of}
use Rattle.plain.specs.declared.types.PlainPicture.{PlainPicture}
use Rattle.plain.specs.declared.types.PlainRecord.{PlainRecord}
use Rattle.plain.specs.declared.types.PlainContents.{PlainContents}
use Rattle.plain.specs.declared.types.PlainReader.{PlainReader}
use Rattle.plain.specs.declared.types.PlainHeard.{PlainHeard}
use Rattle.plain.specs.Given.{picture_given, record_given, flag_above_1, no_flag, no_make, make_given, no_interface, interface_given, no_ways, reader_given}
use Rattle.plain.specs.Shown.{reader_shown}
use Rattle.plain.specs.Answers.{number_answer, second_answer, picture_answer, distance_answer, written_code, packet_answer, heard_shown, step_with, step_answer, block_with, block_answer}
use Rattle.host.specs.Unnamed.{then_unnamed}
use Rattle.host.specs.Counting.{counted, number_for, in_second_for, picture_for, distance_for, add_for}
use Rattle.host.specs.Carriers.{ltc_written, ltc_run, vitc_written, vitc_run, atc_read, atc_written, atc_run}
use Rattle.host.specs.Reading.{reader_rows, step_for, block_for}
use Rattle.host.proofs.Firsts.{unasked, with_three, one_list}
use Rattle.host.proofs.Fed.{its_own}

-- the calls that count: whatever list the mode's call has after 2
counted_one_list :
    {A B : Type 0} (shown : A → B) (refused : Refusal → A) (mode drop : ℕ) (answered accepted : A) (rows : List Cause)
    → answered ≡ answer refused (with_counting mode rows) accepted
    → counted shown refused mode drop answered ≡ shown (answer refused (with_three 1 (no_flag drop) (with_counting mode rows)) accepted)
counted_one_list shown refused mode drop answered accepted rows is =
    ap (counted shown refused mode drop) is ∙ ap shown (one_list refused (no_flag drop) accepted 1 (with_counting mode rows))

module _ (mode drop : ℕ) where
  abbrev numbering : PlainPicture → ℕ
  numbering p = picture_number (frames_in_second (rate_at mode)) (pictures_at mode) (is_yes (flag_of drop)) (picture_given p)

  abbrev numbered : ℕ → Picture
  numbered n = picture_at (frames_in_second (rate_at mode)) (pictures_at mode) (is_yes (flag_of drop)) n

  abbrev day : ℕ
  day = pictures_in_day (rate_at mode) (pictures_at mode) (is_yes (flag_of drop))

  module _ (p : PlainPicture) where
    abbrev own : List Cause
    own = picture_refusals (rate_at mode) (pictures_at mode) (flag_of drop) (picture_given p)

    abbrev of_one : List Cause
    of_one = with_three 1 (no_flag drop) (with_counting mode own)

    pub one_in_order : in_order the_order of_one ≡ true
    one_in_order = refl

    pub number_one_list : number_for mode drop p ≡ number_answer (answer Err of_one (Ok (record { 0 = numbering p })))
    unfolding number_for
    number_one_list = counted_one_list number_answer Err mode drop _ _ own (number_rows mode (flag_of drop) (picture_given p))

    pub in_second_one_list :
        in_second_for mode drop p ≡ second_answer (answer Err of_one (Ok (record { 0 = number_in_second (pictures_at mode) (picture_given p) })))
    unfolding in_second_for
    in_second_one_list = counted_one_list second_answer Err mode drop _ _ own (in_second_rows mode (flag_of drop) (picture_given p))

    pub add_one_list : (z : ℤ) → add_for mode drop p z ≡ picture_answer (answer Err of_one (Ok (numbered (sum_of day (numbering p) z))))
    unfolding add_for
    add_one_list z = counted_one_list picture_answer Err mode drop _ _ own (plus_rows mode (flag_of drop) (picture_given p) z)

  pub distance_one_list :
      (from to : PlainPicture)
      → let own = two_refusals (rate_at mode) (pictures_at mode) (flag_of drop) (picture_given from) (picture_given to) in
      let rows = with_three 1 (no_flag drop) (with_counting mode own) in
      (distance_for mode drop from to ≡ distance_answer (answer Err rows (Ok (distance_of day (numbering from) (numbering to)))))
      × (in_order the_order rows ≡ true)
  unfolding distance_for
  distance_one_list from to =
      let own = two_refusals (rate_at mode) (pictures_at mode) (flag_of drop) (picture_given from) (picture_given to) in
      (counted_one_list distance_answer Err mode drop _ _ own (span_rows mode (flag_of drop) (picture_given from) (picture_given to)), refl)

  pub picture_one_list :
      (n : ℕ) → let own = number_refusals (rate_at mode) (pictures_at mode) (flag_of drop) n in
      let rows = with_three 1 (no_flag drop) (with_counting mode own) in
      (picture_for mode drop n ≡ picture_answer (answer Err rows (Ok (numbered n)))) × (in_order the_order rows ≡ true)
  unfolding picture_for
  picture_one_list n =
      let own = number_refusals (rate_at mode) (pictures_at mode) (flag_of drop) n in
      (counted_one_list picture_answer Err mode drop _ _ own (picture_rows mode (flag_of drop) (record { 0 = n })), refl)

-- the writes: one list says what is answered and what becomes of the run
module _ (mode : ℕ) (r : PlainRecord) (start : ℕ) (run : List ℕ) where
  pub ltc_one_list :
      (make : ℕ) → let rows = with_three 1 (flag_above_1 r || no_make make) (ltc.written_rows mode (record_given r) start run) in
      (ltc_written mode r make start run ≡ written_code (written_by rows))
      × (ltc_run mode r make start run ≡ run_after rows start (word_of mode (record_given r) (make_given make)) run)
      × (in_order the_order rows ≡ true)
  unfolding ltc_written ltc_run ltc.written_of ltc.run_of ltc.written_rows
  ltc_one_list make =
      let none = flag_above_1 r || no_make make in
      let rows = ltc.written_rows mode (record_given r) start run in (
        ap written_code (one_list Err none (Ok tt) 1 rows),
        one_list (λ (_ : Refusal). run) none (placed start (word_of mode (record_given r) (make_given make)) run) 1 rows,
        refl,
      )

  pub vitc_one_list :
      let rows = with_three 1 (flag_above_1 r) (vitc.written_rows mode (record_given r) start run) in
      (vitc_written mode r start run ≡ written_code (written_by rows))
      × (vitc_run mode r start run ≡ run_after rows start (vitc.line_of mode (record_given r)) run)
      × (in_order the_order rows ≡ true)
  unfolding vitc_written vitc_run vitc.written_of
  vitc_one_list =
      let rows = vitc.written_rows mode (record_given r) start run in (
        ap written_code (one_list Err (flag_above_1 r) (Ok tt) 1 rows),
        one_list (λ (_ : Refusal). run) (flag_above_1 r) (placed start (vitc.line_of mode (record_given r)) run) 1 rows,
        refl,
      )

pub atc_one_list :
    (mode interface : ℕ) (c : PlainContents) (start : ℕ) (run : List ℕ)
    → let rows =
    with_three 1 (flag_above_1 c.«record» || no_interface interface)
    (atc.written_rows mode (interface_given interface) (record_given c.«record») c.payload_type c.second start run) in
    (atc_written mode interface c start run ≡ written_code (written_by rows))
    × (atc_run mode interface c start run ≡ run_after rows start (atc.packet_of mode (record_given c.«record») c.payload_type c.second) run)
    × (in_order the_order rows ≡ true)
unfolding atc_written atc_run atc.written_of atc.run_of
atc_one_list mode interface c start run =
    let none = flag_above_1 c.«record» || no_interface interface in
    let rows = atc.written_rows mode (interface_given interface) (record_given c.«record») c.payload_type c.second start run in (
      ap written_code (one_list Err none (Ok tt) 1 rows),
      one_list (λ (_ : Refusal). run) none (placed start (atc.packet_of mode (record_given c.«record») c.payload_type c.second) run) 1 rows,
      refl,
    )

-- reading a packet has 3 of its own, for a word above 1,023, and so has a reader that is fed: either makes 3 apply
pub open_one_list :
    (mode interface : ℕ) (words : List ℕ)
    → let rows = with_three 2 (no_interface interface) (atc.read_refusals mode (interface_given interface) words) in
    let carried = atc.contents_with (held_in mode (type_in words) (info_in (data_in words))) (type_in words) (second_in words) in
    (atc_read mode interface words ≡ packet_answer (answer Err rows (Ok carried))) × (in_order the_order rows ≡ true)
unfolding atc_read atc.read_of
open_one_list mode interface words =
    let rows = atc.read_refusals mode (interface_given interface) words in
    let carried = atc.contents_with (held_in mode (type_in words) (info_in (data_in words))) (type_in words) (second_in words) in
    (ap packet_answer (one_list Err (no_interface interface) (Ok carried) 2 rows), refl)

-- a reader: what it refuses, and ways that are none, in one list, and the reader as it was
module _ {S A : Type 0} (shown : S → A) (back : PlainHeard → PlainReader → A) (refusing : Reader → Refusal → S) (r : PlainReader) where
  abbrev unheard : Refusal → A
  unheard n = back (heard_shown (Unheard n)) r

  fed_one_list :
      ((n : Refusal) → shown (refusing (reader_given r) n) ≡ back (heard_shown (Unheard n)) (reader_shown (reader_given r)))
      → (rest : List Cause) (accepted : S) → let rows = reader_refusals (reader_given r) ++ rest in
      answer unheard (reader_rows r) (shown (answer (refusing (reader_given r)) rows accepted))
      ≡ answer unheard (with_three 2 (no_ways r.ways) rows) (shown accepted)
  fed_one_list as_shown rest accepted = go (no_ways r.ways) refl
    where
      go :
          (none : Bool) → no_ways r.ways ≡ none
          → answer unheard (then_unnamed (reader_refusals (reader_given r)) none)
          (shown (answer (refusing (reader_given r)) (reader_refusals (reader_given r) ++ rest) accepted))
          ≡ answer unheard (with_three 2 none (reader_refusals (reader_given r) ++ rest)) (shown accepted)
      go true e =
          unasked unheard (reader_refusals (reader_given r)) (shown (answer (refusing (reader_given r)) (reader_refusals (reader_given r) ++ rest) accepted)) (answer unheard (reader_refusals (reader_given r) ++ rest) (shown accepted))
          ∙ one_list unheard true (shown accepted) 2 (reader_refusals (reader_given r) ++ rest)
      go false e =
          ap (answer unheard (then_unnamed (reader_refusals (reader_given r)) false))
          (its_own shown back refusing r as_shown e (reader_refusals (reader_given r) ++ rest) accepted)
          ∙ one_list unheard false (shown accepted) 2 (reader_refusals (reader_given r) ++ rest)

module _ (r : PlainReader) where
  pub step_one_list :
      (element : ℕ) → let rows = with_three 2 (no_ways r.ways) (feed_refusals (reader_given r) element) in
      (step_for r element
      ≡ answer (λ (n : Refusal). step_with (heard_shown (Unheard n)) r) rows (step_answer (bit_taken (reader_given r) element)))
      × (in_order the_order rows ≡ true)
  unfolding step_for stepped_of
  step_one_list element = (
    fed_one_list step_answer step_with (λ reader n. after reader (Unheard n)) r (λ n. refl) ((ElementTooHigh when ltb 1 element) ∷ [])
        (bit_taken (reader_given r) element),
    refl,
  )

  pub block_one_list :
      (limit : ℕ) (run : List ℕ) → let rows = with_three 2 (no_ways r.ways) (reader_refusals (reader_given r)) in
      (block_for r limit run
      ≡ answer (λ (n : Refusal). block_with (heard_shown (Unheard n)) r 0) rows (block_answer (going (reader_given r) limit run)))
      × (in_order the_order rows ≡ true)
  unfolding block_for blocked_of
  block_one_list limit run = (
    fed_one_list block_answer (λ heard reader. block_with heard reader 0) (λ reader n. stopped (Unheard n) reader 0) r (λ n. refl) []
        (going (reader_given r) limit run),
    refl,
  )

-- With bytes that each stand for something, what a host is answered is the call's own answer; so what it was shown and hands back is taken as itself.
-- Assumes nothing.
use Prim.Native.Nat.{ℕ}
use mathlib.Core.Path.{◌≡◌, refl, ap, sym, ◌∙◌}
use mathlib.Core.Bool.{false}
use mathlib.Core.List.{List, [], ◌∷◌}
use lib.Dec.{ltb}
use lib.IntN.{ℤ}
use Rattle.refusals.specs.declared.types.Refusal.{Refusal}
use Rattle.std.specs.Prelude.{Err}
use Rattle.refusals.specs.declared.types.Refusal.TheVariants.{ElementTooHigh}
use Rattle.refusals.specs.Answer.{◌when◌, answer}
use Rattle.rates.specs.declared.types.Flag.{Flag}
use Rattle.clock.specs.declared.types.DayFrame.{DayFrame}
use Rattle.pictures.specs.declared.types.Picture.{Picture}
use Rattle.record.specs.declared.types.Record.{Record}
use Rattle.polarity.specs.declared.types.Found.{Found}
use Rattle.polarity.specs.Word.{word_of}
use Rattle.modes.specs.Modes.{with_mode, with_counting}
use Rattle.modes.specs.Calls.{number_in, in_second_in, picture_in, span_in, plus_in}
use Rattle.ltc.specs.Calls as ltc
use Rattle.vitc.specs.Calls as vitc
use Rattle.atc.specs.declared.types.Interface.{Interface}
use Rattle.atc.specs.declared.types.Interface.TheVariants.{Lines525, Lines625, HighDefinition}
use Rattle.atc.specs.Calls as atc
use Rattle.register.specs.declared.types.Ways.{Ways}
use Rattle.register.specs.declared.types.Reader.{Reader}
use Rattle.register.specs.Held.{fresh_of}
use Rattle.hearing.specs.declared.types.Heard.TheVariants.{Refused as Unheard}
use Rattle.reader.specs.Steps.{reader_refusals, feed_refusals, after, bit_taken, stepped_of}
use Rattle.reader.specs.Blocks.{stopped, going, blocked_of}
use Rattle.plain.specs.Given.{no_interface, interface_given, ways_given, reader_given}
use Rattle.plain.specs.Shown.{flag_shown, found_shown, ways_shown, picture_shown, record_shown, reader_shown}
use Rattle.plain.specs.Answers.{number_answer, second_answer, picture_answer, distance_answer, written_code, packet_answer, step_with, step_answer, block_with, block_answer, contents_with}
use Rattle.plain.proofs.Back.{flag_itself, flag_named, record_itself, record_named, found_itself, make_named, reader_itself, reader_named}
use Rattle.host.specs.Counting.{counted, number_for, in_second_for, picture_for, distance_for, add_for}
use Rattle.host.specs.Carriers.{ltc_written, ltc_run, vitc_written, vitc_run, atc_read, atc_written, atc_run}
use Rattle.host.specs.Reading.{fresh_for, step_for, block_for}
use Rattle.host.proofs.Counted.{a_flag}
use Rattle.host.proofs.Wrote.{answered}
use Rattle.host.proofs.Opened as opened
use Rattle.host.proofs.Fed as fed

-- the calls that count
module _ (mode : ℕ) (drop : Flag) where
  counted_itself :
      {A B : Type 0} (shown : A → B) (refused : Refusal → A) (own accepted : A) → own ≡ answer refused (with_counting mode []) accepted
      → counted shown refused mode (flag_shown drop) own ≡ shown own
  counted_itself shown refused own accepted is =
      sym (a_flag shown refused mode (flag_shown drop) false (sym (flag_named drop)) refl accepted own (shown own) is refl)

  pub number_itself : (p : Picture) → number_for mode (flag_shown drop) (picture_shown p) ≡ number_answer (number_in mode drop p)
  unfolding number_for number_in
  number_itself p = rw (flag_itself drop) (counted_itself number_answer Err (number_in mode drop p) _ refl)

  pub in_second_itself : (p : Picture) → in_second_for mode (flag_shown drop) (picture_shown p) ≡ second_answer (in_second_in mode drop p)
  unfolding in_second_for in_second_in
  in_second_itself p = rw (flag_itself drop) (counted_itself second_answer Err (in_second_in mode drop p) _ refl)

  pub picture_itself : (n : DayFrame) → picture_for mode (flag_shown drop) n.0 ≡ picture_answer (picture_in mode drop n)
  unfolding picture_for picture_in
  picture_itself n = rw (flag_itself drop) (counted_itself picture_answer Err (picture_in mode drop n) _ refl)

  pub distance_itself :
      (from to : Picture) → distance_for mode (flag_shown drop) (picture_shown from) (picture_shown to) ≡ distance_answer (span_in mode drop from to)
  unfolding distance_for span_in
  distance_itself from to = rw (flag_itself drop) (counted_itself distance_answer Err (span_in mode drop from to) _ refl)

  pub add_itself : (p : Picture) (z : ℤ) → add_for mode (flag_shown drop) (picture_shown p) z ≡ picture_answer (plus_in mode drop p z)
  unfolding add_for plus_in
  add_itself p z = rw (flag_itself drop) (counted_itself picture_answer Err (plus_in mode drop p z) _ refl)

-- the writes, with the lent run
module _ (mode : ℕ) (r : Record) (start : ℕ) (run : List ℕ) where
  pub ltc_itself :
      (make : Found)
      → (ltc_written mode (record_shown r) (found_shown make) start run ≡ written_code (ltc.written_of mode r start run))
      × (ltc_run mode (record_shown r) (found_shown make) start run ≡ ltc.run_of mode r make start run)
  unfolding ltc_written ltc_run ltc.written_of ltc.run_of ltc.written_rows
  ltc_itself make =
      let own =
      answered (with_mode mode []) false run (ltc.written_of mode r start run) (ltc.run_of mode r make start run) refl
      _ (ltc.written_rows mode r start run) refl refl start (word_of mode r make) refl (written_code (ltc.written_of mode r start run)) refl in
      rw (record_itself r, found_itself make, record_named r, make_named make) (sym own.0, sym own.1)

  pub vitc_itself :
      (vitc_written mode (record_shown r) start run ≡ written_code (vitc.written_of mode r start run))
      × (vitc_run mode (record_shown r) start run ≡ vitc.run_of mode r start run)
  unfolding vitc_written vitc_run vitc.written_of
  vitc_itself =
      let own =
      answered (with_mode mode []) false run (vitc.written_of mode r start run) (vitc.run_of mode r start run) refl
      _ (vitc.written_rows mode r start run) refl refl start (vitc.line_of mode r) refl (written_code (vitc.written_of mode r start run)) refl in
      rw (record_itself r, record_named r) (sym own.0, sym own.1)

-- packets; a host has an interface as a number
abbrev pub interface_shown : Interface → ℕ
interface_shown Lines525 = 0
interface_shown Lines625 = 1
interface_shown HighDefinition = 2

pub interface_itself : (i : Interface) → (interface_given (interface_shown i) ≡ i) × (no_interface (interface_shown i) ≡ false)
interface_itself Lines525 = (refl, refl)
interface_itself Lines625 = (refl, refl)
interface_itself HighDefinition = (refl, refl)

module _ (mode : ℕ) (interface : Interface) where
  pub atc_read_itself : (words : List ℕ) → atc_read mode (interface_shown interface) words ≡ packet_answer (atc.read_of mode interface words)
  atc_read_itself words =
      sym (opened.answered mode (interface_shown interface) words false (sym (interface_itself interface).1) _ refl interface _
      (sym (interface_itself interface).0) refl refl)

  pub atc_itself :
      (r : Record) (type second start : ℕ) (run : List ℕ) → let c = contents_with (record_shown r) type second in
      (atc_written mode (interface_shown interface) c start run ≡ written_code (atc.written_of mode interface r type second start run))
      × (atc_run mode (interface_shown interface) c start run ≡ atc.run_of mode interface r type second start run)
  unfolding atc_written atc_run atc.written_of atc.run_of
  atc_itself r type second start run =
      let own =
      answered (with_counting mode []) false run (atc.written_of mode interface r type second start run) (atc.run_of mode interface r type second start run) refl
      _ (atc.written_rows mode interface r type second start run) refl refl start (atc.packet_of mode r type second) refl
      (written_code (atc.written_of mode interface r type second start run)) refl in
      rw (record_itself r, record_named r, (interface_itself interface).0, (interface_itself interface).1) (sym own.0, sym own.1)

-- a reader: a fresh one, and one that is fed
pub fresh_itself : (mode : ℕ) (ways : Ways) → fresh_for mode (ways_shown ways) ≡ reader_shown (fresh_of mode ways)
fresh_itself mode ways = refl

pub fresh_given : (mode byte : ℕ) → reader_given (fresh_for mode byte) ≡ fresh_of mode (ways_given byte)
fresh_given mode byte = refl

module _ (r : Reader) where
  pub step_itself : (element : ℕ) → step_for (reader_shown r) element ≡ step_answer (stepped_of r element)
  unfolding step_for stepped_of
  step_itself element =
      let shown = reader_shown r in
      sym (fed.answered step_answer step_with (λ reader n. after reader (Unheard n)) shown (λ n. refl) false (sym (reader_named r)) refl
      ((ElementTooHigh when ltb 1 element) ∷ []) (feed_refusals (reader_given shown) element) refl (bit_taken (reader_given shown) element) _ refl)
      ∙ ap (λ (x : Reader). step_answer (stepped_of x element)) (reader_itself r)

  pub block_itself : (limit : ℕ) (run : List ℕ) → block_for (reader_shown r) limit run ≡ block_answer (blocked_of r limit run)
  unfolding block_for blocked_of
  block_itself limit run =
      let shown = reader_shown r in
      sym (fed.answered block_answer (λ heard reader. block_with heard reader 0) (λ reader n. stopped (Unheard n) reader 0) shown (λ n. refl) false
      (sym (reader_named r)) refl [] (reader_refusals (reader_given shown)) refl (going (reader_given shown) limit run) _ refl)
      ∙ ap (λ (x : Reader). block_answer (blocked_of x limit run)) (reader_itself r)

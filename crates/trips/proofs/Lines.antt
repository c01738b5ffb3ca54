-- Reading the line that was written gives the record, and writing again what was read gives the same 90 elements: said of the calls'
-- own definitions, and as one statement.
-- Assumes nothing.
use Prim.Native.Nat.{ℕ, ◌+◌, ◌≤◌}
use mathlib.Core.Path.{◌≡◌, refl, sym, ap, ◌∙◌}
use mathlib.Core.Bool.{false, not}
use mathlib.Core.List.{List}
use mathlib.Core.Logic.{◌↔◌}
use lib.Dec.{eqb}
use lib.ListN.{length, take, drop}
use borrow.Author.Tests.{eq-eqb, eqb-true, not-false}
use Rattle.refusals.proofs.Results.{accepted_so}
use Rattle.std.specs.Prelude.{Err, Ok}
use Rattle.refusals.specs.declared.types.Refusal.TheVariants.{ElementTooHigh, MarkSet, OutsideTheClock, UnknownMode, WrongCheck, WrongLength, WrongSync}
use Rattle.refusals.proofs.Answered.{Clear, otherwise_accepted}
use Rattle.refusals.proofs.ByNumber.{clear_at, clear_from, clear_before, clear_whole}
use Rattle.runs.specs.Run.{placed}
use Rattle.runs.proofs.Outcomes.{done_clear, clear_done, stored, stored_reads, room_for}
use Rattle.record.specs.declared.types.Record.{Record}
use Rattle.record.proofs.Marks.{info_below as info_small}
use Rattle.modes.specs.Modes.{rate_at, with_mode}
use Rattle.modes.specs.Calls.{information_in, bits_refusals_in, write_refusals_in, packed_in}
use Rattle.modes.specs.declared.types.Shows.TheVariants.{ByMark}
use Rattle.modes.specs.Shown.{shown_record, shown_in, unshown}
use Rattle.modes.proofs.ByRate.{fits_of}
use Rattle.modes.proofs.Told.{packed_is}
use Rattle.trips.proofs.ByMode.{shown_one_to_one}
use Rattle.interval.specs.Line.{info_in, line_with}
use Rattle.interval.proofs.Shape.{length_line}
use Rattle.vitc.specs.Calls.{read_refusals, read_of, line_of, written_rows, written_of, run_of}
use Rattle.trips.proofs.WholeLine.{Sound, info_below, line_one_to_one}

-- what a line can hold: a record that its own list clears, and whose mark shows its picture
abbrev pub Acceptable : ℕ → Record → Type 0
Acceptable mode r = Clear (with_mode mode (write_refusals_in mode r)) × (unshown mode ByMark r ≡ false)

module _ (mode : ℕ) (r : Record) (line : List ℕ) where
  -- a line reads as a record exactly where it is sound and its 64 bits, of the picture that the mark shows, are the record
  pub reads : read_of mode line ≡ Ok r ↔ (Sound line × (shown_in mode ByMark (info_in line) ≡ Ok r))
  unfolding read_of shown_in
  reads = (there, back)
    where
      there : read_of mode line ≡ Ok r → Sound line × (shown_in mode ByMark (info_in line) ≡ Ok r)
      there e =
          let rows = read_refusals mode line in
          let taken = accepted_so rows e in
          let clear = taken.0 in
          let known = clear_at UnknownMode rows clear in
          let rest = clear_from OutsideTheClock rows clear in (
            record {
              long = eqb-true (length line) 90 (not-false (eqb (length line) 90) (clear_at WrongLength rows clear));
              clean = clear_at ElementTooHigh rows clear;
              pairs = clear_at WrongSync rows clear;
              crc = clear_at WrongCheck rows clear;
            },
            otherwise_accepted Err (Ok (shown_record mode ByMark (info_in line))) (with_mode mode (bits_refusals_in mode (info_in line))) (known, rest)
                ∙ ap Ok taken.1,
          )

      back : Sound line × (shown_in mode ByMark (info_in line) ≡ Ok r) → read_of mode line ≡ Ok r
      back h =
          let s = h.0 in
          let bits = with_mode mode (bits_refusals_in mode (info_in line)) in
          let taken = accepted_so bits h.1 in
          let ninety : not (eqb (length line) 90) ≡ false = rw (eq-eqb (length line) 90 s.long) in
          let known = clear_at UnknownMode bits taken.0 in
          let rest = clear_from OutsideTheClock bits taken.0 in
          otherwise_accepted Err (Ok (shown_record mode ByMark (info_in line))) (read_refusals mode line)
          (ninety, (known, (s.clean, (s.pairs, (s.crc, rest)))))
          ∙ ap Ok taken.1

  -- a record that is accepted, and whose mark shows its picture, makes exactly the line that reads as it
  pub made_reads : (Acceptable mode r × (line_of mode r ≡ line)) ↔ (read_of mode line ≡ Ok r)
  unfolding line_of packed_in
  made_reads = (there, back)
    where
      there : Acceptable mode r × (line_of mode r ≡ line) → read_of mode line ≡ Ok r
      there h =
          let rows = with_mode mode (write_refusals_in mode r) in
          let small = info_small (rate_at mode) r (fits_of mode r (clear_from OutsideTheClock rows h.0.0)) in
          let packed = otherwise_accepted Err (Ok (information_in mode r)) rows h.0.0 in
          let held = (shown_one_to_one mode ByMark (information_in mode r) r small).0 (packed, h.0.1) in
          let both = (line_one_to_one (information_in mode r) line small).0 h.1 in
          reads.1 (both.0, ap (shown_in mode ByMark) both.1 ∙ held)

      back : read_of mode line ≡ Ok r → Acceptable mode r × (line_of mode r ≡ line)
      back e =
          let both = reads.0 e in
          let small = info_below line both.0 in
          let packed = (shown_one_to_one mode ByMark (info_in line) r small).1 both.1 in
          let made = packed_is mode r (info_in line) packed.0 in
          ((made.0, packed.1), ap line_with made.1 ∙ (line_one_to_one (info_in line) line small).1 (both.0, refl))

-- a record that was read is refused nowhere, where there is room
read_clear :
    (mode : ℕ) (r : Record) (start : ℕ) (run line : List ℕ) → start + 90 ≤ length run → read_of mode line ≡ Ok r → Clear (written_rows mode r start run)
read_clear mode r start run line room e =
    let fits = room_for 90 start (length run) room in
    let ok = ((made_reads mode r line).1 e).0 in
    clear_whole MarkSet (written_rows mode r start run) ok.0 (ok.1, (fits, tt))

-- said of the calls: where there is room, the write is done and leaves these 90 elements exactly where they read as the record
pub one_to_one : (mode : ℕ) (r : Record) (start : ℕ) (run line : List ℕ) → start + 90 ≤ length run
    → ((written_of mode r start run ≡ Ok tt) × (take 90 (drop start (run_of mode r start run)) ≡ line))
    ↔ (read_of mode line ≡ Ok r)
unfolding written_of line_of
one_to_one mode r start run line room = (there, back)
  where
    after : List ℕ
    after = run_of mode r start run

    left : Clear (written_rows mode r start run) → take 90 (drop start after) ≡ line_of mode r
    left clear = stored_reads (written_rows mode r start run) start (line_of mode r) run 90 (length_line (information_in mode r)) clear room

    there : (written_of mode r start run ≡ Ok tt) × (take 90 (drop start after) ≡ line) → read_of mode line ≡ Ok r
    there h =
        let clear = done_clear (written_rows mode r start run) h.0 in
        let rows = written_rows mode r start run in
        (made_reads mode r line).0 ((clear_before MarkSet rows clear, clear_at MarkSet rows clear), sym (left clear) ∙ h.1)

    back : read_of mode line ≡ Ok r → (written_of mode r start run ≡ Ok tt) × (take 90 (drop start after) ≡ line)
    back e =
        let clear = read_clear mode r start run line room e in
        (clear_done (written_rows mode r start run) clear, left clear ∙ ((made_reads mode r line).1 e).1)

-- and the write of a record that was read leaves the line that it was read from, and no other element changed
pub read_writes :
    (mode : ℕ) (r : Record) (start : ℕ) (run line : List ℕ) → start + 90 ≤ length run → read_of mode line ≡ Ok r
    → (written_of mode r start run ≡ Ok tt) × (run_of mode r start run ≡ placed start line run)
unfolding written_of
read_writes mode r start run line room e =
    let clear = read_clear mode r start run line room e in (
      clear_done (written_rows mode r start run) clear,
      stored (written_rows mode r start run) start (line_of mode r) run clear
          ∙ ap (λ (l : List ℕ). placed start l run) ((made_reads mode r line).1 e).1,
    )

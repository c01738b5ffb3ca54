-- What is heard in a window, whatever its bits are. A3: "With reverse allowed, a window of 80 bits that reads backwards as an accepted word is reported as such,
-- with its direction. A window may not be both; prove it. Complaints are given only for windows that end in the forward sync word, so a bad reversed word is
-- passed over."
-- Assumes nothing.
use Prim.Native.Nat.{ℕ, ◌≤◌}
use mathlib.Core.Path.{◌≡◌, refl, sym, ap, ap₂, ◌∙◌}
use mathlib.Core.Bool.{Bool, true, false, ◌&&◌, cond, true≢false}
use mathlib.Core.List.{List, reverse, reverse-reverse}
use mathlib.Core.Logic.{◌↔◌}
use native.Mathlib.Omega.{arith}
use lib.Dec.{eqb}
use lib.ListN.{length, drop}
use borrow.Author.Tests.{eqb-true, eq-eqb, le-ltb}
use Rattle.polarity.specs.declared.types.Word.{Word}
use Rattle.refusals.specs.declared.types.Refusal.{Refusal}
use Rattle.std.specs.Prelude.{Err, Result, Ok}
use Rattle.runs.specs.Run.{same}
use Rattle.runs.proofs.Same.{same_elements, same_itself, both_true}
use Rattle.record.specs.declared.types.Record.{Record}
use Rattle.polarity.specs.declared.types.Found.{Found}
use Rattle.polarity.specs.Word.{reading, sync_word}
use Rattle.ltc.specs.Calls.{read_of}
use Rattle.modes.specs.Modes.{unknown}
use Rattle.register.specs.declared.types.Reader.{Reader}
use Rattle.register.specs.declared.types.Ways.{Ways}
use Rattle.register.specs.declared.types.Ways.TheVariants.{ForwardOnly, Both}
use Rattle.hearing.specs.declared.types.Way.{Way}
use Rattle.hearing.specs.declared.types.Way.TheVariants.{Forward, Backward}
use Rattle.hearing.specs.declared.types.Report.{Report}
use Rattle.hearing.specs.declared.types.Heard.{Heard}
use Rattle.hearing.specs.declared.types.Heard.TheVariants.{Nothing, Accepted, Refused}
use Rattle.hearing.specs.Window.{reporting, told, forward_in, backward_in, or_else, heard_in}
use Rattle.register.specs.Held.{held_bits, push, reader_with}
use Rattle.reader.specs.declared.types.Stepped.{Stepped}
use Rattle.reader.specs.Steps.{stepped_of}
use Rattle.reader.specs.Blocks.{is_answer}
use Rattle.following.specs.Reach.{Reached}
use Rattle.following.specs.Following.{CodeWord}
use Rattle.following.proofs.Passing.{passing_takes, reached_passing}
use Rattle.following.proofs.Synced.{not_both_ways}
use Rattle.following.proofs.Quiet.{backward_silent}
use Rattle.following.proofs.Whole.{heard_forward, heard_backward}

or_nothing : (heard : Heard) → or_else heard Nothing ≡ heard
or_nothing Nothing = refl
or_nothing (Accepted report) = refl
or_nothing (Refused n) = refl

-- A reader to which reverse is not allowed hears what document 01 says.
pub forward_only_as_before : (mode : ℕ) (bits : List ℕ) → heard_in mode ForwardOnly bits ≡ forward_in mode bits
unfolding heard_in backward_in
forward_only_as_before mode bits = or_nothing (forward_in mode bits)

-- "A window may not be both; prove it": one that ends in the forward sync word, accepted or refused, is not accepted when it is turned round.
pub not_accepted_turned :
    (mode : ℕ) (window : List ℕ) → drop 64 window ≡ sync_word → (r : Record) (found : Found) → read_of mode (reverse window) ≡ Ok (reading r found) → ⊥
not_accepted_turned mode window ends r found read =
    not_both_ways window ends record { bits = reverse window; says = r; found = found; accepted = read } refl

module _ (mode : ℕ) (bits : List ℕ) where
  -- an answer forward is of 80 bits that end in the sync word
  forward_ends : is_answer (forward_in mode bits) ≡ true → (length bits ≡ 80) × (drop 64 bits ≡ sync_word)
  unfolding forward_in
  forward_ends = go (eqb (length bits) 80 && same (drop 64 bits) sync_word) refl
    where
      go : (t : Bool) → (eqb (length bits) 80 && same (drop 64 bits) sync_word) ≡ t → is_answer (cond t (told (read_of mode bits)) Nothing) ≡ true
          → (length bits ≡ 80) × (drop 64 bits ≡ sync_word)
      go true t e =
          let both = both_true (eqb (length bits) 80) (same (drop 64 bits) sync_word) t in
          (eqb-true (length bits) 80 both.0, same_elements (drop 64 bits) sync_word both.1)
      go false t e = absurd (true≢false (sym e))

  -- So where an answer is heard forward, be it a record or a number, nothing is heard backward,
  pub never_both : (ways : Ways) → is_answer (forward_in mode bits) ≡ true → backward_in mode ways bits ≡ Nothing
  unfolding backward_in
  never_both ForwardOnly answered = refl
  never_both Both answered = backward_silent mode bits Both (not_both_ways bits (forward_ends answered).1)

  -- and which of the two looks comes first is no choice.
  pub either_order : (ways : Ways) → heard_in mode ways bits ≡ or_else (backward_in mode ways bits) (forward_in mode bits)
  unfolding heard_in
  either_order ways = go (forward_in mode bits) (backward_in mode ways bits) (never_both ways)
    where
      go : (forward backward : Heard) → (is_answer forward ≡ true → backward ≡ Nothing) → or_else forward backward ≡ or_else backward forward
      go Nothing backward never = sym (or_nothing backward)
      go (Accepted report) backward never = rw (never refl)
      go (Refused n) backward never = rw (never refl)

  -- what is heard, by what the window is
  data Window (ways : Ways) : Type 0 where
    forward : length bits ≡ 80 → drop 64 bits ≡ sync_word → heard_in mode ways bits ≡ told (read_of mode bits) → Window ways
    backward : (word : CodeWord mode) → word.bits ≡ reverse bits → ways ≡ Both → heard_in mode ways bits ≡ Accepted (reporting word.says word.found Backward) → Window ways
    neither : heard_in mode ways bits ≡ Nothing → Window ways

  window : (ways : Ways) → Window ways
  unfolding heard_in forward_in backward_in
  window ways = go (eqb (length bits) 80 && same (drop 64 bits) sync_word) refl
    where
      turned : (also : Ways) → ways ≡ also → forward_in mode bits ≡ Nothing → (word : Result Word Refusal) → read_of mode (reverse bits) ≡ word → Window ways
      turned ForwardOnly hears none word is = neither (rw (none, hears))
      turned Both hears none (Ok word) is =
          backward record { bits = reverse bits; says = word.«record»; found = word.found; accepted = is } refl hears (rw (none, hears, is))
      turned Both hears none (Err n) is = neither (rw (none, hears, is))

      said : (word : Result Word Refusal) → read_of mode bits ≡ word → or_else (told word) (backward_in mode ways bits) ≡ told word
      said (Ok _) is = refl
      said (Err n) is = refl

      go : (t : Bool) → (eqb (length bits) 80 && same (drop 64 bits) sync_word) ≡ t → Window ways
      go true t =
          let both = both_true (eqb (length bits) 80) (same (drop 64 bits) sync_word) t in
          forward (eqb-true (length bits) 80 both.0) (same_elements (drop 64 bits) sync_word both.1) (rw t (said (read_of mode bits) refl))
      go false t = turned ways refl (rw t) (read_of mode (reverse bits)) refl

-- what stands in an answer, to tell two apart
kind : Heard → ℕ
kind Nothing = 0
kind (Accepted report) = 1
kind (Refused n) = 2

refusal_in : Refusal → Heard → Refusal
refusal_in other Nothing = other
refusal_in other (Accepted report) = other
refusal_in other (Refused n) = n

report_in : Report → Heard → Report
report_in other Nothing = other
report_in other (Accepted report) = report
report_in other (Refused n) = other

runs_backward : Way → Bool
runs_backward Forward = false
runs_backward Backward = true

-- an accepted word that is told is the word's own record, found so, and runs forward
told_accepted : (word : Result Word Refusal) (r : Record) (found : Found) (way : Way) → told word ≡ Accepted (reporting r found way) → (word ≡ Ok (reading r found)) × (way ≡ Forward)
unfolding kind report_in
told_accepted (Ok word) r found way e =
    let same : reporting word.«record» word.found Forward ≡ reporting r found way = ap (report_in (reporting r found way)) e in
    (ap (λ (report : Report). Ok (reading report.«record» report.found)) same, sym (ap (λ (report : Report). report.way) same))
told_accepted (Err n) r found way e = let two : ◌≡◌ {A = ℕ} 2 1 = ap kind e in absurd (omega arith)

told_refused : (word : Result Word Refusal) (n : Refusal) → told word ≡ Refused n → word ≡ Err n
unfolding kind refusal_in
told_refused (Ok _) n e = let one : ◌≡◌ {A = ℕ} 1 2 = ap kind e in absurd (omega arith)
told_refused (Err k) n e = ap Err (ap (refusal_in k) e)

module _ (mode : ℕ) (ways : Ways) (bits : List ℕ) where
  -- A report forward: exactly of a window that is an accepted word, whatever is allowed.
  pub forward_exactly : (r : Record) (found : Found) → (heard_in mode ways bits ≡ Accepted (reporting r found Forward)) ↔ (read_of mode bits ≡ Ok (reading r found))
  unfolding kind report_in runs_backward
  forward_exactly r found =
      (λ e. there (window mode bits ways) e, λ is. heard_forward record { bits = bits; says = r; found = found; accepted = is } ways)
    where
      there : Window mode bits ways → heard_in mode ways bits ≡ Accepted (reporting r found Forward) → read_of mode bits ≡ Ok (reading r found)
      there (forward long synced is) e = (told_accepted (read_of mode bits) r found Forward (sym is ∙ e)).0
      there (backward word turned both is) e =
          absurd (true≢false (ap (λ (heard : Heard). runs_backward (report_in (reporting r found Forward) heard).way) (sym is ∙ e)))
      there (neither is) e = let none : ◌≡◌ {A = ℕ} 0 1 = ap kind (sym is ∙ e) in absurd (omega arith)

  -- "With reverse allowed, a window of 80 bits that reads backwards as an accepted word is reported as such, with its direction": exactly such a window.
  pub backward_exactly :
      (r : Record) (found : Found)
      → (heard_in mode ways bits ≡ Accepted (reporting r found Backward)) ↔ ((ways ≡ Both) × (read_of mode (reverse bits) ≡ Ok (reading r found)))
  unfolding kind report_in runs_backward
  backward_exactly r found = (λ e. there (window mode bits ways) e, back)
    where
      there : Window mode bits ways → heard_in mode ways bits ≡ Accepted (reporting r found Backward) → (ways ≡ Both) × (read_of mode (reverse bits) ≡ Ok (reading r found))
      there (forward long synced is) e =
          absurd (true≢false (ap runs_backward (told_accepted (read_of mode bits) r found Backward (sym is ∙ e)).1))
      there (backward word turned both is) e =
          let same = ap (report_in (reporting r found Backward)) (sym is ∙ e) in
          (both, ap (read_of mode) (sym turned) ∙ word.accepted ∙ ap (λ (report : Report). Ok (reading report.«record» report.found)) same)
      there (neither is) e = let none : ◌≡◌ {A = ℕ} 0 1 = ap kind (sym is ∙ e) in absurd (omega arith)

      back : (ways ≡ Both) × (read_of mode (reverse bits) ≡ Ok (reading r found)) → heard_in mode ways bits ≡ Accepted (reporting r found Backward)
      back given =
          ap₂ (λ (w : Ways) (l : List ℕ). heard_in mode w l) given.0 (sym (reverse-reverse bits))
          ∙ heard_backward record { bits = reverse bits; says = r; found = found; accepted = given.1 }

  -- "Complaints are given only for windows that end in the forward sync word, so a bad reversed word is passed over": exactly for those that are refused,
  -- and by their number. These three leave nothing open: what is none of them is answered with nothing.
  pub complaint_exactly :
      (n : Refusal) → (heard_in mode ways bits ≡ Refused n) ↔ ((length bits ≡ 80) × (drop 64 bits ≡ sync_word) × (read_of mode bits ≡ Err n))
  unfolding kind heard_in forward_in
  complaint_exactly n = (λ e. there (window mode bits ways) e, back)
    where
      there : Window mode bits ways → heard_in mode ways bits ≡ Refused n → (length bits ≡ 80) × (drop 64 bits ≡ sync_word) × (read_of mode bits ≡ Err n)
      there (forward long synced is) e = (long, synced, told_refused (read_of mode bits) n (sym is ∙ e))
      there (backward word turned both is) e = let one : ◌≡◌ {A = ℕ} 1 2 = ap kind (sym is ∙ e) in absurd (omega arith)
      there (neither is) e = let none : ◌≡◌ {A = ℕ} 0 2 = ap kind (sym is ∙ e) in absurd (omega arith)

      back : (length bits ≡ 80) × (drop 64 bits ≡ sync_word) × (read_of mode bits ≡ Err n) → heard_in mode ways bits ≡ Refused n
      back given =
          let synced : same (drop 64 bits) sync_word ≡ true = rw given.1 (same_itself sync_word) in
          rw (eq-eqb (length bits) 80 given.0, synced, given.2)

-- The window of a reader: a step from a state that feeding reaches answers what is heard in the bits that it then holds, its last 80 or fewer, and the reader
-- after it, of the same mode and ways, holds these.
pub a_step_hears :
    (reader : Reader) → Reached reader → unknown reader.mode ≡ false → (bit : ℕ) → bit ≤ 1
    → ((stepped_of reader bit).heard ≡ heard_in reader.mode reader.ways (push (held_bits reader) bit))
    × ((stepped_of reader bit).reader ≡ reader_with reader.mode reader.ways (push (held_bits reader) bit))
a_step_hears reader reached known bit small =
    let takes = passing_takes reader bit (reached_passing reader known reached) (le-ltb 1 bit small) in
    (ap (λ (s : Stepped). s.heard) takes, ap (λ (s : Stepped). s.reader) takes)

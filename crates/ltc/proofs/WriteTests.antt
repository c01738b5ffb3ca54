-- What each test of a write leads to: its answer, and the run as it leaves it.
-- Assumes nothing.
use mathlib.Core.Path.{◌≡◌, refl, sym, ap, ◌∙◌}
use mathlib.Core.Bool.{Bool, true, false, ◌||◌, cond}
use mathlib.Core.List.{List, [], ◌∷◌, ◌++◌}
use Prim.Native.Nat.{ℕ, ◌+◌, ◌-◌, ◌^◌, ◌<◌}
use lib.ListN.{length}
use borrow.Rule.Slice.PartMut.{put_mid}
use Rattle.refusals.specs.declared.types.Refusal.{Refusal}
use Rattle.std.specs.Prelude.{Err, Ok, Result}
use Rattle.refusals.specs.declared.types.Refusal.TheVariants.{MarkSet, NoRoom, OutsideTheClock, UnknownMode}
use Rattle.refusals.specs.Answer.{Cause, ◌when◌, answer}
use Rattle.refusals.proofs.Answered.{Clear}
use Rattle.refusals.proofs.ByNumber.{rows_before, clear_at, clear_from, clear_before, clear_whole}
use Rattle.runs.specs.Run.{placed, lacks_room}
use Rattle.runs.proofs.Outcomes.{turned_away, written_there}
use Rattle.rates.specs.declared.types.Rate.{Rate}
use Rattle.rates.specs.declared.types.Flag.TheVariants.{No, Yes}
use Rattle.rates.specs.Rates.{is_yes}
use Rattle.record.specs.declared.types.Record.{Record}
use Rattle.layout.specs.Flags.{places}
use Rattle.record.specs.Record.{marked}
use Rattle.record.proofs.Accepted.{Writable}
use Rattle.modes.specs.Modes.{unknown, rate_at, with_mode, rated_of}
use Rattle.modes.specs.Calls.{information_in, write_refusals_in}
use Rattle.modes.specs.declared.types.Shows.TheVariants.{First}
use Rattle.modes.specs.Shown.{unshown, carried_in}
use Rattle.modes.proofs.Told.{carried_rows, uncarried_as, carried_is}
use Rattle.modes.proofs.ByRate.{fits_of, rate_told, rate_refused}
use Rattle.polarity.specs.declared.types.Found.{Found}
use Rattle.polarity.specs.Word.{word_with, made, word_of}
use Rattle.ltc.specs.Calls.{mark_or_second, written_rows, written_of, run_of}
use Rattle.ltc.proofs.Words.{word_length}
use Rattle.ltc.proofs.Evened.{is_no, plain, set_adds, set_below}

module _ (mode start : ℕ) (r : Record) (make : Found) (run : List ℕ) (rated : Result Rate Refusal) (named : rated ≡ rated_of mode) where
  abbrev pub Outcome : Result Unit Refusal → List ℕ → Type 0
  Outcome answered left = (answered ≡ written_of mode r start run) × (left ≡ run_of mode r make start run)

  pub no_mode : (n : Refusal) → rated ≡ Err n → Outcome (Err n) run
  unfolding written_of run_of written_rows
  no_mode n e =
      let is = rate_refused mode rated named n e in
      rw is.1 (turned_away (written_rows mode r start run) start (word_of mode r make) run UnknownMode tt is.0)

  module _ (rate : Rate) (is : rated ≡ Ok rate) (found : Result ℕ Refusal) (packs : found ≡ carried_in mode First r) where
    own : (unknown mode ≡ false) × (rate_at mode ≡ rate)
    own = rate_told mode rated named rate is

    -- a second picture is refused by the row that a mark is refused by
    refused_alike : {A : Type 0} (refused : Refusal → A) (accepted : A) (rest : List Cause)
        → answer refused (carried_rows mode r First) (answer refused ((MarkSet when mark_or_second mode r) ∷ rest) accepted)
        ≡ answer refused (with_mode mode (write_refusals_in mode r ++ ((MarkSet when mark_or_second mode r) ∷ rest))) accepted
    refused_alike {A} refused accepted rest =
        ap (answer refused (with_mode mode (write_refusals_in mode r))) (go (is_yes r.flags.mark) (unshown mode First r) (answer refused rest accepted))
      where
        go : (marked other : Bool) (last : A) → cond other (refused MarkSet) (cond (marked || other) (refused MarkSet) last) ≡ cond (marked || other) (refused MarkSet) last
        go true true last = refl
        go false true last = refl
        go marked false last = refl

    abbrev room : List Cause
    room = (NoRoom when lacks_room 80 start (length run)) ∷ []

    pub by_the_record : (n : Refusal) → found ≡ Err n → Outcome (Err n) run
    unfolding written_of run_of written_rows
    by_the_record n e = (
      uncarried_as mode r First Err _ n (sym packs ∙ e) ∙ refused_alike Err (Ok tt) room,
      uncarried_as mode r First (λ (_ : Refusal). run) _ n (sym packs ∙ e) ∙ refused_alike (λ (_ : Refusal). run) (placed start (word_of mode r make) run) room,
    )

    module _ (n : ℕ) (e : found ≡ Ok n) (yes : Bool) (asked : yes ≡ is_yes r.flags.mark) where
      packed : Clear (carried_rows mode r First) × (information_in mode r ≡ n)
      packed = carried_is mode r First n (sym packs ∙ e)

      clear_before_mark : Clear (with_mode mode (write_refusals_in mode r))
      clear_before_mark = clear_before MarkSet (carried_rows mode r First) packed.0

      -- of the first picture, the row asks for a mark alone
      by_the_mark : mark_or_second mode r ≡ yes
      by_the_mark = rw (clear_at MarkSet (carried_rows mode r First) packed.0, ← asked) (go yes)
        where
          go : (marked : Bool) → (marked || false) ≡ marked
          go true = refl
          go false = refl

      pub with_a_mark : yes ≡ true → Outcome (Err MarkSet) run
      unfolding written_of run_of written_rows
      with_a_mark t = turned_away (written_rows mode r start run) start (word_of mode r make) run MarkSet clear_before_mark (by_the_mark ∙ t)

      module _ (t : yes ≡ false) where
        fits : Writable r.address r.groups
        fits = fits_of mode r (clear_from OutsideTheClock (with_mode mode (write_refusals_in mode r)) clear_before_mark)

        unset : r.flags.mark ≡ No
        unset = is_no r.flags.mark (sym asked ∙ t)

        -- the polarity bit has its place free
        pub free : n + 2 ^ (places rate).mark < 2 ^ 64
        free = rw (packed.1, own.1) at (set_below mode r unset fits)

        module _ (full : Bool) (measured : full ≡ lacks_room 80 start (length run)) where
          pub without_room : full ≡ true → Outcome (Err NoRoom) run
          unfolding written_of run_of written_rows
          without_room none =
              let rows = written_rows mode r start run in
              let before = clear_whole MarkSet (rows_before NoRoom rows) clear_before_mark (by_the_mark ∙ t, tt) in
              turned_away rows start (word_of mode r make) run NoRoom before (sym measured ∙ none)

          pub done :
              full ≡ false → (info : ℕ) (word : List ℕ) → info ≡ made make n (n + 2 ^ (places rate).mark)
              → word ≡ word_with info → Outcome (Ok tt) (put_mid start ((start + 80) - start) run word)
          unfolding written_of run_of written_rows word_of
          done some info word as_told kept =
              let rows = written_rows mode r start run in
              let clear = clear_whole MarkSet rows clear_before_mark (by_the_mark ∙ t, (sym measured ∙ some, tt)) in
              let bits : info ≡ made make (information_in mode (marked No r)) (information_in mode (marked Yes r)) =
              as_told ∙ rw (← packed.1, ← own.1, set_adds mode r unset, plain mode r unset) in
              written_there rows start (word_of mode r make) run clear 80 (word_length mode r make) word (kept ∙ ap word_with bits)

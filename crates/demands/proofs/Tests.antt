-- What the tests for 8, 9 and 10 say, in the documents' words: of a picture, of a record, and of the bits.
-- Assumes nothing.
use Prim.Native.Nat.{ℕ, zero, suc, ◌%◌, ◌<◌, ◌≤◌}
use mathlib.Core.Path.{◌≡◌, refl, sym, ◌∙◌}
use mathlib.Core.Bool.{Bool, true, false, not, ◌&&◌, ◌||◌, cond, true≢false}
use mathlib.Core.Logic.{◌↔◌, ◌⊎◌, inl, inr, ⊎_elim}
use native.Mathlib.Omega.{arith}
use lib.Dec.{ltb, leb, eqb}
use borrow.Author.Tests.{ltb-true, lt-ltb, leb-true, leb-false, le-leb, eqb-true, eq-eqb}
use Rattle.runs.proofs.Same.{both_true}
use Rattle.rates.specs.declared.types.Flag.{Flag}
use Rattle.rates.specs.declared.types.Flag.TheVariants.{No, Yes}
use Rattle.rates.specs.declared.types.Address.{Address}
use Rattle.rates.specs.Rates.{is_yes, frames_in_second, may_drop}
use Rattle.rates.specs.Face.{outside, skipped}
use Rattle.layout.specs.Layout.{bits}
use Rattle.layout.specs.Flags.{flag_at, unused_colour}
use Rattle.pictures.specs.Pictures.{several, place_outside, place_unused}
use Rattle.record.specs.declared.types.Groups.{Groups}
use Rattle.record.specs.declared.types.Record.{Record}
use Rattle.record.specs.Record.{address_held, digit_above_9, group_above_15}
use Rattle.modes.specs.Modes.{high_rate, rate_at, pictures_at}
use Rattle.modes.specs.Calls.{record_in}
use Rattle.modes.proofs.EachMode.{alone, several_share, high_exactly}
use Rattle.superframes.specs.SubFrames.{place_in, other_set, flag_besides_drop}
use Rattle.demands.specs.Records.{DropAlone}
use Rattle.demands.specs.Families.{column, said_at, AllZero}
use Rattle.demands.specs.Refused.{Drops, OutsideClock, NoPlace, GroupAbove15, Eight, DigitAbove9, EightHeld, Skipped, Nine, DropUnused, ColourUnused, PlaceUnused, Ten, TenHeld}
use Rattle.demands.proofs.Accepted.{low_exactly, drop_alone}
use Rattle.demands.proofs.Families.{said_as_printed, zeros_as_printed}
use Rattle.demands.proofs.Numbers.{unless}

-- one of two tests holds
pub either_exactly : {A B : Type 0} (s t : Bool) → (s ≡ true) ↔ A → (t ≡ true) ↔ B → ((s || t) ≡ true) ↔ (A ⊎ B)
either_exactly true t first second = (λ e. inl (first.0 refl), λ any. refl)
either_exactly false t first second = (λ e. inr (second.0 e), λ any. ⊎_elim (λ a. absurd (true≢false (sym (first.1 a)))) second.1 any)

-- both of two tests hold
pub both_exactly : {A B : Type 0} (s t : Bool) → (s ≡ true) ↔ A → (t ≡ true) ↔ B → ((s && t) ≡ true) ↔ (A × B)
both_exactly s t first second = (
  λ e. (let both = both_true s t e in (first.0 both.0, second.0 both.1)),
  λ all. rw (first.1 all.0) (second.1 all.1),
)

-- tests of numbers
above : (m n : ℕ) → (ltb m n ≡ true) ↔ (m < n)
above m n = (ltb-true m n, lt-ltb m n)

at_least : (m n : ℕ) → (leb m n ≡ true) ↔ (m ≤ n)
at_least m n = (leb-true m n, le-leb m n)

equals : (m n : ℕ) → (eqb m n ≡ true) ↔ (m ≡ n)
equals m n = (eqb-true m n, eq-eqb m n)

differs : (m n : ℕ) → (not (eqb m n) ≡ true) ↔ (m ≡ n → ⊥)
differs m n = go (eqb m n) (equals m n)
  where
    go : (t : Bool) → (t ≡ true) ↔ (m ≡ n) → (not t ≡ true) ↔ (m ≡ n → ⊥)
    go true is = (λ e. absurd (true≢false (sym e)), λ none. absurd (none (is.0 refl)))
    go false is = (λ e same. true≢false (sym (is.1 same)), λ none. refl)

-- an address outside the clock, and a skipped one; a group above 15, and a digit above 9
pub clock_exactly : (mode : ℕ) (a : Address) → (outside (frames_in_second (rate_at mode)) a ≡ true) ↔ OutsideClock mode a
clock_exactly mode a =
    either_exactly (ltb 23 a.hours) _ (above 23 a.hours)
    (either_exactly (ltb 59 a.minutes) _ (above 59 a.minutes)
    (either_exactly (ltb 59 a.seconds) _ (above 59 a.seconds) (at_least (frames_in_second (rate_at mode)) a.frames.0)))

pub skipped_exactly : (a : Address) → (skipped a ≡ true) ↔ Skipped a
skipped_exactly a =
    both_exactly (ltb a.frames.0 2) _ (above a.frames.0 2)
    (both_exactly (eqb a.seconds 0) _ (equals a.seconds 0) (differs (a.minutes % 10) 0))

groups_exactly : (g : Groups) → (group_above_15 g ≡ true) ↔ GroupAbove15 g
groups_exactly g =
    either_exactly (ltb 15 g.group1) _ (above 15 g.group1)
    (either_exactly (ltb 15 g.group2) _ (above 15 g.group2)
    (either_exactly (ltb 15 g.group3) _ (above 15 g.group3)
    (either_exactly (ltb 15 g.group4) _ (above 15 g.group4)
    (either_exactly (ltb 15 g.group5) _ (above 15 g.group5)
    (either_exactly (ltb 15 g.group6) _ (above 15 g.group6)
    (either_exactly (ltb 15 g.group7) (ltb 15 g.group8) (above 15 g.group7) (above 15 g.group8)))))))

units_exactly : (info : ℕ) → (digit_above_9 info ≡ true) ↔ DigitAbove9 info
units_exactly info =
    either_exactly (ltb 9 (bits 0 3 info)) _ (above 9 (bits 0 3 info))
    (either_exactly (ltb 9 (bits 16 19 info)) _ (above 9 (bits 16 19 info))
    (either_exactly (ltb 9 (bits 32 35 info)) (ltb 9 (bits 48 51 info)) (above 9 (bits 32 35 info)) (above 9 (bits 48 51 info))))

pub yes_exactly : (f : Flag) → (is_yes f ≡ true) ↔ (f ≡ Yes)
yes_exactly No = (λ e. absurd (true≢false (sym e)), λ e. absurd (no_yes e))
  where
    no_yes : No ≡ Yes → ⊥
    no_yes e = let z : ◌≡◌ {A = ℕ} 0 1 = cc in omega arith
yes_exactly Yes = (λ e. refl, λ e. refl)

-- no colour rule is of a mode above 5
no_colour : (mode : ℕ) (colour : Flag) → 6 ≤ mode → ColourUnused mode colour → ⊥
no_colour mode colour more (inl e, set) = omega arith
no_colour mode colour more (inr e, set) = omega arith

-- drop may be asked for in modes 2, 5 and 10
drops_there : (mode : ℕ) → mode ≤ 10 → may_drop (rate_at mode) ≡ true → Drops mode
unfolding rate_at
drops_there zero few e = absurd (true≢false (sym e))
drops_there (suc zero) few e = absurd (true≢false (sym e))
drops_there (suc (suc zero)) few e = inl refl
drops_there (suc (suc (suc zero))) few e = absurd (true≢false (sym e))
drops_there (suc (suc (suc (suc zero)))) few e = absurd (true≢false (sym e))
drops_there (suc (suc (suc (suc (suc zero))))) few e = inr (inl refl)
drops_there (suc (suc (suc (suc (suc (suc zero)))))) few e = absurd (true≢false (sym e))
drops_there (suc (suc (suc (suc (suc (suc (suc zero))))))) few e = absurd (true≢false (sym e))
drops_there (suc (suc (suc (suc (suc (suc (suc (suc zero)))))))) few e = absurd (true≢false (sym e))
drops_there (suc (suc (suc (suc (suc (suc (suc (suc (suc zero))))))))) few e = absurd (true≢false (sym e))
drops_there (suc (suc (suc (suc (suc (suc (suc (suc (suc (suc zero)))))))))) few e = inr (inr refl)
drops_there (suc (suc (suc (suc (suc (suc (suc (suc (suc (suc (suc mode))))))))))) few e = absurd (omega arith)

drops_back : (mode : ℕ) → Drops mode → may_drop (rate_at mode) ≡ true
unfolding rate_at
drops_back mode (inl e) = rw e
drops_back mode (inr (inl e)) = rw e
drops_back mode (inr (inr e)) = rw e

-- the colour bit is unused in modes 0 and 3, of those that the lines know
colour_there : (mode : ℕ) (colour : Flag) → mode ≤ 5 → unused_colour (rate_at mode) colour ≡ true → ColourUnused mode colour
unfolding rate_at
colour_there zero colour few e = (inl refl, (yes_exactly colour).0 e)
colour_there (suc zero) colour few e = absurd (true≢false (sym e))
colour_there (suc (suc zero)) colour few e = absurd (true≢false (sym e))
colour_there (suc (suc (suc zero))) colour few e = (inr refl, (yes_exactly colour).0 e)
colour_there (suc (suc (suc (suc zero)))) colour few e = absurd (true≢false (sym e))
colour_there (suc (suc (suc (suc (suc zero))))) colour few e = absurd (true≢false (sym e))
colour_there (suc (suc (suc (suc (suc (suc mode)))))) colour few e = absurd (omega arith)

colour_back : (mode : ℕ) (colour : Flag) → ColourUnused mode colour → unused_colour (rate_at mode) colour ≡ true
unfolding rate_at
colour_back mode colour (inl e, set) = rw (e, set)
colour_back mode colour (inr e, set) = rw (e, set)

module _ (mode : ℕ) (few : mode ≤ 10) where
  pub drops_exactly : (may_drop (rate_at mode) ≡ true) ↔ Drops mode
  drops_exactly = (drops_there mode few, drops_back mode)

  -- where no drop may be asked for
  pub drop_unused_exactly : (drop : Flag) → ((is_yes drop && not (may_drop (rate_at mode))) ≡ true) ↔ DropUnused mode drop
  drop_unused_exactly drop = both_exactly (is_yes drop) (not (may_drop (rate_at mode))) (yes_exactly drop) (go (may_drop (rate_at mode)) drops_exactly)
    where
      go : (t : Bool) → (t ≡ true) ↔ Drops mode → (not t ≡ true) ↔ (Drops mode → ⊥)
      go true is = (λ e. absurd (true≢false (sym e)), λ none. absurd (none (is.0 refl)))
      go false is = (λ e drops. true≢false (sym (is.1 drops)), λ none. refl)

  pub nine_exactly : (drop : Flag) (a : Address) → ((may_drop (rate_at mode) && (is_yes drop && skipped a)) ≡ true) ↔ Nine mode drop a
  nine_exactly drop a =
      both_exactly (may_drop (rate_at mode)) (is_yes drop && skipped a) drops_exactly (both_exactly (is_yes drop) (skipped a) (yes_exactly drop) (skipped_exactly a))

  -- several pictures share an address in modes 3 to 10
  several_exactly : (several (pictures_at mode) ≡ true) ↔ (3 ≤ mode)
  several_exactly = (there, λ more. lt-ltb 1 (pictures_at mode) (several_share mode more))
    where
      there : several (pictures_at mode) ≡ true → 3 ≤ mode
      there e = go (leb 3 mode) refl
        where
          go : (t : Bool) → leb 3 mode ≡ t → 3 ≤ mode
          go true t = leb-true 3 mode t
          go false t =
              let low : mode < 3 = leb-false 3 mode t in
              absurd (true≢false (sym e ∙ rw (alone mode low)))

  pub outside_exactly : (place : ℕ) → (place_outside (pictures_at mode) place ≡ true) ↔ NoPlace mode place
  outside_exactly place =
      both_exactly (several (pictures_at mode)) (leb (pictures_at mode) place) several_exactly (leb-true (pictures_at mode) place, le-leb (pictures_at mode) place)

  pub unused_exactly : (place : ℕ) → (place_unused (pictures_at mode) place ≡ true) ↔ PlaceUnused mode place
  unused_exactly place =
      both_exactly (not (several (pictures_at mode))) (ltb 0 place) (go (several (pictures_at mode)) several_exactly) (ltb-true 0 place, lt-ltb 0 place)
    where
      go : (t : Bool) → (t ≡ true) ↔ (3 ≤ mode) → (not t ≡ true) ↔ (mode < 3)
      go true is = let more = is.0 refl in (λ e. absurd (true≢false (sym e)), λ low. absurd (omega arith))
      go false is = (λ e. below (leb 3 mode) refl is, λ low. refl)
        where
          below : (t : Bool) → leb 3 mode ≡ t → (false ≡ true) ↔ (3 ≤ mode) → mode < 3
          below true t is = absurd (true≢false (sym (is.1 (leb-true 3 mode t))))
          below false t is = leb-false 3 mode t

  module _ (r : Record) where
    pub eight_exactly :
        (((place_outside (pictures_at mode) r.place || group_above_15 r.groups) || outside (frames_in_second (rate_at mode)) r.address) ≡ true) ↔ Eight mode r
    eight_exactly =
        let place = place_outside (pictures_at mode) r.place in
        let group = group_above_15 r.groups in
        let out = outside (frames_in_second (rate_at mode)) r.address in
        let tests = either_exactly (place || group) out (either_exactly place group (outside_exactly r.place) (groups_exactly r.groups)) (clock_exactly mode r.address) in (
          λ e. ⊎_elim (λ first. ⊎_elim (λ p. inr (inr p)) (λ g. inr (inl g)) first) inl (tests.0 e),
          λ any. tests.1 (⊎_elim inr (λ rest. ⊎_elim (λ g. inl (inr g)) (λ p. inl (inl p)) rest) any),
        )

    -- what makes 10 apply besides drop, by the family of the mode
    others_exactly :
        (cond (high_rate mode) (flag_besides_drop r.flags) (place_unused (pictures_at mode) r.place || unused_colour (rate_at mode) r.flags.colour) ≡ true)
        ↔ (ColourUnused mode r.flags.colour ⊎ (PlaceUnused mode r.place ⊎ ((6 ≤ mode) × (DropAlone r.flags → ⊥))))
    others_exactly = go (high_rate mode) refl
      where
        go : (t : Bool) → high_rate mode ≡ t
            → (cond t (flag_besides_drop r.flags) (place_unused (pictures_at mode) r.place || unused_colour (rate_at mode) r.flags.colour) ≡ true)
            ↔ (ColourUnused mode r.flags.colour ⊎ (PlaceUnused mode r.place ⊎ ((6 ≤ mode) × (DropAlone r.flags → ⊥))))
        go true t =
            let more = ((high_exactly mode).0 t).0 in
            let flags = unless (flag_besides_drop r.flags) (drop_alone r.flags) in (
              λ e. inr (inr (more, flags.0 e)),
              λ any. ⊎_elim (λ none. absurd (no_colour mode r.flags.colour more none))
                  (λ rest. ⊎_elim (λ (low : (mode < 3) × (0 < r.place)). let few_modes = low.0 in absurd (omega arith)) (λ set. flags.1 set.1) rest) any,
            )
        go false t =
            let line = (low_exactly mode few).0 t in
            let unused = unused_exactly r.place in
            let tests =
            either_exactly (place_unused (pictures_at mode) r.place) (unused_colour (rate_at mode) r.flags.colour) unused
            (colour_there mode r.flags.colour line, colour_back mode r.flags.colour) in (
              λ e. ⊎_elim (λ p. inr (inl p)) inl (tests.0 e),
              λ any. tests.1 (⊎_elim inr
                  (λ rest. ⊎_elim inl (λ (set : (6 ≤ mode) × (DropAlone r.flags → ⊥)). let more = set.0 in absurd (omega arith)) rest) any),
            )

    pub ten_exactly :
        ((cond (high_rate mode) (flag_besides_drop r.flags) (place_unused (pictures_at mode) r.place || unused_colour (rate_at mode) r.flags.colour)
        || (is_yes r.flags.drop && not (may_drop (rate_at mode)))) ≡ true)
        ↔ Ten mode r
    ten_exactly =
        let others = cond (high_rate mode) (flag_besides_drop r.flags) (place_unused (pictures_at mode) r.place || unused_colour (rate_at mode) r.flags.colour) in
        let drop = is_yes r.flags.drop && not (may_drop (rate_at mode)) in
        let tests = either_exactly others drop others_exactly (drop_unused_exactly r.flags.drop) in
        (λ e. ⊎_elim inr inl (tests.0 e), λ any. tests.1 (⊎_elim inr inl any))

  -- of the bits
  module _ (info : ℕ) where
    abbrev held : Record
    held = record_in mode info

    abbrev placed : Bool
    placed = place_outside (pictures_at mode) (place_in (pictures_at mode) held.flags)

    abbrev out : Bool
    out = outside (frames_in_second (rate_at mode)) (address_held info)

    digits_exactly :
        (cond (high_rate mode) (digit_above_9 info || placed) (digit_above_9 info) ≡ true)
        ↔ (DigitAbove9 info ⊎ ((6 ≤ mode) × (pictures_at mode ≤ said_at (column mode).used info)))
    digits_exactly = go (high_rate mode) refl
      where
        go : (t : Bool) → high_rate mode ≡ t
            → (cond t (digit_above_9 info || placed) (digit_above_9 info) ≡ true)
            ↔ (DigitAbove9 info ⊎ ((6 ≤ mode) × (pictures_at mode ≤ said_at (column mode).used info)))
        go true t =
            let more = ((high_exactly mode).0 t).0 in
            let place = outside_exactly (place_in (pictures_at mode) held.flags) in
            let said : (placed ≡ true) ↔ ((6 ≤ mode) × (pictures_at mode ≤ said_at (column mode).used info)) = (
              λ e. (more, rw (said_as_printed mode more few info) at (place.0 e).1),
              λ high. place.1 (omega arith, rw (said_as_printed mode more few info) high.1),
            ) in
            either_exactly (digit_above_9 info) placed (units_exactly info) said
        go false t =
            let line = (low_exactly mode few).0 t in (
              λ e. inl ((units_exactly info).0 e),
              λ any. ⊎_elim (units_exactly info).1 (λ (high : (6 ≤ mode) × (pictures_at mode ≤ said_at (column mode).used info)). let more = high.0 in absurd (omega arith)) any,
            )

    pub eight_held_exactly : ((cond (high_rate mode) (digit_above_9 info || placed) (digit_above_9 info) || out) ≡ true) ↔ EightHeld mode info
    eight_held_exactly =
        let tests = either_exactly (cond (high_rate mode) (digit_above_9 info || placed) (digit_above_9 info)) out digits_exactly (clock_exactly mode (address_held info)) in
        (λ e. ⊎_elim inr inl (tests.0 e), λ any. tests.1 (⊎_elim inr inl any))

    bits_exactly :
        (cond (high_rate mode) (other_set (pictures_at mode) held.flags) (unused_colour (rate_at mode) (flag_at 11 info)) ≡ true)
        ↔ (ColourUnused mode (flag_at 11 info) ⊎ ((6 ≤ mode) × (AllZero (column mode).zeros info → ⊥)))
    bits_exactly = go (high_rate mode) refl
      where
        go : (t : Bool) → high_rate mode ≡ t
            → (cond t (other_set (pictures_at mode) held.flags) (unused_colour (rate_at mode) (flag_at 11 info)) ≡ true)
            ↔ (ColourUnused mode (flag_at 11 info) ⊎ ((6 ≤ mode) × (AllZero (column mode).zeros info → ⊥)))
        go true t =
            let more = ((high_exactly mode).0 t).0 in
            let zeros = unless (other_set (pictures_at mode) held.flags) (zeros_as_printed mode more few info) in
            (λ e. inr (more, zeros.0 e), λ any. ⊎_elim (λ none. absurd (no_colour mode (flag_at 11 info) more none)) (λ set. zeros.1 set.1) any)
        go false t =
            let line = (low_exactly mode few).0 t in (
              λ e. inl (colour_there mode (flag_at 11 info) line e),
              λ any. ⊎_elim (colour_back mode (flag_at 11 info))
                  (λ (set : (6 ≤ mode) × (AllZero (column mode).zeros info → ⊥)). let more = set.0 in absurd (omega arith)) any,
            )

    pub ten_held_exactly :
        ((cond (high_rate mode) (other_set (pictures_at mode) held.flags) (unused_colour (rate_at mode) (flag_at 11 info))
        || (is_yes (flag_at 10 info) && not (may_drop (rate_at mode)))) ≡ true)
        ↔ TenHeld mode info
    ten_held_exactly =
        let others = cond (high_rate mode) (other_set (pictures_at mode) held.flags) (unused_colour (rate_at mode) (flag_at 11 info)) in
        let drop = is_yes (flag_at 10 info) && not (may_drop (rate_at mode)) in
        let tests = either_exactly others drop bits_exactly (drop_unused_exactly (flag_at 10 info)) in
        (λ e. ⊎_elim inr inl (tests.0 e), λ any. tests.1 (⊎_elim inr inl any))

-- `interval::form::judge` meets its contract: the tests that led to each `return` are the rows of the list up to the one that applies, and a
-- line is sound where none of the three passes found anything.
-- Assumes nothing.
use Prim.Native.Nat.{ℕ}
use mathlib.Core.Path.{◌≡◌}
use mathlib.Core.Bool.{Bool, true, false, not, ◌||◌}
use mathlib.Core.List.{List}
use lib.ListN.{length}
use borrow.Author.Tests.{not-true, not-false}
use Rattle.std.specs.Prelude.{Err, Ok}
use Rattle.refusals.specs.declared.types.Refusal.TheVariants.{WrongCheck}
use Rattle.refusals.specs.Answer.{verdict_of}
use Rattle.refusals.proofs.Answered.{neither}
use Rattle.refusals.proofs.Results.{passed_on}
use Rattle.bits.specs.Bits.{some_above}
use Rattle.modes.specs.Modes.{unknown}
use Rattle.modes.proofs.ByRate.{rate_told, rate_refused}
use Rattle.interval.specs.Line.{wrong_pair, wrong_crc}
use Rattle.interval.specs.Calls.{form_refusals}
use Rattle.interval.proofs.FormTests.{bad_length, no_mode, too_high, bad_pair, bad_check, all_sound}
use Rattle.interval.proofs.form.judge.Goals as goal

-- what the three passes told
module _
    (mode : ℕ) (line : List ℕ) (long : length line ≡ 90) (known : unknown mode ≡ false) (high pair check : Bool)
    (e3 : high ≡ some_above 1 line) (e4 : pair ≡ wrong_pair line) (e5 : check ≡ wrong_crc line) where
  nothing : not ((high || pair) || check) ≡ true → Ok tt ≡ verdict_of (form_refusals mode line)
  nothing t =
      let early = neither (high || pair) check (not-true ((high || pair) || check) t) in
      let first = neither high pair early.0 in
      all_sound mode line long known high e3 first.0 pair e4 first.1 check e5 early.1

  last : not ((high || pair) || check) ≡ false → high ≡ false → pair ≡ false → Err WrongCheck ≡ verdict_of (form_refusals mode line)
  last some low paired =
      let left : check ≡ true = rw (low, paired) at (not-false ((high || pair) || check) some) in
      bad_check mode line long known high e3 low pair e4 paired check e5 left

pub returns-then-line-ne90 : goal.returns-then-line-ne90
returns-then-line-ne90 c = search bad_length

pub returns-in_err-rate_of : goal.returns-in_err-rate_of
returns-in_err-rate_of c = passed_on c.from_residual.ensures.1 (search (no_mode, rate_refused _ _ c.rate_of.ensures _ c.in_err-rate_of.was))

pub returns-then-sound : goal.returns-then-sound
returns-then-sound c = search (nothing, (rate_told _ _ c.rate_of.ensures _ c.in_ok-rate_of.was).0)

pub returns-then-high : goal.returns-then-high
returns-then-high c = search (too_high, (rate_told _ _ c.rate_of.ensures _ c.in_ok-rate_of.was).0)

pub returns-then-pair : goal.returns-then-pair
returns-then-pair c = search (bad_pair, (rate_told _ _ c.rate_of.ensures _ c.in_ok-rate_of.was).0)

pub returns : goal.returns
returns c = search (last, (rate_told _ _ c.rate_of.ensures _ c.in_ok-rate_of.was).0)

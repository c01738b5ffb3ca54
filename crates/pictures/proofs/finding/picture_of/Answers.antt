-- `pictures::finding::picture_of` meets its contract: the address of the quotient, at the place that is the remainder.
-- Assumes nothing.
use mathlib.Core.Path.{◌≡◌, ap, sym, ◌∙◌}
use Prim.Native.Nat.{ℕ, ◌+◌, ◌/◌, ◌%◌, ◌<◌}
use native.Mathlib.Omega.{arith}
use native.Mathlib.Nat.{mod-lt}
use borrow.Author.Rules.{rules}
use Rattle.refusals.proofs.Results.{passed_on}
use Rattle.refusals.specs.declared.types.Refusal.{Refusal}
use Rattle.std.specs.Prelude.{Err, Ok, Result}
use Rattle.rates.specs.declared.types.Rate.{Rate}
use Rattle.rates.specs.declared.types.Flag.{Flag}
use Rattle.rates.specs.declared.types.Address.{Address}
use Rattle.clock.specs.declared.types.DayFrame.{DayFrame}
use Rattle.clock.specs.Calls.{address_of}
use Rattle.pictures.specs.Pictures.{picture}
use Rattle.pictures.specs.Calls.{picture_of}
use Rattle.pictures.proofs.Divided.{with_place, by_address}
use Rattle.pictures.proofs.finding.picture_of.Goals as goal

place_small : (last n : ℕ) → last < 256 → n % (last + 1) < 256
place_small last n low = let some : 0 < last + 1 = omega arith in omega (arith, mod-lt n some)

module _
    (rate : Rate) (last : ℕ) (drop : Flag) (n : DayFrame) (placed : Result Address Refusal)
    (asked : placed ≡ address_of rate drop (record { 0 = n.0 / (last + 1) })) where
  told : picture_of rate (last + 1) drop n ≡ with_place (n.0 % (last + 1)) placed
  told = by_address rate (last + 1) drop n (omega arith) ∙ ap (with_place (n.0 % (last + 1))) (sym asked)

  refused : (k : Refusal) → placed ≡ Err k → Err k ≡ picture_of rate (last + 1) drop n
  refused k e = sym (told ∙ ap (with_place (n.0 % (last + 1))) e)

  found : (a : Address) → placed ≡ Ok a → Ok (picture a (n.0 % (last + 1))) ≡ picture_of rate (last + 1) drop n
  found a e = sym (told ∙ ap (with_place (n.0 % (last + 1))) e)

pub overflow_cast-place : goal.overflow_cast-place
overflow_cast-place c = search (place_small, rules)

pub returns-in_err-address : goal.returns-in_err-address
returns-in_err-address c = passed_on c.from_residual.ensures.1 (search (refused, c.in_err-address.was))

pub returns : goal.returns
returns c = search (found, c.in_ok-address.was)

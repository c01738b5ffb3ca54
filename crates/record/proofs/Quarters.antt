-- Four quarters of sixteen bits are the fields of the layout side by side.
-- Assumes nothing.
use mathlib.Core.Path.{◌≡◌, sym, ap, ◌∙◌}
use Prim.Native.Nat.{ℕ, ◌+◌, ◌*◌, ◌/◌, ◌≤◌, ◌<◌}
use native.Mathlib.Omega.{arith}
use Rattle.rates.specs.declared.types.Rate.{Rate}
use Rattle.rates.specs.declared.types.Flag.{Flag}
use Rattle.rates.specs.declared.types.Flag.TheVariants.{No}
use Rattle.rates.specs.Rates.{by_rate}
use Rattle.record.specs.declared.types.Record.{Record}
use Rattle.layout.specs.Layout.{join, layout}
use Rattle.layout.specs.Flags.{bit_of, places}
use Rattle.record.specs.Record.{standing_at, fields_of, info_of}
use Rattle.record.specs.Fits.{QuarterOf}
use Rattle.record.proofs.Places.{at_27, at_43, at_59}

-- a quarter is sixteen bits, with two digits of tens and a first flag or with three and none
pub small :
    (number low high q : ℕ) (first second : Flag) → QuarterOf number low first second high q
    → number / 10 + 4 * bit_of first ≤ 7 → low ≤ 15 → high ≤ 15 → q < 65536
small number low high q first second is fits l h = omega arith

module _
    (rate : Rate) (r : Record) (a b c d : ℕ) (f27 f43 f59 : Flag)
    (e27 : f27 ≡ by_rate rate r.flags.mark r.flags.bgf0 r.flags.mark)
    (e43 : f43 ≡ by_rate rate r.flags.bgf0 r.flags.bgf2 r.flags.bgf0)
    (e59 : f59 ≡ by_rate rate r.flags.bgf2 r.flags.mark r.flags.bgf2)
    (first : QuarterOf r.address.frames.0 r.groups.group1 r.flags.drop r.flags.colour r.groups.group2 a)
    (second : QuarterOf r.address.seconds r.groups.group3 No f27 r.groups.group4 b)
    (third : QuarterOf r.address.minutes r.groups.group5 No f43 r.groups.group6 c)
    (fourth : QuarterOf r.address.hours r.groups.group7 r.flags.bgf1 f59 r.groups.group8 d) where
  pub whole : a + 65536 * (b + 65536 * (c + 65536 * d)) ≡ info_of rate r
  unfolding info_of join layout fields_of
  whole =
      let at = standing_at (places rate) r.flags in
      let h27 : bit_of (at 27) ≡ bit_of f27 = ap bit_of (at_27 r.flags rate ∙ sym e27) in
      let h43 : bit_of (at 43) ≡ bit_of f43 = ap bit_of (at_43 r.flags rate ∙ sym e43) in
      let h59 : bit_of (at 59) ≡ bit_of f59 = ap bit_of (at_59 r.flags rate ∙ sym e59) in
      omega (arith, first.whole, second.whole, third.whole, fourth.whole)

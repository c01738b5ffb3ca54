-- What acceptance says of a record's fields.
-- Assumes nothing.
use Prim.Native.Nat.{◌<◌, ◌≤◌}
use native.Mathlib.Omega.{arith}
use lib.Dec.{ltb}
use borrow.Author.Tests.{ltb-false}
use Rattle.refusals.specs.declared.types.Refusal.TheVariants.{OutsideTheClock}
use Rattle.refusals.proofs.Answered.{Clear, neither}
use Rattle.refusals.proofs.ByNumber.{clear_at}
use Rattle.rates.specs.declared.types.Rate.{Rate}
use Rattle.rates.specs.declared.types.Address.{Address}
use Rattle.rates.specs.Rates.{frames_in_second}
use Rattle.rates.specs.Face.{outside}
use Rattle.rates.proofs.Inside.{inside}
use Rattle.rates.proofs.Sizes.{rate_small}
use Rattle.record.specs.declared.types.Groups.{Groups}
use Rattle.record.specs.declared.types.Record.{Record}
use Rattle.record.specs.Record.{group_above_15}
use Rattle.record.specs.Calls.{write_refusals}

-- an address and groups that fit their bits
pub record Writable (a : Address) (g : Groups) : Type 0 where
  pub hours : a.hours < 24
  pub minutes : a.minutes < 60
  pub seconds : a.seconds < 60
  pub frames : a.frames.0 < 30
  pub group1 : g.group1 ≤ 15
  pub group2 : g.group2 ≤ 15
  pub group3 : g.group3 ≤ 15
  pub group4 : g.group4 ≤ 15
  pub group5 : g.group5 ≤ 15
  pub group6 : g.group6 ≤ 15
  pub group7 : g.group7 ≤ 15
  pub group8 : g.group8 ≤ 15

-- a record that is clear of refusals fits its bits
pub writable : (rate : Rate) (r : Record) → Clear (write_refusals rate r) → Writable r.address r.groups
writable rate r clear =
    let g = r.groups in
    let eight = neither (group_above_15 g) (outside (frames_in_second rate) r.address) (clear_at OutsideTheClock (write_refusals rate r) clear) in
    let within = inside (frames_in_second rate) r.address eight.1 in
    let g1 = neither (ltb 15 g.group1) _ eight.0 in
    let g2 = neither (ltb 15 g.group2) _ g1.1 in
    let g3 = neither (ltb 15 g.group3) _ g2.1 in
    let g4 = neither (ltb 15 g.group4) _ g3.1 in
    let g5 = neither (ltb 15 g.group5) _ g4.1 in
    let g6 = neither (ltb 15 g.group6) _ g5.1 in
    let g7 = neither (ltb 15 g.group7) _ g6.1 in
    record {
      hours = within.hours;
      minutes = within.minutes;
      seconds = within.seconds;
      frames = omega (arith, within.frames, rate_small rate);
      group1 = ltb-false 15 g.group1 g1.0;
      group2 = ltb-false 15 g.group2 g2.0;
      group3 = ltb-false 15 g.group3 g3.0;
      group4 = ltb-false 15 g.group4 g4.0;
      group5 = ltb-false 15 g.group5 g5.0;
      group6 = ltb-false 15 g.group6 g6.0;
      group7 = ltb-false 15 g.group7 g7.0;
      group8 = ltb-false 15 g.group8 g7.1;
    }

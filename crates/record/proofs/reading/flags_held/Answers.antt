-- `record::reading::flags_held` meets its contract: each flag stands where the row of the rate says.
-- Assumes nothing.
use mathlib.Core.Path.{◌≡◌, refl, ◌∙◌}
use Prim.Native.Nat.{ℕ}
use Rattle.rates.specs.declared.types.Flag.{Flag}
use Rattle.rates.specs.declared.types.Rate.{Rate}
use Rattle.rates.specs.declared.types.Rate.TheVariants.{At24, At25, At30}
use Rattle.rates.specs.Rates.{by_rate}
use Rattle.record.specs.declared.types.Flags.{Flags}
use Rattle.layout.specs.Flags.{flag_at, places}
use Rattle.record.specs.Record.{flags_held}
use Rattle.record.proofs.reading.flags_held.Goals as goal

flags_of : Flag → Flag → Flag → Flag → Flag → Flag → Flags
flags_of drop colour mark bgf0 bgf1 bgf2 = record { drop = drop; colour = colour; mark = mark; bgf0 = bgf0; bgf1 = bgf1; bgf2 = bgf2 }

by_row :
    (rate : Rate) (info : ℕ) → let at : ℕ → Flag = λ place. flag_at place info in
    flags_of (at 10) (at 11) (by_rate rate (at 27) (at 59) (at 27)) (by_rate rate (at 43) (at 27) (at 43)) (at 58) (by_rate rate (at 59) (at 43) (at 59))
    ≡ flags_held (places rate) info
unfolding flags_of
by_row At24 info = refl
by_row At25 info = refl
by_row At30 info = refl

module _ (rate : Rate) (info : ℕ) (at27 at43 at59 : Flag) where
  whole :
      at27 ≡ flag_at 27 info → at43 ≡ flag_at 43 info → at59 ≡ flag_at 59 info
      → (drop colour mark bgf0 bgf1 bgf2 : Flag) → drop ≡ flag_at 10 info → colour ≡ flag_at 11 info
      → mark ≡ by_rate rate at27 at59 at27 → bgf0 ≡ by_rate rate at43 at27 at43 → bgf1 ≡ flag_at 58 info → bgf2 ≡ by_rate rate at59 at43 at59
      → record { drop = drop; colour = colour; mark = mark; bgf0 = bgf0; bgf1 = bgf1; bgf2 = bgf2 } ≡ flags_held (places rate) info
  unfolding flags_of
  whole a b c drop colour mark bgf0 bgf1 bgf2 d e f g h k =
      let at : ℕ → Flag = λ place. flag_at place info in
      let m : mark ≡ by_rate rate (at 27) (at 59) (at 27) = f ∙ rw (a, c) in
      let z : bgf0 ≡ by_rate rate (at 43) (at 27) (at 43) = g ∙ rw (a, b) in
      let t : bgf2 ≡ by_rate rate (at 59) (at 43) (at 59) = k ∙ rw (b, c) in
      rw (d, e, m, z, h, t) (by_row rate info)

pub returns : goal.returns
returns c = search whole

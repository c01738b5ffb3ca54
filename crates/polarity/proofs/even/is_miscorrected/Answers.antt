-- `polarity::even::is_miscorrected` meets its contract: the bit that stands at the mark's place, beside the zeros.
-- Assumes nothing.
use Prim.Native.Nat.{ℕ, ◌/◌, ◌%◌, ◌^◌, ◌<◌}
use mathlib.Core.Path.{◌≡◌}
use mathlib.Core.Bool.{Bool, ◌&&◌}
use native.Mathlib.Omega.{arith}
use Rattle.rates.specs.declared.types.Flag.{Flag}
use Rattle.rates.specs.declared.types.Rate.{Rate}
use Rattle.rates.specs.declared.types.Rate.TheVariants.{At24, At25, At30}
use Rattle.rates.specs.Rates.{is_yes}
use Rattle.layout.specs.Flags.{flag_of, flag_at, places}
use Rattle.polarity.specs.Word.{word_with, odd_zeros, miscorrected}
use Rattle.polarity.proofs.Zeros.{info_of_word}
use Rattle.polarity.proofs.even.is_miscorrected.Goals as goal

-- dividing by the value of the mark's place brings its bit down
brought_down : (rate : Rate) (info value : ℕ) → value ≡ 2 ^ (places rate).mark → flag_of (info / value % 2) ≡ flag_at (places rate).mark info
brought_down At24 info value is = rw is
brought_down At25 info value is = rw is
brought_down At30 info value is = rw is

some : (rate : Rate) (value : ℕ) → value ≡ 2 ^ (places rate).mark → 0 < value
some At24 value is = omega arith
some At25 value is = omega arith
some At30 value is = omega arith

both :
    (rate : Rate) (info value : ℕ) → info < 2 ^ 64 → value ≡ 2 ^ (places rate).mark → (polarity : Flag) → polarity ≡ flag_of (info / value % 2)
    → (odd mark : Bool) → odd ≡ odd_zeros (word_with info) → mark ≡ is_yes polarity → (odd && mark) ≡ miscorrected rate (word_with info)
both rate info value low is polarity looked odd mark counted set = rw (counted, set, looked, brought_down rate info value is, info_of_word info low)

pub nonzero_div-info : goal.nonzero_div-info
nonzero_div-info c = search some

pub returns : goal.returns
returns c = search both

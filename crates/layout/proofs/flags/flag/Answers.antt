-- `layout::flags::flag` meets its contract: a bit that is not 0 is a yes.
-- Assumes nothing.
use mathlib.Core.Path.{◌≡◌, refl}
use Prim.Native.Nat.{ℕ, zero, suc}
use Rattle.rates.specs.declared.types.Flag.TheVariants.{Yes}
use Rattle.layout.specs.Flags.{flag_of}
use Rattle.layout.proofs.flags.flag.Goals as goal

set : (bit : ℕ) → (bit ≡ 0 → ⊥) → Yes ≡ flag_of bit
set zero some = absurd (some refl)
set (suc n) some = refl

pub returns : goal.returns
returns c = set c.args.bit c.if-bit-eq0.false

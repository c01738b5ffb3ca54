-- `register::places::blank_places` meets its contract: the zeros below the first one in the lower word, and where it has none, those of the upper as well.
-- Assumes nothing.
use mathlib.Core.Path.{◌≡◌, sym, ◌∙◌}
use Prim.Native.Nat.{◌+◌, ◌≤◌, ◌<◌}
use native.Mathlib.Omega.{arith}
use lib.Count.{count_trailing_zeros, trailing_le}
use Rattle.bits.specs.Bits.{to_bits}
use Rattle.bits.proofs.Bit.{length_to_bits}
use Rattle.register.specs.declared.types.Reader.{Reader}
use Rattle.register.specs.Blank.{blank}
use Rattle.register.specs.Held.{register}
use Rattle.register.proofs.Blanks.{blank_of_number, blank_short, blank_long}
use Rattle.register.proofs.places.blank_places.Goals as goal

module _ (r : Reader) where
  in_the_lower : count_trailing_zeros 64 r.info < 64 → count_trailing_zeros 64 r.info ≡ blank (register r)
  in_the_lower h =
      let same = blank_of_number 64 r.info in
      same ∙ sym (blank_short (to_bits 64 r.info) (to_bits 16 r.sync) (rw (length_to_bits 64 r.info, ← same) h))

  in_the_upper : 64 ≤ count_trailing_zeros 64 r.info → 64 + count_trailing_zeros 16 r.sync ≡ blank (register r)
  in_the_upper h =
      let same = blank_of_number 64 r.info in
      sym (blank_long (to_bits 64 r.info) (to_bits 16 r.sync) (rw (length_to_bits 64 r.info, ← same) h)
      ∙ rw (length_to_bits 64 r.info, ← blank_of_number 16 r.sync))

pub returns-then-low-lt64 : goal.returns-then-low-lt64
returns-then-low-lt64 c = search in_the_lower

pub overflow_add-result : goal.overflow_add-result
overflow_add-result c = omega (arith, trailing_le 16 c.args.reader.sync)

pub returns : goal.returns
returns c = search in_the_upper

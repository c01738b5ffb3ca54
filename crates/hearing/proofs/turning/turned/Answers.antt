-- `hearing::turning::turned` meets its contract: the library's bits in the opposite order are the reversed bit list's.
-- Assumes nothing.
use mathlib.Core.Path.{◌∙◌}
use Rattle.hearing.proofs.OneByOne.{turned_list}
use Rattle.hearing.proofs.turning.turned.Goals as goal

pub returns : goal.returns
returns c = c.reverse_bits.ensures ∙ turned_list c.args.number

-- `packets::placing::store_header` meets its contract: the six words are copied over a run of six.
-- Assumes nothing.
use mathlib.Core.Path.{◌≡◌, ◌∙◌}
use mathlib.Core.List.{[], ◌∷◌}
use Prim.Native.Nat.{ℕ}
use Rattle.packets.specs.Packet.{fifth_word, header}
use Rattle.packets.proofs.placing.store_header.Goals as goal

copied : (mode fifth : ℕ) → fifth ≡ fifth_word mode → (0x000 ∷ 0x3FF ∷ 0x3FF ∷ 0x260 ∷ fifth ∷ 0x110 ∷ []) ≡ header mode
unfolding header
copied mode fifth told = rw told

pub returns : goal.returns
returns c = c.copy_from_slice.ensures.after ∙ copied c.args.mode _ c.fifth_word.ensures

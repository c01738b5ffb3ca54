-- `packets::form::is_headed` meets its contract: the first six elements are the list's first six.
-- Assumes nothing.
use mathlib.Core.Path.{◌≡◌, refl, ap, ◌∙◌}
use mathlib.Core.Bool.{◌&&◌}
use mathlib.Core.List.{List, [], ◌∷◌}
use Prim.Native.Nat.{ℕ}
use lib.Dec.{eqb}
use lib.ListN.{take}
use lib.Pointwise.{pointwise}
use Rattle.runs.specs.Run.{same}
use Rattle.packets.specs.Packet.{fifth_word, header, is_headed}
use Rattle.packets.proofs.form.is_headed.Goals as goal

-- what the library compares element by element is the same run
alike : (xs ys : List ℕ) → pointwise eqb xs ys ≡ same xs ys
unfolding same
alike [] [] = refl
alike [] (y ∷ ys) = refl
alike (x ∷ xs) [] = refl
alike (x ∷ xs) (y ∷ ys) = ap (λ rest. eqb x y && rest) (alike xs ys)

headed :
    (mode fifth : ℕ) (words : List ℕ) → fifth ≡ fifth_word mode
    → pointwise eqb (take 6 words) (0x000 ∷ 0x3FF ∷ 0x3FF ∷ 0x260 ∷ fifth ∷ 0x110 ∷ []) ≡ is_headed mode words
unfolding is_headed header
headed mode fifth words told = alike (take 6 words) (0x000 ∷ 0x3FF ∷ 0x3FF ∷ 0x260 ∷ fifth ∷ 0x110 ∷ []) ∙ rw told

pub returns : goal.returns
returns c = c.eq.ensures ∙ headed c.args.mode _ c.args.words.now c.fifth_word-fifth.ensures

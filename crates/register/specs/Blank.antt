-- How many elements of a list are zero before the first that is not.
-- Assumes nothing.
use Rattle.std.specs.Prelude.{ℕ, zero, suc, List, [], ◌∷◌}

unfoldable pub blank : List ℕ → ℕ
blank [] = 0
blank (zero ∷ elements) = suc (blank elements)
blank (suc n ∷ elements) = 0

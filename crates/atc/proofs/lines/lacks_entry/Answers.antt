-- `atc::lines::lacks_entry` meets its contract: it asks both columns of the interface.
-- Assumes nothing.
use Prim.Native.Nat.{ℕ}
use mathlib.Core.Path.{◌≡◌, refl, ap}
use mathlib.Core.Bool.{Bool, true, false, not, ◌||◌}
use mathlib.Core.List.{[], ◌∷◌}
use Rattle.atc.specs.declared.types.Interface.{Interface}
use Rattle.atc.specs.declared.types.Interface.TheVariants.{Lines525, Lines625, HighDefinition}
use Rattle.atc.specs.Lines.{Column, column_of, has_entry, some_entry, lacks_entry}
use Rattle.atc.proofs.lines.lacks_entry.Goals as goal

-- a list of two columns ends there
last_column : (once again : Bool) → (once || again) ≡ (once || (again || false))
last_column true again = refl
last_column false true = refl
last_column false false = refl

-- of an interface that has two columns: an answer of each
module _ (face : Interface) (left right : Column) (says : (second : ℕ) → lacks_entry face second ≡ not (some_entry second (left ∷ right ∷ []))) where
  by_columns :
      (interface : Interface) (second : ℕ) (once again : Bool) → once ≡ has_entry second left → again ≡ has_entry second right → interface ≡ face
      → not (once || again) ≡ lacks_entry interface second
  by_columns interface second once again first next is = rw (is, says second, ← first, ← next) (ap not (last_column once again))

not_looked_at : (interface : Interface) (second : ℕ) → interface ≡ HighDefinition → false ≡ lacks_entry interface second
unfolding lacks_entry
not_looked_at interface second is = rw is

pub returns-in-Lines525 : goal.returns-in-Lines525
unfolding lacks_entry
returns-in-Lines525 c = search (by_columns Lines525 (column_of 0 10 20) (column_of 1 10 18) (λ second. refl))

pub returns-in-Lines625 : goal.returns-in-Lines625
unfolding lacks_entry
returns-in-Lines625 c = search (by_columns Lines625 (column_of 0 6 22) (column_of 1 6 20) (λ second. refl))

pub returns-in-HighDefinition : goal.returns-in-HighDefinition
returns-in-HighDefinition c = search not_looked_at

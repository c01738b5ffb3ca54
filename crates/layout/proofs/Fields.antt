-- Fields side by side, for every list of widths: what was joined is taken apart again, and what was taken apart joins again.
-- Assumes nothing.
use Prim.Native.Nat.{ℕ, zero, suc, ◌+◌, ◌*◌, ◌/◌, ◌%◌, ◌^◌, ◌<◌}
use mathlib.Core.Path.{◌≡◌, refl, sym, ap, ◌∙◌}
use mathlib.Core.List.{List, [], ◌∷◌}
use native.Mathlib.Nat.{add_comm, mul_comm, mod-one, div-one}
use lib.Arith.{lt-one, digits_lt}
use lib.Count.{ones, ones_cat}
use lib.Dec.{lit<}
use lib.ListN.{get_or, take}
use lib.Pow.{pow-add, high, low, shr_lt, shr-shr, split as halves}
use Rattle.layout.specs.Layout.{join, split}

-- how many bits the fields take together
abbrev pub total : List ℕ → ℕ
total [] = 0
total (width ∷ widths) = width + total widths

-- a value for each width, and none too large for it
abbrev pub Below : List ℕ → List ℕ → Type 0
Below [] [] = Unit {0}
Below [] (value ∷ values) = ⊥
Below (width ∷ widths) [] = ⊥
Below (width ∷ widths) (value ∷ values) = (value < 2 ^ width) × Below widths values

-- the ones of each value, counted together
abbrev pub all_ones : List ℕ → ℕ
all_ones [] = 0
all_ones (value ∷ values) = ones value + all_ones values

-- a field below the others, as the laws of powers write it
above : (width value rest : ℕ) → value + 2 ^ width * rest ≡ rest * 2 ^ width + value
above width value rest = add_comm value (2 ^ width * rest) ∙ ap (λ (n : ℕ). n + value) (mul_comm (2 ^ width) rest)

-- what was joined is taken apart again
pub split_join : (widths values : List ℕ) → Below widths values → split widths (join widths values) ≡ values
unfolding join split
split_join [] [] small = refl
split_join (width ∷ widths) (value ∷ values) small =
    let rest = join widths values in
    rw (above width value rest, low rest width small.0, high rest width small.0)
    (ap (λ (vs : List ℕ). value ∷ vs) (split_join widths values small.1))
split_join [] (value ∷ values) small = elim small [ ]
split_join (width ∷ widths) [] small = elim small [ ]

-- and what was taken apart joins again
pub join_split : (widths : List ℕ) (n : ℕ) → n < 2 ^ total widths → join widths (split widths n) ≡ n
unfolding join split
join_split [] n small = sym (lt-one small)
join_split (width ∷ widths) n small =
    rw (join_split widths (n / 2 ^ width) (shr_lt (total widths) width (rw (add_comm width (total widths)) at small)))
    (above width (n % 2 ^ width) (n / 2 ^ width) ∙ halves n width)

-- fields that fit their widths make a number that fits the widths together
pub join_below : (widths values : List ℕ) → Below widths values → join widths values < 2 ^ total widths
unfolding join
join_below [] [] small = lit< tt
join_below (width ∷ widths) (value ∷ values) small =
    rw (above width value (join widths values), add_comm width (total widths), pow-add 2 (total widths) width)
    (digits_lt (join_below widths values small.1) small.0)
join_below [] (value ∷ values) small = elim small [ ]
join_below (width ∷ widths) [] small = elim small [ ]

-- each part stands above the widths before it (past the last, both sides are 0)
pub field_at : (widths : List ℕ) (n k : ℕ) → get_or (split widths n) k 0 ≡ n / 2 ^ total (take k widths) % 2 ^ get_or widths k 0
unfolding split
field_at [] n k = sym (mod-one (n / 2 ^ total (take k [])))
field_at (width ∷ widths) n zero = ap (λ (m : ℕ). m % 2 ^ width) (sym (div-one n))
field_at (width ∷ widths) n (suc k) =
    field_at widths (n / 2 ^ width) k ∙ ap (λ (m : ℕ). m % 2 ^ get_or widths k 0) (shr-shr n width (total (take k widths)))

-- the ones of the whole are the ones of its parts
pub ones_join : (widths values : List ℕ) → Below widths values → ones (join widths values) ≡ all_ones values
unfolding join ones
ones_join [] [] small = refl
ones_join (width ∷ widths) (value ∷ values) small =
    rw (above width value (join widths values))
    (ones_cat width (join widths values) value small.0
    ∙ ap (λ (n : ℕ). n + ones value) (ones_join widths values small.1)
    ∙ add_comm (all_ones values) (ones value))
ones_join [] (value ∷ values) small = elim small [ ]
ones_join (width ∷ widths) [] small = elim small [ ]

-- `requests::fields::Fields::numbers` meets its contract: each number that was read is within the limit of its field.
-- Assumes nothing.
use Rattle.std.proofs.Common.{◌≡◌, ℕ, ◌+◌, ◌≤◌, ◌<◌, Bool, true, false, true≢false, eqb, List, length, get_or, slice_set, refl, arith, rules}
use Rattle.std.proofs.lemmas.Grind.{common_steps}
use Rattle.requests.specs.declared.types.Field.{Field}
use Rattle.requests.specs.declared.types.Field.TheVariants.{Byte}
use Rattle.requests.specs.Parsing.{limit_of, Limited}
use Rattle.requests.proofs.fields.Fields.numbers.Goals as goal

module _ (form : List Field) (numbers : List ℕ) (i : ℕ) (so_far : Limited form numbers i) where
  turn : (n : ℕ) → n ≤ limit_of (get_or form i Byte) → i < length numbers → Limited form (slice_set numbers i n) (i + 1)
  turn n within room = record { limit = λ j below. go j below (eqb j i) refl }
    where
      go : (j : ℕ) → j < i + 1 → (b : Bool) → eqb j i ≡ b → get_or (slice_set numbers i n) j 0 ≤ limit_of (get_or form j Byte)
      go j below true e = grind (arith, common_steps)
      go j below false e = let low : j < i = grind (arith, common_steps) in grind (arith, common_steps, so_far.limit j low)

pub loop-i-preserved : goal.loop-i-preserved
loop-i-preserved g c = record {
  same_length = search rules;
  so_far = turn c.args.form.now c.loop-i.numbers c.loop-i.i c.loop-i.invariant.so_far c.in_ok-numbers.field-0 c.in_ok-numbers.ensures.bounded (search rules);
  untaken = λ none. absurd (true≢false (c.in_ok-numbers.ensures.missing (c.loop-i.invariant.untaken none).1));
}

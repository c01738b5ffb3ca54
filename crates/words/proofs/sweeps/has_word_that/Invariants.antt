-- `words::sweeps::has_word_that` meets its contract. At each turn what is left tells of all words: none before it met the test.
-- Assumes nothing.
use Rattle.std.proofs.Common.{ℕ, Bool, ◌≡◌}
use Rattle.std.specs.List.{list_any}
use Rattle.std.specs.Slice.Iter.{chunks_rest}
use Rattle.words.proofs.sweeps.has_word_that.Given as goal

abbrev pub invariant-loop-few : goal.invariant-loop-few
invariant-loop-few g l = (meets : ℕ → Bool) → ((word : ℕ) (met : Bool) → goal.F-post g l.fn.test word met → met ≡ meets word) → list_any meets (chunks_rest l.few-iterator) ≡ list_any meets l.words

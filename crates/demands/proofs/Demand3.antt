-- Demand 3. "Take a reader in any state that feeding can bring a fresh one to. From there feed it, unchanged and end to end, code words that
-- demand 2 accepts in the reader's mode, their addresses in any order. Each word is reported, as itself, at its 80th bit. After the fifth bit of the
-- first word the reader makes no report and no complaint anywhere else. Earlier leftovers may still complete a false word in those first five bits,
-- and not later."
-- Assumes nothing.
use Prim.Native.Nat.{ℕ, ◌<◌}
use mathlib.Core.Path.{◌≡◌, refl}
use mathlib.Core.Bool.{false}
use mathlib.Core.List.{List}
use native.Mathlib.Omega.{arith}
use lib.ListN.{drop}
use Rattle.record.specs.declared.types.Record.{Record}
use Rattle.modes.specs.Modes.{unknown}
use Rattle.polarity.specs.declared.types.Found.{Found}
use Rattle.polarity.specs.declared.types.Found.TheVariants.{Uncorrected}
use Rattle.polarity.specs.Word.{found_in, word_of}
use Rattle.trips.proofs.Words.{read_of_written}
use Rattle.register.specs.declared.types.Reader.{Reader}
use Rattle.register.specs.declared.types.Ways.TheVariants.{ForwardOnly}
use Rattle.hearing.specs.declared.types.Way.TheVariants.{Forward}
use Rattle.hearing.specs.declared.types.Heard.{Heard}
use Rattle.hearing.specs.declared.types.Heard.TheVariants.{Accepted}
use Rattle.hearing.specs.Window.{reporting}
use Rattle.following.specs.Reach.{answers, Reached}
use Rattle.following.specs.Following.{CodeWord, end_to_end, each_as_itself, FollowsAfter, FollowsInBlocksAfter, settled, Follows}
use Rattle.following.specs.Following.Settles.{forward_only}
use Rattle.following.proofs.Demand3.{in_blocks_lem, demand_3}
use Rattle.following.proofs.Tight.{tight}
use Rattle.following.proofs.Impostors as impostors
use Rattle.demands.specs.Carriers.{linear}
use Rattle.demands.proofs.Accepted.{on_lines_exactly}

-- "code words that demand 2 accepts": whatever demand 2 takes on the linear track, each word that is made of it, corrected or not, is one of them.
pub a_word_for_each :
    (make : Found) (mode : ℕ) (r : Record) → (linear make).Accepts mode r → (word : CodeWord mode) × (word.says ≡ r) × (word.bits ≡ word_of mode r make)
a_word_for_each make mode r ok =
    let read = read_of_written mode r ((on_lines_exactly mode r).1 ok.0, ok.1, ok.2) make in
    (record { bits = word_of mode r make; says = r; found = found_in (word_of mode r make); accepted = read }, refl, refl)

-- "Take a reader in any state that feeding can bring a fresh one to": reached by single steps over any elements, in a mode that is known; one that hears
-- forward only (of the others the file Reverse speaks). "feed it, unchanged and end to end, code words": one answer of `reader::step` for each bit. But for
-- the first five they are 79 times nothing and then the word's own record with what is found in it, word after word. Shut out, with the above: a reader that
-- refuses each word, one that never answers, one that reports one fixed address, one that passes over uncorrected words in silence.
pub each_word_as_itself :
    (reader : Reader) → Reached reader → unknown reader.mode ≡ false → reader.ways ≡ ForwardOnly → (words : List (CodeWord reader.mode))
    → drop settled (answers reader (end_to_end Forward words)) ≡ drop settled (each_as_itself Forward words)
each_word_as_itself = demand_3

-- The same of `reader::block`, in blocks cut anywhere, going on after each stop: with as many blocks as bits, each of which may take one, the run
-- comes to its end, with the answers of single steps, so each word as itself, and the reader is the one that single steps leave. Shut out: a block
-- step that does all at once and later only nods.
-- (The count of each block is `count_of_steps` in the crate `following`.)
pub each_word_in_blocks : FollowsInBlocksAfter settled ForwardOnly Forward
each_word_in_blocks = in_blocks_lem settled ForwardOnly Forward demand_3

-- "Earlier leftovers may still complete a false word in those first five bits": after fewer bits it could not be demanded.
pub not_before_the_fifth : (bits : ℕ) → bits < settled → FollowsAfter bits ForwardOnly Forward answers → ⊥
not_before_the_fifth = tight forward_only

-- Whatever an impostor gives for each report, be it nothing, a number or one fixed record, it does not follow.
pub no_impostor : (other : Heard) → Follows (impostors.relaying (impostors.always other)) → ⊥
no_impostor = impostors.no_impostor settled ForwardOnly Forward demand_3 (omega arith)

-- And whatever it gives for each uncorrected word in place of its report, be it nothing, 5 or the record as that of a corrected word, it does not follow.
pub no_impostor_of_uncorrected :
    (other : Record → Heard) → ((r : Record) → other r ≡ Accepted (reporting r Uncorrected Forward) → ⊥)
    → Follows (impostors.relaying (impostors.uncorrected_as other)) → ⊥
no_impostor_of_uncorrected = impostors.no_impostor_of_uncorrected settled ForwardOnly Forward demand_3 (omega arith)

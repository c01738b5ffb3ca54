-- Demand 3 as A3 changes it: "forward or backward words, all one way, are each reported at their last bit, and false reports are shut out only after the last
-- bit of the first whole word. A fed run that turns in the middle is covered again from the first whole word after the turn."
-- Assumes nothing.
use Prim.Native.Nat.{ℕ, ◌+◌, ◌<◌, ◌≤◌}
use mathlib.Core.Path.{◌≡◌}
use mathlib.Core.Bool.{false}
use mathlib.Core.List.{List, [], ◌++◌, reverse}
use native.Mathlib.Omega.{arith}
use lib.ListN.{length, take, drop}
use Rattle.bits.specs.Bits.{AllBits}
use Rattle.record.specs.declared.types.Record.{Record}
use Rattle.modes.specs.Modes.{unknown}
use Rattle.polarity.specs.declared.types.Found.TheVariants.{Uncorrected}
use Rattle.register.specs.declared.types.Reader.{Reader}
use Rattle.register.specs.declared.types.Ways.TheVariants.{Both}
use Rattle.hearing.specs.declared.types.Way.{Way}
use Rattle.hearing.specs.declared.types.Way.TheVariants.{Forward, Backward}
use Rattle.hearing.specs.declared.types.Report.{Report}
use Rattle.hearing.specs.declared.types.Heard.{Heard}
use Rattle.hearing.specs.declared.types.Heard.TheVariants.{Accepted}
use Rattle.hearing.specs.Window.{reporting}
use Rattle.hearing.specs.Looks.{running}
use Rattle.following.specs.Reach.{fed, answers, Reached}
use Rattle.following.specs.Cuts.{Cut, in_blocks, AllOpen}
use Rattle.following.specs.Following.{CodeWord, end_to_end, each_as_itself, FollowsAfter, FollowsInBlocksAfter, before_its_last}
use Rattle.following.specs.Following.Settles.{both_forward, both_backward}
use Rattle.following.proofs.Demand3.{follows, in_blocks_lem, demand_3_both_ways}
use Rattle.following.proofs.Turns.{covered_again, covered_again_in_blocks, turned_run}
use Rattle.following.proofs.Tight.{tight}
use Rattle.following.proofs.Impostors as impostors

-- "forward or backward words, all one way, are each reported at their last bit, and false reports are shut out only after the last bit of the first whole
-- word": but for the first 79 answers, the word's own record with what is found in it and its way, and then for each later word 79 times nothing and its report.
pub each_word_both_ways :
    (way : Way) (reader : Reader) → Reached reader → unknown reader.mode ≡ false → reader.ways ≡ Both → (words : List (CodeWord reader.mode))
    → drop before_its_last (answers reader (end_to_end way words)) ≡ drop before_its_last (each_as_itself way words)
each_word_both_ways = demand_3_both_ways

-- The same of `reader::block`, in blocks cut anywhere, with the reader that single steps leave.
pub both_ways_in_blocks : (way : Way) → FollowsInBlocksAfter before_its_last Both way
both_ways_in_blocks way = in_blocks_lem before_its_last Both way (demand_3_both_ways way)

-- Sharper than was asked: among forward words no false answer comes after the 69th bit of the first word, among backward words none after the fifth. And
-- after fewer bits it could not be demanded: leftovers may still complete a false word there.
pub forward_settled : FollowsAfter 69 Both Forward answers
forward_settled = follows both_forward

pub backward_settled : FollowsAfter 5 Both Backward answers
backward_settled = follows both_backward

pub forward_settled_in_blocks : FollowsInBlocksAfter 69 Both Forward
forward_settled_in_blocks = in_blocks_lem 69 Both Forward (follows both_forward)

pub backward_settled_in_blocks : FollowsInBlocksAfter 5 Both Backward
backward_settled_in_blocks = in_blocks_lem 5 Both Backward (follows both_backward)

pub not_before_the_69th : (bits : ℕ) → bits < 69 → FollowsAfter bits Both Forward answers → ⊥
not_before_the_69th = tight both_forward

pub not_before_the_fifth_backward : (bits : ℕ) → bits < 5 → FollowsAfter bits Both Backward answers → ⊥
not_before_the_fifth_backward = tight both_backward

-- "A fed run that turns in the middle is covered again from the first whole word after the turn": whatever was fed before.
pub after_a_turn :
    (way : Way) (reader : Reader) → Reached reader → unknown reader.mode ≡ false → reader.ways ≡ Both
    → (before : List ℕ) (words : List (CodeWord reader.mode))
    → drop before_its_last (answers (fed reader before) (end_to_end way words)) ≡ drop before_its_last (each_as_itself way words)
after_a_turn way = covered_again before_its_last Both way (demand_3_both_ways way)

-- And of a whole run of bits, in blocks cut anywhere, some of which may stand across the turn, with the answers of single steps and the reader that they leave.
pub after_a_turn_in_blocks :
    (way : Way) (reader : Reader) → Reached reader → unknown reader.mode ≡ false → reader.ways ≡ Both
    → (before : List ℕ) → AllBits before → (words : List (CodeWord reader.mode)) (cuts : List Cut)
    → AllOpen cuts → length (before ++ end_to_end way words) ≤ length cuts
    → ((in_blocks reader cuts (before ++ end_to_end way words)).left ≡ [])
    × ((in_blocks reader cuts (before ++ end_to_end way words)).heard ≡ answers reader (before ++ end_to_end way words))
    × (drop (length before + before_its_last) (in_blocks reader cuts (before ++ end_to_end way words)).heard ≡ drop before_its_last (each_as_itself way words))
    × ((in_blocks reader cuts (before ++ end_to_end way words)).reader ≡ fed reader (before ++ end_to_end way words))
after_a_turn_in_blocks way = covered_again_in_blocks before_its_last Both way (demand_3_both_ways way)

-- So where the tape turns inside a word: words one way, then so many bits of a word and the same bits back, and then words the other way, or again the
-- same. The answers are those of the three parts, and the first and the last are covered.
pub turns_inside_a_word :
    (reader : Reader) → Reached reader → unknown reader.mode ≡ false → reader.ways ≡ Both → (way next : Way) (words : List (CodeWord reader.mode))
    (word : CodeWord reader.mode) (places : ℕ) (later : List (CodeWord reader.mode))
    → (answers reader
    ((end_to_end way words ++ (take places (running way word.bits) ++ reverse (take places (running way word.bits)))) ++ end_to_end next later)
    ≡ (answers reader (end_to_end way words)
    ++ answers (fed reader (end_to_end way words)) (take places (running way word.bits) ++ reverse (take places (running way word.bits))))
    ++ answers
    (fed reader (end_to_end way words ++ (take places (running way word.bits) ++ reverse (take places (running way word.bits)))))
    (end_to_end next later))
    × (drop before_its_last (answers reader (end_to_end way words)) ≡ drop before_its_last (each_as_itself way words))
    × (drop before_its_last
    (answers
    (fed reader (end_to_end way words ++ (take places (running way word.bits) ++ reverse (take places (running way word.bits)))))
    (end_to_end next later))
    ≡ drop before_its_last (each_as_itself next later))
turns_inside_a_word = turned_run

-- Whatever an impostor gives for each report, be it nothing, a number or one fixed record, it does not follow, whichever way the words run; nor does one that
-- gives anything but its report for each uncorrected word; nor one that does so even of one word that runs backward: that tells it as forward, say, or with
-- other groups.
pub no_impostor_either_way : (way : Way) (other : Heard) → FollowsAfter before_its_last Both way (impostors.relaying (impostors.always other)) → ⊥
no_impostor_either_way way = impostors.no_impostor before_its_last Both way (demand_3_both_ways way) (omega arith)

pub no_impostor_of_uncorrected_either_way :
    (way : Way) (other : Record → Heard) → ((r : Record) → other r ≡ Accepted (reporting r Uncorrected way) → ⊥)
    → FollowsAfter before_its_last Both way (impostors.relaying (impostors.uncorrected_as other)) → ⊥
no_impostor_of_uncorrected_either_way way = impostors.no_impostor_of_uncorrected before_its_last Both way (demand_3_both_ways way) (omega arith)

pub no_impostor_of_backward :
    (other : Report → Heard) (mode : ℕ) → unknown mode ≡ false → (word : CodeWord mode)
    → (other (reporting word.says word.found Backward) ≡ Accepted (reporting word.says word.found Backward) → ⊥)
    → FollowsAfter before_its_last Both Backward (impostors.relaying (impostors.backward_as other)) → ⊥
no_impostor_of_backward = impostors.no_impostor_of_backward

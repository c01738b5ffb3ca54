-- "A fed run that turns in the middle is covered again from the first whole word after the turn": whatever was fed before.
-- Assumes nothing.
use Prim.Native.Nat.{ℕ, ◌+◌, ◌≤◌}
use mathlib.Core.Path.{◌≡◌, refl, sym, ap, ap₂, subst, ◌∙◌}
use mathlib.Core.Bool.{false}
use mathlib.Core.List.{List, [], ◌∷◌, ◌++◌, reverse}
use lib.ListN.{length, take, drop}
use lib.Seq.{drop_at, drop-drop}
use Rattle.bits.specs.Bits.{AllBits}
use Rattle.bits.proofs.Bit.{within_append}
use Rattle.modes.specs.Modes.{unknown}
use Rattle.register.specs.declared.types.Reader.{Reader}
use Rattle.register.specs.declared.types.Ways.{Ways}
use Rattle.register.specs.declared.types.Ways.TheVariants.{Both}
use Rattle.hearing.specs.declared.types.Way.{Way}
use Rattle.hearing.specs.declared.types.Heard.{Heard}
use Rattle.register.specs.Held.{fresh_of}
use Rattle.hearing.specs.Looks.{running}
use Rattle.reader.specs.Steps.{stepped_of}
use Rattle.following.specs.Reach.{fed, answers, Reached}
use Rattle.following.specs.Cuts.{Cut, in_blocks, AllOpen}
use Rattle.following.specs.Following.{CodeWord, end_to_end, each_as_itself, FollowsAfter, before_its_last}
use Rattle.following.proofs.Cut.{fed_cut, answers_cut, one_answer_each}
use Rattle.following.proofs.CutAnywhere.{cut_to_the_end, comes_to_the_end}
use Rattle.following.proofs.Passing.{step_keeps}
use Rattle.following.proofs.CodeWords.{words_clean}
use Rattle.following.proofs.Demand3.{demand_3_both_ways}

-- what feeding leaves is reached, and in the same mode and ways
pub fed_keeps : (elements : List ℕ) (reader : Reader) → ((fed reader elements).mode ≡ reader.mode) × ((fed reader elements).ways ≡ reader.ways)
unfolding fed
fed_keeps [] reader = (refl, refl)
fed_keeps (element ∷ elements) reader =
    let once = step_keeps reader element in
    let rest = fed_keeps elements (stepped_of reader element).reader in
    (rest.0 ∙ once.0, rest.1 ∙ once.1)

pub fed_reached : (elements : List ℕ) (reader : Reader) → Reached reader → Reached (fed reader elements)
fed_reached elements reader reached =
    let keeps = fed_keeps elements reader in
    record {
      elements = reached.elements ++ elements;
      brought =
          ap₂ (λ (mode : ℕ) (ways : Ways). fed (fresh_of mode ways) (reached.elements ++ elements)) keeps.0 keeps.1
          ∙ fed_cut reached.elements elements (fresh_of reader.mode reader.ways)
          ∙ ap (λ (r : Reader). fed r elements) reached.brought;
    }

-- the words after it, whatever was fed before
pub covered_again :
    (bits : ℕ) (ways : Ways) (way : Way) → FollowsAfter bits ways way answers
    → (reader : Reader) → Reached reader → unknown reader.mode ≡ false → reader.ways ≡ ways → (before : List ℕ) (words : List (CodeWord reader.mode))
    → drop bits (answers (fed reader before) (end_to_end way words)) ≡ drop bits (each_as_itself way words)
covered_again bits ways way follow reader reached known hears before =
    let keeps = fed_keeps before reader in
    subst
    (λ (mode : ℕ).
    (words : List (CodeWord mode)) → drop bits (answers (fed reader before) (end_to_end way words)) ≡ drop bits (each_as_itself way words))
    keeps.0
    (follow (fed reader before) (fed_reached before reader reached) (rw keeps.0 known) (keeps.1 ∙ hears))

-- the same of a whole run, fed in blocks cut anywhere, some of which may stand across the turn
module _
    (bits : ℕ) (ways : Ways) (way : Way) (follow : FollowsAfter bits ways way answers) (reader : Reader) (reached : Reached reader)
    (known : unknown reader.mode ≡ false) (hears : reader.ways ≡ ways) (before : List ℕ) (clean : AllBits before) (words : List (CodeWord reader.mode)) where
  run_after : drop (length before + bits) (answers reader (before ++ end_to_end way words)) ≡ drop bits (each_as_itself way words)
  run_after =
      let first = answers reader before in
      let later = answers (fed reader before) (end_to_end way words) in
      let size : length first ≡ length before = one_answer_each before reader in
      ap (drop (length before + bits)) (answers_cut before (end_to_end way words) reader)
      ∙ sym (drop-drop bits (length before) (first ++ later))
      ∙ ap (drop bits) (drop_at first later (length before) size)
      ∙ covered_again bits ways way follow reader reached known hears before words

  pub covered_again_in_blocks :
      (cuts : List Cut) → AllOpen cuts → length (before ++ end_to_end way words) ≤ length cuts
      → ((in_blocks reader cuts (before ++ end_to_end way words)).left ≡ [])
      × ((in_blocks reader cuts (before ++ end_to_end way words)).heard ≡ answers reader (before ++ end_to_end way words))
      × (drop (length before + bits) (in_blocks reader cuts (before ++ end_to_end way words)).heard ≡ drop bits (each_as_itself way words))
      × ((in_blocks reader cuts (before ++ end_to_end way words)).reader ≡ fed reader (before ++ end_to_end way words))
  covered_again_in_blocks cuts each enough =
      let run = before ++ end_to_end way words in
      let all : AllBits run = within_append 1 before (end_to_end way words) clean (words_clean way words) in
      let ended = comes_to_the_end reader known reached cuts run all each enough in
      let same = cut_to_the_end reader known reached cuts run all ended in
      (ended, same.0, ap (drop (length before + bits)) same.0 ∙ run_after, same.1)

-- words one way, so many bits of a word and the same bits back, and words in whatever way: the answers are those of the parts, and the first and the last are
-- covered
module _
    (reader : Reader) (reached : Reached reader) (known : unknown reader.mode ≡ false) (both : reader.ways ≡ Both) (way next : Way)
    (words : List (CodeWord reader.mode)) (word : CodeWord reader.mode) (places : ℕ) (later : List (CodeWord reader.mode)) where
  abbrev pub part : List ℕ
  part = take places (running way word.bits)

  abbrev pub before : List ℕ
  before = end_to_end way words ++ (part ++ reverse part)

  pub turned_run :
      (answers reader (before ++ end_to_end next later)
      ≡ (answers reader (end_to_end way words) ++ answers (fed reader (end_to_end way words)) (part ++ reverse part)) ++ answers (fed reader before) (end_to_end next later))
      × (drop before_its_last (answers reader (end_to_end way words)) ≡ drop before_its_last (each_as_itself way words))
      × (drop before_its_last (answers (fed reader before) (end_to_end next later)) ≡ drop before_its_last (each_as_itself next later))
  turned_run = (
    answers_cut before (end_to_end next later) reader
        ∙ ap (λ (l : List Heard). l ++ answers (fed reader before) (end_to_end next later)) (answers_cut (end_to_end way words) (part ++ reverse part) reader),
    demand_3_both_ways way reader reached known both words,
    covered_again before_its_last Both next (demand_3_both_ways next) reader reached known both before later,
  )

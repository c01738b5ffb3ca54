-- Demand 3. A reader in any state that feeding can bring a fresh one to, fed accepted code words end to end, all one way, reports each as itself at its
-- 80th bit, and says nothing else once it has settled.
-- Assumes nothing.
use Prim.Native.Nat.{ℕ, ◌+◌, ◌-◌, ◌<◌, ◌≤◌}
use mathlib.Core.Path.{◌≡◌, refl, sym, ap, ap₂, ◌∙◌}
use mathlib.Core.Bool.{Bool, true, false}
use mathlib.Core.List.{List, [], ◌∷◌, ◌++◌, append-nil, append_assoc}
use native.Mathlib.Omega.{arith}
use lib.Dec.{ltb}
use lib.ListN.{length, take, drop, replicate, take-append-drop, length-drop}
use lib.Seq.{drop_at, drop-drop, length-take-le}
use borrow.Author.Tests.{ltb-true, ltb-false}
use Rattle.modes.specs.Modes.{unknown}
use Rattle.register.specs.declared.types.Reader.{Reader}
use Rattle.register.specs.declared.types.Ways.{Ways}
use Rattle.register.specs.declared.types.Ways.TheVariants.{Both}
use Rattle.hearing.specs.declared.types.Way.{Way}
use Rattle.hearing.specs.declared.types.Way.TheVariants.{Forward, Backward}
use Rattle.hearing.specs.declared.types.Heard.{Heard}
use Rattle.hearing.specs.declared.types.Heard.TheVariants.{Nothing, Accepted}
use Rattle.hearing.specs.Window.{reporting, heard_in}
use Rattle.following.specs.Reach.{answers, Reached}
use Rattle.following.specs.Cuts.{Cut, in_blocks}
use Rattle.register.specs.Held.{held_bits, latest}
use Rattle.hearing.specs.Looks.{running}
use Rattle.following.specs.Following.{CodeWord, end_to_end, each_as_itself, FollowsAfter, FollowsInBlocksAfter, Follows, before_its_last, FollowsBothWays, Settles}
use Rattle.following.specs.Following.Settles.{forward_only, both_forward, both_backward}
use Rattle.register.proofs.Registers.{register_length}
use Rattle.following.proofs.Passing.{reached_passing}
use Rattle.following.proofs.CutAnywhere.{cut_to_the_end, comes_to_the_end}
use Rattle.following.proofs.CodeWords.{running_long, words_clean}
use Rattle.following.proofs.Quiet.{settles_late, inside_quiet, after_quiet}
use Rattle.following.proofs.Whole.{heard_whole}
use Rattle.following.proofs.Heeded.{heard_after, heard_cut, heard_length, answers_after, heeded}

-- of the 79 bits before a word's last, those after it is settled
left_of :
    {ways : Ways} {way : Way} {from : ℕ} → Settles ways way from → (last more : List Heard)
    → drop from ((replicate 79 Nothing ++ last) ++ more) ≡ (replicate (79 - from) Nothing ++ last) ++ more
left_of forward_only last more = refl
left_of both_forward last more = refl
left_of both_backward last more = refl

module _ {mode : ℕ} {ways : Ways} {way : Way} {from : ℕ} (settles : Settles ways way from) where
  -- after a past, the word from one of its bits on
  reported :
      (word : CodeWord mode) (past : List ℕ) (quiet_from : ℕ) → quiet_from < 80
      → ((xs rest : List ℕ) → running way word.bits ≡ xs ++ rest → length xs < 80 → quiet_from < length xs → heard_in mode ways (latest (past ++ xs)) ≡ Nothing)
      → heard_after (heard_in mode ways) (past ++ take quiet_from (running way word.bits)) (drop quiet_from (running way word.bits))
      ≡ replicate (79 - quiet_from) Nothing ++ (Accepted (reporting word.says word.found way) ∷ [])
  reported word past quiet_from within quiet =
      heeded (heard_in mode ways) (running way word.bits) (running_long way word) (Accepted (reporting word.says word.found way)) (heard_whole word settles) past
      quiet_from
      quiet
      within

  -- after a whole word, each word from its first bit on
  later :
      (past : List ℕ) (before : CodeWord mode) (words : List (CodeWord mode))
      → heard_after (heard_in mode ways) (past ++ running way before.bits) (end_to_end way words) ≡ each_as_itself way words
  unfolding heard_after end_to_end each_as_itself
  later past before [] = refl
  later past before (word ∷ words) =
      heard_cut (heard_in mode ways) (past ++ running way before.bits) (running way word.bits) (end_to_end way words)
      ∙ ap₂ (λ (xs ys : List Heard). xs ++ ys)
      (rw append-nil at (reported word (past ++ running way before.bits) 0 (omega arith) quiet))
      (later (past ++ running way before.bits) word words)
    where
      quiet :
          (xs rest : List ℕ) → running way word.bits ≡ xs ++ rest → length xs < 80 → 0 < length xs
          → heard_in mode ways (latest ((past ++ running way before.bits) ++ xs)) ≡ Nothing
      quiet xs rest parts short some = go (ltb from (length xs)) refl
        where
          go : (t : Bool) → ltb from (length xs) ≡ t → heard_in mode ways (latest ((past ++ running way before.bits) ++ xs)) ≡ Nothing
          go true t = inside_quiet settles word (past ++ running way before.bits) xs rest parts short (ltb-true from (length xs) t)
          go false t =
              after_quiet settles word (past ++ running way before.bits) xs rest parts short before past refl some (ltb-false from (length xs) t)

  -- after any past, the first word once it is settled
  first : (past : List ℕ) (words : List (CodeWord mode)) → drop from (heard_after (heard_in mode ways) past (end_to_end way words)) ≡ drop from (each_as_itself way words)
  unfolding heard_after end_to_end each_as_itself
  first past [] = refl
  first past (word ∷ words) =
      let bits = running way word.bits in
      let late = (settles_late settles).1 in
      let early = heard_after (heard_in mode ways) past (take from bits) in
      let rest = heard_after (heard_in mode ways) (past ++ take from bits) (drop from bits) in
      let split : heard_after (heard_in mode ways) past bits ≡ early ++ rest =
      ap (heard_after (heard_in mode ways) past) (sym (take-append-drop from bits)) ∙ heard_cut (heard_in mode ways) past (take from bits) (drop from bits) in
      let size : length early ≡ from = heard_length (heard_in mode ways) past (take from bits) ∙ length-take-le from bits (let long = running_long way word in omega arith) in
      rw (heard_cut (heard_in mode ways) past bits (end_to_end way words), split, append_assoc early rest (heard_after (heard_in mode ways) (past ++ bits) (end_to_end way words)))
      (drop_at early (rest ++ heard_after (heard_in mode ways) (past ++ bits) (end_to_end way words)) from size
      ∙ ap₂ (λ (xs ys : List Heard). xs ++ ys)
      (reported word past from (omega arith) (λ xs after parts short. inside_quiet settles word past xs after parts short))
      (later past word words)
      ∙ sym (left_of settles (Accepted (reporting word.says word.found way) ∷ []) (each_as_itself way words)))

-- in any state that feeding can bring a fresh one to
pub follows : {ways : Ways} {way : Way} {from : ℕ} → Settles ways way from → FollowsAfter from ways way answers
follows {ways} {way} {from} settles reader reached known hears words =
    let sound = reached_passing reader known reached in
    let held = held_bits reader in
    let none : length held - 80 ≡ 0 = rw (length-drop, register_length reader) (omega arith) in
    ap (drop from)
    (answers_after (end_to_end way words) reader held sound (rw none) (words_clean way words)
    ∙ ap (λ (w : Ways). heard_after (heard_in reader.mode w) held (end_to_end way words)) hears)
    ∙ first settles held words

module _ (bits : ℕ) (ways : Ways) (way : Way) where
  -- after more bits the same holds
  follows_later : (more : ℕ) → bits ≤ more → FollowsAfter bits ways way answers → FollowsAfter more ways way answers
  follows_later more fewer follow reader reached known hears words =
      let on : bits + (more - bits) ≡ more = omega arith in
      rw on at
      (sym (drop-drop (more - bits) bits (answers reader (end_to_end way words)))
      ∙ ap (drop (more - bits)) (follow reader reached known hears words)
      ∙ drop-drop (more - bits) bits (each_as_itself way words))

  -- and of blocks, whatever the cuts are, where they come to the end
  pub to_the_end :
      FollowsAfter bits ways way answers
      → (reader : Reader) → Reached reader → unknown reader.mode ≡ false → reader.ways ≡ ways → (words : List (CodeWord reader.mode)) (cuts : List Cut)
      → (in_blocks reader cuts (end_to_end way words)).left ≡ []
      → drop bits (in_blocks reader cuts (end_to_end way words)).heard ≡ drop bits (each_as_itself way words)
  to_the_end follow reader reached known hears words cuts ended =
      ap (drop bits) (cut_to_the_end reader known reached cuts (end_to_end way words) (words_clean way words) ended).0
      ∙ follow reader reached known hears words

  -- as they do where each may take a bit
  pub in_blocks_lem : FollowsAfter bits ways way answers → FollowsInBlocksAfter bits ways way
  in_blocks_lem follow reader reached known hears words cuts each enough =
      let run = end_to_end way words in
      let clean = words_clean way words in
      let ended = comes_to_the_end reader known reached cuts run clean each enough in
      let same = cut_to_the_end reader known reached cuts run clean ended in
      (ended, same.0, to_the_end follow reader reached known hears words cuts ended, same.1)

pub demand_3 : Follows answers
demand_3 = follows forward_only

-- A3: readers that hear both ways
pub demand_3_both_ways : FollowsBothWays answers
demand_3_both_ways Forward = follows_later 69 Both Forward before_its_last (omega arith) (follows both_forward)
demand_3_both_ways Backward = follows_later 5 Both Backward before_its_last (omega arith) (follows both_backward)

-- A reader that is fed, a bit or a block, the same law for both: with ways that are none 2, 13 or 3 is given and the reader comes back as it was; else the reader answers, and what it refuses it too
-- gives back as it was given.
-- Assumes nothing.
use mathlib.Core.Path.{◌≡◌, ap, ◌∙◌}
use mathlib.Core.Bool.{Bool, true, false}
use mathlib.Core.List.{List, ◌++◌}
use Rattle.refusals.specs.declared.types.Refusal.{Refusal}
use Rattle.refusals.specs.Answer.{Cause, answer}
use Rattle.refusals.proofs.Answered.{carried}
use Rattle.register.specs.declared.types.Reader.{Reader}
use Rattle.hearing.specs.declared.types.Heard.TheVariants.{Refused as Unheard}
use Rattle.reader.specs.Steps.{reader_refusals}
use Rattle.plain.specs.declared.types.PlainReader.{PlainReader}
use Rattle.plain.specs.declared.types.PlainHeard.{PlainHeard}
use Rattle.plain.specs.Given.{reader_given, no_ways}
use Rattle.plain.specs.Shown.{reader_shown}
use Rattle.plain.specs.Answers.{heard_shown}
use Rattle.plain.proofs.Back.{reader_back}
use Rattle.host.specs.Unnamed.{after_reader}
use Rattle.host.specs.Reading.{reader_rows}
use Rattle.host.proofs.Firsts.{unnamed, named}

-- S is what a reader answers, A what a host is answered: `shown` makes the one of the other, `back` puts a reader beside what was heard, `refusing` is the reader's own refusal
module _
    {S A : Type 0} (shown : S → A) (back : PlainHeard → PlainReader → A) (refusing : Reader → Refusal → S) (r : PlainReader)
    (as_shown : (n : Refusal) → shown (refusing (reader_given r) n) ≡ back (heard_shown (Unheard n)) (reader_shown (reader_given r))) where
  -- a refusal, the reader as it was
  abbrev unheard : Refusal → A
  unheard n = back (heard_shown (Unheard n)) r

  pub turned_away :
      (none : Bool) → none ≡ no_ways r.ways → none ≡ true → (given : Reader) (k : Refusal) (heard : PlainHeard) (answered : A) → given ≡ reader_given r
      → k ≡ after_reader given → heard ≡ heard_shown (Unheard k) → back heard r ≡ answer unheard (reader_rows r) answered
  turned_away none asked e given k heard answered from is told =
      ap (λ h. back h r) told
      ∙ unnamed unheard (reader_refusals (reader_given r)) (no_ways r.ways) answered k (rw (← asked) e) (is ∙ ap after_reader from)

  -- the reader's own list, of what a host is answered
  pub its_own :
      no_ways r.ways ≡ false → (rows : List Cause) (accepted : S)
      → shown (answer (refusing (reader_given r)) rows accepted) ≡ answer unheard rows (shown accepted)
  its_own within rows accepted =
      let same : (n : Refusal) → shown (refusing (reader_given r) n) ≡ unheard n =
      λ n. as_shown n ∙ ap (back (heard_shown (Unheard n))) (reader_back r within) in
      carried shown (refusing (reader_given r)) accepted rows ∙ ap (λ (f : Refusal → A). answer f rows (shown accepted)) (λ i n. same n i)

  pub answered :
      (none : Bool) → none ≡ no_ways r.ways → none ≡ false → (rest rows : List Cause) → rows ≡ reader_refusals (reader_given r) ++ rest → (accepted : S) (a : A)
      → a ≡ shown (answer (refusing (reader_given r)) rows accepted)
      → a ≡ answer unheard (reader_rows r) (shown (answer (refusing (reader_given r)) rows accepted))
  answered none asked e rest rows begins accepted a told =
      let within : no_ways r.ways ≡ false = rw (← asked) e in
      told
      ∙ named unheard (reader_refusals (reader_given r)) rest rows begins (no_ways r.ways) (shown accepted)
      (shown (answer (refusing (reader_given r)) rows accepted)) within (its_own within rows accepted)

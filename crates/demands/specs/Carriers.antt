-- Demand 2 of what carries a record, "read or written": what is written, what is read, and that the two match one to one. What the elements mean is in
-- the definitions of the carriers, to be held beside the standard. And demand 1 of a write "that is turned away".
-- Assumes nothing.
use Rattle.refusals.specs.declared.types.Refusal.{Refusal}
use Rattle.std.specs.Prelude.{ℕ, ◌+◌, ◌<◌, ◌≤◌, ◌≡◌, true, cond, List, ◌↔◌, ◌⊎◌, length, Err, Ok}
use Rattle.runs.specs.Run.{placed}
use Rattle.rates.specs.declared.types.Flag.{Flag}
use Rattle.rates.specs.declared.types.Flag.TheVariants.{No, Yes}
use Rattle.record.specs.declared.types.Record.{Record}
use Rattle.record.specs.Record.{marked}
use Rattle.modes.specs.Calls.{information_in}
use Rattle.polarity.specs.declared.types.Found.{Found}
use Rattle.polarity.specs.declared.types.Found.TheVariants.{Corrected, Uncorrected}
use Rattle.polarity.specs.Word.{reading, word_with, odd_zeros}
use Rattle.ltc.specs.Calls as ltc
use Rattle.vitc.specs.Calls as vitc
use Rattle.atc.specs.declared.types.Interface.{Interface}
use Rattle.atc.specs.declared.types.Contents.{Contents}
use Rattle.atc.specs.Calls as atc
use Rattle.demands.specs.Records.{Acceptable, OnLines, FirstPicture, MarkSays, PacketShows}
use Rattle.demands.specs.Table4.{ClaimsImpossibleLine}
use Rattle.demands.specs.Families.{PayloadType, NamesMode}

-- What is needed of the bounds that the types of a carrier's calls set; what it takes, by mode; and what its calls promise: that a write of a content from a
-- start in a lent run is done; that it is refused with a number; the run as the write leaves it; and that a read of some elements gives a content.
pub record Carrier (Content : Type 0) : Type 1 where
  pub size : ℕ
  pub Given : Content → Type 0
  pub Accepts : ℕ → Content → Type 0
  pub Writes : ℕ → Content → ℕ → List ℕ → Type 0
  pub Refuses : ℕ → Content → ℕ → List ℕ → Refusal → Type 0
  pub leaves : ℕ → Content → ℕ → List ℕ → List ℕ
  pub Reads : ℕ → List ℕ → Content → Type 0

-- 80 bits of a linear track, made and found corrected or uncorrected: `ltc::write` and `ltc::read`. The record's mark is no, and it is of the first picture
abbrev pub linear : Found → Carrier Record
linear make =
    record {
      size = 80;
      Given = λ r. Unit {0};
      Accepts = λ mode r. OnLines mode r × (r.flags.mark ≡ No) × FirstPicture r;
      Writes = λ mode r start run. ltc.written_of mode r start run ≡ Ok tt;
      Refuses = λ mode r start run number. ltc.written_of mode r start run ≡ Err number;
      leaves = λ mode r. ltc.run_of mode r make;
      Reads = λ mode word r. ltc.read_of mode word ≡ Ok (reading r make);
    }

-- the linear word of a record with the polarity bit so
abbrev pub with_bit : Flag → ℕ → Record → List ℕ
with_bit bit mode r = word_with (information_in mode (marked bit r))

-- "sets the polarity bit only if correction is desired, and leaves it 0 otherwise": where it is desired, it is set where the zeros would else be odd
abbrev pub bit_for : Found → ℕ → Record → Flag
bit_for Corrected mode r = cond (odd_zeros (with_bit No mode r)) Yes No
bit_for Uncorrected mode r = No

-- Where a word is found as it was made: a corrected one always; an uncorrected one only where its zeros, with the polarity bit 0, are odd. Where they happen to be
-- even it is the corrected word too, and is read as that.
abbrev pub FoundAsMade : Found → ℕ → Record → Type 0
FoundAsMade Corrected mode r = Unit {0}
FoundAsMade Uncorrected mode r = odd_zeros (with_bit No mode r) ≡ true

-- 90 bits of a vertical interval line: `vitc::write` and `vitc::read`. Of a pair, the mark says which picture
abbrev pub interval : Carrier Record
interval =
    record {
      size = 90;
      Given = λ r. Unit {0};
      Accepts = λ mode r. OnLines mode r × MarkSays mode r;
      Writes = λ mode r start run. vitc.written_of mode r start run ≡ Ok tt;
      Refuses = λ mode r start run number. vitc.written_of mode r start run ≡ Err number;
      leaves = vitc.run_of;
      Reads = λ mode line r. vitc.read_of mode line ≡ Ok r;
    }

-- 23 words of an ancillary packet on an interface: `atc::write` and `atc::read`. The payload type is one of the mode's family, the second byte is a byte, and it
-- claims no line that can't be, or names the mode; and the picture is the one that a packet of the type shows
abbrev pub ancillary : Interface → Carrier Contents
ancillary interface =
    record {
      size = 23;
      Given = λ c. c.second < 256;
      Accepts =
          λ mode c. Acceptable mode c.«record» × PayloadType mode c.payload_type × (c.second < 256)
          × (ClaimsImpossibleLine interface c.payload_type c.second → ⊥) × PacketShows mode c.payload_type c.«record»
          × NamesMode mode c.second;
      Writes = λ mode c start run. (c.second < 256) × (atc.written_of mode interface c.«record» c.payload_type c.second start run ≡ Ok tt);
      Refuses = λ mode c start run number. atc.written_of mode interface c.«record» c.payload_type c.second start run ≡ Err number;
      leaves = λ mode c. atc.run_of mode interface c.«record» c.payload_type c.second;
      Reads = λ mode words c. atc.read_of mode interface words ≡ Ok c;
    }

-- the same carrier, which accepts and writes some contents only; what is read stays, so that its laws say that nothing else is read
abbrev pub only : {Content : Type 0} → (ℕ → Content → Type 0) → Carrier Content → Carrier Content
only Some carrier =
    record {
      size = carrier.size;
      Given = carrier.Given;
      Accepts = λ mode c. carrier.Accepts mode c × Some mode c;
      Writes = λ mode c start run. carrier.Writes mode c start run × Some mode c;
      Refuses = carrier.Refuses;
      leaves = carrier.leaves;
      Reads = carrier.Reads;
    }

module _ {Content : Type 0} (carrier : Carrier Content) where
  -- Every write is done, or it is refused with a number, and never both.
  abbrev pub DoneOrRefused : Type 0
  DoneOrRefused =
      (mode : ℕ) (content : Content) (start : ℕ) (run : List ℕ) → carrier.Given content
      → (carrier.Writes mode content start run ⊎ ((number : Refusal) × carrier.Refuses mode content start run number))
      × ((number : Refusal) → carrier.Writes mode content start run → carrier.Refuses mode content start run number → ⊥)

  -- "A write that is turned away changes no element lent to it": refused with whatever number, it leaves the run that it was lent.
  abbrev pub Unchanged : Type 0
  Unchanged =
      (mode : ℕ) (content : Content) (start : ℕ) (run : List ℕ) (number : Refusal) → carrier.Refuses mode content start run number
      → carrier.leaves mode content start run ≡ run

  -- A write is done exactly where there is room and the carrier takes the content.
  abbrev pub Accepting : Type 0
  Accepting =
      (mode : ℕ) (content : Content) (start : ℕ) (run : List ℕ)
      → carrier.Writes mode content start run ↔ ((start + carrier.size ≤ length run) × carrier.Accepts mode content)

  -- And some elements read as a content exactly where the carrier takes it.
  abbrev pub Reading : Type 0
  Reading = (mode : ℕ) (content : Content) → ((elements : List ℕ) × carrier.Reads mode elements content) ↔ carrier.Accepts mode content

  -- A run of elements reads as a content exactly where a write of the content, given room, is done and leaves these elements from its start on and
  -- every other element as it was. So what is read can be written, and what a writer leaves in the lent run reads as what was written.
  abbrev pub Matches : Type 0
  Matches =
      (mode : ℕ) (content : Content) (start : ℕ) (run elements : List ℕ) → start + carrier.size ≤ length run
      → (carrier.Writes mode content start run × (length elements ≡ carrier.size) × (carrier.leaves mode content start run ≡ placed start elements run))
      ↔ carrier.Reads mode elements content

-- The numbers of the refusals, and what an answer tells. Assumes nothing.
--     number          the number that each refusal has
--     told            what a call's answer tells: nothing where it was carried out
use Rattle.std.specs.Prelude.{ℕ, Some, None, Ok, Err, Option, Result}
use Rattle.book.specs.declared.refusal.Layer.{Layer}
use Rattle.book.specs.declared.refusal.Refusal.{Refusal}
use Rattle.book.specs.declared.refusal.Refusal.TheVariants.{NoSuchLine, LineStands, LineEmpty, OutOfRange, SameEnds, NoActivity, StillNamed, NoSuchEvent, Contradictory, NoSuchStep, NoSuchDatePlace, DatePlaceEmpty, NoForm, BufferTooShort, TextTooLong}
use Rattle.book.specs.declared.refusal.Refused.{Refused}

abbrev pub number : Refusal → ℕ
number NoSuchLine = 1
number LineStands = 2
number LineEmpty = 3
number OutOfRange = 4
number SameEnds = 5
number NoActivity = 6
number StillNamed = 7
number NoSuchEvent = 8
number Contradictory = 9
number NoSuchStep = 10
number NoSuchDatePlace = 11
number DatePlaceEmpty = 12
number NoForm = 13
number BufferTooShort = 14
number TextTooLong = 15

pub record Told : Type 0 where
  pub number : ℕ
  pub layer : Layer
  pub place : ℕ

abbrev pub refused_by : Layer → ℕ → Refusal → Told
refused_by l p k = record { number = number k; layer = l; place = p }

abbrev pub told : {T : Type 0} → Result T Refused → Option Told
told (Ok x) = None
told (Err k) = Some (refused_by k.layer k.place k.why)

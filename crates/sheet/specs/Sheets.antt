-- The sheet of an issued plan, and its delivery. Assumes nothing.
--     spans_of span_of m      the span on each line
--     owned m s             a step of a ring, with the owner of its place
--     SheetOf .. fs         the forms fs are the sheet
--     rendered fs           their bytes
--     Delivered ..          the sheet is in the caller's bytes, or it is refused and they are as they were
use Rattle.std.specs.Prelude.{◌≡◌, ℕ, cond, List, [], ◌∷◌, ◌++◌, map, length, drop, Ok, Err, Option, Result, nat_le}
use Rattle.network.specs.declared.gap.Step.{Step}
use Rattle.network.specs.Meanings.{Meaning}
use Rattle.book.specs.declared.refusal.Refused.{Refused}
use Rattle.book.specs.declared.refusal.Refusal.TheVariants.{BufferTooShort}
use Rattle.book.specs.Rules.{BookMeaning, network_of, after}
use Rattle.plan.specs.Readings.{refused_at}
use Rattle.solver.specs.declared.ring.Ring.{Ring}
use Rattle.solver.specs.declared.times.Times.{Times}
use Rattle.solver.specs.RingSteps.{ring_steps}
use Rattle.sheet_forms.specs.declared.form.Row.{Row}
use Rattle.sheet_forms.specs.declared.form.SheetForm.{SheetForm}
use Rattle.sheet_forms.specs.declared.form.SheetForm.TheVariants as form
use Rattle.sheet_forms.specs.Shown.{shown}
use Rattle.sheet.specs.declared.span.Span.{Span}
use Rattle.sheet.specs.Rows.{RowsFor}

abbrev pub spans_of : {E : Type 0} → (E → ℕ → Option Span) → BookMeaning E → ℕ → Option Span
spans_of span_of m p = after (m.ledger.line p) (λ e. span_of e p)

abbrev pub owned : Meaning → Step → SheetForm
owned m s = form.Step (record { owner = m.owner s.place; gap = s.gap })

-- a length, a row for each span, and the count of the rows
pub record SoundSheet (m : Meaning) (ts : Times) (spans : ℕ → Option Span) (lines : ℕ) (fs : List SheetForm) : Type 0 where
  pub rows : List Row
  pub each : RowsFor m (Ok ts) spans 1 lines rows
  pub all : fs ≡ form.Length ts.length ∷ (map form.Line rows ++ (form.End (length rows) ∷ []))

abbrev pub ring_sheet : Meaning → List Step → List SheetForm
ring_sheet m steps = form.Contradiction (length steps) ∷ (map (owned m) steps ++ (form.End (length steps) ∷ []))

abbrev pub SheetOf : {E : Type 0} → (E → ℕ → Option Span) → BookMeaning E → Result Times Ring → List SheetForm → Type 0
SheetOf span_of m (Ok ts) fs = SoundSheet (network_of m) ts (spans_of span_of m) m.rule.lines fs
SheetOf span_of m (Err ring) fs = fs ≡ ring_sheet (network_of m) (ring_steps ring)

abbrev pub rendered : List SheetForm → List ℕ
rendered [] = []
rendered (f ∷ fs) = shown f ++ rendered fs

-- refused exactly where the slice is shorter than the sheet; past the sheet it is as it was
pub record Delivered {E : Type 0} (span_of : E → ℕ → Option Span) (m : BookMeaning E) (outcome : Result Times Ring) (before now : List ℕ) (answer : Result ℕ Refused) : Type 0 where
  pub forms : List SheetForm
  pub sheet : SheetOf span_of m outcome forms
  pub told : answer ≡ cond (nat_le (length (rendered forms)) (length before)) (Ok (length (rendered forms))) (Err (refused_at BufferTooShort 0))
  pub bytes : now ≡ cond (nat_le (length (rendered forms)) (length before)) (rendered forms ++ drop (length (rendered forms)) before) before

-- The forms of a sheet in the order in which they are made, from a plan and the rooms of its events. Assumes nothing.
--     free_by ..          the free float of an activity by the rooms of its events
--     row_of ..           the row of a span on a line
--     rows_from ..        the rows of the n lines from p on
--     left ..            the forms that are left at a place of the walk
use Rattle.std.specs.Prelude.{ℕ, zero, suc, ◌+◌, ◌-◌, ◌≤◌, min, List, [], ◌∷◌, ◌++◌, map, length, drop, Some, None, Ok, Err, Option, Result, slice_index}
use Rattle.network.specs.Meanings.{Meaning}
use Rattle.activity.specs.Activities.{start_of, finish_of}
use Rattle.arrow.specs.declared.entry.Arrow.{Arrow}
use Rattle.solver.specs.declared.ring.Ring.{Ring}
use Rattle.solver.specs.declared.times.Times.{Times}
use Rattle.solver.specs.RingSteps.{ring_steps}
use Rattle.sheet_forms.specs.declared.form.Row.{Row}
use Rattle.sheet_forms.specs.declared.form.Window.{Window}
use Rattle.sheet_forms.specs.declared.form.SheetForm.{SheetForm}
use Rattle.sheet_forms.specs.declared.form.SheetForm.TheVariants as form
use Rattle.sheet.specs.declared.room.AllRooms.{AllRooms}
use Rattle.sheet.specs.declared.row.Rows.{Rows}
use Rattle.sheet.specs.declared.span.Moves.{Moves}
use Rattle.sheet.specs.declared.span.Moves.TheVariants.{Finish, Both}
use Rattle.sheet.specs.declared.span.Span.{Span}
use Rattle.sheet.specs.declared.span.Span.TheVariants as span
use Rattle.sheet.specs.declared.walk.Walk.{Walk}
use Rattle.sheet.specs.declared.walk.Walk.TheVariants as at
use Rattle.sheet.specs.Rows.{earliest_told, latest_told}
use Rattle.sheet.specs.Sheets.{owned, ring_sheet}

abbrev pub free_by : AllRooms → Moves → ℕ → ℕ
free_by rooms Finish p = slice_index rooms.alone.days (finish_of p)
free_by rooms Both p = min (slice_index rooms.both.days (start_of p)) (slice_index rooms.both.days (finish_of p))

-- the steps of a ring after the first n, and their count
abbrev pub steps_left : Meaning → Result Times Ring → ℕ → List SheetForm
steps_left m (Ok ts) n = form.End 0 ∷ []
steps_left m (Err r) n = map (owned m) (drop n (ring_steps r)) ++ (form.End (length (ring_steps r)) ∷ [])

module _ {B E : Type 0} (rows : Rows B E) where
  abbrev outcome : Result Times Ring
  outcome = rows.plan.now.outcome

  abbrev pub window_of : ℕ → Window
  window_of e = record { earliest = earliest_told outcome e; latest = latest_told outcome e }

  abbrev pub arrow_row : ℕ → Arrow → Row
  arrow_row p a = record {
    line = p;
    days = a.days;
    start = record { earliest = earliest_told outcome a.from; latest = latest_told outcome a.to - a.days };
    finish = record { earliest = earliest_told outcome a.from + a.days; latest = latest_told outcome a.to };
    free = earliest_told outcome a.to - (earliest_told outcome a.from + a.days);
  }

  abbrev pub activity_row : ℕ → ℕ → Moves → Row
  activity_row p days w = record { line = p; days = days; start = window_of (start_of p); finish = window_of (finish_of p); free = free_by rows.rooms w p }

  abbrev pub row_of : ℕ → Span → Row
  row_of p (span.Activity days w) = activity_row p days w
  row_of p (span.Arrow a) = arrow_row p a

  abbrev pub before : ℕ → Option Span → List Row → List Row
  before p None rest = rest
  before p (Some s) rest = row_of p s ∷ rest

  abbrev pub rows_from : (ℕ → Option Span) → ℕ → ℕ → List Row
  rows_from spans p zero = []
  rows_from spans p (suc n) = before p (spans p) (rows_from spans (p + 1) n)

  -- a row that was found, and those of the lines after it
  abbrev pub next_rows : (ℕ → Option Span) → ℕ → Option Row → List Row
  next_rows spans lines None = []
  next_rows spans lines (Some row) = row ∷ rows_from spans (row.line + 1) (lines + 1 - (row.line + 1))

  -- the rows, and their count with those that were made before
  abbrev pub closed : ℕ → List Row → List SheetForm
  closed made those = map form.Line those ++ (form.End (made + length those) ∷ [])

  abbrev pub whole : Meaning → (ℕ → Option Span) → ℕ → Result Times Ring → List SheetForm
  whole m spans lines (Ok ts) = form.Length ts.length ∷ closed 0 (rows_from spans 1 lines)
  whole m spans lines (Err r) = ring_sheet m (ring_steps r)

  abbrev pub left : Meaning → (ℕ → Option Span) → ℕ → Walk → List SheetForm
  left m spans lines at.Head = whole m spans lines outcome
  left m spans lines (at.Line p made) = closed made (rows_from spans p (lines + 1 - p))
  left m spans lines (at.Step n) = steps_left m outcome n
  left m spans lines at.Done = []

abbrev pub RowInside : ℕ → ℕ → Option Row → Type 0
RowInside first lines None = Unit {0}
RowInside first lines (Some row) = (first ≤ row.line) × (row.line ≤ lines)

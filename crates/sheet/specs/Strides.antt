-- One form of a walk through a sheet after another. Assumes nothing.
--     Ready ..       the place is one that a walk through the sheet comes to
--     Strode ..      a form and those that are left after it are those that were left before
--     head_of ..     the first form, and after_head the place after it
use Rattle.std.specs.Prelude.{◌≡◌, ℕ, ◌+◌, ◌<◌, ◌≤◌, List, ◌∷◌, length, Ok, Err, Option, Result}
use Rattle.solver.specs.declared.ring.Ring.{Ring}
use Rattle.solver.specs.declared.times.Times.{Times}
use Rattle.solver.specs.RingSteps.{ring_steps}
use Rattle.sheet_forms.specs.declared.form.SheetForm.{SheetForm}
use Rattle.sheet_forms.specs.declared.form.SheetForm.TheVariants as form
use Rattle.sheet.specs.declared.walk.Walk.{Walk}
use Rattle.sheet.specs.declared.walk.Walk.TheVariants as at
use Rattle.sheet.specs.declared.row.Rows.{Rows}
use Rattle.sheet.specs.declared.span.Span.{Span}
use Rattle.book.specs.Rules.{BookMeaning, network_of}
use Rattle.sheet.specs.Sheets.{spans_of, rendered}
use Rattle.sheet.specs.Walking.{left}

abbrev pub head_of : Result Times Ring → SheetForm
head_of (Ok ts) = form.Length ts.length
head_of (Err ring) = form.Contradiction (length (ring_steps ring))

abbrev pub after_head : Result Times Ring → Walk
after_head (Ok ts) = at.Line 1 0
after_head (Err ring) = at.Step 0

abbrev pub StepReady : Result Times Ring → ℕ → Type 0
StepReady (Ok ts) n = ⊥
StepReady (Err ring) n = n ≤ length (ring_steps ring)

abbrev pub Ready : Result Times Ring → ℕ → Walk → Type 0
Ready outcome lines at.Head = Unit {0}
Ready outcome lines (at.Line p made) = (made < p) × (p ≤ lines + 1)
Ready outcome lines (at.Step n) = StepReady outcome n
Ready outcome lines at.Done = Unit {0}

abbrev pub Strode : Result Times Ring → ℕ → (Walk → List SheetForm) → Walk → SheetForm → Walk → Type 0
Strode outcome lines forms w f rest = (forms w ≡ f ∷ forms rest) × Ready outcome lines rest

module _ {B E : Type 0} (span_of : E → ℕ → Option Span) (meaning : B → BookMeaning E) (rows : Rows B E) where
  abbrev meant : BookMeaning E
  meant = meaning rows.plan.now.book

  -- the forms that are left of a plan's sheet
  abbrev pub left_of : Walk → List SheetForm
  left_of = left rows (network_of meant) (spans_of span_of meant) meant.rule.lines

  abbrev pub ReadyAt : Walk → Type 0
  ReadyAt = Ready rows.plan.now.outcome meant.rule.lines

  abbrev pub StrodeFrom : Walk → SheetForm → Walk → Type 0
  StrodeFrom = Strode rows.plan.now.outcome meant.rule.lines left_of

  -- the bytes that are left, and all of them
  abbrev pub bytes_left : Walk → List ℕ
  bytes_left w = rendered (left_of w)

  abbrev pub sheet_bytes : List ℕ
  sheet_bytes = bytes_left at.Head

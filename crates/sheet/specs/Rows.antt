-- The rows of a sheet. Assumes nothing.
--     earliest_told outcome e    the earliest time of e that the plan tells, or 0; latest_told and length_told likewise
--     ActivityRow ..             the row is that of the activity of n days on line p
--     ArrowRow ..                the row is that of the arrow a on line p
--     RowFor ..                  the row is that of the span on line p
--     RowsFor .. p n rows        the rows are those of the n lines from p on, in rising order, one for each span
use Rattle.std.specs.Prelude.{◌≡◌, ℕ, zero, suc, ◌+◌, ◌-◌, ◌≤◌, cond, List, [], ◌∷◌, Ok, Err, Option, Result, MatchOption, nat_le}
use Rattle.network.specs.Meanings.{Meaning}
use Rattle.network.specs.Schedules.{Schedule, length_of}
use Rattle.activity.specs.Activities.{start_of, finish_of}
use Rattle.arrow.specs.declared.entry.Arrow.{Arrow}
use Rattle.solver.specs.declared.ring.Ring.{Ring}
use Rattle.solver.specs.declared.times.Times.{Times}
use Rattle.solver.specs.Solutions.{earliest_of, latest_of}
use Rattle.sheet_forms.specs.declared.form.Row.{Row}
use Rattle.sheet.specs.declared.span.Moves.{Moves}
use Rattle.sheet.specs.declared.span.Span.{Span}
use Rattle.sheet.specs.declared.span.Span.TheVariants as span
use Rattle.sheet.specs.Floats.{Greatest, Raisable}

-- the time that a table has for an event, or 0
abbrev pub time_or_nought : (Times → ℕ → ℕ) → Result Times Ring → ℕ → ℕ
time_or_nought t (Ok ts) e = cond (nat_le e ts.events) (t ts e) 0
time_or_nought t (Err ring) e = 0

abbrev pub earliest_told : Result Times Ring → ℕ → ℕ
earliest_told = time_or_nought earliest_of

abbrev pub latest_told : Result Times Ring → ℕ → ℕ
latest_told = time_or_nought latest_of

abbrev pub length_told : Result Times Ring → ℕ
length_told (Ok ts) = ts.length
length_told (Err ring) = 0

module _ (m : Meaning) (outcome : Result Times Ring) where
  -- the four times are those of the activity's two events
  pub record ActivityRow (p n : ℕ) (w : Moves) (row : Row) : Type 0 where
    pub line : row.line ≡ p
    pub days : row.days ≡ n
    pub earliest_start : row.start.earliest ≡ earliest_told outcome (start_of p)
    pub latest_start : row.start.latest ≡ latest_told outcome (start_of p)
    pub earliest_finish : row.finish.earliest ≡ earliest_told outcome (finish_of p)
    pub latest_finish : row.finish.latest ≡ latest_told outcome (finish_of p)
    -- where the earliest times are a schedule, as they are of every plan that was issued
    pub free : Schedule m (earliest_told outcome) → length_of m (earliest_told outcome) ≡ length_told outcome → 1 ≤ p → finish_of p ≤ m.events
        → Greatest (Raisable m (earliest_told outcome) (length_told outcome) w p) row.free

  pub record ArrowRow (p : ℕ) (a : Arrow) (row : Row) : Type 0 where
    pub line : row.line ≡ p
    pub days : row.days ≡ a.days
    pub earliest_start : row.start.earliest ≡ earliest_told outcome a.from
    pub earliest_finish : row.finish.earliest ≡ earliest_told outcome a.from + a.days
    pub latest_finish : row.finish.latest ≡ latest_told outcome a.to
    pub latest_start : row.start.latest ≡ latest_told outcome a.to - a.days
    pub free : row.free ≡ earliest_told outcome a.to - (earliest_told outcome a.from + a.days)

  abbrev pub RowFor : ℕ → Span → Row → Type 0
  RowFor p (span.Activity days w) = ActivityRow p days w
  RowFor p (span.Arrow a) = ArrowRow p a

  pub record First (p : ℕ) (s : Span) (Rest : List Row → Type 0) (rows : List Row) : Type 0 where
    pub row : Row
    pub rest : List Row
    pub both : rows ≡ row ∷ rest
    pub right : RowFor p s row
    pub others : Rest rest

  abbrev pub RowsFor : (ℕ → Option Span) → ℕ → ℕ → List Row → Type 0
  RowsFor spans p zero rows = rows ≡ []
  RowsFor spans p (suc n) rows = MatchOption (spans p) (RowsFor spans (p + 1) n rows) (λ s. First p s (RowsFor spans (p + 1) n) rows)

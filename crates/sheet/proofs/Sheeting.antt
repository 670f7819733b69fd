-- The forms of the walk are the sheet. Assumes nothing.
use Rattle.std.proofs.Common.{◌≡◌, ℕ, zero, suc, ◌+◌, List, [], ◌∷◌, ◌++◌, map, length, Some, None, Ok, Err, Option, Result, refl, ap, subst, arith, MatchOption}
use Rattle.network.specs.Meanings.{Meaning, Lawful}
use Rattle.book.specs.Rules.{BookMeaning, network_of}
use Rattle.solver.specs.declared.ring.Ring.{Ring}
use Rattle.solver.specs.declared.times.Times.{Times}
use Rattle.sheet_forms.specs.declared.form.Row.{Row}
use Rattle.sheet_forms.specs.declared.form.SheetForm.TheVariants as form
use Rattle.sheet.specs.declared.row.Rows.{Rows}
use Rattle.sheet.specs.declared.span.Moves.TheVariants.{Finish, Both}
use Rattle.sheet.specs.declared.span.Span.{Span}
use Rattle.sheet.specs.declared.span.Span.TheVariants.{Activity, Arrow}
use Rattle.sheet.specs.Rooms.{RoomsFor}
use Rattle.sheet.specs.Rows.{earliest_told, length_told, RowFor, First, RowsFor}
use Rattle.sheet.specs.Sheets.{spans_of, SheetOf}
use Rattle.sheet.specs.Walking.{row_of, before, rows_from, whole}
use Rattle.sheet.proofs.Freeing.{free_alone, free_both}

-- the tables of rooms are those of the plan's earliest times
abbrev RoomsRight : {B E : Type 0} → Meaning → Rows B E → Type 0
RoomsRight m rows = RoomsFor m (earliest_told rows.plan.now.outcome) (length_told rows.plan.now.outcome) rows.rooms.alone.days rows.rooms.both.days

module _ {B E : Type 0} (m : Meaning) (lawful : Lawful m) (rows : Rows B E) (rooms : RoomsRight m rows) where
  abbrev outcome : Result Times Ring
  outcome = rows.plan.now.outcome

  row_right : (p : ℕ) (s : Span) → RowFor m outcome p s (row_of rows p s)
  row_right p (Activity days Finish) = record {
    line = refl;
    days = refl;
    earliest_start = refl;
    latest_start = refl;
    earliest_finish = refl;
    latest_finish = refl;
    free = λ keeps long low high. free_alone m lawful (earliest_told outcome) (length_told outcome) keeps long p low high rows.rooms.alone.days (rooms keeps long).0;
  }
  row_right p (Activity days Both) = record {
    line = refl;
    days = refl;
    earliest_start = refl;
    latest_start = refl;
    earliest_finish = refl;
    latest_finish = refl;
    free = λ keeps long low high. free_both m lawful (earliest_told outcome) (length_told outcome) keeps long p low high rows.rooms.both.days (rooms keeps long).1;
  }
  row_right p (Arrow a) = record { line = refl; days = refl; earliest_start = refl; earliest_finish = refl; latest_finish = refl; latest_start = refl; free = refl }

  -- one line more
  line_right : (p : ℕ) (Rest : List Row → Type 0) (rest : List Row) → Rest rest → (o : Option Span)
      → MatchOption o (Rest (before rows p o rest)) (λ s. First m outcome p s Rest (before rows p o rest))
  line_right p Rest rest right None = right
  line_right p Rest rest right (Some s) = record { row = row_of rows p s; rest = rest; both = refl; right = row_right p s; others = right }

  rows_right : (spans : ℕ → Option Span) (n p : ℕ) → RowsFor m outcome spans p n (rows_from rows spans p n)
  rows_right spans zero p = refl
  rows_right spans (suc n) p = line_right p (RowsFor m outcome spans (p + 1) n) (rows_from rows spans (p + 1) n) (rows_right spans n (p + 1)) (spans p)

-- of each outcome that the plan can have
sheet_of : {B E F : Type 0} (span_of : F → ℕ → Option Span) (m : BookMeaning F) → Lawful (network_of m) → (rows : Rows B E) → RoomsRight (network_of m) rows
    → (outcome : Result Times Ring) → rows.plan.now.outcome ≡ outcome → SheetOf span_of m outcome (whole rows (network_of m) (spans_of span_of m) m.rule.lines outcome)
sheet_of span_of m lawful rows rooms (Ok ts) is = record {
  rows = rows_from rows (spans_of span_of m) 1 m.rule.lines;
  each =
      let those = rows_from rows (spans_of span_of m) 1 m.rule.lines in
      subst (λ o. RowsFor (network_of m) o (spans_of span_of m) 1 m.rule.lines those) is (rows_right (network_of m) lawful rows rooms (spans_of span_of m) m.rule.lines 1);
  all =
      let those = rows_from rows (spans_of span_of m) 1 m.rule.lines in
      let none : 0 + length those ≡ length those = omega arith in
      ap (λ n. form.Length ts.length ∷ (map form.Line those ++ (form.End n ∷ []))) none;
}
sheet_of span_of m lawful rows rooms (Err r) is = refl

pub sheet_right : {B E F : Type 0} (span_of : F → ℕ → Option Span) (m : BookMeaning F) → Lawful (network_of m) → (rows : Rows B E) → RoomsRight (network_of m) rows
    → SheetOf span_of m rows.plan.now.outcome (whole rows (network_of m) (spans_of span_of m) m.rule.lines rows.plan.now.outcome)
sheet_right span_of m lawful rows rooms = sheet_of span_of m lawful rows rooms rows.plan.now.outcome refl

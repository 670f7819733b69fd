-- Rows, line by line. Assumes nothing.
use Rattle.std.proofs.Common.{◌≡◌, ℕ, suc, ◌+◌, ◌-◌, ◌<◌, ◌≤◌, List, [], ◌∷◌, Some, None, Option, refl, ap, ◌∙◌, arith}
use Rattle.sheet_forms.specs.declared.form.Row.{Row}
use Rattle.sheet.specs.declared.row.Rows.{Rows}
use Rattle.sheet.specs.declared.span.Span.{Span}
use Rattle.sheet.specs.declared.span.Span.TheVariants.{Activity, Arrow}
use Rattle.sheet.specs.Walking.{row_of, before, rows_from}

module _ {B E : Type 0} (rows : Rows B E) (spans : ℕ → Option Span) (lines : ℕ) where
  abbrev those : ℕ → ℕ → List Row
  those = rows_from rows spans

  -- one line, and those after it
  rows_line : (p : ℕ) → p ≤ lines → those p (lines + 1 - p) ≡ before rows p (spans p) (those (p + 1) (lines + 1 - (p + 1)))
  rows_line p low =
      let here : lines + 1 - p ≡ suc (lines - p) = omega arith in
      let there : lines - p ≡ lines + 1 - (p + 1) = omega arith in
      ap (those p) here ∙ ap (λ n. before rows p (spans p) (those (p + 1) n)) there

  pub rows_none : (p : ℕ) → p ≤ lines → spans p ≡ None → those p (lines + 1 - p) ≡ those (p + 1) (lines + 1 - (p + 1))
  rows_none p low none = rows_line p low ∙ ap (λ s. before rows p s (those (p + 1) (lines + 1 - (p + 1)))) none

  pub rows_some : (p : ℕ) → p ≤ lines → (s : Span) → spans p ≡ Some s → those p (lines + 1 - p) ≡ row_of rows p s ∷ those (p + 1) (lines + 1 - (p + 1))
  rows_some p low s some = rows_line p low ∙ ap (λ s. before rows p s (those (p + 1) (lines + 1 - (p + 1)))) some

  pub rows_past : (p : ℕ) → lines < p → those p (lines + 1 - p) ≡ []
  rows_past p past = let none : lines + 1 - p ≡ 0 = omega arith in ap (those p) none

-- a row tells its line
pub row_line : {B E : Type 0} (rows : Rows B E) (p : ℕ) (s : Span) → (row_of rows p s).line ≡ p
row_line rows p (Activity days w) = refl
row_line rows p (Arrow a) = refl

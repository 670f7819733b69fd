-- Which entries have a row of their own, and what it is for. Assumes nothing.
--     moves_of running     the start moves with the finish where the activity runs without a break
--     span_of_entry e       an activity has a row, a relation none
--     span_of_arrow a       every arrow has one
use Rattle.std.specs.Prelude.{ℕ, Some, None, Option}
use Rattle.activity.specs.declared.entry.Entry.{Entry}
use Rattle.activity.specs.declared.entry.Entry.TheVariants as entry
use Rattle.activity.specs.declared.entry.Running.{Running}
use Rattle.activity.specs.declared.entry.Running.TheVariants.{Whole, Broken}
use Rattle.activity.specs.Activities.{day_count}
use Rattle.arrow.specs.declared.entry.Arrow.{Arrow}
use Rattle.sheet.specs.declared.span.Moves.{Moves}
use Rattle.sheet.specs.declared.span.Moves.TheVariants.{Finish, Both}
use Rattle.sheet.specs.declared.span.Span.{Span}
use Rattle.sheet.specs.declared.span.Span.TheVariants as span

abbrev pub moves_of : Running → Moves
moves_of Whole = Both
moves_of Broken = Finish

abbrev pub span_of_entry : Entry → ℕ → Option Span
span_of_entry (entry.Activity a) line = Some (span.Activity (day_count a.work) (moves_of a.running))
span_of_entry (entry.Relation r) line = None

abbrev pub span_of_arrow : Arrow → ℕ → Option Span
span_of_arrow a line = Some (span.Arrow a)

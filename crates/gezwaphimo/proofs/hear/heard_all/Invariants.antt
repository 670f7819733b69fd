use Rattle.std.proofs.Common.{ℕ, ◌+◌, ◌≤◌, List, length}
use Rattle.forms.specs.Texts.{left}
use Rattle.gezwaphimo.specs.Texts.{Heard}
use Rattle.gezwaphimo.proofs.hear.heard_all.Given as goal

-- what comes of what is left comes of the whole
abbrev pub invariant-loop-form : goal.invariant-loop-form
invariant-loop-form g l =
    (l.line + length (left l.reader) ≤ 2 + length (left l.initial.reader))
    × ((bytes : List ℕ) → Heard g.B.Entry.Spanned.span_of g.B.Entry.Worded.entry_of g.B.Entry.Worded.event_of (g.B.Book.meaning l.book) l.line (left l.reader) bytes
    → Heard g.B.Entry.Spanned.span_of g.B.Entry.Worded.entry_of g.B.Entry.Worded.event_of (g.B.Book.meaning l.initial.book) 2 (left l.initial.reader) bytes)

abbrev pub decreases-loop-form : goal.decreases-loop-form
decreases-loop-form g l = length (left l.reader)

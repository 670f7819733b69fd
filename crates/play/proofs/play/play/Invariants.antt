use Rattle.std.proofs.Common.{◌≡◌, ℕ, List, drop}
use Rattle.play.specs.Asked.{AllAsked}
use Rattle.play.specs.Played.{hears_all}
use Rattle.play.specs.Stages.{book_in, Upright}
use Rattle.play.proofs.play.play.Given as goal

-- what is left of the list, heard by the plan as it is, comes to what the whole list comes to
abbrev pub invariant-loop-call : goal.invariant-loop-call
invariant-loop-call g l =
    (hears_all (g.B.Book.meaning (book_in l.stage)) (drop l.call-index l.calls) ≡ hears_all (g.B.Book.meaning (book_in l.initial.stage)) l.calls)
    × (Upright g.B.Book.meaning l.stage
    × ((end : List ℕ) → AllAsked g.B.Entry.Spanned.span_of (g.B.Book.meaning (book_in l.stage)) (drop l.call-index l.calls) l.bytes end → AllAsked g.B.Entry.Spanned.span_of (g.B.Book.meaning (book_in l.initial.stage)) l.calls l.initial.bytes end))

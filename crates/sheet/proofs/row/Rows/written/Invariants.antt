use Rattle.std.proofs.Common.{◌≡◌, ◌≤◌, ◌++◌, length, take, drop}
use Rattle.sheet.specs.Strides.{ReadyAt, bytes_left, sheet_bytes}
use Rattle.sheet.proofs.row.Rows.written.Given as goal

-- what is written and what is left are the whole, and past it nothing has changed
abbrev pub invariant-loop-form : goal.invariant-loop-form
invariant-loop-form g l =
    ReadyAt g.B.Entry.Spanned.span_of g.B.Book.meaning l.form-iterator.rows.now l.form-iterator.at
    × (((length l.out ≡ length l.initial.out) × (l.at ≤ length l.out))
    × ((take l.at l.out ++ bytes_left g.B.Entry.Spanned.span_of g.B.Book.meaning l.form-iterator.rows.now l.form-iterator.at ≡ sheet_bytes g.B.Entry.Spanned.span_of g.B.Book.meaning l.self)
    × (drop l.at l.out ≡ drop l.at l.initial.out)))

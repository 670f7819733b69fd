use Rattle.std.proofs.Common.{◌≡◌, ◌+◌, length}
use Rattle.sheet.specs.Strides.{ReadyAt, bytes_left, sheet_bytes}
use Rattle.sheet.proofs.row.Rows.fits.Given as goal

-- what is left needs as much of what is free as the whole needs of all
abbrev pub invariant-loop-form : goal.invariant-loop-form
invariant-loop-form g l =
    ReadyAt g.B.Entry.Spanned.span_of g.B.Book.meaning l.form-iterator.rows.now l.form-iterator.at
    × (length (bytes_left g.B.Entry.Spanned.span_of g.B.Book.meaning l.form-iterator.rows.now l.form-iterator.at) + l.bytes ≡ length (sheet_bytes g.B.Entry.Spanned.span_of g.B.Book.meaning l.self) + l.free)

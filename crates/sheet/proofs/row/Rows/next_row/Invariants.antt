use Rattle.std.proofs.Common.{◌≡◌, ◌+◌, ◌-◌, ◌≤◌}
use Rattle.sheet.specs.Sheets.{spans_of}
use Rattle.sheet.specs.Walking.{rows_from}
use Rattle.sheet.proofs.row.Rows.next_row.Given as goal

-- the lines so far have no row
abbrev pub invariant-loop-line : goal.invariant-loop-line
invariant-loop-line g l =
    let m = g.B.Book.meaning l.self.plan.now.book in
    let rows = rows_from l.self (spans_of g.B.Entry.Spanned.span_of m) in
    (l.first ≤ l.line) × (rows l.first (m.rule.lines + 1 - l.first) ≡ rows l.line (m.rule.lines + 1 - l.line))

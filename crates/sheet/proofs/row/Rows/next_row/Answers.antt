use Rattle.std.proofs.Common.{◌≡◌, ◌+◌, ◌-◌, ◌≤◌, ◌∷◌, Some, None, sym, ap, ◌∙◌, arith, rules}
use Rattle.sheet.specs.Sheets.{spans_of}
use Rattle.sheet.specs.Walking.{row_of, rows_from}
use Rattle.sheet.proofs.Rowing.{rows_none, rows_some, row_line}
use Rattle.sheet.proofs.row.Rows.next_row.Goals as goal

pub returns-in-Some : goal.returns-in-Some
returns-in-Some g c =
    let plan = c.args.self.now.plan.now in
    let m = g.B.Book.meaning plan.book in
    let spans = spans_of g.B.Entry.Spanned.span_of m in
    let line = c.loop-line.line in
    let lines : c.lines-line-end.result ≡ m.rule.lines = search rules in
    let low : line ≤ m.rule.lines = omega arith in
    let some : spans line ≡ Some c.in-Some.span = search rules in
    let is : c.row_of.result ≡ row_of c.args.self.now line c.in-Some.span = c.row_of.ensures in
    let here : c.row_of.result.line ≡ line = ap (λ row. row.line) is ∙ row_line c.args.self.now line c.in-Some.span in
    let first = c.loop-line.invariant.0 in
    record {
      rows = c.loop-line.invariant.1 ∙ rows_some c.args.self.now spans m.rule.lines line low c.in-Some.span some
          ∙ ap (λ row. row ∷ rows_from c.args.self.now spans (line + 1) (m.rule.lines + 1 - (line + 1))) (sym is)
          ∙ ap (λ p. c.row_of.result ∷ rows_from c.args.self.now spans (p + 1) (m.rule.lines + 1 - (p + 1))) (sym here);
      inside = (omega arith, omega arith);
    }

pub loop-line-preserved : goal.loop-line-preserved
loop-line-preserved g c =
    let plan = c.args.self.now.plan.now in
    let m = g.B.Book.meaning plan.book in
    let spans = spans_of g.B.Entry.Spanned.span_of m in
    let line = c.loop-line.line in
    let lines : c.lines-line-end.result ≡ m.rule.lines = search rules in
    let low : line ≤ m.rule.lines = omega arith in
    let none : spans line ≡ None = search rules in
    let first = c.loop-line.invariant.0 in
    (omega arith, c.loop-line.invariant.1 ∙ rows_none c.args.self.now spans m.rule.lines line low none)

use Rattle.std.proofs.Common.{refl, ap, ◌∙◌, subst}
use Rattle.book.specs.Rules.{network_of}
use Rattle.plan.specs.Issues.{Right}
use Rattle.sheet.specs.Sheets.{SheetOf, rendered}
use Rattle.gezwaphimo.proofs.finish.finish.Goals as goal

pub returns-in-Err : goal.returns-in-Err
returns-in-Err g c = record { bytes = _; heard = c.in-Err.ensures; poured = c.poured.ensures }

pub returns-in-Ok : goal.returns-in-Ok
returns-in-Ok g c =
    let plan = c.issue-plan.result in
    let over = ap g.B.Book.meaning c.over.ensures in
    let same = ap g.B.Book.meaning c.issue-plan.ensures.book ∙ over in
    let done = c.sheet.ensures in
    record {
      bytes = rendered done.forms;
      heard = c.in-Ok.ensures (rendered done.forms) (record {
        outcome = plan.outcome;
        right = subst (λ x. Right (network_of x) plan.outcome) over c.issue-plan.ensures.right;
        forms = done.forms;
        sheet = subst (λ x. SheetOf g.B.Entry.Spanned.span_of x plan.outcome done.forms) same done.sheet;
        is = refl;
      });
      poured = record { told = done.told; held = done.bytes };
    }

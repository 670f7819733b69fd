use Rattle.std.proofs.Common.{ap, subst}
use Rattle.book.specs.Rules.{network_of}
use Rattle.plan.specs.Issues.{Right}
use Rattle.sheet.specs.Sheets.{Delivered}
use Rattle.play.proofs.stage.Stage.sheeted.Goals as goal

pub returns : goal.returns
returns g c =
    let plan = c.issued-plan.result in
    let same = c.issued-plan.ensures.book in
    let m = ap g.B.Book.meaning same in
    record {
      same = same;
      upright = c.issued-plan.ensures.right;
      asked = record {
        outcome = plan.outcome;
        right = subst (λ x. Right (network_of x) plan.outcome) m c.issued-plan.ensures.right;
        answer = c.sheet.result;
        delivered = subst (λ x. Delivered g.B.Entry.Spanned.span_of x plan.outcome c.args.bytes.now c.sheet.new.out c.sheet.result) m c.sheet.ensures;
      };
    }

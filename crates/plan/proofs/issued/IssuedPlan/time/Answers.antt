use Rattle.std.proofs.Common.{sym, refl, subst, rules}
use Rattle.std.specs.Fn.{FnOnceReturnsAt}
use Rattle.book.specs.Rules.{network_of}
use Rattle.plan.specs.Readings.{TimeBy}
use Rattle.plan.proofs.issued.IssuedPlan.time.Goals as goal

pub returns-in-Ok : goal.returns-in-Ok
returns-in-Ok g c =
    subst (λ o. TimeBy o (network_of (g.B.Book.meaning c.args.self.now.book)).events (FnOnceReturnsAt g.F.FnOnce c.args.read) c.args.event c.ok_or.result) (sym c.in-Ok.is)
    (c.read.result, (_, c.read.ensures, refl), search rules)

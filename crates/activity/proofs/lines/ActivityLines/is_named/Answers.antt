use Rattle.std.proofs.Common.{◌≡◌, true, false, sym, ap, ◌∙◌, ⊎_elim, arith, rules}
use Rattle.table.specs.Standing.{standing}
use Rattle.activity.specs.Rule.{names}
use Rattle.activity.proofs.Named.{some_at, some_none}
use Rattle.activity.proofs.lines.ActivityLines.is_named.Goals as goal
use Rattle.std.proofs.lemmas.Bool.{cases_eq}

pub returns-then-names_line : goal.returns-then-names_line
returns-then-names_line c =
    let found : names (standing c.args.self.now.table c.loop-q.q) c.args.p ≡ true = search rules in
    sym (some_at (λ q. names (standing c.args.self.now.table q) c.args.p) 400 c.loop-q.q (omega arith) (omega arith) found)

pub returns : goal.returns
returns c = sym (some_none (λ q. names (standing c.args.self.now.table q) c.args.p) 400 (λ q low high. c.loop-q.invariant q low (omega arith)))

pub loop-q-preserved : goal.loop-q-preserved
loop-q-preserved c q low high =
    let here : names (standing c.args.self.now.table c.loop-q.q) c.args.p ≡ false = search rules in
    ⊎_elim
    (λ (same : q ≡ c.loop-q.q). ap (λ k. names (standing c.args.self.now.table k) c.args.p) same ∙ here)
    (λ (other : q ≡ c.loop-q.q → ⊥). c.loop-q.invariant q low (omega arith))
    (cases_eq q c.loop-q.q)

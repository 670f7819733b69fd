use Rattle.std.proofs.Common.{◌≡◌, suc, ◌≤◌, ◌-◌, false, ◌&&◌, leb, length, get_or, Some, sym, ap, ◌∙◌, arith}
use Rattle.std.proofs.lemmas.Bool.{cond-true, cond-false, and_from, le-leb}
use Rattle.std.proofs.lemmas.Bool.Decides.{nat_tests}
use Rattle.solver.specs.RingSteps.{floor_to, last_first}
use Rattle.solver.proofs.Climbing.{last_first_length, last_first_at}
use Rattle.solver.proofs.ring.Ring.step.Goals as goal

pub returns-then-contains : goal.returns-then-contains
returns-then-contains c =
    let ring = c.args.self.now in
    let n = c.args.n in
    let long = last_first_length ring.steps ring.count in
    let low : 1 ≤ n = grind (arith, nat_tests) in
    let high : n ≤ ring.count = grind (arith, nat_tests) in
    let at = last_first_at ring.steps ring.count (n - 1) (omega arith) in
    let same : ring.count - suc (n - 1) ≡ ring.count - n = omega arith in
    ap Some (sym (at ∙ ap (λ j. get_or ring.steps j (floor_to 0)) same))
    ∙ sym (cond-true _ _ _ (and_from (leb 1 n) (leb n (length (last_first ring.steps ring.count))) (le-leb 1 n (omega arith)) (le-leb n _ (omega arith))))

pub returns-else-contains : goal.returns-else-contains
returns-else-contains c =
    let ring = c.args.self.now in
    let n = c.args.n in
    let long = last_first_length ring.steps ring.count in
    let not : (leb 1 n && leb n (length (last_first ring.steps ring.count))) ≡ false = grind (arith, nat_tests) in
    sym (cond-false _ _ _ not)

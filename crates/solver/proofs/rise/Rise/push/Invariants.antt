use Rattle.solver.specs.Rising.{Moved}
use Rattle.solver.proofs.rise.Rise.push.Given as goal

abbrev pub invariant-loop-hint : goal.invariant-loop-hint
invariant-loop-hint l = Moved l.arcs l.initial.self l.self l.hint-index

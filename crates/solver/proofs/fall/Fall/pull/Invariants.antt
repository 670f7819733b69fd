use Rattle.solver.specs.Falling.{Sank}
use Rattle.solver.proofs.fall.Fall.pull.Given as goal

abbrev pub invariant-loop-hint : goal.invariant-loop-hint
invariant-loop-hint l = Sank l.arcs l.initial.self.times l.self.times

use Rattle.solver.specs.Falling.{Fell}
use Rattle.solver.proofs.fall.Fall.sweep.Given as goal

abbrev pub invariant-loop-arc : goal.invariant-loop-arc
invariant-loop-arc l = Fell l.arcs l.initial.self.times l.self.times l.arc-index l.changed

use Rattle.solver.specs.Rising.{time_at}
use Rattle.solver.proofs.Walking.{Seen}
use Rattle.solver.proofs.rise.Rise.look.Given as goal

abbrev pub invariant-loop-e : goal.invariant-loop-e
invariant-loop-e l = Seen l.arcs (time_at l.self.times) (time_at l.self.parents) 102398976 l.marks l.e

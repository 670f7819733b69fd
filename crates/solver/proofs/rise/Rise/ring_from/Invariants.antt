use Rattle.solver.specs.Rising.{time_at}
use Rattle.solver.proofs.Climbing.{Climb}
use Rattle.solver.proofs.rise.Rise.ring_from.Given as goal

abbrev pub invariant-loop-i : goal.invariant-loop-i
invariant-loop-i l = Climb l.arcs (time_at l.self.times) (time_at l.self.parents) l.r l.steps l.i l.at

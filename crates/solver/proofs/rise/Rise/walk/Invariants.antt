use Rattle.std.proofs.Common.{◌+◌, ◌-◌}
use Rattle.solver.specs.Rising.{time_at}
use Rattle.solver.specs.Walks.{tally}
use Rattle.solver.proofs.Walking.{Midway}
use Rattle.solver.proofs.rise.Rise.walk.Given as goal

abbrev pub invariant-loop-marks : goal.invariant-loop-marks
invariant-loop-marks l = Midway l.arcs (time_at l.self.times) (time_at l.self.parents) 102398976 l.initial.marks l.marks l.e l.at

-- the events that are not marked yet
abbrev pub decreases-loop-marks : goal.decreases-loop-marks
decreases-loop-marks l = l.arcs.events + 1 - tally (time_at l.marks) (l.arcs.events + 1)

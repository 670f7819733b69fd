use Rattle.std.proofs.Common.{ℕ, ◌≤◌}
use Rattle.network.specs.Schedules.{greatest}
use Rattle.solver.specs.Rising.{time_at}
use Rattle.solver.specs.Falling.{Most}
use Rattle.solver.proofs.Lowering.{total}
use Rattle.solver.proofs.fall.Fall.settle.Given as goal

abbrev pub invariant-loop-passes : goal.invariant-loop-passes
invariant-loop-passes l =
    Most l.arcs (time_at l.initial.self.times) (time_at l.self.times)
    × (((e : ℕ) → time_at l.self.times e ≤ time_at l.initial.self.times e) × (greatest (time_at l.self.times) l.arcs.events ≤ 3000000000))

abbrev pub decreases-loop-passes : goal.decreases-loop-passes
decreases-loop-passes l = total (time_at l.self.times) l.arcs.events

use Rattle.std.proofs.Common.{◌≤◌}
use Rattle.network.specs.Schedules.{greatest}
use Rattle.solver.specs.Rising.{time_at}
use Rattle.solver.specs.Rising.{Carries}
use Rattle.solver.proofs.Settling.{slack}
use Rattle.solver.proofs.rise.Rise.settle.Given as goal

abbrev pub invariant-loop-event : goal.invariant-loop-event
invariant-loop-event l =
    Carries l.arcs l.initial.self l.self
    × (greatest (time_at l.self.times) l.arcs.events ≤ 204800000)

-- how far the times can still rise
abbrev pub decreases-loop-event : goal.decreases-loop-event
decreases-loop-event l = slack 204800000 (time_at l.self.times) l.arcs.events

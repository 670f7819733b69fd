use Rattle.std.proofs.Common.{◌≡◌}
use Rattle.solver.proofs.Gathering.{SoFar}
use Rattle.solver.proofs.arcs.Arcs.take.Given as goal

abbrev pub invariant-loop-place : goal.invariant-loop-place
invariant-loop-place g l = SoFar (g.N.Network.network l.network) l.self.arcs l.self.count l.place × (l.self.events ≡ l.initial.self.events)

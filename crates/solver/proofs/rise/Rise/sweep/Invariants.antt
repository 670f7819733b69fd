use Rattle.solver.specs.Rising.{Swept}
use Rattle.solver.proofs.rise.Rise.sweep.Given as goal

abbrev pub invariant-loop-k : goal.invariant-loop-k
invariant-loop-k l = Swept l.arcs l.initial.self l.self l.k l.changed

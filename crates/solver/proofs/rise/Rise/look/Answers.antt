use Rattle.std.proofs.Common.{◌+◌, replicate, refl, arith}
use Rattle.solver.specs.Rising.{time_at}
use Rattle.solver.proofs.Zeros.{zeros}
use Rattle.solver.proofs.Walking.{Seen, seen_none, seen_more, seen_all}
use Rattle.solver.proofs.rise.Rise.look.Goals as goal
use Rattle.solver.proofs.rise.Rise.look.Goals.{In_default}

pub loop-e-init : goal.loop-e-init
loop-e-init c =
    let arcs = c.args.arcs.now in
    seen_none arcs (time_at c.args.self.now.times) (time_at c.args.self.now.parents) 102398976 (replicate 1024 0) refl (zeros 1024)

-- one event more is seen
seen : (c : In_default) → Seen c.args.arcs.now (time_at c.args.self.now.times) (time_at c.args.self.now.parents) 102398976 c.walk.new.marks (c.loop-e.e + 1)
seen c =
    let arcs = c.args.arcs.now in
    let found = c.in_default.ensures.found in
    seen_more arcs (time_at c.args.self.now.times) (time_at c.args.self.now.parents) 102398976 c.loop-e.marks c.walk.new.marks c.loop-e.e c.loop-e.invariant c.walk.array_long found.0 found.1.0 found.1.1.0 found.1.1.1

pub loop-e-preserved : goal.loop-e-preserved
loop-e-preserved c = seen (goal.at.loop-e-preserved c).In_default

pub returns-in_default : goal.returns-in_default
returns-in_default c =
    let arcs = c.args.arcs.now in
    seen_all arcs (time_at c.args.self.now.times) (time_at c.args.self.now.parents) 102398976 c.walk.new.marks (c.loop-e.e + 1) (seen (goal.at.returns-in_default c).In_default) (omega arith)

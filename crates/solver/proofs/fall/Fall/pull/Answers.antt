use Rattle.std.proofs.Common.{subst, arith}
use Rattle.network.proofs.Lengths.{greatest_bounds}
use Rattle.solver.specs.Arcs.{MeetsArc}
use Rattle.solver.specs.Rising.{time_at}
use Rattle.solver.proofs.Lows.{low_at}
use Rattle.solver.proofs.Lowering.{sank_none, sank_one, sank_join}
use Rattle.solver.proofs.fall.Fall.pull.Goals as goal

pub lower-requires : goal.lower-requires
lower-requires c =
    let arcs = c.args.arcs.now in
    let k = c.from.result in
    let found = c.in-Some-get.ensures in
    let a = c.in-Some-get.arc in
    let low = low_at arcs k found.0 a found.1 in
    let above = c.requires.above in
    let x = greatest_bounds (time_at c.args.self.now.times) arcs.events a.left low.0 in
    let y = greatest_bounds (time_at c.args.self.now.times) arcs.events a.reached low.1.0 in
    let fx = c.loop-hint.invariant.falls a.left in
    let fy = c.loop-hint.invariant.falls a.reached in
    let under = c.loop-hint.invariant.most above.table above.keeps above.below a.reached low.1.0 in
    let met : MeetsArc above.table a = subst (MeetsArc above.table) found.1 (above.keeps k found.0) in
    let small = arcs.small in
    let bound = c.requires.bound in
    record { left = omega arith; reached = omega arith; up = omega arith; down = omega arith; room = omega arith }

pub loop-hint-init : goal.loop-hint-init
loop-hint-init c = sank_none c.args.arcs.now c.args.self.now.times

pub loop-hint-preserved-in-Some-get : goal.loop-hint-preserved-in-Some-get
loop-hint-preserved-in-Some-get c =
    let arcs = c.args.arcs.now in
    let found = c.in-Some-get.ensures in
    sank_join arcs c.args.self.now.times c.loop-hint.self.times c.lower.new.self.times c.loop-hint.invariant
    (sank_one arcs c.loop-hint.self.times c.from.result found.0 c.loop-hint.self.timed c.in-Some-get.arc found.1
    c.lower.result c.lower.new.self.times c.lower.ensures.told c.lower.ensures.times)

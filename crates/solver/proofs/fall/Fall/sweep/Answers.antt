use Rattle.std.proofs.Common.{◌≡◌, ◌<◌, sym, subst, arith}
use Rattle.network.proofs.Lengths.{greatest_bounds}
use Rattle.solver.specs.Arcs.{MeetsArc, arc_at}
use Rattle.solver.specs.Rising.{time_at}
use Rattle.solver.specs.Falling.{Fell}
use Rattle.solver.proofs.Lows.{low_at}
use Rattle.solver.proofs.Lowering.{fell_none, fell_next}
use Rattle.solver.proofs.fall.Fall.sweep.Goals as goal

pub lower-changed-requires : goal.lower-changed-requires
lower-changed-requires c =
    let arcs = c.args.arcs.now in
    let k = c.loop-arc.arc-index in
    let all = c.all-arc-items in
    let a = arc_at all.result.now k in
    let inside : k < arcs.count = omega arith in
    let is = sym (all.ensures.each k inside) in
    let low = low_at arcs k inside a is in
    let above = c.requires.above in
    let x = greatest_bounds (time_at c.args.self.now.times) arcs.events a.left low.0 in
    let y = greatest_bounds (time_at c.args.self.now.times) arcs.events a.reached low.1.0 in
    let fx = c.loop-arc.invariant.falls a.left in
    let fy = c.loop-arc.invariant.falls a.reached in
    let under = c.loop-arc.invariant.most above.table above.keeps above.below a.reached low.1.0 in
    let met : MeetsArc above.table a = subst (MeetsArc above.table) is (above.keeps k inside) in
    let small = arcs.small in
    let bound = c.requires.bound in
    record { left = omega arith; reached = omega arith; up = omega arith; down = omega arith; room = omega arith }

pub loop-arc-preserved : goal.loop-arc-preserved
loop-arc-preserved c =
    let arcs = c.args.arcs.now in
    let k = c.loop-arc.arc-index in
    let all = c.all-arc-items in
    let a = arc_at all.result.now k in
    let inside : k < arcs.count = omega arith in
    let is = sym (all.ensures.each k inside) in
    let low = low_at arcs k inside a is in
    let above = c.requires.above in
    let under = c.loop-arc.invariant.most above.table above.keeps above.below a.reached low.1.0 in
    let met : MeetsArc above.table a = subst (MeetsArc above.table) is (above.keeps k inside) in
    fell_next arcs c.args.self.now.times c.loop-arc.self.times k c.loop-arc.changed c.loop-arc.invariant
    inside c.loop-arc.self.timed a is (omega arith)
    c.lower-changed.result c.lower-changed.new.self.times c.lower-changed.ensures.told c.lower-changed.ensures.times

pub loop-arc-init : goal.loop-arc-init
loop-arc-init c = fell_none c.args.arcs.now c.args.self.now.times

pub returns : goal.returns
returns c =
    let same : c.loop-arc.arc-index ≡ c.args.arcs.now.count = omega arith in
    subst (λ n. Fell c.args.arcs.now c.args.self.now.times c.loop-arc.self.times n c.loop-arc.changed) same c.loop-arc.invariant

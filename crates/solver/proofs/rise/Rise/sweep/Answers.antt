use Rattle.std.proofs.Common.{◌≡◌, ◌<◌, sym, subst, arith}
use Rattle.network.proofs.Lengths.{greatest_bounds}
use Rattle.solver.specs.Arcs.{arc_at}
use Rattle.solver.specs.Rising.{time_at, Swept}
use Rattle.solver.proofs.Lows.{low_at}
use Rattle.solver.proofs.Sweeping.{swept_none, swept_next}
use Rattle.solver.proofs.rise.Rise.sweep.Goals as goal

pub raise-changed-requires : goal.raise-changed-requires
raise-changed-requires c =
    let arcs = c.args.arcs.now in
    let k = c.loop-k.k in
    let all = c.all-arc-items in
    let a = arc_at all.result.now k in
    let inside : k < arcs.count = omega arith in
    let low = low_at arcs k inside a (sym (all.ensures.each k inside)) in
    let x = greatest_bounds (time_at c.loop-k.self.times) arcs.events a.left low.0 in
    let y = greatest_bounds (time_at c.loop-k.self.times) arcs.events a.reached low.1.0 in
    let few = arcs.few in
    let small = arcs.small in
    let bound = c.loop-k.invariant.bound in
    record { left = omega arith; reached = omega arith; index = omega arith; up = omega arith; down = omega arith }

pub loop-k-preserved : goal.loop-k-preserved
loop-k-preserved c =
    let arcs = c.args.arcs.now in
    let k = c.loop-k.k in
    let all = c.all-arc-items in
    let inside : k < arcs.count = omega arith in
    let is = sym (all.ensures.each k inside) in
    let told = c.raise-changed.ensures in
    swept_next arcs c.args.self.now c.loop-k.self k c.loop-k.changed c.loop-k.invariant inside (arc_at all.result.now k) is
    c.raise-changed.new.self c.raise-changed.result told.told told.times told.parents

pub loop-k-init : goal.loop-k-init
loop-k-init c = swept_none c.args.arcs.now c.args.self.now

pub returns : goal.returns
returns c =
    let same : c.loop-k.k ≡ c.args.arcs.now.count = omega arith in
    subst (λ n. Swept c.args.arcs.now c.args.self.now c.loop-k.self n c.loop-k.changed) same c.loop-k.invariant

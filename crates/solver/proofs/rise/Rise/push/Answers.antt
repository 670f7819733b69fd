use Rattle.std.proofs.Common.{◌+◌, sym, subst, arith}
use Rattle.network.proofs.Lengths.{greatest_bounds}
use Rattle.solver.specs.Rising.{time_at, Moved}
use Rattle.solver.proofs.Lows.{low_at}
use Rattle.solver.proofs.Sweeping.{moved_none, moved_one, moved_join}
use Rattle.solver.proofs.rise.Rise.push.Goals as goal
use Rattle.solver.proofs.rise.Rise.push.Goals.{in-Some, in_default}

pub raise-requires : goal.raise-requires
raise-requires c =
    let arcs = c.args.arcs.now in
    let found = c.in-Some.ensures in
    let a = c.in-Some.arc in
    let low = low_at arcs c.from-k.result found.0 a found.1 in
    let x = greatest_bounds (time_at c.loop-hint.self.times) arcs.events a.left low.0 in
    let y = greatest_bounds (time_at c.loop-hint.self.times) arcs.events a.reached low.1.0 in
    let few = arcs.few in
    let small = arcs.small in
    let bound = c.loop-hint.invariant.bound in
    record { left = omega arith; reached = omega arith; index = omega (arith, found.0); up = omega arith; down = omega arith }

pub loop-hint-init : goal.loop-hint-init
loop-hint-init c = moved_none c.args.arcs.now c.args.self.now

pub loop-hint-preserved : goal.loop-hint-preserved
loop-hint-preserved c =
    let arcs = c.args.arcs.now in
    let was = c.args.self.now in
    let so = c.loop-hint.invariant in
    let next = c.loop-hint.hint-index + 1 in
    elim c.match-get.branch [
      | in-Some w ↦
          let found = w.in-Some.ensures in
          let told = w.raise.ensures in
          subst (λ rise. Moved arcs was rise next) (sym w.self-is)
          (moved_join arcs was c.loop-hint.self w.raise.new.self c.loop-hint.hint-index 1 so
          (moved_one arcs c.loop-hint.self c.from-k.result found.0 w.in-Some.arc found.1 w.raise.new.self w.raise.result told.told told.times told.parents))
      | in_default w ↦
          subst (λ rise. Moved arcs was rise next) (sym w.self-is) (record { rising = so.rising; grows = so.grows; bound = omega (arith, so.bound) })
    ]

pub returns : goal.returns
returns c = subst (Moved c.args.arcs.now c.args.self.now c.loop-hint.self) (omega arith) c.loop-hint.invariant

use Rattle.std.proofs.Common.{arith}
use Rattle.network.proofs.Lengths.{greatest_grows}
use Rattle.solver.specs.Rising.{time_at}
use Rattle.solver.proofs.Lowering.{total_falls}
use Rattle.solver.proofs.fall.Fall.settle.Goals as goal

pub pull-requires : goal.pull-requires
pull-requires c =
    let above = c.requires.above in
    record {
      few = omega arith;
      above = record { table = above.table; keeps = above.keeps; below = c.loop-passes.invariant.0 above.table above.keeps above.below };
      bound = c.loop-passes.invariant.1.1;
    }

pub sweep-requires : goal.sweep-requires
sweep-requires c =
    let above = c.requires.above in
    let arcs = c.args.arcs.now in
    let less = greatest_grows (time_at c.pull.new.self.times) (time_at c.loop-passes.self.times) arcs.events (λ e h. c.pull.ensures.falls e) in
    let was = c.loop-passes.invariant.1.1 in
    record {
      above = record { table = above.table; keeps = above.keeps; below = c.pull.ensures.most above.table above.keeps (c.loop-passes.invariant.0 above.table above.keeps above.below) };
      bound = omega arith;
    }

pub loop-passes-preserved : goal.loop-passes-preserved
loop-passes-preserved c =
    let arcs = c.args.arcs.now in
    let fell = c.sweep.ensures in
    let sank = c.pull.ensures in
    let less = greatest_grows (time_at c.sweep.new.self.times) (time_at c.loop-passes.self.times) arcs.events (λ e h. let x = fell.falls e in let y = sank.falls e in omega arith) in
    let was = c.loop-passes.invariant.1.1 in (
      (λ s keeps below. fell.most s keeps (sank.most s keeps (c.loop-passes.invariant.0 s keeps below))),
      ((λ e. let x = fell.falls e in let y = sank.falls e in let z = c.loop-passes.invariant.1.0 e in omega arith), omega arith),
    )

pub loop-passes-smaller : goal.loop-passes-smaller
loop-passes-smaller c =
    let arcs = c.args.arcs.now in
    let more = c.if-not-sweep.ensures.told in
    total_falls (time_at c.loop-passes.self.times) (time_at c.sweep.new.self.times) arcs.events
    (λ e h. let x = c.sweep.ensures.falls e in let y = c.pull.ensures.falls e in omega arith)
    more.0 more.1 (let y = c.pull.ensures.falls more.0 in omega (arith, more.2))

pub returns-then-not-sweep : goal.returns-then-not-sweep
returns-then-not-sweep c =
    let fell = c.sweep.ensures in
    let sank = c.pull.ensures in
    record {
      most = λ s keeps below. fell.most s keeps (sank.most s keeps (c.loop-passes.invariant.0 s keeps below));
      falls = λ e. (let x = fell.falls e in let y = sank.falls e in let z = c.loop-passes.invariant.1.0 e in omega arith);
      keeps = c.if-not-sweep.ensures.told.1;
    }

use Rattle.std.proofs.Common.{refl, inl, inr, arith}
use Rattle.solver.specs.Rising.{time_at}
use Rattle.solver.proofs.Settling.{slack_falls, early, all_early}
use Rattle.solver.proofs.rise.Rise.settle.Goals as goal

pub sweep-changed-requires : goal.sweep-changed-requires
sweep-changed-requires c =
    let few = c.args.arcs.now.few in
    omega (arith, c.push.ensures.bound, c.loop-event.invariant.1)

pub look-requires : goal.look-requires
look-requires c =
    let risen = c.requires.risen in
    record {
      start = risen.start;
      starts = risen.starts;
      rising = c.sweep-changed.ensures.rising risen.start (c.push.ensures.rising risen.start (c.loop-event.invariant.0 risen.start risen.rising));
    }

pub loop-event-preserved : goal.loop-event-preserved
loop-event-preserved c =
    let arcs = c.args.arcs.now in
    let now = c.sweep-changed.new.self in (
      (λ start was. c.sweep-changed.ensures.rising start (c.push.ensures.rising start (c.loop-event.invariant.0 start was))),
      all_early arcs (time_at now.times) (time_at now.parents) c.in_default.ensures,
    )

pub loop-event-smaller : goal.loop-event-smaller
loop-event-smaller c =
    let arcs = c.args.arcs.now in
    let now = c.sweep-changed.new.self in
    let more = c.if-not-changed.ensures.told in
    slack_falls 204800000 (time_at c.loop-event.self.times) (time_at now.times) arcs.events
    (λ e h. let x = c.push.ensures.grows e in let y = c.sweep-changed.ensures.grows e in omega arith)
    (early arcs (time_at now.times) (time_at now.parents) c.in_default.ensures)
    more.0 more.1 (let x = c.push.ensures.grows more.0 in omega (arith, more.2))

pub returns-then-not-changed : goal.returns-then-not-changed
returns-then-not-changed c =
    let arcs = c.args.arcs.now in
    let now = c.sweep-changed.new.self in
    record {
      carries = λ start was. c.sweep-changed.ensures.rising start (c.push.ensures.rising start (c.loop-event.invariant.0 start was));
      first = omega arith;
      bound = all_early arcs (time_at now.times) (time_at now.parents) c.in_default.ensures;
      keeps = c.if-not-changed.ensures.told.2;
    }

pub returns-in-Some : goal.returns-in-Some
returns-in-Some c = record {
  carries = λ start was. c.sweep-changed.ensures.rising start (c.push.ensures.rising start (c.loop-event.invariant.0 start was));
  inside = c.in-Some.ensures.inside;
  ends = inl c.in-Some.ensures;
}

pub returns-then-self-gt0 : goal.returns-then-self-gt0
returns-then-self-gt0 c = record {
  carries = λ start was. c.sweep-changed.ensures.rising start (c.push.ensures.rising start (c.loop-event.invariant.0 start was));
  inside = omega arith;
  ends = inr (refl, (omega arith, c.in_default.ensures 0 (omega arith)));
}

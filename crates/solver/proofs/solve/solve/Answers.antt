use Rattle.std.proofs.Common.{arith}
use Rattle.solver.proofs.Starting.{rising_none, risen_none, none_late}
use Rattle.solver.proofs.solve.solve.Goals as goal

pub none-arcs-requires : goal.none-arcs-requires
none-arcs-requires g c = omega (arith, c.events.ensures, (g.met.N.Network.lawful c.args.network.now).few_events)

pub settle-requires : goal.settle-requires
settle-requires g c =
    let arcs = c.take.new.self in
    let rise = c.begin-rise in
    record {
      risen = risen_none arcs rise.result rise.ensures.times rise.ensures.parents;
      bound = none_late arcs rise.result rise.ensures.times rise.ensures.parents;
    }

pub at_rest-requires : goal.at_rest-requires
at_rest-requires g c =
    let arcs = c.take.new.self in
    let rise = c.begin-rise in
    let rest = c.in-Ok.ensures in
    record {
      rising = rest.carries (λ _. 0) (rising_none arcs rise.result rise.ensures.times rise.ensures.parents);
      first = rest.first;
      bound = rest.bound;
      keeps = rest.keeps;
    }

pub ring_from-requires : goal.ring_from-requires
ring_from-requires g c =
    let arcs = c.take.new.self in
    let rise = c.begin-rise in
    let ringed = c.in-Err.ensures in
    record {
      rising = ringed.carries (λ _. 0) (rising_none arcs rise.result rise.ensures.times rise.ensures.parents);
      inside = ringed.inside;
      ends = ringed.ends;
    }

pub returns-in-Ok : goal.returns-in-Ok
returns-in-Ok g c = c.at_rest.ensures (g.N.Network.network c.args.network.now) c.take.ensures

pub returns-in-Err : goal.returns-in-Err
returns-in-Err g c = c.ring_from.ensures (g.N.Network.network c.args.network.now) c.take.ensures

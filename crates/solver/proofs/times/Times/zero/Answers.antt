use Rattle.std.proofs.Common.{refl, arith}
use Rattle.solver.proofs.Zeros.{zeros}
use Rattle.solver.proofs.times.Times.zero.Goals as goal

pub invariant_of-result : goal.invariant_of-result
invariant_of-result g c = record {
  small = omega (arith, c.events-events.ensures, (g.met.N.Network.lawful c.args.network.now).few_events);
  early = refl;
  late = refl;
  windows = λ e h. omega arith;
  within = λ e h. let x = zeros 1024 e in omega arith;
}

pub returns-clause-noughts : goal.returns-clause-noughts
returns-clause-noughts g c = record { earliest = zeros 1024; latest = zeros 1024; length = refl }

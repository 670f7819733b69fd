use Rattle.std.proofs.Common.{arith}
use Rattle.std.proofs.lemmas.List.{get_or-take, length-take}
use Rattle.solver.specs.Arcs.{no_arc}
use Rattle.solver.proofs.arcs.Arcs.all.Goals as goal

pub returns : goal.returns
returns c =
    let arcs = c.args.self.now in
    let few = arcs.few in
    record { long = omega (arith, length-take arcs.count arcs.arcs, arcs.whole); each = λ k h. get_or-take arcs.count arcs.arcs k no_arc h }

use Rattle.std.proofs.Common.{sym}
use Rattle.solver.proofs.Climbing.{last_first_length}
use Rattle.solver.proofs.ring.Ring.steps.Goals as goal

pub returns : goal.returns
returns c = sym (last_first_length c.args.self.now.steps c.args.self.now.count)

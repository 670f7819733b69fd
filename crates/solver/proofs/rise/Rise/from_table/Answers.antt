use Rattle.solver.proofs.Zeros.{zeros}
use Rattle.solver.proofs.rise.Rise.from_table.Goals as goal

pub returns-clause-parents : goal.returns-clause-parents
returns-clause-parents c = zeros 1024

use Rattle.std.proofs.lemmas.List.{length-replicate}
use Rattle.std.proofs.Common.{None}
use Rattle.table.proofs.Numbered.{at-replicate}
use Rattle.table.proofs.Table.new.Goals as goal

pub invariant_of-result : goal.invariant_of-result
invariant_of-result g c = record { whole = length-replicate g.row.N None }

pub returns : goal.returns
returns g c = at-replicate g.row.N

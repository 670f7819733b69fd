use Rattle.std.proofs.Common.{◌≡◌, false, sym, rules}
use Rattle.book.specs.Rules.{within}
use Rattle.book.proofs.Ranges.{outside}
use Rattle.table.proofs.Tables.{in_table}
use Rattle.table.proofs.Table.get.Goals as goal

pub returns-else-is_within : goal.returns-else-is_within
returns-else-is_within g c =
    let past : within c.args.p g.row.N ≡ false = search rules in
    sym (in_table c.args.self.now c.args.p (outside c.args.p g.row.N past))

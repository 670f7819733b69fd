use Rattle.std.proofs.Common.{◌≡◌, true, sym, ◌∙◌, arith, rules}
use Rattle.std.proofs.lemmas.Bool.{cond-true}
use Rattle.book.specs.Rules.{within}
use Rattle.book.proofs.Ranges.{within_parts}
use Rattle.table.proofs.Numbered.{at_set}
use Rattle.table.proofs.Table.put.Goals as goal

pub returns-then-is_within : goal.returns-then-is_within
returns-then-is_within g c =
    let inside : within c.args.p g.row.N ≡ true = search rules in
    let both = within_parts c.args.p g.row.N inside in
    let size = c.args.self.now.whole in
    at_set c.args.self.now.records c.args.p c.args.stands both.0 (omega (arith, both.1, size)) ∙ sym (cond-true _ _ _ inside)

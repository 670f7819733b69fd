use Rattle.std.proofs.Common.{◌≡◌, length, sym, ap, arith}
use Rattle.std.proofs.lemmas.Fmt.{decimal_digit}
use Rattle.sheet_forms.proofs.size.figure_count.Goals as goal

pub returns-in-None-clause-count : goal.returns-in-None-clause-count
returns-in-None-clause-count c =
    let nought : c.args.n ≡ 0 = c.in-None.ensures.none in
    sym (ap length (decimal_digit c.args.n (omega arith)))

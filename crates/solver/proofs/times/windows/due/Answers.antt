use Rattle.std.proofs.Common.{◌<◌, ◌≢◌, replicate, refl, ◌∙◌, arith}
use Rattle.std.proofs.lemmas.List.{get_or-set_other, get_or-replicate}
use Rattle.solver.proofs.times.windows.due.Goals as goal

pub returns : goal.returns
returns c = record {
  long = refl;
  first = refl;
  others = λ e low high. (let ne : e ≢ 0 = omega arith in let h : e < 1024 = omega arith in get_or-set_other (replicate 1024 c.args.length) 0 e 0 0 ne ∙ get_or-replicate 1024 e c.args.length 0 h);
}

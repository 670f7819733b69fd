use Rattle.std.proofs.Common.{ℕ, ap, ◌∙◌}
use Rattle.solver.specs.Rising.{time_at}
use Rattle.solver.proofs.Zeros.{zeros}
use Rattle.solver.proofs.rise.Rise.begin.Goals as goal

pub returns : goal.returns
returns c = record {
  times = λ (e : ℕ). ap (λ ts. time_at ts e) c.from_table.ensures.times ∙ zeros 1024 e;
  parents = c.from_table.ensures.parents;
}

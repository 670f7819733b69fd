use Rattle.std.proofs.Common.{arith}
use Rattle.sheet.proofs.Stepping.{few_steps}
use Rattle.sheet.proofs.row.Rows.after_steps.Goals as goal

pub overflow_add-steps : goal.overflow_add-steps
overflow_add-steps g c = let few = few_steps c.args.self.now.plan.now.outcome c.args.steps c.requires in omega arith

pub overflow_add-result : goal.overflow_add-result
overflow_add-result g c = let few = few_steps c.args.self.now.plan.now.outcome c.args.steps c.requires in omega arith

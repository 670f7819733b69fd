use Rattle.std.proofs.Common.{codes, refl, rules}
use Rattle.forms.specs.Names.{plan_of}
use Rattle.forms.proofs.Known.{read_as}
use Rattle.forms.proofs.names.PlanKindSpelled.of_word.Goals as goal

pub returns-in-activity : goal.returns-in-activity
returns-in-activity c = read_as plan_of c.args.word.now (codes "activity") _ (search rules) (search rules) refl

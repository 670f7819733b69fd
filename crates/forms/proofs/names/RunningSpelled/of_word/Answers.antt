use Rattle.std.proofs.Common.{codes, refl, rules}
use Rattle.forms.specs.Names.{running_of}
use Rattle.forms.proofs.Known.{read_as}
use Rattle.forms.proofs.names.RunningSpelled.of_word.Goals as goal

pub returns-in-broken : goal.returns-in-broken
returns-in-broken c = read_as running_of c.args.word.now (codes "broken") _ (search rules) (search rules) refl

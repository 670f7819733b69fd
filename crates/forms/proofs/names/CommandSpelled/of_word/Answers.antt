use Rattle.std.proofs.Common.{codes, refl, rules}
use Rattle.forms.specs.Names.{command_of}
use Rattle.forms.proofs.Known.{read_as}
use Rattle.forms.proofs.names.CommandSpelled.of_word.Goals as goal

pub returns-in-strike : goal.returns-in-strike
returns-in-strike c = read_as command_of c.args.word.now (codes "strike") _ (search rules) (search rules) refl

use Rattle.std.proofs.Common.{codes, refl, rules}
use Rattle.forms.specs.Names.{point_kind_of}
use Rattle.forms.proofs.Known.{read_as}
use Rattle.forms.proofs.names.PointKindSpelled.of_word.Goals as goal

pub returns-in-finish : goal.returns-in-finish
returns-in-finish c = read_as point_kind_of c.args.word.now (codes "finish") _ (search rules) (search rules) refl

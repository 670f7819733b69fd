use Rattle.std.proofs.Common.{codes, refl, rules}
use Rattle.forms.specs.Names.{item_kind_of}
use Rattle.forms.proofs.Known.{read_as}
use Rattle.forms.proofs.names.ItemKindSpelled.of_word.Goals as goal

pub returns-in-activity : goal.returns-in-activity
returns-in-activity c = read_as item_kind_of c.args.word.now (codes "activity") _ (search rules) (search rules) refl

pub returns-in-relation : goal.returns-in-relation
returns-in-relation c = read_as item_kind_of c.args.word.now (codes "relation") _ (search rules) (search rules) refl

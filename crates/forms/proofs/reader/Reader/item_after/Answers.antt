use Rattle.std.proofs.Common.{rules}
use Rattle.activity.specs.declared.entry.Work.TheVariants.{Days, Hours}
use Rattle.forms.specs.Parts.{item_after}
use Rattle.forms.proofs.reader.Reader.item_after.Goals as goal

pub returns-in-Days : goal.returns-in-Days
unfolding item_after
returns-in-Days c =
    let done = c.activity.ensures Days (λ n w low made. made) in
    search rules

pub returns-in-Hours : goal.returns-in-Hours
unfolding item_after
returns-in-Hours c =
    let done = c.activity-in-Hours.ensures Hours (λ n w low made. made) in
    search rules

use Rattle.book.proofs.Past.{in_step}
use Rattle.book.specs.Calls.{layer}
use Rattle.table.specs.Standing.{standing}
use Rattle.dates.specs.Layered.{layered}
use Rattle.dates.specs.LayeredLemmas.{layered-blank}
use Rattle.dates.proofs.layer.Dated.over.Goals as goal

pub returns : goal.returns
returns g c =
    let m = g.B.Book.meaning c.args.below in
    let own = standing c.new.result in
    let after = layered-blank m own (g.met.B.Book.keeps c.args.below) c.new.ensures in
    record { after = after; past = in_step m (layered m own) layer after }

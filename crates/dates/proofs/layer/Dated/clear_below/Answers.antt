use Rattle.table.specs.Standing.{standing}
use Rattle.dates.specs.LayeredLemmas.{told_clear_below, cleared_below}
use Rattle.dates.proofs.layer.Dated.clear_below.Goals as goal

-- what the call makes of the book below, it makes of the layer
pub returns : goal.returns
returns g c =
    let m = g.B.Book.meaning c.args.self.now.below in
    let own = standing c.args.self.now.own in
    record {
      answer = told_clear_below m own _ c.args.q c.requires c.clear.ensures.answer;
      after = cleared_below m own _ c.args.q c.requires c.clear.ensures.after;
    }

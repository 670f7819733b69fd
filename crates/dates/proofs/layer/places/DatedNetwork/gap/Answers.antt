use Rattle.std.proofs.Common.{◌≡◌, ◌-◌, ◌<◌, ◌≤◌, rules}
use Rattle.book.specs.Layers.{added}
use Rattle.table.specs.Standing.{standing}
use Rattle.dates.specs.LayeredLemmas.{gap_of_own}
use Rattle.dates.proofs.layer.places.DatedNetwork.gap.Goals as goal

-- one of the layer's own places
pub returns : goal.returns
returns g c =
    let m = g.B.Book.meaning c.args.self.now.below in
    let own = standing c.args.self.now.own in
    let over : m.rule.places < c.args.place = search rules in
    let room : c.args.place - m.rule.places ≤ added m.rule.places = search rules in
    let held = gap_of_own m own c.args.place over room in
    let same : c.places-below.result ≡ m.rule.places = search rules in
    search (rules, held, same)

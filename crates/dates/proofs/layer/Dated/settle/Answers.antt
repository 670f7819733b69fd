use Rattle.std.proofs.Common.{◌≡◌, ◌-◌, None, refl, sym, subst, rules}
use Rattle.std.specs.Result.{result_err}
use Rattle.book.specs.declared.refusal.Layer.TheVariants.{Dates}
use Rattle.book.specs.Calls.{by, answered, with_date}
use Rattle.table.specs.Standing.{standing, changed}
use Rattle.dates.specs.Layered.{layered}
use Rattle.dates.specs.LayeredLemmas.{put_stands}
use Rattle.dates.proofs.layer.Dated.settle.Goals as goal

-- not refused: the record of one of the layer's own places is changed
pub returns-clause-after : goal.returns-clause-after
returns-clause-after g c =
    let m = g.B.Book.meaning c.args.self.now.below in
    let own = standing c.args.self.now.own in
    let q = c.args.q in
    let x = c.args.stands in
    let empty : result_err c.args.verdict ≡ None = search rules in
    let k = q - m.rule.dates in
    let written : standing c.put.new.self ≡ changed 64 own k x = cc in
    let stands = put_stands m own (standing c.put.new.self) q k x refl c.requires.above (c.requires.room empty) written in
    subst (λ v. layered m (standing c.put.new.self) ≡ answered (by Dates q v) (with_date (layered m own) q x) (layered m own)) (sym empty) stands

use Rattle.std.proofs.Common.{decimal, rules}
use Rattle.book.specs.Refusals.{number}
use Rattle.sheet_forms.specs.Shown.{refuser}
use Rattle.sheet_forms.proofs.shown.put_refusal.Goals as goal

pub returns : goal.returns
returns g c =
    let joins = g.met.P.Pieces.joins in
    let layer : g.P.Pieces.grows c.push-2.new.self (refuser c.args.refused.layer) c.push-3.new.self = search rules in
    let why : g.P.Pieces.grows c.push-4.new.self (decimal (number c.args.refused.why)) c.number-3.new.self = search rules in
    joins _ _ _ _ _ c.push.ensures.text
    (joins _ _ _ _ _ c.number.ensures.text
    (joins _ _ _ _ _ c.push-2.ensures.text
    (joins _ _ _ _ _ layer
    (joins _ _ _ _ _ c.push-4.ensures.text
    (joins _ _ _ _ _ why c.push-5.ensures.text)))))

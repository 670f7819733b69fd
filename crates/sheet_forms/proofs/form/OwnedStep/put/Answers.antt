use Rattle.std.proofs.Common.{decimal, rules}
use Rattle.std.specs.Fmt.{signed_decimal}
use Rattle.sheet_forms.specs.Shown.{layer_text, number_of}
use Rattle.sheet_forms.proofs.form.OwnedStep.put.Goals as goal

pub returns : goal.returns
returns g c =
    let joins = g.met.P.Pieces.joins in
    let layer : g.P.Pieces.grows c.push.new.self (layer_text c.args.self.owner) c.push-2.new.self = search rules in
    let number : g.P.Pieces.grows c.push-3.new.self (decimal (number_of c.args.self.owner)) c.number.new.self = search rules in
    let days : g.P.Pieces.grows c.push-6.new.self (signed_decimal c.args.self.gap.days) c.days.new.self = search rules in
    joins _ _ _ _ _ c.push.ensures.text
    (joins _ _ _ _ _ layer
    (joins _ _ _ _ _ c.push-3.ensures.text
    (joins _ _ _ _ _ number
    (joins _ _ _ _ _ c.push-4.ensures.text
    (joins _ _ _ _ _ c.number-2.ensures.text
    (joins _ _ _ _ _ c.push-5.ensures.text
    (joins _ _ _ _ _ c.number-3.ensures.text
    (joins _ _ _ _ _ c.push-6.ensures.text
    (joins _ _ _ _ _ days c.push-7.ensures.text)))))))))

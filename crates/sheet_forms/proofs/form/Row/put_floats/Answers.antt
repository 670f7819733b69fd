use Rattle.std.proofs.Common.{decimal, rules}
use Rattle.sheet_forms.specs.Shown.{float_of}
use Rattle.sheet_forms.proofs.form.Row.put_floats.Goals as goal

pub returns-clause-text : goal.returns-clause-text
returns-clause-text g c =
    let joins = g.met.P.Pieces.joins in
    let start : g.P.Pieces.grows c.args.pieces.now (decimal (float_of c.args.self.start)) c.number.new.self = search rules in
    let finish : g.P.Pieces.grows c.push.new.self (decimal (float_of c.args.self.finish)) c.number-2.new.self = search rules in
    joins _ _ _ _ _ start
    (joins _ _ _ _ _ c.push.ensures.text
    (joins _ _ _ _ _ finish
    (joins _ _ _ _ _ c.push-2.ensures.text c.number-3.ensures.text)))

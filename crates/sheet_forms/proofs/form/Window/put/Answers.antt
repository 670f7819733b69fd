use Rattle.sheet_forms.proofs.form.Window.put.Goals as goal

pub returns-clause-text : goal.returns-clause-text
returns-clause-text g c =
    let joins = g.met.P.Pieces.joins in
    joins _ _ _ _ _ c.number.ensures.text (joins _ _ _ _ _ c.push.ensures.text c.number-2.ensures.text)

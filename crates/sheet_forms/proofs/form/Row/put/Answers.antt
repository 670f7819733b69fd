use Rattle.sheet_forms.proofs.form.Row.put.Goals as goal

pub returns : goal.returns
returns g c =
    let joins = g.met.P.Pieces.joins in
    joins _ _ _ _ _ c.push.ensures.text
    (joins _ _ _ _ _ c.number.ensures.text
    (joins _ _ _ _ _ c.push-2.ensures.text
    (joins _ _ _ _ _ c.put.ensures.text
    (joins _ _ _ _ _ c.push-3.ensures.text
    (joins _ _ _ _ _ c.put-2.ensures.text
    (joins _ _ _ _ _ c.push-4.ensures.text
    (joins _ _ _ _ _ c.put_floats.ensures.text c.push-5.ensures.text)))))))

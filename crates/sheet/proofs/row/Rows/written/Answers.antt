use Rattle.std.proofs.Common.{◌≡◌, ◌+◌, ◌-◌, ◌++◌, length, take, sym, ap, ◌∙◌, arith, rules}
use Rattle.sheet_forms.specs.Shown.{shown}
use Rattle.sheet.specs.Sheets.{rendered}
use Rattle.sheet.specs.Strides.{bytes_left, sheet_bytes}
use Rattle.sheet.proofs.Writing.{form_written}
use Rattle.sheet.proofs.row.Rows.written.Goals as goal

pub loop-form-preserved : goal.loop-form-preserved
loop-form-preserved g c =
    let rest = bytes_left g.B.Entry.Spanned.span_of g.B.Book.meaning c.next.new.self.rows.now c.next.new.self.at in
    let whole = sheet_bytes g.B.Entry.Spanned.span_of g.B.Book.meaning c.args.self.now in
    let xs = c.bytes-bytes.result.now in
    let form : xs ≡ shown c.in-Some.form = c.bytes-bytes.ensures ∙ c.text-text.ensures in
    let more : take c.loop-form.at c.loop-form.out ++ (xs ++ rest) ≡ whole =
    ap (λ zs. take c.loop-form.at c.loop-form.out ++ (zs ++ rest)) form ∙ ap (λ fs. take c.loop-form.at c.loop-form.out ++ rendered fs) (sym c.in-Some.ensures.steps) ∙ c.loop-form.invariant.1.1.0 in
    let copied : c.copy_from_slice.new.self ≡ xs = search rules in
    (c.in-Some.ensures.goes.keeps, form_written c.loop-form.out c.loop-form.at c.loop-form.invariant.1.0.1 c.args.out.now xs rest whole (c.loop-form.at + length xs - c.loop-form.at) c.copy_from_slice.new.self copied (omega arith) c.loop-form.invariant.1.0.0 c.requires more c.loop-form.invariant.1.1.1)

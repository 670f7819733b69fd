use Rattle.std.proofs.Common.{◌≡◌, Some, None, Err, sym, refl, subst, arith, rules}
use Rattle.forms.specs.declared.reader.NoForm.{NoForm}
use Rattle.forms.specs.Texts.{left, Ends, Reads}
use Rattle.forms.specs.Lines.{form_at}
use Rattle.forms.proofs.Answering.{end_ends, end_reads, form_ends, form_reads, form_shrinks, none_ends, none_reads, all_apart}
use Rattle.forms.proofs.reader.Reader.next.Goals as goal

pub returns-then-self : goal.returns-then-self
returns-then-self c =
    let t = c.args.self.now.text.now in
    let at = c.args.self.now.at in
    record {
      ends = end_ends t at (omega arith);
      reads = end_reads t at _ (omega arith);
      stays = refl;
      shrinks = tt;
      text = refl;
      apart = all_apart;
    }

pub returns-in_err-form : goal.returns-in_err-form
returns-in_err-form c =
    let t = c.args.self.now.text.now in
    let at = c.args.self.now.at in
    let none : form_at t at ≡ None = search rules in
    let is : (e : NoForm) × (c.from_residual.result ≡ Err e) = (_, search rules) in
    record {
      ends = subst (Ends (left c.args.self.now)) (sym is.1) (none_ends t at is.0 (omega arith));
      reads = subst (Reads (left c.args.self.now) (left c.args.self.now)) (sym is.1) (none_reads t at _ is.0 none);
      stays = search rules;
      shrinks = search rules;
      text = refl;
      apart = all_apart;
    }

pub returns : goal.returns
returns c =
    let t = c.args.self.now.text.now in
    let at = c.args.self.now.at in
    let f = c.in_ok-form.form in
    let e = c.form.new.self.at in
    let some : form_at t at ≡ Some (f, e) = search rules in
    record {
      ends = form_ends t at f (omega arith);
      reads = form_reads t at f e some;
      stays = tt;
      shrinks = form_shrinks t at f e some;
      text = refl;
      apart = all_apart;
    }

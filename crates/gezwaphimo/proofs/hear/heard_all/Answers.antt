use Rattle.std.proofs.Common.{◌≡◌, ◌<◌, length, Ok, Err, Some, sym, refl, subst, arith, rules}
use Rattle.forms.specs.declared.reader.NoForm.{NoForm}
use Rattle.forms.specs.Texts.{left, Shrinks}
use Rattle.gezwaphimo.specs.Hearing.{HeardAll, SaidBy, no_form_refusal, unsaid_refusal}
use Rattle.gezwaphimo.specs.Texts.{Heard}
use Rattle.gezwaphimo.specs.Words.{call_of}
use Rattle.gezwaphimo.proofs.Lines.{heard_none, heard_more, ends_no_form, ends_unsaid, said_ok, by_result, error_not_value}
use Rattle.gezwaphimo.proofs.hear.heard_all.Goals as goal

pub returns-in_err-form : goal.returns-in_err-form
returns-in_err-form g c =
    let span_of = g.B.Entry.Spanned.span_of in
    let entry_of = g.B.Entry.Worded.entry_of in
    let event_of = g.B.Entry.Worded.event_of in
    let m = g.B.Book.meaning c.loop-form.book in
    let line = c.loop-form.line in
    let before = left c.loop-form.reader in
    let none : (why : NoForm) × (c.next.result ≡ Err why) × (c.from_residual.result ≡ Err (no_form_refusal line)) = (_, search rules, search rules) in
    subst (HeardAll span_of entry_of event_of (g.B.Book.meaning c.args.book.now) m (left c.args.reader.now)) (sym none.2)
    (c.loop-form.invariant.1 _ (heard_none span_of entry_of event_of m line before _ (ends_no_form span_of entry_of event_of m line before (left c.next.new.self) c.next.result none.0 c.next.ensures.ends c.next.ensures.reads none.1)))

pub say_to-requires : goal.say_to-requires
say_to-requires g c =
    let found : c.next.result ≡ Ok (Some c.in-Some.form) = search rules in
    ((c.next.ensures.reads c.in-Some.form (left c.next.new.self)).0 (found, refl)).0

pub returns-in_err-map_err : goal.returns-in_err-map_err
returns-in_err-map_err g c =
    let span_of = g.B.Entry.Spanned.span_of in
    let entry_of = g.B.Entry.Worded.entry_of in
    let event_of = g.B.Entry.Worded.event_of in
    let m = g.B.Book.meaning c.loop-form.book in
    let n = g.B.Book.meaning c.say_to.new.book in
    let line = c.loop-form.line in
    let form = c.in-Some.form in
    let before = left c.loop-form.reader in
    let rest = left c.next.new.self in
    let found : c.next.result ≡ Ok (Some form) = search rules in
    let stands = (c.next.ensures.reads form rest).0 (found, refl) in
    by_result c.say_to.result
    (λ u is. absurd (error_not_value u c.in_err-map_err.field-0.0 (search rules)))
    (λ why is.
    let made : c.from_residual-in_err-map_err.result ≡ Err (unsaid_refusal line why) = search rules in
    let said = subst (SaidBy (call_of entry_of event_of form) m n) is c.say_to.ensures in
    subst (HeardAll span_of entry_of event_of (g.B.Book.meaning c.args.book.now) n (left c.args.reader.now)) (sym made)
    (c.loop-form.invariant.1 _ (heard_none span_of entry_of event_of m line before _ (ends_unsaid span_of entry_of event_of m n line form before rest why stands said))))

pub loop-form-preserved : goal.loop-form-preserved
loop-form-preserved g c =
    let span_of = g.B.Entry.Spanned.span_of in
    let entry_of = g.B.Entry.Worded.entry_of in
    let event_of = g.B.Entry.Worded.event_of in
    let m = g.B.Book.meaning c.loop-form.book in
    let n = g.B.Book.meaning c.say_to.new.book in
    let line = c.loop-form.line in
    let form = c.in-Some.form in
    let rest = left c.next.new.self in
    let found : c.next.result ≡ Ok (Some form) = search rules in
    let taken : c.say_to.result ≡ Ok tt = search rules in
    let stands = (c.next.ensures.reads form rest).0 (found, refl) in
    let done = said_ok m n (call_of entry_of event_of form) (subst (SaidBy (call_of entry_of event_of form) m n) taken c.say_to.ensures) in
    let less : length rest < length (left c.loop-form.reader) = subst (Shrinks (left c.loop-form.reader) rest) found c.next.ensures.shrinks in
    let was = c.loop-form.invariant.0 in
    (omega arith, λ bytes more. c.loop-form.invariant.1 bytes (subst (λ text. Heard span_of entry_of event_of m line text bytes) (sym stands.1) (heard_more span_of entry_of event_of m n line form rest bytes stands.0 done.0 done.1 done.2 done.3 more)))

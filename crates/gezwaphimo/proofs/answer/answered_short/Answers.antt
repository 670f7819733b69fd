use Rattle.std.proofs.Common.{◌≡◌, [], drop, Some, None, sym, refl, ap, ◌∙◌, subst, rules}
use Rattle.book.specs.declared.refusal.Layer.TheVariants.{Text}
use Rattle.book.specs.Refusals.{number}
use Rattle.sheet.specs.Spans.{span_of_entry, span_of_arrow}
use Rattle.gezwaphimo.specs.Words.{entry_of_item, event_of_point, arrow_of_item, node_of_point}
use Rattle.activity.specs.Rule.{activity_rule}
use Rattle.arrow.specs.Rule.{arrow_rule}
use Rattle.forms.specs.declared.form.PlanKind.TheVariants as plan
use Rattle.forms.specs.Texts.{left, Reads}
use Rattle.sheet_forms.specs.Shown.{refused_text}
use Rattle.gezwaphimo.specs.Kinds.{kind_of}
use Rattle.gezwaphimo.specs.Texts.{no_plan, activities, arrows, Heard, Poured}
use Rattle.gezwaphimo.proofs.Firsts.{begun, not_begun}
use Rattle.gezwaphimo.proofs.answer.answered_short.Goals as goal

pub returns-in-None : goal.returns-in-None
returns-in-None c =
    let text = c.args.text.now in
    let rest = left c.next-first.new.self in
    let whole : left c.new-reader.result ≡ text = ap (λ i. drop i c.new-reader.result.text.now) c.new-reader.ensures.start ∙ c.new-reader.ensures.text in
    let reads : Reads text rest c.next-first.result = subst (λ t. Reads t rest c.next-first.result) whole c.next-first.ensures.reads in
    let none : kind_of c.next-first.result ≡ None = search rules in
    record {
      bytes = refused_text 1 Text 13;
      to = no_plan c.requires (not_begun text rest c.next-first.result reads none) refl;
      poured = subst (λ k. Poured (refused_text k.place k.layer (number k.why)) c.args.out.now c.poured.new.out c.poured.result) c.no_form.ensures c.poured.ensures;
    }

pub returns-in-Activity : goal.returns-in-Activity
returns-in-Activity c =
    let text = c.args.text.now in
    let rest = left c.next-first.new.self in
    let whole : left c.new-reader.result ≡ text = ap (λ i. drop i c.new-reader.result.text.now) c.new-reader.ensures.start ∙ c.new-reader.ensures.text in
    let reads : Reads text rest c.next-first.result = subst (λ t. Reads t rest c.next-first.result) whole c.next-first.ensures.reads in
    let some : kind_of c.next-first.result ≡ Some plan.Activity = sym c.kind_of.ensures ∙ c.in-Some.is ∙ ap Some c.in-Activity.is in
    let start = c.over.ensures.past activity_rule [] c.new.ensures in
    record {
      bytes = c.finish.ensures.bytes;
      to = activities c.requires rest (begun text rest c.next-first.result plan.Activity reads some) (subst (λ m. Heard span_of_entry entry_of_item event_of_point m 2 rest c.finish.ensures.bytes) start c.finish.ensures.heard);
      poured = c.finish.ensures.poured;
    }

pub returns-in-Arrow : goal.returns-in-Arrow
returns-in-Arrow c =
    let text = c.args.text.now in
    let rest = left c.next-first.new.self in
    let whole : left c.new-reader.result ≡ text = ap (λ i. drop i c.new-reader.result.text.now) c.new-reader.ensures.start ∙ c.new-reader.ensures.text in
    let reads : Reads text rest c.next-first.result = subst (λ t. Reads t rest c.next-first.result) whole c.next-first.ensures.reads in
    let some : kind_of c.next-first.result ≡ Some plan.Arrow = sym c.kind_of.ensures ∙ c.in-Some.is ∙ ap Some c.in-Arrow.is in
    let start = c.over-in-Arrow.ensures.past arrow_rule [] c.new-in-Arrow.ensures in
    record {
      bytes = c.finish-in-Arrow.ensures.bytes;
      to = arrows c.requires rest (begun text rest c.next-first.result plan.Arrow reads some) (subst (λ m. Heard span_of_arrow arrow_of_item node_of_point m 2 rest c.finish-in-Arrow.ensures.bytes) start c.finish-in-Arrow.ensures.heard);
      poured = c.finish-in-Arrow.ensures.poured;
    }

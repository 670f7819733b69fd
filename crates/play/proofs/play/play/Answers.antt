use Rattle.std.proofs.Common.{◌≡◌, List, drop, sym, refl, ap, ◌∙◌, subst, arith, rules}
use Rattle.std.proofs.lemmas.List.{at_drop_all, drop_all}
use Rattle.book.specs.Past.{heard}
use Rattle.book.specs.Rules.{Rule, network_of}
use Rattle.book.specs.Calls.{Call}
use Rattle.plan.specs.Issues.{Right}
use Rattle.play.specs.declared.call.PlanCall.{PlanCall}
use Rattle.play.specs.Asked.{AllAsked}
use Rattle.play.specs.Played.{hears_all, heard_all}
use Rattle.play.specs.Stages.{book_in}
use Rattle.play.proofs.Lists.{hears-heard}
use Rattle.play.proofs.play.play.Goals as goal

pub returns : goal.returns
returns g c =
    let meaning = g.B.Book.meaning in
    let calls = c.args.calls.now in
    let none : hears_all (meaning (book_in c.loop-call.stage)) (drop c.loop-call.call-index calls) ≡ meaning (book_in c.loop-call.stage) =
    at_drop_all (hears_all (meaning (book_in c.loop-call.stage))) calls c.loop-call.call-index (omega arith) in
    let whole : meaning c.issued.result.book ≡ hears_all (meaning c.args.book) calls =
    ap meaning c.issued.ensures.book ∙ sym none ∙ c.loop-call.invariant.0 ∙ ap (λ b. hears_all (meaning b) calls) (search rules) in
    let past : (r : Rule _) (cs : List (Call _)) → meaning c.args.book ≡ heard r cs → meaning c.issued.result.book ≡ heard r (heard_all calls cs) =
    λ r cs led. whole ∙ ap (λ m. hears_all m calls) led ∙ hears-heard r cs calls in
    record {
      after = whole;
      right = subst (λ m. Right (network_of m) c.issued.result.outcome) whole c.issued.ensures.right;
      past = past;
      heard = λ r cs led. subst (λ m. Right (network_of m) c.issued.result.outcome) (past r cs led) c.issued.ensures.right;
      sheets = subst (λ b. AllAsked g.B.Entry.Spanned.span_of (meaning b) calls c.args.bytes.now c.loop-call.bytes) c.over.ensures (c.loop-call.invariant.1.1 c.loop-call.bytes (subst (λ (cs : List (PlanCall _)). AllAsked g.B.Entry.Spanned.span_of (meaning (book_in c.loop-call.stage)) cs c.loop-call.bytes c.loop-call.bytes) (sym (drop_all c.loop-call.call-index calls (omega arith))) refl));
    }

-- What comes of a text, line by line. Assumes nothing.
use Rattle.std.proofs.Common.{◌≡◌, ℕ, ◌+◌, List, [], ◌∷◌, ◌++◌, length, Some, None, Ok, Err, Option, Result, sym, refl, ap, ◌∙◌, subst, append_assoc, arith}
use Rattle.std.proofs.lemmas.Option.{none-some, same_Some}
use Rattle.book.specs.declared.refusal.Refused as kinds
use Rattle.book.specs.Refusals.{Told, refused_by, number}
use Rattle.gezwaphimo.specs.declared.said.Unsaid.{Unsaid}
use Rattle.gezwaphimo.specs.declared.said.Unsaid.TheVariants.{NoCall, Refused}
use Rattle.gezwaphimo.specs.Hearing.{SaidBy, said_told, unsaid_refusal}
use Rattle.book.specs.Calls.{Call, refusal, hears}
use Rattle.book.specs.Rules.{BookMeaning}
use Rattle.sheet.specs.declared.span.Span.{Span}
use Rattle.forms.specs.declared.form.Form.{Form}
use Rattle.forms.specs.declared.form.Item.{Item}
use Rattle.forms.specs.declared.form.Point.{Point}
use Rattle.forms.specs.Spelling.{spelled, Short}
use Rattle.gezwaphimo.specs.Words.{call_of}
use Rattle.forms.specs.declared.reader.NoForm.{NoForm}
use Rattle.forms.specs.Texts.{Ends, Stands, Reads}
use Rattle.book.specs.declared.refusal.Layer.TheVariants.{Text}
use Rattle.sheet_forms.specs.Shown.{refused_text}
use Rattle.gezwaphimo.specs.Texts.{spelled_all, Carried, Ending, no_form, no_call, refused, Heard}

module _ {E : Type 0} (span_of : E → ℕ → Option Span) (entry_of : Item → Option E) (event_of : Point → Option ℕ) where
  -- nothing is carried out, and the text ends as it stands
  pub heard_none : (m : BookMeaning E) (line : ℕ) (text bytes : List ℕ) → Ending span_of entry_of event_of m line text bytes → Heard span_of entry_of event_of m line text bytes
  heard_none m line text bytes ends = record {
    forms = [];
    after = m;
    tail = text;
    whole = refl;
    carried = refl;
    ends = let same : line ≡ line + 0 = omega arith in subst (λ n. Ending span_of entry_of event_of m n text bytes) same ends;
  }

  -- a form is carried out, and the text goes on after it
  pub heard_more : (m n : BookMeaning E) (line : ℕ) (f : Form) (rest bytes : List ℕ) → Short f → (c : Call E) → call_of entry_of event_of f ≡ Some c → refusal m c ≡ None → n ≡ hears m c
      → Heard span_of entry_of event_of n (line + 1) rest bytes → Heard span_of entry_of event_of m line (spelled f ++ rest) bytes
  heard_more m n line f rest bytes short c says taken next more = record {
    forms = f ∷ more.forms;
    after = more.after;
    tail = more.tail;
    whole = ap (λ xs. spelled f ++ xs) more.whole ∙ sym (append_assoc (spelled f) (spelled_all more.forms) more.tail);
    carried = record { short = short; call = c; says = says; taken = taken; rest = subst (λ k. Carried span_of entry_of event_of k more.forms more.after) next more.carried };
    ends =
        let same : line + 1 + length more.forms ≡ line + length (f ∷ more.forms) = omega arith in
        subst (λ k. Ending span_of entry_of event_of more.after k more.tail bytes) same more.ends;
  }

-- an error is not a value
pub error_not_value : {A B : Type 0} (x : A) (e : B) → ◌≡◌ {A = Result A B} (Err e) (Ok x) → ⊥
error_not_value x e is = let z : ◌≡◌ {A = ℕ} 0 1 = cc in omega arith

-- a result is a value or an error
pub by_result : {A B P : Type 0} (r : Result A B) → ((x : A) → r ≡ Ok x → P) → ((e : B) → r ≡ Err e → P) → P
by_result (Ok x) f g = f x refl
by_result (Err e) f g = g e refl

-- the reader finds no form there
pub ends_no_form : {E : Type 0} (span_of : E → ℕ → Option Span) (entry_of : Item → Option E) (event_of : Point → Option ℕ) (m : BookMeaning E) (line : ℕ) (before after : List ℕ) (answer : Result (Option Form) NoForm) (why : NoForm)
    → Ends before answer → Reads before after answer → answer ≡ Err why → Ending span_of entry_of event_of m line before (refused_text line Text 13)
ends_no_form span_of entry_of event_of m line before after answer why ends reads is = no_form
    (λ none. error_not_value None why (sym is ∙ ends.1 none))
    (λ f rest short stands. error_not_value (Some f) why (sym is ∙ ((reads f rest).1 (short, stands)).0))
    refl

module _ {E : Type 0} (m n : BookMeaning E) where
  -- a form that says no call
  pub said_none : (o : Option (Call E)) → SaidBy o m n (Err NoCall) → o ≡ None
  said_none None s = refl
  said_none (Some c) s = absurd (none-some (refusal m c) s.0)

  -- a call that is refused
  pub said_err : (o : Option (Call E)) (k : kinds.Refused) → SaidBy o m n (Err (Refused k)) → (c : Call E) × (o ≡ Some c) × (refusal m c ≡ Some (refused_by k.layer k.place k.why))
  said_err None k s = absurd (none-some {A = Option Told} (Some (refused_by k.layer k.place k.why)) (sym (ap said_told s.0)))
  said_err (Some c) k s = (c, refl, sym (same_Some (Some (refused_by k.layer k.place k.why)) (refusal m c) s.0))

  -- a call that is carried out
  pub said_ok : (o : Option (Call E)) → SaidBy o m n (Ok tt) → (c : Call E) × (o ≡ Some c) × (refusal m c ≡ None) × (n ≡ hears m c)
  said_ok None s = absurd (none-some {A = Option Told} None (sym (ap said_told s.0)))
  said_ok (Some c) s = (c, refl, sym (same_Some None (refusal m c) s.0), s.1)

-- a form that is not carried out
pub ends_unsaid : {E : Type 0} (span_of : E → ℕ → Option Span) (entry_of : Item → Option E) (event_of : Point → Option ℕ) (m n : BookMeaning E) (line : ℕ) (f : Form) (before rest : List ℕ) (why : Unsaid)
    → Stands f before rest → SaidBy (call_of entry_of event_of f) m n (Err why) → Ending span_of entry_of event_of m line before (refused_text (unsaid_refusal line why).place (unsaid_refusal line why).layer (number (unsaid_refusal line why).why))
ends_unsaid span_of entry_of event_of m n line f before rest NoCall stands said = no_call f rest stands.0 stands.1 (said_none m n (call_of entry_of event_of f) said) refl
ends_unsaid span_of entry_of event_of m n line f before rest (Refused k) stands said =
    let told = said_err m n (call_of entry_of event_of f) k said in
    refused f rest stands.0 stands.1 told.0 told.1 _ told.2 refl

-- A text, heard form by form. Assumes nothing.
--     no_form_refusal line       no form stands at that text line
--     unsaid_refusal line why    a form that is not carried out, as the answer to the text says it
--     said_told answer           what is told of a form's call; nothing where it says none
--     SaidBy ..                 what comes of a form that says a call, or none
--     HeardAll ..               what comes of all that is left of a text
use Rattle.std.specs.Prelude.{◌≡◌, ℕ, List, Some, None, Ok, Err, Option, Result}
use Rattle.book.specs.declared.refusal.Layer.TheVariants.{Text}
use Rattle.book.specs.declared.refusal.Refusal.TheVariants.{NoForm}
use Rattle.book.specs.declared.refusal.Refused as kinds
use Rattle.book.specs.Calls.{Call, refusal, hears}
use Rattle.book.specs.Refusals.{Told, refused_by, number}
use Rattle.book.specs.Rules.{BookMeaning}
use Rattle.sheet.specs.declared.span.Span.{Span}
use Rattle.sheet_forms.specs.Shown.{refused_text}
use Rattle.forms.specs.declared.form.Item.{Item}
use Rattle.forms.specs.declared.form.Point.{Point}
use Rattle.gezwaphimo.specs.declared.said.Unsaid.{Unsaid}
use Rattle.gezwaphimo.specs.declared.said.Unsaid.TheVariants.{NoCall, Refused}
use Rattle.gezwaphimo.specs.Texts.{Sheeted, Heard}

abbrev pub no_form_refusal : ℕ → kinds.Refused
no_form_refusal line = record { why = NoForm; layer = Text; place = line }

abbrev pub unsaid_refusal : ℕ → Unsaid → kinds.Refused
unsaid_refusal line NoCall = no_form_refusal line
unsaid_refusal line (Refused k) = record { why = k.why; layer = k.layer; place = line }

abbrev pub said_told : Result (Unit {0}) Unsaid → Option (Option Told)
said_told (Ok u) = Some None
said_told (Err NoCall) = None
said_told (Err (Refused k)) = Some (Some (refused_by k.layer k.place k.why))

abbrev pub SaidBy : {E : Type 0} → Option (Call E) → BookMeaning E → BookMeaning E → Result (Unit {0}) Unsaid → Type 0
SaidBy None m n answer = (answer ≡ Err NoCall) × (n ≡ m)
SaidBy (Some c) m n answer = (said_told answer ≡ Some (refusal m c)) × (n ≡ hears m c)

module _ {E : Type 0} (span_of : E → ℕ → Option Span) (entry_of : Item → Option E) (event_of : Point → Option ℕ) where
  abbrev pub HeardAll : BookMeaning E → BookMeaning E → List ℕ → Result (Unit {0}) kinds.Refused → Type 0
  HeardAll m n text (Ok u) = (bytes : List ℕ) → Sheeted span_of entry_of event_of n bytes → Heard span_of entry_of event_of m 2 text bytes
  HeardAll m n text (Err k) = Heard span_of entry_of event_of m 2 text (refused_text k.place k.layer (number k.why))

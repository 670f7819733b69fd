-- The answer to a text, as a relation between bytes and bytes. Assumes nothing.
--     spelled_all fs            the lines of the forms fs
--     Carried m fs n           each form says a call that is carried out, one after another, from m to n
--     Sheeted m bytes          the bytes are the sheet of an issued plan that is right of m
--     Ending m line tail bytes what comes of a tail that begins at that text line
--     Heard m line text bytes  what comes of the lines of a text from that one on
--     AnswerTo text bytes      the answer to a text
--     Poured bytes ..          the bytes are in the caller's, or are refused and the caller's are as they were
use Rattle.std.specs.Prelude.{◌≡◌, ℕ, ◌+◌, ◌<◌, ◌≤◌, cond, List, [], ◌∷◌, ◌++◌, length, drop, ℤ, pos, negsuc, Some, None, Ok, Err, Option, Result, ◌≢◌, nat_le}
use Rattle.book.specs.declared.refusal.Layer.TheVariants.{Text}
use Rattle.book.specs.declared.refusal.Refusal.TheVariants.{BufferTooShort}
use Rattle.book.specs.declared.refusal.Refused.{Refused}
use Rattle.book.specs.Calls.{Call, layer, refusal, hears}
use Rattle.book.specs.Past.{heard}
use Rattle.book.specs.Refusals.{Told}
use Rattle.book.specs.Rules.{BookMeaning, network_of}
use Rattle.activity.specs.Rule.{activity_rule}
use Rattle.arrow.specs.Rule.{arrow_rule}
use Rattle.plan.specs.Issues.{Right}
use Rattle.plan.specs.Readings.{refused_at}
use Rattle.solver.specs.declared.ring.Ring.{Ring}
use Rattle.solver.specs.declared.times.Times.{Times}
use Rattle.sheet.specs.declared.span.Span.{Span}
use Rattle.sheet.specs.Sheets.{SheetOf, rendered}
use Rattle.sheet.specs.Spans.{span_of_entry, span_of_arrow}
use Rattle.sheet_forms.specs.declared.form.SheetForm.{SheetForm}
use Rattle.sheet_forms.specs.Shown.{refused_text}
use Rattle.forms.specs.declared.form.Form.{Form}
use Rattle.forms.specs.declared.form.Form.TheVariants.{Plan}
use Rattle.forms.specs.declared.form.PlanKind.{PlanKind}
use Rattle.forms.specs.declared.form.PlanKind.TheVariants as plan
use Rattle.forms.specs.declared.form.Item.{Item}
use Rattle.forms.specs.declared.form.Point.{Point}
use Rattle.forms.specs.Spelling.{spelled, Short}
use Rattle.gezwaphimo.specs.Words.{call_of, entry_of_item, event_of_point, arrow_of_item, node_of_point}

abbrev pub spelled_all : List Form → List ℕ
spelled_all [] = []
spelled_all (f ∷ fs) = spelled f ++ spelled_all fs

module _ {E : Type 0} (span_of : E → ℕ → Option Span) (entry_of : Item → Option E) (event_of : Point → Option ℕ) where
  -- a form that says a call which is carried out
  pub record Done (m : BookMeaning E) (f : Form) (Rest : BookMeaning E → Type 0) : Type 0 where
    pub short : Short f
    pub call : Call E
    pub says : call_of entry_of event_of f ≡ Some call
    pub taken : refusal m call ≡ None
    pub rest : Rest (hears m call)

  abbrev pub Carried : BookMeaning E → List Form → BookMeaning E → Type 0
  Carried m [] n = n ≡ m
  Carried m (f ∷ fs) n = Done m f (λ k. Carried k fs n)

  pub record Sheeted (m : BookMeaning E) (bytes : List ℕ) : Type 0 where
    pub outcome : Result Times Ring
    pub right : Right (network_of m) outcome
    pub forms : List SheetForm
    pub sheet : SheetOf span_of m outcome forms
    pub is : bytes ≡ rendered forms

  pub data Ending (m : BookMeaning E) (line : ℕ) (tail bytes : List ℕ) : Type 0 where
    -- the text ends there, and the plan is issued
    issued : tail ≡ [] → Sheeted m bytes → Ending m line tail bytes
    -- no form stands there
    no_form : (tail ≢ []) → ((f : Form) (rest : List ℕ) → Short f → tail ≢ spelled f ++ rest) → bytes ≡ refused_text line Text 13 → Ending m line tail bytes
    -- a form of the other kind of plan stands there, or one that begins a plan
    no_call : (f : Form) (rest : List ℕ) → Short f → tail ≡ spelled f ++ rest → call_of entry_of event_of f ≡ None → bytes ≡ refused_text line Text 13 → Ending m line tail bytes
    -- a form stands there whose call is refused
    refused : (f : Form) (rest : List ℕ) → Short f → tail ≡ spelled f ++ rest → (c : Call E) → call_of entry_of event_of f ≡ Some c → (k : Told) → refusal m c ≡ Some k → bytes ≡ refused_text line k.layer k.number → Ending m line tail bytes

  pub record Heard (m : BookMeaning E) (line : ℕ) (text bytes : List ℕ) : Type 0 where
    pub forms : List Form
    pub after : BookMeaning E
    pub tail : List ℕ
    pub whole : text ≡ spelled_all forms ++ tail
    pub carried : Carried m forms after
    pub ends : Ending after (line + length forms) tail bytes

-- a new book with one date layer; the plan form is the first line
pub data AnswerTo (text bytes : List ℕ) : Type 0 where
  too_long : 65536 < length text → bytes ≡ refused_text 0 Text 15 → AnswerTo text bytes
  no_plan : length text ≤ 65536 → ((k : PlanKind) (rest : List ℕ) → text ≢ spelled (Plan k) ++ rest) → bytes ≡ refused_text 1 Text 13 → AnswerTo text bytes
  activities : length text ≤ 65536 → (rest : List ℕ) → text ≡ spelled (Plan plan.Activity) ++ rest → Heard span_of_entry entry_of_item event_of_point (heard activity_rule (layer ∷ [])) 2 rest bytes → AnswerTo text bytes
  arrows : length text ≤ 65536 → (rest : List ℕ) → text ≡ spelled (Plan plan.Arrow) ++ rest → Heard span_of_arrow arrow_of_item node_of_point (heard arrow_rule (layer ∷ [])) 2 rest bytes → AnswerTo text bytes

pub record Poured (bytes before now : List ℕ) (answer : Result ℕ Refused) : Type 0 where
  pub told : answer ≡ cond (nat_le (length bytes) (length before)) (Ok (length bytes)) (Err (refused_at BufferTooShort 0))
  pub held : now ≡ cond (nat_le (length bytes) (length before)) (bytes ++ drop (length bytes) before) before

-- the answer to the rest of a text is in the caller's bytes, or is refused
pub record RestAnswered {E : Type 0} (span_of : E → ℕ → Option Span) (entry_of : Item → Option E) (event_of : Point → Option ℕ) (m : BookMeaning E) (rest before now : List ℕ) (answer : Result ℕ Refused) : Type 0 where
  pub bytes : List ℕ
  pub heard : Heard span_of entry_of event_of m 2 rest bytes
  pub poured : Poured bytes before now answer

-- the answer to a text is in the caller's bytes, or is refused
pub record TextAnswered (text before now : List ℕ) (answer : Result ℕ Refused) : Type 0 where
  pub bytes : List ℕ
  pub to : AnswerTo text bytes
  pub poured : Poured bytes before now answer

-- the count of the bytes, or -14 exactly where they are more than there is room for
pub record Answered (text before now : List ℕ) (count : ℤ) : Type 0 where
  pub bytes : List ℕ
  pub to : AnswerTo text bytes
  pub told : count ≡ cond (nat_le (length bytes) (length before)) (pos (length bytes)) (negsuc 13)
  pub held : now ≡ cond (nat_le (length bytes) (length before)) (bytes ++ drop (length bytes) before) before

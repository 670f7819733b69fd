-- The calls that a planner hears, what each is answered, and what is written afterwards. Assumes nothing.
--     refusal m c     the refusal that meets the call, in the order of the tests; nothing where it is carried out
--     hears m c       what the book means after the call: a refused one alters nothing
use Rattle.std.specs.Prelude.{ℕ, Bool, true, false, cond, not, is_some, Some, None, Option, ◌==◌, nat_le}
use Rattle.book.specs.declared.date.Date.{Date}
use Rattle.book.specs.declared.refusal.Layer.{Layer}
use Rattle.book.specs.declared.refusal.Layer.TheVariants.{Book, Dates}
use Rattle.book.specs.declared.refusal.Refusal.{Refusal}
use Rattle.book.specs.declared.refusal.Refusal.TheVariants.{NoSuchLine, LineStands, LineEmpty, OutOfRange, StillNamed, NoSuchEvent, NoSuchDatePlace, DatePlaceEmpty}
use Rattle.book.specs.Refusals.{Told, refused_by}
use Rattle.book.specs.Rules.{BookMeaning, within}
use Rattle.book.specs.Layers.{layer_rule}

pub data Call (E : Type 0) : Type 0 where
  enter : ℕ → E → Call E
  alter : ℕ → E → Call E
  strike : ℕ → Call E
  date : ℕ → Date → Call E
  clear : ℕ → Call E
  -- a date layer is laid over the book
  layer : Call E
  -- issue, reopen and every reading: nothing is written
  look : Call E

-- f, but x at p
abbrev pub put : {X : Type 0} → (ℕ → Option X) → ℕ → Option X → ℕ → Option X
put f p x q = cond (q == p) x (f q)

infixr 20 ◌or_else◌
-- the first refusal of two
abbrev pub ◌or_else◌ : Option Refusal → Option Refusal → Option Refusal
Some k or_else other = Some k
None or_else other = other

abbrev pub unless : Bool → Refusal → Option Refusal
unless true k = None
unless false k = Some k

abbrev pub by : Layer → ℕ → Option Refusal → Option Told
by l p None = None
by l p (Some k) = Some (refused_by l p k)

module _ {E : Type 0} where
  abbrev pub on_enter : BookMeaning E → ℕ → E → Option Refusal
  on_enter m p e =
      unless (within p m.rule.lines) NoSuchLine or_else
      unless (not (is_some (m.ledger.line p))) LineStands or_else
      m.rule.enters m.ledger.line p e

  -- the entry is judged as if the line were empty
  abbrev pub on_alter : BookMeaning E → ℕ → E → Option Refusal
  on_alter m p e =
      unless (within p m.rule.lines) NoSuchLine or_else
      unless (is_some (m.ledger.line p)) LineEmpty or_else
      m.rule.enters (put m.ledger.line p None) p e or_else
      unless (m.rule.alters m.ledger.line p e) StillNamed

  abbrev pub on_strike : BookMeaning E → ℕ → Option Refusal
  on_strike m p =
      unless (within p m.rule.lines) NoSuchLine or_else
      unless (is_some (m.ledger.line p)) LineEmpty or_else
      unless (m.rule.strikes m.ledger.line p) StillNamed

  abbrev pub on_date : BookMeaning E → ℕ → Date → Option Refusal
  on_date m q d =
      unless (within q m.rule.dates) NoSuchDatePlace or_else
      unless (within d.event m.rule.events) NoSuchEvent or_else
      unless (nat_le d.day 99999) OutOfRange

  abbrev pub on_clear : BookMeaning E → ℕ → Option Refusal
  on_clear m q =
      unless (within q m.rule.dates) NoSuchDatePlace or_else
      unless (is_some (m.ledger.date q)) DatePlaceEmpty

  abbrev pub refusal : BookMeaning E → Call E → Option Told
  refusal m (enter p e) = by Book p (on_enter m p e)
  refusal m (alter p e) = by Book p (on_alter m p e)
  refusal m (strike p) = by Book p (on_strike m p)
  refusal m (date q d) = by Dates q (on_date m q d)
  refusal m (clear q) = by Dates q (on_clear m q)
  refusal m layer = None
  refusal m look = None

  abbrev pub with_line : BookMeaning E → ℕ → Option E → BookMeaning E
  with_line m p x = record { rule = m.rule; ledger = record { line = put m.ledger.line p x; date = m.ledger.date } }

  abbrev pub with_date : BookMeaning E → ℕ → Option Date → BookMeaning E
  with_date m q x = record { rule = m.rule; ledger = record { line = m.ledger.line; date = put m.ledger.date q x } }

  abbrev pub carried_out : BookMeaning E → Call E → BookMeaning E
  carried_out m (enter p e) = with_line m p (Some e)
  carried_out m (alter p e) = with_line m p (Some e)
  carried_out m (strike p) = with_line m p None
  carried_out m (date q d) = with_date m q (Some d)
  carried_out m (clear q) = with_date m q None
  -- nothing stands past the date places that were there, so the new ones are empty
  carried_out m layer = record { rule = layer_rule m.rule; ledger = m.ledger }
  carried_out m look = m

  abbrev pub answered : Option Told → BookMeaning E → BookMeaning E → BookMeaning E
  answered None carried before = carried
  answered (Some k) carried before = before

  abbrev pub hears : BookMeaning E → Call E → BookMeaning E
  hears m c = answered (refusal m c) (carried_out m c) m

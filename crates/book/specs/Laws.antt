-- What every rule and every book keeps to. Assumes nothing.
--     OwnsIn r o      o is a line, or a date place, of r
--     LawfulRule r    a place has one owner, and only what stands there puts a gap into it, a bounded one
--     LawfulBook m    the rule is lawful, and nothing stands elsewhere
use Rattle.std.specs.Prelude.{◌≡◌, ℕ, ◌≤◌, Some, None, Option}
use Rattle.network.specs.declared.gap.Gap.{Gap}
use Rattle.network.specs.declared.gap.Owner.{Owner}
use Rattle.network.specs.declared.gap.Owner.TheVariants.{Line, DatePlace, Floor}
use Rattle.network.specs.Meanings.{Outside, Bounded, unowned}
use Rattle.book.specs.declared.date.Date.{Date}
use Rattle.book.specs.declared.refusal.Refusal.{Refusal}
use Rattle.book.specs.Refusals.{number}
use Rattle.book.specs.Rules.{Rule, BookMeaning}

module _ {E : Type 0} where
  abbrev pub OwnsIn : Rule E → Owner → Type 0
  OwnsIn r (Line n) = (1 ≤ n) × (n ≤ r.lines)
  OwnsIn r (DatePlace n) = (1 ≤ n) × (n ≤ r.dates)
  OwnsIn r (Floor n) = ⊥

  pub record LawfulRule (r : Rule E) : Type 0 where
    pub few_events : r.events ≤ 1023
    pub few_places : r.places ≤ 4096
    pub few_lines : r.lines ≤ r.places
    pub few_dates : r.dates ≤ r.places
    -- each place from 1 to the last has one owner, a line or a date place
    pub owned : (p : ℕ) → 1 ≤ p → p ≤ r.places → OwnsIn r (r.owner p)
    pub floor_outside : (p : ℕ) → Outside r.places p → r.owner p ≡ unowned
    -- a line and a date place put gaps only into places of their own
    pub own_line : (n : ℕ) (e : E) (p : ℕ) (g : Gap) → 1 ≤ n → n ≤ r.lines → r.line_gap n e p ≡ Some g → r.owner p ≡ Line n
    pub own_date : (q : ℕ) (d : Date) (p : ℕ) (g : Gap) → 1 ≤ q → q ≤ r.dates → r.date_gap q d p ≡ Some g → r.owner p ≡ DatePlace q
    -- and only bounded ones
    pub line_bounded : (n : ℕ) (e : E) (p : ℕ) (g : Gap) → 1 ≤ n → n ≤ r.lines → r.line_gap n e p ≡ Some g → Bounded r.events g
    pub date_bounded : (q : ℕ) (d : Date) (p : ℕ) (g : Gap) → 1 ≤ q → q ≤ r.dates → r.date_gap q d p ≡ Some g → Bounded r.events g
    -- an entry is refused with 4, 5 or 6 only
    pub entry_refused : (ls : ℕ → Option E) (n : ℕ) (e : E) (k : Refusal) → r.enters ls n e ≡ Some k → (4 ≤ number k) × (number k ≤ 6)

  pub record LawfulBook (m : BookMeaning E) : Type 0 where
    pub rule : LawfulRule m.rule
    pub no_line : (p : ℕ) → Outside m.rule.lines p → m.ledger.line p ≡ None
    pub no_date : (q : ℕ) → Outside m.rule.dates q → m.ledger.date q ≡ None

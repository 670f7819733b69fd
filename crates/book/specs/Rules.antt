-- What a book means: what it fixes, what stands in it, and the network that the two make. Assumes nothing.
--     within n end    n is one of 1 to end
--     Ledger          what stands on each line and on each date place
--     Rule            what a book fixes once and for all
--     BookMeaning     a rule and a ledger
--     network_of       the network that they make: a place holds what the rule gives for what stands at its owner
use Rattle.std.specs.Prelude.{ℕ, Bool, ◌&&◌, Some, None, Option, nat_le}
use Rattle.network.specs.declared.gap.Gap.{Gap}
use Rattle.network.specs.declared.gap.Owner.{Owner}
use Rattle.network.specs.declared.gap.Owner.TheVariants.{Line, DatePlace, Floor}
use Rattle.network.specs.Meanings.{Meaning}
use Rattle.book.specs.declared.date.Date.{Date}
use Rattle.book.specs.declared.refusal.Refusal.{Refusal}

-- from 1 to `end`
abbrev pub within : ℕ → ℕ → Bool
within n end = nat_le 1 n && nat_le n end

pub record Ledger (E : Type 0) : Type 0 where
  pub line : ℕ → Option E
  pub date : ℕ → Option Date

-- lines run from 1 to `lines`, date places from 1 to `dates`
pub record Rule (E : Type 0) : Type 0 where
  pub events : ℕ
  pub places : ℕ
  pub lines : ℕ
  pub dates : ℕ
  pub owner : ℕ → Owner
  -- what an entry on a line, or a date on a date place, puts into a place
  pub line_gap : ℕ → E → ℕ → Option Gap
  pub date_gap : ℕ → Date → ℕ → Option Gap
  -- by the standing lines alone: the refusal that meets an entry on a line taken as empty, whether what
  -- stands on a line may be struck, and whether it may be altered to an entry
  pub enters : (ℕ → Option E) → ℕ → E → Option Refusal
  pub strikes : (ℕ → Option E) → ℕ → Bool
  pub alters : (ℕ → Option E) → ℕ → E → Bool

pub record BookMeaning (E : Type 0) : Type 0 where
  pub rule : Rule E
  pub ledger : Ledger E

-- nothing stands anywhere
abbrev pub blank : {E : Type 0} → Rule E → BookMeaning E
blank r = record { rule = r; ledger = record { line = λ _. None; date = λ _. None } }

abbrev pub after : {A B : Type 0} → Option A → (A → Option B) → Option B
after None f = None
after (Some a) f = f a

-- what a place holds, by its owner
abbrev pub held : {E : Type 0} → BookMeaning E → Owner → ℕ → Option Gap
held m (Line n) place = after (m.ledger.line n) (λ e. m.rule.line_gap n e place)
held m (DatePlace n) place = after (m.ledger.date n) (λ d. m.rule.date_gap n d place)
held m (Floor n) place = None

abbrev pub network_of : {E : Type 0} → BookMeaning E → Meaning
network_of m = record {
  events = m.rule.events;
  places = m.rule.places;
  gap = λ place. held m (m.rule.owner place) place;
  owner = m.rule.owner;
}

-- What a network tells, and what every network keeps to. Assumes nothing.
--     Meaning         events, places, and at each place the gap and the owner
--     Outside m p     p is not one of the places of m
--     Bounded n g     g goes between events 0 to n, and has at most 99,999 days either way
--     Lawful m        what every network keeps to
use Rattle.std.specs.Prelude.{◌≡◌, ℕ, ◌<◌, ◌≤◌, ◌⊎◌, pos, negsuc, ◌≤ℤ◌, Some, None, Option}
use Rattle.network.specs.declared.gap.Gap.{Gap}
use Rattle.network.specs.declared.gap.Owner.{Owner}
use Rattle.network.specs.declared.gap.Owner.TheVariants.{Floor}

-- events are numbered from 0 to `events`, places from 1 to `places`
pub record Meaning : Type 0 where
  pub events : ℕ
  pub places : ℕ
  pub gap : ℕ → Option Gap
  pub owner : ℕ → Owner

-- owned by nobody: the floor, with number 0
abbrev pub unowned : Owner
unowned = Floor 0

abbrev pub Outside : ℕ → ℕ → Type 0
Outside places p = (p < 1) ⊎ (places < p)

pub record Bounded (events : ℕ) (g : Gap) : Type 0 where
  pub leaves : g.left ≤ events
  pub reaches : g.reached ≤ events
  pub above : negsuc 99998 ≤ℤ g.days
  pub below : g.days ≤ℤ pos 99999

pub record Lawful (m : Meaning) : Type 0 where
  pub few_events : m.events ≤ 1023
  pub few_places : m.places ≤ 4096
  pub bounded : (p : ℕ) (g : Gap) → m.gap p ≡ Some g → Bounded m.events g
  pub nothing_outside : (p : ℕ) → Outside m.places p → m.gap p ≡ None
  pub floor_outside : (p : ℕ) → Outside m.places p → m.owner p ≡ unowned

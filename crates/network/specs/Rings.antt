-- Rings of gaps, and why a network with a ring of more than 0 days has no schedule. Assumes nothing.
--     StepOf m s              s is the gap in one of m's places, or the floor to one of its events (place 0)
--     Leads m u ss v          the steps ss lead from event u to event v
--     sum_days ss              the days of the steps together
--     Contradictory m ss      m has no schedule, and the ring ss proves it
use Rattle.std.specs.Prelude.{◌≡◌, ℕ, ◌+◌, ◌≤◌, ◌⊎◌, List, [], ◌∷◌, length, ℤ, pos, ◌+ℤ◌, ◌<ℤ◌, Some}
use Rattle.network.specs.declared.gap.Gap.{Gap}
use Rattle.network.specs.declared.gap.Step.{Step}
use Rattle.network.specs.Meanings.{Meaning}
use Rattle.network.specs.Schedules.{Schedule}

-- 0 days from event 0 to any event
pub record Floor (events : ℕ) (g : Gap) : Type 0 where
  pub leaves : g.left ≡ 0
  pub reaches : g.reached ≤ events
  pub none : g.days ≡ pos 0

abbrev pub StepOf : Meaning → Step → Type 0
StepOf m s = (m.gap s.place ≡ Some s.gap) ⊎ ((s.place ≡ 0) × Floor m.events s.gap)

abbrev pub Leads : Meaning → ℕ → List Step → ℕ → Type 0
Leads m u [] v = u ≡ v
Leads m u (s ∷ ss) v = StepOf m s × (s.gap.left ≡ u) × Leads m s.gap.reached ss v

abbrev pub sum_days : List Step → ℤ
sum_days [] = pos 0
sum_days (s ∷ ss) = s.gap.days +ℤ sum_days ss

pub record Contradictory (m : Meaning) (ss : List Step) : Type 0 where
  pub no_schedule : (t : ℕ → ℕ) → Schedule m t → ⊥
  -- the steps leave an event and come back to it
  pub from : ℕ
  pub ring : Leads m from ss from
  pub some : 1 ≤ length ss
  pub few : length ss ≤ m.events + 1
  pub positive : pos 0 <ℤ sum_days ss

-- How a rise ends. Assumes nothing.
--     Outcome ..      every arc is met; or a ring is read from an event
use Rattle.std.specs.Prelude.{◌≡◌, ℕ, ◌≤◌, Ok, Err, Result}
use Rattle.network.specs.Schedules.{greatest}
use Rattle.solver.specs.declared.arcs.Arcs.{Arcs}
use Rattle.solver.specs.declared.rise.Rise.{Rise}
use Rattle.solver.specs.declared.rise.settle.RingFrom.{RingFrom}
use Rattle.solver.specs.Rising.{time_at, Keeps, Carries}
use Rattle.solver.specs.RingSteps.{Ends}

module _ (arcs : Arcs) (was rise : Rise) where
  pub record AtRest : Type 0 where
    pub carries : Carries arcs was rise
    pub first : time_at rise.times 0 ≡ 0
    pub bound : greatest (time_at rise.times) arcs.events ≤ 204800000
    pub keeps : Keeps arcs (time_at rise.times)

  pub record Ringed (r : ℕ) : Type 0 where
    pub carries : Carries arcs was rise
    pub inside : r ≤ arcs.events
    pub ends : Ends arcs (time_at rise.times) (time_at rise.parents) r

  abbrev pub Outcome : Result (Unit {0}) RingFrom → Type 0
  Outcome (Ok _) = AtRest
  Outcome (Err r) = Ringed r.event

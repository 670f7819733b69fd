-- What the solver answers: right windows, or a ring that proves that there is no schedule. Assumes nothing.
use Rattle.std.specs.Prelude.{◌≡◌, ℕ, Ok, Err, Result}
use Rattle.network.specs.Meanings.{Meaning}
use Rattle.network.specs.Schedules as schedules
use Rattle.network.specs.Rings as rings
use Rattle.solver.specs.declared.ring.Ring.{Ring}
use Rattle.solver.specs.declared.times.Times.{Times}
use Rattle.solver.specs.Rising.{time_at}
use Rattle.solver.specs.RingSteps.{ring_steps}

-- the times of a table, as functions of the event
abbrev pub earliest_of : Times → ℕ → ℕ
earliest_of ts = time_at ts.earliest

abbrev pub latest_of : Times → ℕ → ℕ
latest_of ts = time_at ts.latest

-- every time is 0
pub record Noughts (ts : Times) : Type 0 where
  pub earliest : (e : ℕ) → earliest_of ts e ≡ 0
  pub latest : (e : ℕ) → latest_of ts e ≡ 0
  pub length : ts.length ≡ 0

pub record Windows (m : Meaning) (ts : Times) : Type 0 where
  pub events : ts.events ≡ m.events
  pub sound : schedules.Sound m (earliest_of ts) (latest_of ts) ts.length

abbrev pub Solved : Meaning → Result Times Ring → Type 0
Solved m (Ok ts) = Windows m ts
Solved m (Err ring) = rings.Contradictory m (ring_steps ring)

-- The steps of a ring, and where a climb along the parents ends. Assumes nothing.
--     step_of a            the arc a as a step
--     floor_to e           the floor to event e
--     last_first xs n      the first n of xs, the last of them first
--     ring_steps r         the steps of the ring r, in their order
--     Ends r              a climb from r comes back to r, or r is event 0 and it comes to an event that was never raised
use Rattle.std.specs.Prelude.{◌≡◌, ℕ, zero, suc, ◌+◌, ◌≤◌, ◌⊎◌, List, [], ◌∷◌, pos, ◌-ℤ◌, slice_index_or}
use Rattle.network.specs.declared.gap.Step.{Step}
use Rattle.solver.specs.declared.arc.Arc.{Arc}
use Rattle.solver.specs.declared.arcs.Arcs.{Arcs}
use Rattle.solver.specs.declared.ring.Ring.{Ring}
use Rattle.solver.specs.Walks.{Rooted, RingAt}

abbrev pub step_of : Arc → Step
step_of a = record { place = a.place; gap = record { left = a.left; reached = a.reached; days = pos a.up -ℤ pos a.down } }

abbrev pub floor_to : ℕ → Step
floor_to e = record { place = 0; gap = record { left = 0; reached = e; days = pos 0 } }

unfoldable pub last_first : List Step → ℕ → List Step
last_first xs zero = []
last_first xs (suc n) = slice_index_or xs n (floor_to 0) ∷ last_first xs n

abbrev pub ring_steps : Ring → List Step
ring_steps r = last_first r.steps r.count

abbrev pub Ends : Arcs → (ℕ → ℕ) → (ℕ → ℕ) → ℕ → Type 0
Ends arcs t par r = RingAt arcs t par r ⊎ ((r ≡ 0) × ((1 ≤ t 0) × Rooted arcs t par 102398976 (arcs.events + 1) 0))

-- The arcs of a table are low. Assumes nothing.
use Rattle.std.proofs.Common.{◌≡◌, ℕ, ◌<◌, subst}
use Rattle.solver.specs.declared.arc.Arc.{Arc}
use Rattle.solver.specs.declared.arcs.Arcs.{Arcs}
use Rattle.solver.specs.Arcs.{arc_at}
use Rattle.solver.specs.Rising.{LowArc, AllLow}

-- what the table says of each arc, together
pub lows : (arcs : Arcs) → AllLow arcs.arcs arcs.count arcs.events
lows arcs k h = (arcs.lefts k h, (arcs.ends k h, (arcs.ups k h, arcs.downs k h)))

-- the same of an arc that stands in the table
pub low_at : (arcs : Arcs) (k : ℕ) → k < arcs.count → (a : Arc) → arc_at arcs.arcs k ≡ a → LowArc arcs.events a
low_at arcs k h a is = subst (LowArc arcs.events) is (lows arcs k h)

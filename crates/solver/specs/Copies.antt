-- A table of arcs that holds the gaps of a network. Assumes nothing.
--     GatheredFrom m arcs     the arcs are the gaps of m, each and no other, between the events of m
use Rattle.std.specs.Prelude.{◌≡◌}
use Rattle.network.specs.Meanings.{Meaning}
use Rattle.solver.specs.declared.arcs.Arcs.{Arcs}
use Rattle.solver.specs.Arcs.{Gathered}

pub record GatheredFrom (m : Meaning) (arcs : Arcs) : Type 0 where
  pub gaps : Gathered m arcs.arcs arcs.count
  pub events : m.events ≡ arcs.events

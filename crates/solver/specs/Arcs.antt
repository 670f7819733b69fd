-- The dense table of a network's gaps. Assumes nothing.
--     MeetsArc t a        the times t meet the arc a
--     SameGap n a g       the arc a is the gap g, between events 0 to n
--     Gathered m as n     the first n arcs of as are the gaps of m, each and no other
use Rattle.std.specs.Prelude.{◌≡◌, ℕ, ◌+◌, ◌<◌, ◌≤◌, List, pos, ◌+ℤ◌, Some, slice_index_or}
use Rattle.network.specs.declared.gap.Gap.{Gap}
use Rattle.network.specs.Meanings.{Meaning}
use Rattle.solver.specs.declared.arc.Arc.{Arc}

abbrev pub MeetsArc : (ℕ → ℕ) → Arc → Type 0
MeetsArc t a = t a.left + a.up ≤ t a.reached + a.down

pub record SameGap (events : ℕ) (a : Arc) (g : Gap) : Type 0 where
  pub leaves : a.left ≡ g.left
  pub reaches : a.reached ≡ g.reached
  pub days : pos a.up ≡ pos a.down +ℤ g.days
  pub left_low : a.left ≤ events
  pub reached_low : a.reached ≤ events
  pub up_low : a.up ≤ 99999
  pub down_low : a.down ≤ 99999

abbrev pub no_arc : Arc
no_arc = record { place = 0; left = 0; reached = 0; up = 0; down = 0 }

abbrev pub arc_at : List Arc → ℕ → Arc
arc_at arcs k = slice_index_or arcs k no_arc

-- the arc is the gap in its own place
pub record ArcOf (m : Meaning) (a : Arc) : Type 0 where
  pub gap : Gap
  pub there : m.gap a.place ≡ Some gap
  pub same : SameGap m.events a gap

-- one of the first n arcs is the gap
pub record Found (m : Meaning) (arcs : List Arc) (n : ℕ) (g : Gap) : Type 0 where
  pub index : ℕ
  pub low : index < n
  pub same : SameGap m.events (arc_at arcs index) g

pub record Gathered (m : Meaning) (arcs : List Arc) (n : ℕ) : Type 0 where
  pub each : (k : ℕ) → k < n → ArcOf m (arc_at arcs k)
  pub every : (p : ℕ) (g : Gap) → m.gap p ≡ Some g → Found m arcs n g

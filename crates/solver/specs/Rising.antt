-- Times that rise until every arc is met, and the arc that last raised each event. Assumes nothing.
--     time_at ts e              the time of event e in a table
--     LowArc n a               the arc goes between events 0 to n, and its days are few
--     AllLow as c n            the first c arcs of as are so
--     Keeps as t               t meets each arc
--     Rising as s t par        t has risen from s by arcs alone: it passes no table that keeps them, and par e is the
--                              arc that last raised e, counted from 1, or 0 where e is still at s
use Rattle.std.specs.Prelude.{◌≡◌, ℕ, ◌+◌, ◌-◌, ◌*◌, ◌<◌, ◌≤◌, Bool, ◌⊎◌, List, MatchBool, slice_index}
use Rattle.network.specs.Schedules.{greatest}
use Rattle.solver.specs.declared.arc.Arc.{Arc}
use Rattle.solver.specs.declared.arcs.Arcs.{Arcs}
use Rattle.solver.specs.declared.rise.Rise.{Rise}
use Rattle.solver.specs.Arcs.{MeetsArc, arc_at}

abbrev pub time_at : List ℕ → ℕ → ℕ
time_at ts e = slice_index ts e

abbrev pub LowArc : ℕ → Arc → Type 0
LowArc events a = (a.left ≤ events) × ((a.reached ≤ events) × ((a.up ≤ 99999) × (a.down ≤ 99999)))

abbrev pub AllLow : List Arc → ℕ → ℕ → Type 0
AllLow arcs count events = (k : ℕ) → k < count → LowArc events (arc_at arcs k)

module _ (arcs : Arcs) where
  abbrev pub Keeps : (ℕ → ℕ) → Type 0
  Keeps t = (k : ℕ) → k < arcs.count → MeetsArc t (arc_at arcs.arcs k)

  -- the arc that last raised event e
  abbrev pub parent_of : (ℕ → ℕ) → ℕ → Arc
  parent_of par e = arc_at arcs.arcs (par e - 1)

  -- e was raised by its parent, which has risen since, or comes before it in the order
  pub record Raised (order t par : ℕ → ℕ) (e : ℕ) : Type 0 where
    pub some : 1 ≤ par e
    pub low : par e ≤ arcs.count
    pub reaches : (parent_of par e).reached ≡ e
    pub gains : (t e + (parent_of par e).down < t (parent_of par e).left + (parent_of par e).up) ⊎ ((t e + (parent_of par e).down ≡ t (parent_of par e).left + (parent_of par e).up) × (order (parent_of par e).left < order e))

  abbrev pub Held : (ℕ → ℕ) → (ℕ → ℕ) → (ℕ → ℕ) → (ℕ → ℕ) → ℕ → Type 0
  Held order start t par e = ((par e ≡ 0) × (t e ≡ start e)) ⊎ Raised order t par e

  pub record Rising (start t par : ℕ → ℕ) : Type 0 where
    pub above : (e : ℕ) → e ≤ arcs.events → start e ≤ t e
    pub least : (s : ℕ → ℕ) → ((e : ℕ) → e ≤ arcs.events → start e ≤ s e) → Keeps s → (e : ℕ) → e ≤ arcs.events → t e ≤ s e
    pub order : ℕ → ℕ
    pub held : (e : ℕ) → e ≤ arcs.events → Held order start t par e

  -- what had risen from a table has risen from it still
  abbrev pub Carries : Rise → Rise → Type 0
  Carries was rise = (start : ℕ → ℕ) → Rising start (time_at was.times) (time_at was.parents) → Rising start (time_at rise.times) (time_at rise.parents)

  -- the times have risen by at most n raises
  pub record Moved (was rise : Rise) (n : ℕ) : Type 0 where
    pub rising : Carries was rise
    pub grows : (e : ℕ) → time_at was.times e ≤ time_at rise.times e
    pub bound : greatest (time_at rise.times) arcs.events ≤ greatest (time_at was.times) arcs.events + 99999 * n

  -- the times have risen by the first n arcs, raised or not
  pub record Swept (was rise : Rise) (n : ℕ) (changed : Bool) : Type 0 where
    pub rising : Carries was rise
    pub grows : (e : ℕ) → time_at was.times e ≤ time_at rise.times e
    pub bound : greatest (time_at rise.times) arcs.events ≤ greatest (time_at was.times) arcs.events + 99999 * n
    -- an event was raised, or the tables are as before and the arcs are met
    pub told : MatchBool changed ((e : ℕ) × (e ≤ arcs.events) × (time_at was.times e < time_at rise.times e)) ((rise.times ≡ was.times) × (rise.parents ≡ was.parents) × ((k : ℕ) → k < n → MeetsArc (time_at rise.times) (arc_at arcs.arcs k)))

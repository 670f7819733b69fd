-- Times that fall until every arc is met. Assumes nothing.
--     Most ..         a table that keeps the arcs and was nowhere later is nowhere later still
--     Above ..        some table that keeps the arcs is nowhere later
--     Sank ..         what any lowering does, Fell what a sweep does, and Fallen what all of them do
use Rattle.std.specs.Prelude.{◌≡◌, ℕ, ◌<◌, ◌≤◌, Bool, List, MatchBool}
use Rattle.solver.specs.declared.arcs.Arcs.{Arcs}
use Rattle.solver.specs.Arcs.{MeetsArc, arc_at}
use Rattle.solver.specs.Rising.{time_at, Keeps}

module _ (arcs : Arcs) where
  abbrev pub Most : (ℕ → ℕ) → (ℕ → ℕ) → Type 0
  Most l l' = (s : ℕ → ℕ) → Keeps arcs s → ((e : ℕ) → e ≤ arcs.events → s e ≤ l e) → (e : ℕ) → e ≤ arcs.events → s e ≤ l' e

  pub record Above (l : ℕ → ℕ) : Type 0 where
    pub table : ℕ → ℕ
    pub keeps : Keeps arcs table
    pub below : (e : ℕ) → e ≤ arcs.events → table e ≤ l e

  pub record Sank (ls ls' : List ℕ) : Type 0 where
    pub most : Most (time_at ls) (time_at ls')
    pub falls : (e : ℕ) → time_at ls' e ≤ time_at ls e

  pub record Fell (ls ls' : List ℕ) (n : ℕ) (changed : Bool) : Type 0 where
    pub most : Most (time_at ls) (time_at ls')
    pub falls : (e : ℕ) → time_at ls' e ≤ time_at ls e
    pub told : MatchBool changed ((e : ℕ) × (e ≤ arcs.events) × (time_at ls' e < time_at ls e)) ((ls' ≡ ls) × ((k : ℕ) → k < n → MeetsArc (time_at ls') (arc_at arcs.arcs k)))

  pub record Fallen (ls ls' : List ℕ) : Type 0 where
    pub most : Most (time_at ls) (time_at ls')
    pub falls : (e : ℕ) → time_at ls' e ≤ time_at ls e
    pub keeps : Keeps arcs (time_at ls')

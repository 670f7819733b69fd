-- Walks from event to event along the arcs that last raised them. Assumes nothing.
--     before e            the event that the arc which last raised e leaves
--     ups k e             the event k steps before e
--     tally f n           how many of f 0 to f (n - 1) are not 0
--     Rooted S m x        fewer than m steps lead from x to an event that was never raised
--     Comes at low m x    some steps lead from x to at, and with `low` they are at most m
--     RingAt r            steps lead from r to r
use Rattle.std.specs.Prelude.{◌≡◌, ℕ, zero, suc, ◌+◌, ◌*◌, ◌<◌, ◌≤◌, min, List, Some, None, Option}
use Rattle.solver.specs.declared.arcs.Arcs.{Arcs}
use Rattle.solver.specs.declared.rise.Rise.{Rise}
use Rattle.solver.specs.Rising.{time_at, parent_of, Rising}

unfoldable pub tally : (ℕ → ℕ) → ℕ → ℕ
tally f zero = 0
tally f (suc n) = min 1 (f n) + tally f n

module _ (arcs : Arcs) (t par : ℕ → ℕ) where
  abbrev pub before : ℕ → ℕ
  before e = (parent_of arcs par e).left

  unfoldable pub ups : ℕ → ℕ → ℕ
  ups zero e = e
  ups (suc k) e = before (ups k e)

  pub record Rooted (S m x : ℕ) : Type 0 where
    pub steps : ℕ
    pub few : steps < m
    pub root : par (ups steps x) ≡ 0
    pub early : t x ≤ S + 99999 * steps

  pub record Comes (at low m x : ℕ) : Type 0 where
    pub steps : ℕ
    pub some : 1 ≤ steps
    pub few : steps + low ≤ m
    pub there : ups steps x ≡ at
    pub raised : (i : ℕ) → i < steps → 1 ≤ par (ups i x)
    pub early : t x ≤ t at + 99999 * steps

  pub record RingAt (r : ℕ) : Type 0 where
    pub inside : r ≤ arcs.events
    pub steps : ℕ
    pub some : 1 ≤ steps
    pub few : steps ≤ arcs.events + 1
    pub back : ups steps r ≡ r
    pub raised : (i : ℕ) → i < steps → 1 ≤ par (ups i r)

  -- the events marked so far lead to events that were never raised
  abbrev pub AllRooted : ℕ → List ℕ → Type 0
  AllRooted S marks = (x : ℕ) → x ≤ arcs.events → 1 ≤ time_at marks x → Rooted S (tally (time_at marks) (arcs.events + 1)) x

-- times that have risen from some table of at most 102,398,976 days
pub record Risen (arcs : Arcs) (rise : Rise) : Type 0 where
  pub start : ℕ → ℕ
  pub starts : (e : ℕ) → e ≤ arcs.events → start e ≤ 102398976
  pub rising : Rising arcs start (time_at rise.times) (time_at rise.parents)

-- what a walk from event e has found: a ring, or that all marked events are rooted
abbrev pub Walked : Arcs → Rise → List ℕ → List ℕ → ℕ → Option ℕ → Type 0
Walked arcs rise marks₀ marks e None =
    AllRooted arcs (time_at rise.times) (time_at rise.parents) 102398976 marks
    × ((1 ≤ time_at marks e) × (((x : ℕ) → 1 ≤ time_at marks₀ x → 1 ≤ time_at marks x) × ((x : ℕ) → time_at marks x ≤ e + 1)))
Walked arcs rise marks₀ marks e (Some r) = RingAt arcs (time_at rise.times) (time_at rise.parents) r

-- what a look at all events has found: a ring, or that no time is far from where it rose from
abbrev pub Looked : Arcs → Rise → Option ℕ → Type 0
Looked arcs rise None = (e : ℕ) → e ≤ arcs.events → Rooted arcs (time_at rise.times) (time_at rise.parents) 102398976 (arcs.events + 1) e
Looked arcs rise (Some r) = RingAt arcs (time_at rise.times) (time_at rise.parents) r

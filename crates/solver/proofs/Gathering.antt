-- One more place of a network is looked at. Assumes nothing.
use Rattle.std.proofs.Common.{◌≡◌, ℕ, ◌+◌, ◌<◌, ◌≤◌, ◌≢◌, List, length, set, Some, None, sym, ap, ◌∙◌, subst, inr, ⊎_elim, arith}
use Rattle.std.proofs.lemmas.List.{get_or-set_same, get_or-set_other}
use Rattle.std.proofs.lemmas.Bool.{cases_eq, cases_lt}
use Rattle.network.specs.declared.gap.Gap.{Gap}
use Rattle.network.specs.Meanings.{Meaning, Lawful}
use Rattle.solver.specs.declared.arc.Arc.{Arc}
use Rattle.solver.specs.Rising.{AllLow}
use Rattle.solver.specs.Arcs.{SameGap, no_arc, arc_at, ArcOf, Found, Gathered}

none_some : (g : Gap) → None ≡ Some g → ⊥
none_some g e = let z : ◌≡◌ {A = ℕ} 0 1 = cc in omega arith

-- what stands in the places before `place` is in the table
pub record SoFar (m : Meaning) (arcs : List Arc) (n place : ℕ) : Type 0 where
  pub few : n < place
  pub long : length arcs ≡ 4096
  pub each : (k : ℕ) → k < n → ArcOf m (arc_at arcs k)
  pub every : (p : ℕ) (g : Gap) → p < place → m.gap p ≡ Some g → Found m arcs n g

module _ (m : Meaning) (arcs : List Arc) (n place : ℕ) (so : SoFar m arcs n place) where
  -- a place that holds nothing
  pub so_far_none : m.gap place ≡ None → SoFar m arcs n (place + 1)
  so_far_none none = record {
    few = omega (arith, so.few);
    long = so.long;
    each = so.each;
    every = λ p g low at. ⊎_elim
        (λ (same : p ≡ place). absurd (none_some g (sym none ∙ ap m.gap (sym same) ∙ at)))
        (λ (other : p ≡ place → ⊥). so.every p g (omega arith) at)
        (cases_eq p place);
  }

  module _ (a : Arc) (g : Gap) (room : n < 4096) (here : m.gap place ≡ Some g) (own : a.place ≡ place) (same : SameGap m.events a g) where
    at_new : arc_at (set arcs n a) n ≡ a
    at_new = get_or-set_same arcs n a no_arc (omega (arith, so.long))

    at_old : (k : ℕ) → k < n → arc_at (set arcs n a) k ≡ arc_at arcs k
    at_old k h = let ne : k ≢ n = omega arith in get_or-set_other arcs n k a no_arc ne

    new_arc : ArcOf m a
    new_arc = record { gap = g; there = ap m.gap own ∙ here; same = same }

    each_more : (k : ℕ) → k < n + 1 → ArcOf m (arc_at (set arcs n a) k)
    each_more k h = ⊎_elim
        (λ (e : k ≡ n). subst (ArcOf m) (sym (ap (arc_at (set arcs n a)) e ∙ at_new)) new_arc)
        (λ (e : k ≡ n → ⊥). subst (ArcOf m) (sym (at_old k (omega arith))) (so.each k (omega arith)))
        (cases_eq k n)

    found_more : (h : Gap) → Found m arcs n h → Found m (set arcs n a) (n + 1) h
    found_more h f = record {
      index = f.index;
      low = omega (arith, f.low);
      same = subst (λ x. SameGap m.events x h) (sym (at_old f.index f.low)) f.same;
    }

    found_new : (h : Gap) → g ≡ h → Found m (set arcs n a) (n + 1) h
    found_new h e = record {
      index = n;
      low = omega arith;
      same = subst (λ x. SameGap m.events x h) (sym at_new) (subst (SameGap m.events a) e same);
    }

    some_same : (h : Gap) → Some g ≡ Some h → g ≡ h
    some_same h e = cc

    -- a place that holds a gap
    pub so_far_some : length (set arcs n a) ≡ 4096 → SoFar m (set arcs n a) (n + 1) (place + 1)
    so_far_some long = record {
      few = omega (arith, so.few);
      long = long;
      each = each_more;
      every = λ p h low at. ⊎_elim
          (λ (e : p ≡ place). found_new h (some_same h (sym here ∙ ap m.gap (sym e) ∙ at)))
          (λ (e : p ≡ place → ⊥). found_more h (so.every p h (omega arith) at))
          (cases_eq p place);
    }

-- past the last place nothing is left
pub gathered_all : (m : Meaning) (arcs : List Arc) (n place : ℕ) → Lawful m → SoFar m arcs n place → m.places < place → Gathered m arcs n
gathered_all m arcs n place lawful so past = record {
  each = so.each;
  every = λ p g at. ⊎_elim
      (λ (over : m.places < p). absurd (none_some g (sym (lawful.nothing_outside p (inr over)) ∙ at)))
      (λ (under : p ≤ m.places). so.every p g (omega arith) at)
      (cases_lt m.places p);
}

pub so_far_at : (m : Meaning) (arcs arcs' : List Arc) (n n' place : ℕ) → arcs ≡ arcs' → n ≡ n' → SoFar m arcs n place → SoFar m arcs' n' place
so_far_at m arcs arcs' n n' place e f so = subst (λ x. SoFar m x n' place) e (subst (λ k. SoFar m arcs k place) f so)

-- the arcs of a network are low
pub arcs_low : (m : Meaning) (arcs : List Arc) (n : ℕ) → ((k : ℕ) → k < n → ArcOf m (arc_at arcs k)) → AllLow arcs n m.events
arcs_low m arcs n each k h =
    let same = (each k h).same in
    (same.left_low, (same.reached_low, (same.up_low, same.down_low)))

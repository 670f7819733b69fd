-- A sweep, arc by arc. Assumes nothing.
use Rattle.std.proofs.Common.{◌≡◌, ℕ, ◌+◌, ◌-◌, ◌*◌, ◌<◌, ◌≤◌, Bool, true, false, cond, ◌||◌, ltb, ◌≢◌, set, MatchBool, sym, refl, ap, ◌∙◌, subst, ⊎_elim, arith}
use Rattle.std.proofs.lemmas.List.{get_or-set_same, get_or-set_other}
use Rattle.std.proofs.lemmas.Bool.{cases_eq, ltb-true, ltb-false, or_right}
use Rattle.network.specs.Schedules.{greatest}
use Rattle.network.proofs.Lengths.{greatest_bounds, greatest_least}
use Rattle.solver.specs.declared.arc.Arc.{Arc}
use Rattle.solver.specs.declared.arcs.Arcs.{Arcs}
use Rattle.solver.specs.declared.rise.Rise.{Rise}
use Rattle.solver.specs.Arcs.{MeetsArc, arc_at}
use Rattle.solver.proofs.Lows.{low_at}
use Rattle.solver.specs.Rising.{time_at, Rising, Moved, Swept}
use Rattle.solver.proofs.Raising.{raise_keeps}

pub or_false : (b : Bool) → (b || false) ≡ b
or_false true = refl
or_false false = refl

-- one arc, met or not
module _ (arcs : Arcs) (was : Rise) (k : ℕ) (inside : k < arcs.count) (a : Arc) (is : arc_at arcs.arcs k ≡ a) (rise : Rise) where
  abbrev t : ℕ → ℕ
  t = time_at was.times

  abbrev t' : ℕ → ℕ
  t' = time_at rise.times

  -- the arc is not met: the event that it reaches is raised
  module _ (unmet : t a.reached + a.down < t a.left + a.up)
      (times : rise.times ≡ set was.times a.reached (t a.left + a.up - a.down)) (parents : rise.parents ≡ set was.parents a.reached (k + 1)) where
    reached_low : a.reached < 1024
    reached_low = omega (arith, (low_at arcs k inside a is).1.0, arcs.small)

    pub raised : t' a.reached ≡ t a.left + a.up - a.down
    raised = ap (λ l. time_at l a.reached) times ∙ get_or-set_same was.times a.reached _ 0 (omega (arith, reached_low, was.timed))

    others : (e : ℕ) → (e ≡ a.reached → ⊥) → t' e ≡ t e
    others e n = let ne : e ≢ a.reached = n in ap (λ l. time_at l e) times ∙ get_or-set_other was.times a.reached e _ 0 ne

    by : time_at rise.parents a.reached ≡ k + 1
    by = ap (λ l. time_at l a.reached) parents ∙ get_or-set_same was.parents a.reached _ 0 (omega (arith, reached_low, was.tied))

    kept : (e : ℕ) → (e ≡ a.reached → ⊥) → time_at rise.parents e ≡ time_at was.parents e
    kept e n = let ne : e ≢ a.reached = n in ap (λ l. time_at l e) parents ∙ get_or-set_other was.parents a.reached e _ 0 ne

    pub moved_raised : Moved arcs was rise 1
    moved_raised = record {
      rising = λ start so. raise_keeps arcs start t (time_at was.parents) so k inside a is unmet t' (time_at rise.parents) raised others by kept;
      grows = λ e. ⊎_elim
          (λ (same : e ≡ a.reached). let y = ap t same in let z = ap t' same in omega (arith, raised))
          (λ (other : e ≡ a.reached → ⊥). let y = others e other in omega arith)
          (cases_eq e a.reached);
      bound = greatest_least t' arcs.events (greatest t arcs.events + 99999 * 1) (λ e h. ⊎_elim
          (λ (same : e ≡ a.reached). let low = low_at arcs k inside a is in let x = greatest_bounds t arcs.events a.left low.0 in let z = ap t' same in omega (arith, raised, low.1.1.0))
          (λ (other : e ≡ a.reached → ⊥). let x = greatest_bounds t arcs.events e h in let y = others e other in omega arith)
          (cases_eq e a.reached));
    }

  -- the arc is met: nothing changes
  pub moved_not : rise.times ≡ was.times → rise.parents ≡ was.parents → Moved arcs was rise 1
  moved_not times parents = record {
    rising = λ start so. subst (λ l. Rising arcs start (time_at l) (time_at rise.parents)) (sym times) (subst (λ l. Rising arcs start t (time_at l)) (sym parents) so);
    grows = λ e. let x = ap (λ l. time_at l e) times in omega arith;
    bound = let x = ap (λ l. greatest (time_at l) arcs.events) times in omega arith;
  }

  pub moved_one : (r : Bool) → r ≡ ltb (t a.reached + a.down) (t a.left + a.up)
      → rise.times ≡ cond r (set was.times a.reached (t a.left + a.up - a.down)) was.times
      → rise.parents ≡ cond r (set was.parents a.reached (k + 1)) was.parents
      → Moved arcs was rise 1
  moved_one true e times parents = moved_raised (ltb-true (t a.reached + a.down) (t a.left + a.up) (sym e)) times parents
  moved_one false e times parents = moved_not times parents

module _ (arcs : Arcs) where
  pub moved_none : (rise : Rise) → Moved arcs rise rise 0
  moved_none rise = record { rising = λ start was. was; grows = λ e. omega arith; bound = omega arith }

  -- move after move
  pub moved_join : (was mid rise : Rise) (i j : ℕ) → Moved arcs was mid i → Moved arcs mid rise j → Moved arcs was rise (i + j)
  moved_join was mid rise i j f g = record {
    rising = λ start so. g.rising start (f.rising start so);
    grows = λ e. let x = f.grows e in let y = g.grows e in omega arith;
    bound = omega (arith, f.bound, g.bound);
  }

module _ (arcs : Arcs) (first : Rise) where
  pub swept_none : Swept arcs first first 0 false
  swept_none = record {
    rising = λ start was. was;
    grows = λ e. omega arith;
    bound = omega arith;
    told = (refl, refl, λ k h. absurd (omega arith));
  }

  module _ (was : Rise) (k : ℕ) (changed : Bool) (so : Swept arcs first was k changed)
      (inside : k < arcs.count) (a : Arc) (is : arc_at arcs.arcs k ≡ a) (rise : Rise) where
    swept_met : time_at was.times a.left + a.up ≤ time_at was.times a.reached + a.down → rise.times ≡ was.times → rise.parents ≡ was.parents → Swept arcs first rise (k + 1) changed
    swept_met met times parents =
        let one = moved_not arcs was k inside a is rise times parents in
        record {
          rising = λ start s. one.rising start (so.rising start s);
          grows = λ e. let x = so.grows e in let y = one.grows e in omega arith;
          bound = omega (arith, so.bound, one.bound);
          told = told_more changed so.told;
        }
      where
        met_more : ((j : ℕ) → j < k → MeetsArc (time_at was.times) (arc_at arcs.arcs j)) → (j : ℕ) → j < k + 1 → MeetsArc (time_at rise.times) (arc_at arcs.arcs j)
        met_more all j h = subst (λ l. MeetsArc (time_at l) (arc_at arcs.arcs j)) (sym times) (⊎_elim
            (λ (same : j ≡ k). subst (MeetsArc (time_at was.times)) (sym (ap (arc_at arcs.arcs) same ∙ is)) met)
            (λ (other : j ≡ k → ⊥). all j (omega arith))
            (cases_eq j k))

        told_more : (b : Bool) → MatchBool b ((e : ℕ) × (e ≤ arcs.events) × (time_at first.times e < time_at was.times e)) ((was.times ≡ first.times) × (was.parents ≡ first.parents) × ((j : ℕ) → j < k → MeetsArc (time_at was.times) (arc_at arcs.arcs j)))
            → MatchBool b ((e : ℕ) × (e ≤ arcs.events) × (time_at first.times e < time_at rise.times e)) ((rise.times ≡ first.times) × (rise.parents ≡ first.parents) × ((j : ℕ) → j < k + 1 → MeetsArc (time_at rise.times) (arc_at arcs.arcs j)))
        told_more true w = (w.0, w.1, let x = ap (λ l. time_at l w.0) times in omega (arith, w.2))
        told_more false w = (times ∙ w.0, parents ∙ w.1, met_more w.2)

    swept_raised : time_at was.times a.reached + a.down < time_at was.times a.left + a.up
        → rise.times ≡ set was.times a.reached (time_at was.times a.left + a.up - a.down) → rise.parents ≡ set was.parents a.reached (k + 1) → Swept arcs first rise (k + 1) true
    swept_raised unmet times parents =
        let one = moved_raised arcs was k inside a is rise unmet times parents in
        let up = raised arcs was k inside a is rise unmet times parents in
        record {
          rising = λ start s. one.rising start (so.rising start s);
          grows = λ e. let x = so.grows e in let y = one.grows e in omega arith;
          bound = omega (arith, so.bound, one.bound);
          told = (a.reached, (low_at arcs k inside a is).1.0, (let x = so.grows a.reached in omega arith));
        }

    -- one arc more, met or not
    pub swept_next : (r : Bool) → r ≡ ltb (time_at was.times a.reached + a.down) (time_at was.times a.left + a.up)
        → rise.times ≡ cond r (set was.times a.reached (time_at was.times a.left + a.up - a.down)) was.times
        → rise.parents ≡ cond r (set was.parents a.reached (k + 1)) was.parents
        → Swept arcs first rise (k + 1) (changed || r)
    swept_next true e times parents =
        let unmet = ltb-true (time_at was.times a.reached + a.down) (time_at was.times a.left + a.up) (sym e) in
        subst (Swept arcs first rise (k + 1)) (sym (or_right changed true refl)) (swept_raised unmet times parents)
    swept_next false e times parents =
        let met = ltb-false (time_at was.times a.reached + a.down) (time_at was.times a.left + a.up) (sym e) in
        subst (Swept arcs first rise (k + 1)) (sym (or_false changed)) (swept_met met times parents)

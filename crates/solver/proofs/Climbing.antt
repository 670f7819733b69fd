-- A climb along the parents, step by step, gives a ring of more than 0 days. Assumes nothing.
use Rattle.std.proofs.Common.{◌≡◌, ℕ, zero, suc, ◌+◌, ◌-◌, ◌<◌, ◌≤◌, ◌≢◌, ◌⊎◌, List, ◌∷◌, length, get_or, set, pos, ◌+ℤ◌, ◌-ℤ◌, ◌<ℤ◌, Some, sym, refl, ap, ◌∙◌, subst, inl, inr, ⊎_elim, arith}
use Rattle.std.proofs.lemmas.List.{get_or-set_same, get_or-set_other, length-set}
use Rattle.std.proofs.lemmas.Int.{ints}
use Rattle.std.proofs.lemmas.Bool.{cases_eq, cases_lt}
use Rattle.network.specs.declared.gap.Gap.{Gap}
use Rattle.network.specs.declared.gap.Step.{Step}
use Rattle.network.specs.Meanings.{Meaning}
use Rattle.network.specs.Rings.{StepOf, Leads, sum_days, Contradictory}
use Rattle.network.proofs.Contradictions.{no_ring}
use Rattle.solver.specs.declared.arc.Arc.{Arc}
use Rattle.solver.specs.declared.arcs.Arcs.{Arcs}
use Rattle.solver.specs.Arcs.{ArcOf}
use Rattle.solver.specs.Copies.{GatheredFrom}
use Rattle.solver.specs.Rising.{Raised, Rising, parent_of}
use Rattle.solver.specs.RingSteps.{step_of, floor_to, last_first, Ends}
use Rattle.solver.specs.Walks.{before, ups, RingAt}
use Rattle.solver.proofs.Walking.{was_raised, before_inside, ups_one, ups_zero}

gap_same : (g h : Gap) → g.left ≡ h.left → g.reached ≡ h.reached → g.days ≡ h.days → g ≡ h
gap_same g h p q r =
    ap (λ x. record { left = x; reached = g.reached; days = g.days }) p
    ∙ ap (λ x. record { left = h.left; reached = x; days = g.days }) q
    ∙ ap (λ x. record { left = h.left; reached = h.reached; days = x }) r

-- an arc of a network is one of its steps
arc_step : (m : Meaning) (a : Arc) → ArcOf m a → StepOf m (step_of a)
arc_step m a of = inl (of.there ∙ ap Some (gap_same of.gap (step_of a).gap (sym of.same.leaves) (sym of.same.reaches) (let d = of.same.days in omega (arith, ints))))

pub last_first_length : (xs : List Step) (n : ℕ) → length (last_first xs n) ≡ n
unfolding last_first
last_first_length xs zero = refl
last_first_length xs (suc n) = ap suc (last_first_length xs n)

pub last_first_at : (xs : List Step) (n k : ℕ) → k < n → get_or (last_first xs n) k (floor_to 0) ≡ get_or xs (n - suc k) (floor_to 0)
unfolding last_first
last_first_at xs zero k h = absurd (omega arith)
last_first_at xs (suc n) zero h = ap (λ j. get_or xs j (floor_to 0)) (omega arith)
last_first_at xs (suc n) (suc k) h = last_first_at xs n k (omega arith) ∙ ap (λ j. get_or xs j (floor_to 0)) (omega arith)

last_first_more : (xs : List Step) (n : ℕ) → last_first xs (n + 1) ≡ get_or xs n (floor_to 0) ∷ last_first xs n
unfolding last_first
last_first_more xs n = let one : n + 1 ≡ suc n = omega arith in ap (last_first xs) one

module _ (arcs : Arcs) (t par : ℕ → ℕ) (r : ℕ) where
  -- the climb from r has come to `at` by i steps
  pub record Climb (steps : List Step) (i at : ℕ) : Type 0 where
    pub long : length steps ≡ 1024
    pub there : ups arcs t par i r ≡ at
    pub inside : (j : ℕ) → j ≤ i → ups arcs t par j r ≤ arcs.events
    pub raised : (j : ℕ) → j < i → 1 ≤ par (ups arcs t par j r)
    pub open_still : (j : ℕ) → 1 ≤ j → j ≤ i → ups arcs t par j r ≡ r → ⊥
    pub taken : (j : ℕ) → j < i → get_or steps j (floor_to 0) ≡ step_of (parent_of arcs par (ups arcs t par j r))

module _ (arcs : Arcs) (t par : ℕ → ℕ) (r : ℕ) where
  -- the first n steps are those of the climb from r
  pub record Way (steps : List Step) (n : ℕ) : Type 0 where
    pub inside : (j : ℕ) → j ≤ n → ups arcs t par j r ≤ arcs.events
    pub raised : (j : ℕ) → j < n → 1 ≤ par (ups arcs t par j r)
    pub taken : (j : ℕ) → j < n → get_or steps j (floor_to 0) ≡ step_of (parent_of arcs par (ups arcs t par j r))

module _ (arcs : Arcs) (start t par : ℕ → ℕ) (rising : Rising arcs start t par)
    (S : ℕ) (starts : (e : ℕ) → e ≤ arcs.events → start e ≤ S) (r : ℕ) where
  abbrev u : ℕ → ℕ
  u j = ups arcs t par j r

  u_zero : u 0 ≡ r
  u_zero = ups_zero arcs start t par rising S starts r

  u_one : (j : ℕ) → u (j + 1) ≡ before arcs t par (u j)
  u_one j = ups_one arcs start t par rising S starts j r

  pub climb_none : (steps : List Step) → length steps ≡ 1024 → r ≤ arcs.events → Climb arcs t par r steps 0 r
  climb_none steps long h = record {
    long = long;
    there = u_zero;
    inside = λ j l. let same : j ≡ 0 = omega arith in let x = ap u same in omega (arith, u_zero);
    raised = λ j l. absurd (omega arith);
    open_still = λ j low high e. omega arith;
    taken = λ j l. absurd (omega arith);
  }

  module _ (steps : List Step) (i at : ℕ) (climb : Climb arcs t par r steps i at) (room : i < 1024) (some : 1 ≤ par at) (step : Step) (is : step ≡ step_of (parent_of arcs par at)) where
    at_inside : at ≤ arcs.events
    at_inside = let x = climb.inside i (omega arith) in omega (arith, climb.there)

    here : get_or (set steps i step) i (floor_to 0) ≡ step
    here = get_or-set_same steps i step (floor_to 0) (omega (arith, climb.long))

    there : (j : ℕ) → (j ≡ i → ⊥) → get_or (set steps i step) j (floor_to 0) ≡ get_or steps j (floor_to 0)
    there j n = let ne : j ≢ i = n in get_or-set_other steps i j step (floor_to 0) ne

    pub next_is : u (i + 1) ≡ before arcs t par at
    next_is = u_one i ∙ ap (before arcs t par) climb.there

    taken' : (j : ℕ) → j < i + 1 → get_or (set steps i step) j (floor_to 0) ≡ step_of (parent_of arcs par (u j))
    taken' j l = ⊎_elim
        (λ (same : j ≡ i). ap (λ k. get_or (set steps i step) k (floor_to 0)) same ∙ here ∙ is ∙ ap (λ e. step_of (parent_of arcs par e)) (sym (ap u same ∙ climb.there)))
        (λ (other : j ≡ i → ⊥). there j other ∙ climb.taken j (omega arith))
        (cases_eq j i)

    raised' : (j : ℕ) → j < i + 1 → 1 ≤ par (u j)
    raised' j l = ⊎_elim
        (λ (same : j ≡ i). let x = ap par (ap u same ∙ climb.there) in omega arith)
        (λ (other : j ≡ i → ⊥). climb.raised j (omega arith))
        (cases_eq j i)

    inside' : (j : ℕ) → j ≤ i + 1 → u j ≤ arcs.events
    inside' j l = ⊎_elim
        (λ (same : j ≡ i + 1). let x = ap u same ∙ next_is in let y = before_inside arcs start t par rising S starts at at_inside some in omega arith)
        (λ (other : j ≡ i + 1 → ⊥). climb.inside j (omega arith))
        (cases_eq j (i + 1))

    pub climb_more : (before arcs t par at ≡ r → ⊥) → Climb arcs t par r (set steps i step) (i + 1) (before arcs t par at)
    climb_more on = record {
      long = length-set steps i step ∙ climb.long;
      there = next_is;
      inside = inside';
      raised = raised';
      open_still = λ j low high e. ⊎_elim
          (λ (same : j ≡ i + 1). on (sym (ap u same ∙ next_is) ∙ e))
          (λ (other : j ≡ i + 1 → ⊥). climb.open_still j low (omega arith) e)
          (cases_eq j (i + 1));
      taken = taken';
    }

    pub way_closed : Way arcs t par r (set steps i step) (i + 1)
    way_closed = record { inside = inside'; raised = raised'; taken = taken' }

  module _ (xs : List Step) (n : ℕ) (way : Way arcs t par r xs n) where
    was : (j : ℕ) → j < n → Raised arcs rising.order t par (u j)
    was j l = was_raised arcs start t par rising S starts (u j) (way.inside j (omega arith)) (way.raised j l)

    leads : (m : Meaning) → GatheredFrom m arcs → (k : ℕ) → k ≤ n → Leads m (u k) (last_first xs k) r
    unfolding last_first
    leads m all zero h = u_zero
    leads m all (suc k) h =
        let raised = was k (omega arith) in
        let is = way.taken k (omega arith) in
        let a = parent_of arcs par (u k) in
        let one : suc k ≡ k + 1 = omega arith in
        let arc = all.gaps.each (par (u k) - 1) (omega (arith, raised.some, raised.low)) in (
          subst (StepOf m) (sym is) (arc_step m a arc),
          ap (λ (s : Step). s.gap.left) is ∙ sym (ap u one ∙ u_one k),
          subst (λ e. Leads m e (last_first xs k) r) (sym (ap (λ (s : Step). s.gap.reached) is ∙ raised.reaches)) (leads m all k (omega arith)),
        )

    -- the days of the climb are at least what r has risen by over its end, and more unless the order falls with each step
    abbrev Gained : ℕ → Type 0
    Gained k = (pos (t r) <ℤ (pos (t (u k)) +ℤ sum_days (last_first xs k))) ⊎ ((pos (t r) ≡ pos (t (u k)) +ℤ sum_days (last_first xs k)) × (rising.order (u k) + k ≤ rising.order r))

    gained : (k : ℕ) → k ≤ n → Gained k
    unfolding last_first
    gained zero h = let x = ap t u_zero in let y = ap rising.order u_zero in inr (omega (arith, ints), omega arith)
    gained (suc k) h =
        let raised = was k (omega arith) in
        let is = way.taken k (omega arith) in
        let a = parent_of arcs par (u k) in
        let days : (get_or xs k (floor_to 0)).gap.days ≡ pos a.up -ℤ pos a.down = ap (λ (s : Step). s.gap.days) is in
        let one : suc k ≡ k + 1 = omega arith in
        let up : u (suc k) ≡ a.left = ap u one ∙ u_one k in
        let tu = ap t up in
        let ou = ap rising.order up in
        ⊎_elim
        (λ (less : pos (t r) <ℤ (pos (t (u k)) +ℤ sum_days (last_first xs k))). ⊎_elim
        (λ (more : t (u k) + a.down < t a.left + a.up). inl (omega (arith, ints)))
        (λ (same : (t (u k) + a.down ≡ t a.left + a.up) × (rising.order a.left < rising.order (u k))). inl (omega (arith, ints, same.0)))
        raised.gains)
        (λ (even : (pos (t r) ≡ pos (t (u k)) +ℤ sum_days (last_first xs k)) × (rising.order (u k) + k ≤ rising.order r)). ⊎_elim
        (λ (more : t (u k) + a.down < t a.left + a.up). inl (omega (arith, ints, even.0)))
        (λ (same : (t (u k) + a.down ≡ t a.left + a.up) × (rising.order a.left < rising.order (u k))). inr (omega (arith, ints, even.0, same.0), omega (arith, even.1, same.1)))
        raised.gains)
        (gained k (omega arith))

    -- a climb that comes back
    pub closed_ring : (m : Meaning) → GatheredFrom m arcs → 1 ≤ n → n ≤ arcs.events + 1 → u n ≡ r → Contradictory m (last_first xs n)
    closed_ring m all some few back =
        let same = all.events in
        let around = subst (λ e. Leads m e (last_first xs n) r) back (leads m all n (omega arith)) in
        let tb = ap t back in
        let ob = ap rising.order back in
        let more : pos 0 <ℤ sum_days (last_first xs n) = ⊎_elim
        (λ (less : pos (t r) <ℤ (pos (t (u n)) +ℤ sum_days (last_first xs n))). omega (arith, ints))
        (λ (even : (pos (t r) ≡ pos (t (u n)) +ℤ sum_days (last_first xs n)) × (rising.order (u n) + n ≤ rising.order r)). absurd (omega (arith, even.1)))
        (gained n (omega arith)) in
        let long = last_first_length xs n in
        record {
          no_schedule = λ s keeps. no_ring m s keeps r (last_first xs n) around more;
          from = r;
          ring = around;
          some = omega arith;
          few = omega arith;
          positive = more;
        }

    -- a climb from event 0 that ends: the floor closes it
    pub floor_ring : (m : Meaning) → GatheredFrom m arcs → r ≡ 0 → n < arcs.events + 1 → t (u n) ≡ 0 → 1 ≤ t r → get_or xs n (floor_to 0) ≡ floor_to (u n) → Contradictory m (last_first xs (n + 1))
    floor_ring m all first few low high is =
        let same = all.events in
        let list = last_first_more xs n ∙ ap (λ s. s ∷ last_first xs n) is in
        let Way-up = leads m all n (omega arith) in
        let inside = way.inside n (omega arith) in
        let around : Leads m 0 (floor_to (u n) ∷ last_first xs n) 0 = (inr (refl, record { leaves = refl; reaches = omega arith; none = refl }), refl, subst (λ e. Leads m (u n) (last_first xs n) e) first Way-up) in
        let more : pos 0 <ℤ sum_days (floor_to (u n) ∷ last_first xs n) = ⊎_elim
        (λ (less : pos (t r) <ℤ (pos (t (u n)) +ℤ sum_days (last_first xs n))). omega (arith, ints))
        (λ (even : (pos (t r) ≡ pos (t (u n)) +ℤ sum_days (last_first xs n)) × (rising.order (u n) + n ≤ rising.order r)). omega (arith, ints, even.0))
        (gained n (omega arith)) in
        let long = last_first_length xs n in
        subst (Contradictory m) (sym list) (record {
          no_schedule = λ s keeps. no_ring m s keeps 0 (floor_to (u n) ∷ last_first xs n) around more;
          from = 0;
          ring = around;
          some = omega arith;
          few = omega arith;
          positive = more;
        })

  -- what a climb ends in
  module _ (steps : List Step) (i at : ℕ) (climb : Climb arcs t par r steps i at) (room : i < 1024) where
    pub ring_closed : (some : 1 ≤ par at) (step : Step) (is : step ≡ step_of (parent_of arcs par at)) → before arcs t par at ≡ r → i < arcs.events + 1
        → (m : Meaning) → GatheredFrom m arcs → Contradictory m (last_first (set steps i step) (i + 1))
    ring_closed some step is back few m all =
        closed_ring (set steps i step) (i + 1) (way_closed steps i at climb room some step is) m all (omega arith) (omega arith) (next_is steps i at climb room some step is ∙ back)

    pub ring_floored : par at ≡ 0 → r ≡ 0 → ((e : ℕ) → start e ≡ 0) → 1 ≤ t 0 → i < arcs.events + 1
        → (m : Meaning) → GatheredFrom m arcs → Contradictory m (last_first (set steps i (floor_to at)) (i + 1))
    ring_floored none first noughts high few m all =
        let inside : at ≤ arcs.events = (let x = climb.inside i (omega arith) in omega (arith, climb.there)) in
        let low : t at ≡ 0 = ⊎_elim
        (λ (root : (par at ≡ 0) × (t at ≡ start at)). root.1 ∙ noughts at)
        (λ (up : Raised arcs rising.order t par at). absurd (omega (arith, up.some)))
        (rising.held at inside) in
        floor_ring (set steps i (floor_to at)) i
        (record {
          inside = climb.inside;
          raised = climb.raised;
          taken = λ j l. (let ne : j ≢ i = omega arith in get_or-set_other steps i j (floor_to at) (floor_to 0) ne) ∙ climb.taken j l;
        }) m all first few (ap t climb.there ∙ low) (let x = ap t first in omega arith)
        (get_or-set_same steps i (floor_to at) (floor_to 0) (omega (arith, climb.long)) ∙ ap floor_to (sym climb.there))

  module _ (steps : List Step) (i at : ℕ) (climb : Climb arcs t par r steps i at) where
    -- it does end
    pub climb_ends : Ends arcs t par r → arcs.events + 1 ≤ i → ⊥
    climb_ends (inl ring) past = climb.open_still ring.steps ring.some (omega (arith, ring.few)) ring.back
    climb_ends (inr lifted) past =
        let root = lifted.1.1 in
        let up = climb.raised root.steps (omega (arith, root.few)) in
        let same : ups arcs t par root.steps 0 ≡ u root.steps = ap (ups arcs t par root.steps) (sym lifted.0) in
        let x = ap par same in
        omega (arith, root.root)

    -- and a climb on a ring meets no event that was never raised
    pub ring_raised : RingAt arcs t par r → i < arcs.events + 1 → par at ≡ 0 → ⊥
    ring_raised ring few none = ⊎_elim
        (λ (early : i < ring.steps). let x = ring.raised i early in let y = ap par climb.there in omega arith)
        (λ (late : ring.steps ≤ i). climb.open_still ring.steps ring.some late ring.back)
        (cases_lt i ring.steps)

-- An arc that is not met raises the event that it reaches, and all that is known of risen times stays. Assumes nothing.
use Rattle.std.proofs.Common.{◌≡◌, ℕ, suc, ◌+◌, ◌-◌, ◌<◌, ◌≤◌, cond, eqb, ◌⊎◌, sym, ap, ◌∙◌, subst, inl, inr, ⊎_elim, arith}
use Rattle.std.proofs.lemmas.Bool.{cases_eq, cond-true, cond-false, eq-eqb, ne_eqb}
use Rattle.solver.specs.declared.arc.Arc.{Arc}
use Rattle.solver.specs.declared.arcs.Arcs.{Arcs}
use Rattle.solver.specs.Arcs.{arc_at}
use Rattle.solver.proofs.Lows.{low_at}
use Rattle.solver.specs.Rising.{Keeps, parent_of, Raised, Held, Rising}

-- f, but x at p
abbrev but : (ℕ → ℕ) → ℕ → ℕ → ℕ → ℕ
but f p x q = cond (eqb q p) x (f q)

but_same : (f : ℕ → ℕ) (p x q : ℕ) → q ≡ p → but f p x q ≡ x
but_same f p x q e = cond-true (eqb q p) x (f q) (eq-eqb q p e)

but_other : (f : ℕ → ℕ) (p x q : ℕ) → (q ≡ p → ⊥) → but f p x q ≡ f q
but_other f p x q n = cond-false (eqb q p) x (f q) (ne_eqb q p n)

module _ (arcs : Arcs) (start t par : ℕ → ℕ) (rising : Rising arcs start t par)
    (k : ℕ) (inside : k < arcs.count) (a : Arc) (is : arc_at arcs.arcs k ≡ a) (unmet : t a.reached + a.down < t a.left + a.up)
    (t' par' : ℕ → ℕ) (raised : t' a.reached ≡ t a.left + a.up - a.down) (others : (e : ℕ) → (e ≡ a.reached → ⊥) → t' e ≡ t e)
    (by : par' a.reached ≡ k + 1) (kept : (e : ℕ) → (e ≡ a.reached → ⊥) → par' e ≡ par e) where
  abbrev order' : ℕ → ℕ
  order' = but rising.order a.reached (suc (rising.order a.left))

  grows : (e : ℕ) → t e ≤ t' e
  grows e = ⊎_elim
      (λ (same : e ≡ a.reached). let x = ap t same in let y = ap t' same in omega arith)
      (λ (other : e ≡ a.reached → ⊥). let x = others e other in omega arith)
      (cases_eq e a.reached)

  least' : (s : ℕ → ℕ) → ((e : ℕ) → e ≤ arcs.events → start e ≤ s e) → Keeps arcs s → (e : ℕ) → e ≤ arcs.events → t' e ≤ s e
  least' s over keeps e h = ⊎_elim
      (λ (same : e ≡ a.reached).
      let below = rising.least s over keeps a.left (low_at arcs k inside a is).0 in
      let met = subst (λ x. s x.left + x.up ≤ s x.reached + x.down) is (keeps k inside) in
      let x = ap s same in let y = ap t' same in omega arith)
      (λ (other : e ≡ a.reached → ⊥). let x = others e other in let y = rising.least s over keeps e h in omega arith)
      (cases_eq e a.reached)

  parent_new : (e : ℕ) → e ≡ a.reached → parent_of arcs par' e ≡ a
  parent_new e same = let index : par' e - 1 ≡ k = (let x = ap par' same in omega arith) in ap (arc_at arcs.arcs) index ∙ is

  parent_old : (e : ℕ) → (e ≡ a.reached → ⊥) → parent_of arcs par' e ≡ parent_of arcs par e
  parent_old e other = ap (λ n. arc_at arcs.arcs (n - 1)) (kept e other)

  abbrev Gains : (ℕ → ℕ) → (ℕ → ℕ) → Arc → ℕ → Type 0
  Gains order u b e = (u e + b.down < u b.left + b.up) ⊎ ((u e + b.down ≡ u b.left + b.up) × (order b.left < order e))

  gains_new : (e : ℕ) → e ≡ a.reached → Gains order' t' a e
  gains_new e same = ⊎_elim
      (λ (self : a.left ≡ a.reached). let x = ap t' same in let y = ap t' self in let z = ap t self in inl (omega arith))
      (λ (other : a.left ≡ a.reached → ⊥).
      let x = ap t' same in
      let y = others a.left other in
      let p = but_other rising.order a.reached (suc (rising.order a.left)) a.left other in
      let q = but_same rising.order a.reached (suc (rising.order a.left)) e same in
      inr (omega arith, omega arith))
      (cases_eq a.left a.reached)

  gains_old : (e : ℕ) (b : Arc) → (e ≡ a.reached → ⊥) → Gains rising.order t b e → Gains order' t' b e
  gains_old e b other was = ⊎_elim
      (λ (below : b.left ≡ a.reached).
      let x = others e other in let y = ap t' below in let z = ap t below in
      inl (⊎_elim (λ (less : t e + b.down < t b.left + b.up). omega arith) (λ (same : (t e + b.down ≡ t b.left + b.up) × (rising.order b.left < rising.order e)). let w = same.0 in omega arith) was))
      (λ (apart : b.left ≡ a.reached → ⊥).
      let x = others e other in
      let y = others b.left apart in
      let p = but_other rising.order a.reached (suc (rising.order a.left)) b.left apart in
      let q = but_other rising.order a.reached (suc (rising.order a.left)) e other in
      ⊎_elim
      (λ (less : t e + b.down < t b.left + b.up). inl (omega arith))
      (λ (same : (t e + b.down ≡ t b.left + b.up) × (rising.order b.left < rising.order e)). inr (omega (arith, same.0), omega (arith, same.1)))
      was)
      (cases_eq b.left a.reached)

  held' : (e : ℕ) → e ≤ arcs.events → Held arcs order' start t' par' e
  held' e h = ⊎_elim
      (λ (same : e ≡ a.reached).
      let there = parent_new e same in
      inr (record {
        some = (let x = ap par' same in omega arith);
        low = (let x = ap par' same in omega arith);
        reaches = ap (λ (b : Arc). b.reached) there ∙ sym same;
        gains = subst (λ b. Gains order' t' b e) (sym there) (gains_new e same);
      }))
      (λ (other : e ≡ a.reached → ⊥). ⊎_elim
      (λ (root : (par e ≡ 0) × (t e ≡ start e)). inl (kept e other ∙ root.0, others e other ∙ root.1))
      (λ (was : Raised arcs rising.order t par e).
      let there = parent_old e other in
      inr (record {
        some = (let x = kept e other in omega (arith, was.some));
        low = (let x = kept e other in omega (arith, was.low));
        reaches = ap (λ (b : Arc). b.reached) there ∙ was.reaches;
        gains = subst (λ b. Gains order' t' b e) (sym there) (gains_old e (parent_of arcs par e) other was.gains);
      }))
      (rising.held e h))
      (cases_eq e a.reached)

  pub raise_keeps : Rising arcs start t' par'
  raise_keeps = record {
    above = λ e h. let x = rising.above e h in let y = grows e in omega arith;
    least = least';
    order = order';
    held = held';
  }

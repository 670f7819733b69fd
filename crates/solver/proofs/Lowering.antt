-- A sweep that lowers, arc by arc. Assumes nothing.
use Rattle.std.proofs.Common.{◌≡◌, ℕ, zero, suc, ◌+◌, ◌-◌, ◌<◌, ◌≤◌, Bool, true, false, cond, ◌||◌, ltb, ◌≢◌, List, length, set, MatchBool, sym, refl, ap, ◌∙◌, subst, ⊎_elim, arith}
use Rattle.std.proofs.lemmas.List.{get_or-set_same, get_or-set_other}
use Rattle.std.proofs.lemmas.Bool.{cases_eq, ltb-true, ltb-false, or_right}
use Rattle.solver.specs.declared.arc.Arc.{Arc}
use Rattle.solver.specs.declared.arcs.Arcs.{Arcs}
use Rattle.solver.specs.Arcs.{MeetsArc, arc_at}
use Rattle.solver.proofs.Lows.{low_at}
use Rattle.solver.specs.Rising.{time_at}
use Rattle.solver.specs.Falling.{Sank, Fell}
use Rattle.solver.proofs.Sweeping.{or_false}

-- the times of events 0 to n, together
unfoldable pub total : (ℕ → ℕ) → ℕ → ℕ
total t zero = t 0
total t (suc n) = t (suc n) + total t n

total_shrinks : (s t : ℕ → ℕ) (n : ℕ) → ((e : ℕ) → e ≤ n → t e ≤ s e) → total t n ≤ total s n
unfolding total
total_shrinks s t zero falls = falls 0 (omega arith)
total_shrinks s t (suc n) falls = let x = falls (suc n) (omega arith) in let y = total_shrinks s t n (λ e h. falls e (omega arith)) in omega arith

pub total_falls : (s t : ℕ → ℕ) (n : ℕ) → ((e : ℕ) → e ≤ n → t e ≤ s e) → (e : ℕ) → e ≤ n → t e < s e → total t n < total s n
unfolding total
total_falls s t zero falls e h less = let same : e ≡ 0 = omega arith in let x = ap s same in let y = ap t same in omega arith
total_falls s t (suc n) falls e h less = ⊎_elim
    (λ (same : e ≡ suc n). let x = ap s same in let y = ap t same in let w = total_shrinks s t n (λ d k. falls d (omega arith)) in omega arith)
    (λ (other : e ≡ suc n → ⊥). let x = falls (suc n) (omega arith) in let w = total_falls s t n (λ d k. falls d (omega arith)) e (omega arith) less in omega arith)
    (cases_eq e (suc n))

-- one arc, met or not
module _ (arcs : Arcs) (ls : List ℕ) (k : ℕ) (inside : k < arcs.count) (timed : length ls ≡ 1024)
    (a : Arc) (is : arc_at arcs.arcs k ≡ a) where
  module _ (unmet : time_at ls a.reached + a.down < time_at ls a.left + a.up) where
    abbrev ls' : List ℕ
    ls' = set ls a.left (time_at ls a.reached + a.down - a.up)

    pub lowered : time_at ls' a.left ≡ time_at ls a.reached + a.down - a.up
    lowered = get_or-set_same ls a.left _ 0 (omega (arith, (low_at arcs k inside a is).0, arcs.small))

    others : (e : ℕ) → (e ≡ a.left → ⊥) → time_at ls' e ≡ time_at ls e
    others e n = let ne : e ≢ a.left = n in get_or-set_other ls a.left e _ 0 ne

    pub sank_lowered : Sank arcs ls ls'
    sank_lowered = record {
      most = λ s keeps below e h. ⊎_elim
          (λ (same : e ≡ a.left).
          let under = below a.reached (low_at arcs k inside a is).1.0 in
          let met = subst (λ x. s x.left + x.up ≤ s x.reached + x.down) is (keeps k inside) in
          let x = ap s same in let y = ap (time_at ls') same in omega (arith, lowered))
          (λ (other : e ≡ a.left → ⊥). let x = others e other in let y = below e h in omega arith)
          (cases_eq e a.left);
      falls = λ e. ⊎_elim
          (λ (same : e ≡ a.left). let x = ap (time_at ls) same in let y = ap (time_at ls') same in omega (arith, lowered))
          (λ (other : e ≡ a.left → ⊥). let x = others e other in omega arith)
          (cases_eq e a.left);
    }

  sank_not : Sank arcs ls ls
  sank_not = record { most = λ s keeps below. below; falls = λ e. omega arith }

  pub sank_one : (r : Bool) (next : List ℕ) → r ≡ ltb (time_at ls a.reached + a.down) (time_at ls a.left + a.up)
      → next ≡ cond r (set ls a.left (time_at ls a.reached + a.down - a.up)) ls → Sank arcs ls next
  sank_one true next e f = subst (Sank arcs ls) (sym f) (sank_lowered (ltb-true (time_at ls a.reached + a.down) (time_at ls a.left + a.up) (sym e)))
  sank_one false next e f = subst (Sank arcs ls) (sym f) sank_not

module _ (arcs : Arcs) where
  pub sank_none : (ls : List ℕ) → Sank arcs ls ls
  sank_none ls = record { most = λ s keeps below. below; falls = λ e. omega arith }

  -- lowering after lowering
  pub sank_join : (ls ms ns : List ℕ) → Sank arcs ls ms → Sank arcs ms ns → Sank arcs ls ns
  sank_join ls ms ns f g = record {
    most = λ s keeps below. g.most s keeps (f.most s keeps below);
    falls = λ e. let x = f.falls e in let y = g.falls e in omega arith;
  }

module _ (arcs : Arcs) (ls₀ : List ℕ) where
  pub fell_none : Fell arcs ls₀ ls₀ 0 false
  fell_none = record {
    most = λ s keeps below. below;
    falls = λ e. omega arith;
    told = (refl, λ k h. absurd (omega arith));
  }

  module _ (ls : List ℕ) (k : ℕ) (changed : Bool) (so : Fell arcs ls₀ ls k changed)
      (inside : k < arcs.count) (timed : length ls ≡ 1024)
      (a : Arc) (is : arc_at arcs.arcs k ≡ a) (room : a.up ≤ time_at ls a.reached + a.down) where
    told_more : (time_at ls a.left + a.up ≤ time_at ls a.reached + a.down) → (b : Bool)
        → MatchBool b ((e : ℕ) × (e ≤ arcs.events) × (time_at ls e < time_at ls₀ e)) ((ls ≡ ls₀) × ((j : ℕ) → j < k → MeetsArc (time_at ls) (arc_at arcs.arcs j)))
        → MatchBool b ((e : ℕ) × (e ≤ arcs.events) × (time_at ls e < time_at ls₀ e)) ((ls ≡ ls₀) × ((j : ℕ) → j < k + 1 → MeetsArc (time_at ls) (arc_at arcs.arcs j)))
    told_more met true w = w
    told_more met false w = (
      w.0,
      λ j h. ⊎_elim
          (λ (same : j ≡ k). subst (MeetsArc (time_at ls)) (sym (ap (arc_at arcs.arcs) same ∙ is)) met)
          (λ (other : j ≡ k → ⊥). w.1 j (omega arith))
          (cases_eq j k),
    )

    fell_met : (time_at ls a.left + a.up ≤ time_at ls a.reached + a.down) → Fell arcs ls₀ ls (k + 1) changed
    fell_met met = record { most = so.most; falls = so.falls; told = told_more met changed so.told }

    fell_lowered : time_at ls a.reached + a.down < time_at ls a.left + a.up → Fell arcs ls₀ (set ls a.left (time_at ls a.reached + a.down - a.up)) (k + 1) true
    fell_lowered unmet =
        let one = sank_lowered arcs ls k inside timed a is unmet in
        let down = lowered arcs ls k inside timed a is unmet in
        record {
          most = λ s keeps below. one.most s keeps (so.most s keeps below);
          falls = λ e. let x = so.falls e in let y = one.falls e in omega arith;
          told = (a.left, (low_at arcs k inside a is).0, (let x = so.falls a.left in omega arith));
        }

    -- one arc more, met or not
    pub fell_next : (r : Bool) (next : List ℕ) → r ≡ ltb (time_at ls a.reached + a.down) (time_at ls a.left + a.up)
        → next ≡ cond r (set ls a.left (time_at ls a.reached + a.down - a.up)) ls
        → Fell arcs ls₀ next (k + 1) (changed || r)
    fell_next true next e f =
        let unmet = ltb-true (time_at ls a.reached + a.down) (time_at ls a.left + a.up) (sym e) in
        subst (λ x. Fell arcs ls₀ x (k + 1) (changed || true)) (sym f)
        (subst (λ b. Fell arcs ls₀ (set ls a.left (time_at ls a.reached + a.down - a.up)) (k + 1) b) (sym (or_right changed true refl)) (fell_lowered unmet))
    fell_next false next e f =
        let met = ltb-false (time_at ls a.reached + a.down) (time_at ls a.left + a.up) (sym e) in
        subst (λ x. Fell arcs ls₀ x (k + 1) (changed || false)) (sym f)
        (subst (λ b. Fell arcs ls₀ ls (k + 1) b) (sym (or_false changed)) (fell_met met))

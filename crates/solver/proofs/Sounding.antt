-- Arcs and gaps ask for the same, so that times at rest are right of the network. Assumes nothing.
use Rattle.std.proofs.Common.{◌≡◌, ℕ, zero, suc, ◌+◌, ◌<◌, ◌≤◌, max, List, [], ◌∷◌, length, fold, take, unwrap_or, sym, refl, ap, ◌∙◌, ⊎_elim, arith}
use Rattle.std.proofs.lemmas.Int.{ints}
use Rattle.std.proofs.lemmas.List.Sums.{fold_more}
use Rattle.std.specs.List.{reduce}
use Rattle.std.proofs.lemmas.Bool.{cases_eq}
use Rattle.network.specs.declared.gap.Gap.{Gap}
use Rattle.network.specs.Meanings.{Meaning}
use Rattle.network.specs.Schedules.{Meets, Schedule, greatest, Sound}
use Rattle.network.proofs.Lengths.{greatest_bounds, greatest_least, greatest_grows}
use Rattle.network.proofs.Windows.{windows_sound}
use Rattle.solver.specs.declared.arc.Arc.{Arc}
use Rattle.solver.specs.declared.arcs.Arcs.{Arcs}
use Rattle.solver.specs.Arcs.{MeetsArc, SameGap, arc_at}
use Rattle.solver.specs.Copies.{GatheredFrom}
use Rattle.solver.specs.Rising.{time_at, Keeps, Rising}
use Rattle.solver.specs.Falling.{Fallen}

pub greatest_more : (t : ℕ → ℕ) (n : ℕ) → greatest t (n + 1) ≡ max (greatest t n) (t (n + 1))
unfolding greatest
greatest_more t n = let one : n + 1 ≡ suc n = omega arith in ap (greatest t) one ∙ (let x = ap t one in omega arith)

pub greatest_first : (t : ℕ → ℕ) → greatest t 0 ≡ t 0
unfolding greatest
greatest_first t = refl

-- the greatest of the times of events 0 to n is the greatest of the first n + 1 times of the table
pub greatest_fold : (ts : List ℕ) (n : ℕ) → n < length ts → fold max 0 (take (n + 1) ts) ≡ greatest (time_at ts) n
greatest_fold ts zero h = let x = fold_more max 0 ts 0 0 h in let first = greatest_first (time_at ts) in omega arith
greatest_fold ts (suc n) h =
    let x = fold_more max 0 ts (suc n) 0 h in
    let y = greatest_fold ts n (omega arith) in
    let next : suc n ≡ n + 1 = omega arith in
    let one = ap (λ k. fold max 0 (take k ts)) next in
    let more = ap (greatest (time_at ts)) next ∙ greatest_more (time_at ts) n in
    let there = ap (time_at ts) next in
    omega arith

-- and so is what `max` makes of them
pub greatest_reduce : (ts : List ℕ) → unwrap_or (reduce max ts) 0 ≡ fold max 0 ts
greatest_reduce [] = refl
greatest_reduce (x ∷ xs) = ap (λ a. fold max a xs) (let z : x ≡ max 0 x = omega arith in z)

to_arc : (events : ℕ) (t : ℕ → ℕ) (a : Arc) (g : Gap) → SameGap events a g → Meets t g → MeetsArc t a
to_arc events t a g same met = let l = ap t same.leaves in let r = ap t same.reaches in let d = same.days in omega (arith, ints)

to_gap : (events : ℕ) (t : ℕ → ℕ) (a : Arc) (g : Gap) → SameGap events a g → MeetsArc t a → Meets t g
to_gap events t a g same met = let l = ap t same.leaves in let r = ap t same.reaches in let d = same.days in omega (arith, ints)

-- event 0 is due at 0, and every other event at T
module _ (ls₀ : List ℕ) (T events : ℕ) (first : time_at ls₀ 0 ≡ 0) (due : (e : ℕ) → 1 ≤ e → e ≤ events → time_at ls₀ e ≡ T) where
  pub under_due : (s : ℕ → ℕ) → s 0 ≡ 0 → greatest s events ≤ T → (e : ℕ) → e ≤ events → s e ≤ time_at ls₀ e
  under_due s begins long e h = ⊎_elim
      (λ (same : e ≡ 0). let x = ap s same in omega arith)
      (λ (other : e ≡ 0 → ⊥). let x = greatest_bounds s events e h in let y = due e (omega arith) h in omega arith)
      (cases_eq e 0)

  pub due_low : (e : ℕ) → e ≤ events → time_at ls₀ e ≤ T
  due_low e h = ⊎_elim
      (λ (same : e ≡ 0). let y = ap (time_at ls₀) same in omega arith)
      (λ (other : e ≡ 0 → ⊥). let y = due e (omega arith) h in omega arith)
      (cases_eq e 0)

module _ (m : Meaning) (arcs : Arcs) (all : GatheredFrom m arcs) where
  pub schedule_keeps : (t : ℕ → ℕ) → Schedule m t → Keeps arcs t
  schedule_keeps t keeps k h = let of = all.gaps.each k h in to_arc m.events t (arc_at arcs.arcs k) of.gap of.same (keeps.meets (arc_at arcs.arcs k).place of.gap of.there)

  pub keeps_schedule : (t : ℕ → ℕ) → t 0 ≡ 0 → Keeps arcs t → Schedule m t
  keeps_schedule t first keeps = record {
    begins = first;
    meets = λ p g at. let found = all.gaps.every p g at in to_gap m.events t (arc_at arcs.arcs found.index) g found.same (keeps found.index found.low);
  }

  -- earliest times at rest, and latest times that fell from their length
  pub rest_sound : (t par : ℕ → ℕ) → Rising arcs (λ _. 0) t par → t 0 ≡ 0 → Keeps arcs t
      → (ls₀ ls : List ℕ) → Fallen arcs ls₀ ls → (T : ℕ) → T ≡ greatest t arcs.events → time_at ls₀ 0 ≡ 0 → ((e : ℕ) → 1 ≤ e → e ≤ arcs.events → time_at ls₀ e ≡ T)
      → Sound m t (time_at ls) T
  rest_sound t par rising first keeps ls₀ ls fallen T is zero-first due =
      let same-events = all.events in
      let bounded = under_due ls₀ T arcs.events zero-first due in
      let over = fallen.most t keeps (bounded t first (omega arith)) in
      let low = greatest_grows t (time_at ls) arcs.events over in
      let high = greatest_least (time_at ls) arcs.events T (λ e h. let x = fallen.falls e in let y = due_low ls₀ T arcs.events zero-first due e h in omega arith) in
      let late-first : time_at ls 0 ≡ 0 = (let x = fallen.falls 0 in omega arith) in
      let at = λ (s : ℕ → ℕ). ap (greatest s) same-events in
      windows_sound m t (time_at ls) T (keeps_schedule t first keeps) (keeps_schedule (time_at ls) late-first fallen.keeps)
      (at t ∙ sym is) (at (time_at ls) ∙ (let x : greatest (time_at ls) arcs.events ≡ T = omega arith in x))
      (λ s sched e h. rising.least s (λ d k. omega arith) (schedule_keeps s sched) e (omega arith))
      (λ s sched long e h. fallen.most s (schedule_keeps s sched) (bounded s sched.begins (let x = at s in omega arith)) e (omega arith))

-- Sweep after sweep, the times have less room to rise. Assumes nothing.
use Rattle.std.proofs.Common.{◌≡◌, ℕ, zero, suc, ◌+◌, ◌-◌, ◌<◌, ◌≤◌, ap, ⊎_elim, arith}
use Rattle.std.proofs.lemmas.Bool.{cases_eq}
use Rattle.network.specs.Schedules.{greatest}
use Rattle.network.proofs.Lengths.{greatest_least}
use Rattle.solver.specs.declared.arcs.Arcs.{Arcs}
use Rattle.solver.specs.Walks.{Rooted}

-- how far the times of events 0 to n are below a limit, together
unfoldable pub slack : ℕ → (ℕ → ℕ) → ℕ → ℕ
slack lim t zero = lim - t 0
slack lim t (suc n) = (lim - t (suc n)) + slack lim t n

slack_shrinks : (lim : ℕ) (s t : ℕ → ℕ) (n : ℕ) → ((e : ℕ) → e ≤ n → s e ≤ t e) → slack lim t n ≤ slack lim s n
unfolding slack
slack_shrinks lim s t zero grows = let x = grows 0 (omega arith) in omega arith
slack_shrinks lim s t (suc n) grows = let x = grows (suc n) (omega arith) in let y = slack_shrinks lim s t n (λ e h. grows e (omega arith)) in omega arith

pub slack_falls : (lim : ℕ) (s t : ℕ → ℕ) (n : ℕ) → ((e : ℕ) → e ≤ n → s e ≤ t e) → ((e : ℕ) → e ≤ n → t e ≤ lim) → (e : ℕ) → e ≤ n → s e < t e → slack lim t n < slack lim s n
unfolding slack
slack_falls lim s t zero grows low e h less = let same : e ≡ 0 = omega arith in let x = ap s same in let y = ap t same in let z = low 0 (omega arith) in omega arith
slack_falls lim s t (suc n) grows low e h less = ⊎_elim
    (λ (same : e ≡ suc n). let x = ap s same in let y = ap t same in let z = low (suc n) (omega arith) in let w = slack_shrinks lim s t n (λ d k. grows d (omega arith)) in omega arith)
    (λ (other : e ≡ suc n → ⊥). let x = grows (suc n) (omega arith) in let w = slack_falls lim s t n (λ d k. grows d (omega arith)) (λ d k. low d (omega arith)) e (omega arith) less in omega arith)
    (cases_eq e (suc n))

-- events that lead back to one that was never raised are early
module _ (arcs : Arcs) (t par : ℕ → ℕ) (all : (e : ℕ) → e ≤ arcs.events → Rooted arcs t par 102398976 (arcs.events + 1) e) where
  pub early : (e : ℕ) → e ≤ arcs.events → t e ≤ 204800000
  early e h = let r = all e h in omega (arith, r.few, r.early, arcs.small)

  pub all_early : greatest t arcs.events ≤ 204800000
  all_early = greatest_least t arcs.events 204800000 early

-- The greatest of the times of events 0 to n. Assumes nothing.
use Rattle.std.proofs.Common.{◌≡◌, ℕ, zero, suc, ◌≤◌, ⊎_elim, arith}
use Rattle.std.proofs.lemmas.Bool.{cases_eq}
use Rattle.network.specs.Schedules.{greatest}

-- no event passes it
pub greatest_bounds : (t : ℕ → ℕ) (n e : ℕ) → e ≤ n → t e ≤ greatest t n
unfolding greatest
greatest_bounds t zero e h = let same : e ≡ 0 = omega arith in rw same (omega arith)
greatest_bounds t (suc n) e h =
    ⊎_elim
    (λ (same : e ≡ suc n). rw same (omega arith))
    (λ (other : e ≡ suc n → ⊥). let below = greatest_bounds t n e (omega arith) in omega arith)
    (cases_eq e (suc n))

-- what no event passes, it does not pass
pub greatest_least : (t : ℕ → ℕ) (n b : ℕ) → ((e : ℕ) → e ≤ n → t e ≤ b) → greatest t n ≤ b
unfolding greatest
greatest_least t zero b all = all 0 (omega arith)
greatest_least t (suc n) b all =
    let here = all (suc n) (omega arith) in
    let below = greatest_least t n b (λ e h. all e (omega arith)) in
    omega arith

-- later times, a later greatest
pub greatest_grows : (s t : ℕ → ℕ) (n : ℕ) → ((e : ℕ) → e ≤ n → s e ≤ t e) → greatest s n ≤ greatest t n
greatest_grows s t n all = greatest_least s n (greatest t n) (λ e h. let here = all e h in let there = greatest_bounds t n e h in omega arith)

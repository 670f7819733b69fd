-- How many marks there are. Assumes nothing.
use Rattle.std.proofs.Common.{◌≡◌, ℕ, zero, suc, ◌+◌, ◌<◌, ◌≤◌, sym, ap, ⊎_elim, arith}
use Rattle.std.proofs.lemmas.Bool.{cases_eq}
use Rattle.solver.specs.Walks.{tally}

pub tally_bound : (f : ℕ → ℕ) (n : ℕ) → tally f n ≤ n
unfolding tally
tally_bound f zero = omega arith
tally_bound f (suc n) = let x = tally_bound f n in omega arith

tally_same : (f g : ℕ → ℕ) (n : ℕ) → ((x : ℕ) → x < n → g x ≡ f x) → tally g n ≡ tally f n
unfolding tally
tally_same f g zero all = omega arith
tally_same f g (suc n) all = let x = tally_same f g n (λ y h. all y (omega arith)) in let y = all n (omega arith) in omega arith

-- one mark more
pub tally_more : (f g : ℕ → ℕ) (n e : ℕ) → e < n → f e ≡ 0 → 1 ≤ g e → ((x : ℕ) → (x ≡ e → ⊥) → g x ≡ f x) → tally g n ≡ tally f n + 1
unfolding tally
tally_more f g zero e h none some others = absurd (omega arith)
tally_more f g (suc n) e h none some others = ⊎_elim
    (λ (same : e ≡ n). let x = tally_same f g n (λ y l. others y (λ z. omega arith)) in let y = ap f same in let z = ap g same in omega arith)
    (λ (other : e ≡ n → ⊥). let x = tally_more f g n e (omega arith) none some others in let y = others n (λ z. other (sym z)) in omega arith)
    (cases_eq e n)

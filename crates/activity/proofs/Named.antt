-- A search over the lines finds whether one of them passes a test. Assumes nothing.
use Rattle.std.proofs.Common.{◌≡◌, ℕ, zero, suc, ◌≤◌, Bool, true, false, sym, refl, ap, ◌∙◌, ⊎_elim, arith}
use Rattle.std.proofs.lemmas.Bool.{or_left, or_right, or_from, cases_eq}
use Rattle.activity.specs.Rule.{some_up_to}

module _ (f : ℕ → Bool) where
  -- one that passes is found
  pub some_at : (n q : ℕ) → 1 ≤ q → q ≤ n → f q ≡ true → some_up_to n f ≡ true
  unfolding some_up_to
  some_at zero q low high e = absurd (omega arith)
  some_at (suc n) q low high e =
      ⊎_elim
      (λ (same : q ≡ suc n). or_left (f (suc n)) (some_up_to n f) (ap f (sym same) ∙ e))
      (λ (other : q ≡ suc n → ⊥). or_right (f (suc n)) (some_up_to n f) (some_at n q low (omega arith) e))
      (cases_eq q (suc n))

  -- where none passes, none is found
  pub some_none : (n : ℕ) → ((q : ℕ) → 1 ≤ q → q ≤ n → f q ≡ false) → some_up_to n f ≡ false
  unfolding some_up_to
  some_none zero none = refl
  some_none (suc n) none = or_from (f (suc n)) (some_up_to n f) (none (suc n) (omega arith) (omega arith)) (some_none n (λ q low high. none q low (omega arith)))

-- What is changed at one number is as before elsewhere. Assumes nothing.
use Rattle.std.proofs.Common.{◌≡◌, ℕ, eqb, None, Option, sym, ap, ◌∙◌, ⊎_elim}
use mathlib.Core.Path.{fun_ext}
use Rattle.std.proofs.lemmas.Bool.{eq-eqb, ne_eqb, cases_eq, cond-true, cond-false}
use Rattle.book.specs.Calls.{put}

module _ {X : Type 0} where
  pub put_same : (f : ℕ → Option X) (p : ℕ) (x : Option X) (q : ℕ) → q ≡ p → put f p x q ≡ x
  put_same f p x q e = cond-true (eqb q p) x (f q) (eq-eqb q p e)

  pub put_other : (f : ℕ → Option X) (p : ℕ) (x : Option X) (q : ℕ) → (q ≡ p → ⊥) → put f p x q ≡ f q
  put_other f p x q n = cond-false (eqb q p) x (f q) (ne_eqb q p n)

  -- to empty an empty line changes nothing
  pub put_none : (f : ℕ → Option X) (p : ℕ) → f p ≡ None → put f p None ≡ f
  put_none f p e = fun_ext (λ q. ⊎_elim (λ h. put_same f p None q h ∙ sym (ap f h ∙ e)) (λ h. put_other f p None q h) (cases_eq q p))

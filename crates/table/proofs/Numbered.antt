-- Records numbered from 1, over the list of them. Assumes nothing.
use Rattle.std.proofs.Common.{◌≡◌, ℕ, zero, suc, ◌-◌, ◌<◌, ◌≤◌, ◌≢◌, ◌⊎◌, List, ◌∷◌, length, get_or, set, replicate, None, Option, sym, refl, ap, ◌∙◌, ⊎_elim, arith}
use mathlib.Core.Path.{fun_ext}
use Rattle.std.proofs.lemmas.List.{get_or_past, length-replicate, get_or-set_same, get_or-set_other, get_or-replicate}
use Rattle.std.proofs.lemmas.Bool.{cases_eq, cases_lt}
use Rattle.book.specs.Calls.{put}
use Rattle.book.proofs.Puts.{put_same, put_other}

module _ {X : Type 0} where
  -- what stands on line p of the list
  abbrev pub at : List (Option X) → ℕ → Option X
  at xs p = get_or (None ∷ xs) p None

  -- nothing stands on any line of an empty table
  pub at-replicate : (n p : ℕ) → at (replicate n None) p ≡ None
  at-replicate n zero = refl
  at-replicate n (suc p) = ⊎_elim (λ h. get_or-replicate n p None None h) (λ (h : n ≤ p). get_or_past (replicate n None) p None (simp length-replicate (omega arith))) (cases_lt p n)

  -- line p is the element before p
  pub at_back : (xs : List (Option X)) (p : ℕ) → 1 ≤ p → at xs p ≡ get_or xs (p - 1) None
  at_back xs zero h = absurd (omega arith)
  at_back xs (suc p) h = ap (λ i. get_or xs i None) (omega arith)

  -- nothing stands outside the table
  pub at_outside : (xs : List (Option X)) (p : ℕ) → (p < 1) ⊎ (length xs < p) → at xs p ≡ None
  at_outside xs zero h = refl
  at_outside xs (suc p) h = get_or_past xs p None (omega arith)

  at-set-at : (xs : List (Option X)) (p : ℕ) (x : Option X) → 1 ≤ p → p ≤ length xs → (q : ℕ) → at (set xs (p - 1) x) q ≡ put (at xs) p x q
  at-set-at xs p x low high zero = sym (put_other (at xs) p x 0 (λ e. omega arith))
  at-set-at xs p x low high (suc k) =
      ⊎_elim
      (λ h. let e : k ≡ p - 1 = omega arith in let l : p - 1 < length xs = omega arith in ap (λ i. get_or (set xs (p - 1) x) i None) e ∙ get_or-set_same xs (p - 1) x None l ∙ sym (put_same (at xs) p x (suc k) h))
      (λ h. let n : k ≢ p - 1 = λ e. h (omega arith) in get_or-set_other xs (p - 1) k x None n ∙ sym (put_other (at xs) p x (suc k) h))
      (cases_eq (suc k) p)

  -- a changed record is a changed line
  pub at_set : (xs : List (Option X)) (p : ℕ) (x : Option X) → 1 ≤ p → p ≤ length xs → at (set xs (p - 1) x) ≡ put (at xs) p x
  at_set xs p x low high = fun_ext (at-set-at xs p x low high)

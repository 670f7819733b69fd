-- What the test `within` tells. Assumes nothing.
use Rattle.std.proofs.Common.{◌≡◌, ℕ, ◌≤◌, true, false, leb, inl, inr, ⊎_elim}
use Rattle.std.proofs.lemmas.Bool.{and_from, and_parts, and_cases, le-leb, leb-true, leb-false, lt-leb, and_left, and_right}
use Rattle.network.specs.Meanings.{Outside}
use Rattle.book.specs.Rules.{within}

pub within_true : (p n : ℕ) → 1 ≤ p → p ≤ n → within p n ≡ true
within_true p n low high = and_from (leb 1 p) (leb p n) (le-leb 1 p low) (le-leb p n high)

pub within_parts : (p n : ℕ) → within p n ≡ true → (1 ≤ p) × (p ≤ n)
within_parts p n t = let both = and_parts (leb 1 p) (leb p n) t in (leb-true 1 p both.0, leb-true p n both.1)

pub within_false : (p n : ℕ) → Outside n p → within p n ≡ false
within_false p n (inl h) = and_left (leb 1 p) (leb p n) (lt-leb 1 p h)
within_false p n (inr h) = and_right (leb 1 p) (leb p n) (lt-leb p n h)

pub outside : (p n : ℕ) → within p n ≡ false → Outside n p
outside p n t = ⊎_elim (λ e. inl (leb-false 1 p e)) (λ e. inr (leb-false p n e)) (and_cases (leb 1 p) (leb p n) t)

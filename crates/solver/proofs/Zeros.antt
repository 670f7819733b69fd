-- A table of noughts. Assumes nothing.
use Rattle.std.proofs.Common.{◌≡◌, ℕ, ◌<◌, ◌≤◌, replicate, ⊎_elim, arith}
use Rattle.std.proofs.lemmas.List.{get_or-replicate, get_or_past, length-replicate}
use Rattle.std.proofs.lemmas.Bool.{cases_lt}
use Rattle.solver.specs.Rising.{time_at}

-- a table of one number has that number everywhere, and 0 past its end
pub zeros : (n x : ℕ) → time_at (replicate n 0) x ≡ 0
zeros n x = ⊎_elim
    (λ (h : x < n). get_or-replicate n x 0 0 h)
    (λ (h : n ≤ x). get_or_past (replicate n 0) x 0 (simp length-replicate (omega arith)))
    (cases_lt x n)

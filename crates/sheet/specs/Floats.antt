-- The free float of an activity: how far its earliest finish alone, with its start where the two move together, can be
-- raised so that all earliest times are still a schedule of the same length. Assumes nothing.
--     Greatest P k        k is the greatest number of which P holds
--     is_moved w p e       the event e is moved with the finish of the activity on line p
--     raised w p t k      the times t, with the moved events k days later
--     Raisable ..         the times raised by k days are a schedule of length T
use Rattle.std.specs.Prelude.{◌≡◌, ℕ, ◌+◌, ◌≤◌, Bool, cond, ◌||◌, ◌==◌}
use Rattle.network.specs.Meanings.{Meaning}
use Rattle.network.specs.Schedules.{Schedule, length_of}
use Rattle.activity.specs.Activities.{start_of, finish_of}
use Rattle.sheet.specs.declared.span.Moves.{Moves}
use Rattle.sheet.specs.declared.span.Moves.TheVariants.{Finish, Both}

pub record Greatest (P : ℕ → Type 0) (k : ℕ) : Type 0 where
  pub holds : P k
  pub most : (j : ℕ) → P j → j ≤ k

abbrev pub is_moved : Moves → ℕ → ℕ → Bool
is_moved Finish p e = e == finish_of p
is_moved Both p e = e == finish_of p || e == start_of p

abbrev pub raised : Moves → ℕ → (ℕ → ℕ) → ℕ → ℕ → ℕ
raised w p t k e = cond (is_moved w p e) (t e + k) (t e)

pub record Raisable (m : Meaning) (t : ℕ → ℕ) (T : ℕ) (w : Moves) (p k : ℕ) : Type 0 where
  pub schedule : Schedule m (raised w p t k)
  pub long : length_of m (raised w p t k) ≡ T

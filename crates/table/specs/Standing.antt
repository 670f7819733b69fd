-- What stands in a table, and what changes in it. Assumes nothing.
use Rattle.std.specs.Prelude.{ℕ, cond, ◌∷◌, None, Option, slice_index_or}
use Rattle.book.specs.Calls.{put}
use Rattle.book.specs.Rules.{within}
use Rattle.table.specs.declared.Table.{Table}

-- records are numbered from 1: nothing stands on 0, nor past the end
abbrev pub standing : {T : Type 0} {n : ℕ} → Table T n → ℕ → Option T
standing t p = slice_index_or (None ∷ t.records) p None

-- records from 1 to n, of which one is changed; one outside 1 to n changes nothing
abbrev pub changed : {T : Type 0} → ℕ → (ℕ → Option T) → ℕ → Option T → ℕ → Option T
changed n records p x = cond (within p n) (put records p x) records

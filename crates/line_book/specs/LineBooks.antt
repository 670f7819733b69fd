-- The book of 400 lines and no date places. Assumes nothing.
--     InTable ls      the lines ls run from 1 to 400
--     LinesOnly r     the rule r is of a book with 400 lines and no date places
--     book_of r ls     the book of the rule r whose lines are ls
use Rattle.std.specs.Prelude.{◌≡◌, ℕ, None, Option}
use Rattle.network.specs.Meanings.{Outside}
use Rattle.book.specs.Rules.{Rule, BookMeaning}

abbrev pub InTable : {E : Type 0} → (ℕ → Option E) → Type 0
InTable ls = (p : ℕ) → Outside 400 p → ls p ≡ None

pub record LinesOnly {E : Type 0} (r : Rule E) : Type 0 where
  pub lines : r.lines ≡ 400
  pub dates : r.dates ≡ 0

abbrev pub book_of : {E : Type 0} → Rule E → (ℕ → Option E) → BookMeaning E
book_of r ls = record { rule = r; ledger = record { line = ls; date = λ _. None } }

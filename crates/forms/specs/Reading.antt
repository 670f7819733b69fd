-- A reading is what was read and the place after it, or nothing. Assumes nothing.
--     after o k         k at the place after a byte that was read
--     then o k          k at what was read and the place after it
--     paired o e        what o has, and the place e after it
--     word_as f t at b   what f makes of the word at place `at` before byte b
--     number_of w        the number that a word writes
--     lag_of w           the lag that a word writes
--     number_at, lag_at   the same of the word at place `at` before byte b
use Rattle.std.specs.Prelude.{ℕ, List, ℤ, Some, None, Option}
use Rattle.forms.specs.States.{made, number_in, lag_in}
use Rattle.forms.specs.Words.{word_before}

abbrev pub after : {Y : Type 0} → Option ℕ → (ℕ → Option (Y × ℕ)) → Option (Y × ℕ)
after None k = None
after (Some e) k = k e

abbrev pub then : {X Y : Type 0} → Option (X × ℕ) → (X → ℕ → Option (Y × ℕ)) → Option (Y × ℕ)
then None k = None
then (Some p) k = k p.0 p.1

abbrev pub paired : {X : Type 0} → Option X → ℕ → Option (X × ℕ)
paired None e = None
paired (Some x) e = Some (x, e)

abbrev pub word_as : {X : Type 0} → (List ℕ → Option X) → List ℕ → ℕ → ℕ → Option (X × ℕ)
word_as f t at b = then (word_before t at b) (λ w e. paired (f w) e)

abbrev pub number_of : List ℕ → Option ℕ
number_of w = number_in (made w)

abbrev pub lag_of : List ℕ → Option ℤ
lag_of w = lag_in (made w)

abbrev pub number_at : List ℕ → ℕ → ℕ → Option (ℕ × ℕ)
number_at t at b = word_as number_of t at b

abbrev pub lag_at : List ℕ → ℕ → ℕ → Option (ℤ × ℕ)
lag_at t at b = word_as lag_of t at b

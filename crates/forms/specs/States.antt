-- The reader of numbers as a function of its state and the next byte. Assumes nothing.
--     stepped s b     the state after byte b
--     made bs         the state after all of bs
--     number_in s      the number that was read, where it has no sign
--     lag_in s         the lag that was read
use Rattle.std.specs.Prelude.{ℕ, ◌+◌, ◌-◌, ◌*◌, cond, ◌&&◌, List, ℤ, pos, neg_ℤ, Some, None, fold, Option, ◌==◌, nat_lt}
use Rattle.forms.specs.Marks.{from_to, is_digit}
use Rattle.forms.specs.declared.number.State.{State}
use Rattle.forms.specs.declared.number.State.TheVariants.{Start, Minus, Zero, Above, Below, Bad}

abbrev pub stepped : State → ℕ → State
stepped Start b = cond (b == 45) Minus (cond (b == 48) Zero (cond (from_to 49 57 b) (Above (b - 48)) Bad))
stepped Minus b = cond (from_to 49 57 b) (Below (b - 48)) Bad
stepped Zero b = Bad
stepped (Above n) b = cond (is_digit b && nat_lt n 100000) (Above (10 * n + (b - 48))) Bad
stepped (Below n) b = cond (is_digit b && nat_lt n 100000) (Below (10 * n + (b - 48))) Bad
stepped Bad b = Bad

abbrev pub made : List ℕ → State
made bs = fold stepped Start bs

abbrev pub number_in : State → Option ℕ
number_in Start = None
number_in Minus = None
number_in Zero = Some 0
number_in (Above n) = Some n
number_in (Below n) = None
number_in Bad = None

abbrev pub lag_in : State → Option ℤ
lag_in Start = None
lag_in Minus = None
lag_in Zero = Some (pos 0)
lag_in (Above n) = Some (pos n)
lag_in (Below n) = Some (neg_ℤ (pos n))
lag_in Bad = None

-- What each character is to the reader. Assumes nothing.
--     from_to a b c   c lies from a to b
--     is_digit c       the character with code c is a digit
--     is_letter c      it is a letter
--     mark_of c        its mark
use Rattle.std.specs.Prelude.{ℕ, Bool, cond, ◌&&◌, ◌||◌, ◌==◌, nat_le}
use Rattle.forms.specs.declared.mark.Mark.{Mark}
use Rattle.forms.specs.declared.mark.Mark.TheVariants.{Open, Close, Space, Minus, Digit, Letter, Other}

-- from a to b
abbrev pub from_to : ℕ → ℕ → ℕ → Bool
from_to a b c = nat_le a c && nat_le c b

abbrev pub is_digit : ℕ → Bool
is_digit c = from_to 48 57 c

abbrev pub is_letter : ℕ → Bool
is_letter c = from_to 97 122 c || from_to 65 90 c

abbrev pub mark_of : ℕ → Mark
mark_of c =
    cond (c == 40) Open (
    cond (c == 41) Close (
    cond (c == 32) Space (
    cond (c == 45) Minus (
    cond (is_digit c) Digit (
    cond (is_letter c) Letter Other)))))

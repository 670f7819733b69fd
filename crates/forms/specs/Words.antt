-- Words in a text, and the bytes between them. Assumes nothing.
--     of_word m            what has mark m can stand in a word
--     in_word b            byte b can stand in a word
--     word_end t at        where the longest word from `at` on ends
--     stands t at b       byte b stands at `at`
--     byte_at t at b       the place after it, where it does
--     word_before t at b   the longest word from `at` on, where byte b follows it, and the place after that byte
use Rattle.std.specs.Prelude.{ℕ, ◌+◌, ◌-◌, Bool, true, false, cond, ◌&&◌, List, length, take, drop, Some, None, Option, ◌==◌, nat_lt, slice_index}
use Rattle.std.specs.List.{prefix_len}
use Rattle.forms.specs.declared.mark.Mark.{Mark}
use Rattle.forms.specs.declared.mark.Mark.TheVariants.{Open, Close, Space, Minus, Digit, Letter, Other}
use Rattle.forms.specs.Marks.{mark_of}

abbrev pub of_word : Mark → Bool
of_word Open = false
of_word Close = false
of_word Space = false
of_word Minus = true
of_word Digit = true
of_word Letter = true
of_word Other = false

unfoldable pub in_word : ℕ → Bool
in_word b = of_word (mark_of b)

abbrev pub word_end : List ℕ → ℕ → ℕ
word_end t at = at + prefix_len in_word (drop at t)

abbrev pub stands : List ℕ → ℕ → ℕ → Bool
stands t at b = nat_lt at (length t) && slice_index t at == b

abbrev pub byte_at : List ℕ → ℕ → ℕ → Option ℕ
byte_at t at b = cond (stands t at b) (Some (at + 1)) None

abbrev pub word_before : List ℕ → ℕ → ℕ → Option (List ℕ × ℕ)
word_before t at b = cond (stands t (word_end t at) b) (Some (take (word_end t at - at) (drop at t), word_end t at + 1)) None

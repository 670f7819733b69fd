-- How many digits a number has. Assumes nothing.
use Rattle.std.proofs.Common.{◌≡◌, ℕ, zero, suc, ◌+◌, ◌*◌, ◌/◌, ◌%◌, ◌^◌, ◌<◌, ◌≤◌, [], ◌∷◌, length, decimal, ap, ◌∙◌, arith}
use Rattle.std.proofs.lemmas.Fmt.{decimal_step, decimal_nonempty, length-decimal-le}
use Rattle.std.proofs.lemmas.List.{length-append}
use Rattle.std.proofs.Math.Nat.{one-le-pow, pow-succ'}

pub shorter : (rest : ℕ) → 10 ≤ rest → rest < 2 ^ 64 → length (decimal rest) ≡ length (decimal (rest / 10)) + 1
shorter rest more fits = ap length (decimal_step rest more fits) ∙ length-append (decimal (rest / 10)) ((48 + rest % 10) ∷ [])

-- a number that reaches a power of ten has a digit more than its exponent
pub reaches : (k n : ℕ) → 10 ^ k ≤ n → n < 2 ^ 64 → k + 1 ≤ length (decimal n)
reaches zero n high fits = decimal_nonempty n fits
reaches (suc k) n high fits =
    let power : 10 ^ suc k ≡ 10 * 10 ^ k = pow-succ' 10 k in
    let some : 1 ≤ 10 ^ k = one-le-pow k 10 (omega arith) in
    let more : 10 ≤ n = omega arith in
    let rest = reaches k (n / 10) (omega arith) (omega arith) in
    let step = shorter n more fits in
    omega arith

pub digits : (k n : ℕ) → 10 ^ k ≤ n → n < 10 * 10 ^ k → n < 2 ^ 64 → k + 1 ≡ length (decimal n)
digits k n high low fits =
    let under : n < 10 ^ suc k = rw (pow-succ' 10 k) low in
    let few = length-decimal-le (suc k) n (omega arith) under fits in
    let many = reaches k n high fits in
    omega arith

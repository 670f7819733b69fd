-- What the reader of numbers makes of a word. Assumes nothing.
use Rattle.std.proofs.Common.{◌≡◌, ℕ, ◌+◌, ◌-◌, ◌*◌, ◌/◌, ◌%◌, ◌<◌, ◌≤◌, true, ◌&&◌, eqb, ltb, leb, List, [], ◌∷◌, ◌++◌, decimal, fold, sym, refl, ap, ◌∙◌, subst, append_assoc, arith}
use Rattle.std.proofs.lemmas.Fmt.{decimal_digit, decimal_step}
use Rattle.std.proofs.lemmas.List.{append-nil}
use Rattle.std.proofs.lemmas.Bool.{cond_both, and_parts, leb-true, ltb-true, eqb-true}
use Rattle.forms.specs.Marks.{from_to, is_digit}
use Rattle.forms.specs.States.{stepped, made}
use Rattle.forms.specs.declared.number.State.{State}
use Rattle.forms.specs.declared.number.State.TheVariants.{Start, Minus, Zero, Above, Below, Bad}

-- a number above 0, of at most six digits
abbrev pub Six : ℕ → Type 0
Six n = (0 < n) × (n ≤ 999999)

-- what the bytes so far are, in each state
abbrev pub Writes : State → List ℕ → Type 0
Writes Start w = w ≡ []
Writes Minus w = w ≡ 45 ∷ []
Writes Zero w = w ≡ decimal 0
Writes (Above n) w = Six n × (w ≡ decimal n)
Writes (Below n) w = Six n × (w ≡ 45 ∷ decimal n)
Writes Bad w = Unit {0}

-- what a byte within bounds says of it
digit_range : (low high b : ℕ) → from_to low high b ≡ true → (low ≤ b) × (b ≤ high)
digit_range low high b e = let p = and_parts (leb low b) (leb b high) e in (leb-true low b p.0, leb-true b high p.1)

-- a first digit other than 0 is a number
one_digit : (b : ℕ) → from_to 49 57 b ≡ true → Six (b - 48) × (b ∷ [] ≡ decimal (b - 48))
one_digit b e =
    let range = digit_range 49 57 b e in
    let back : b ≡ 48 + (b - 48) = omega arith in
    let small : b - 48 < 10 = omega arith in
    ((omega arith, omega arith), ap (λ c. c ∷ []) back ∙ sym (decimal_digit (b - 48) small))

-- a number of at most five digits and one more digit are a number
more_digits : (n b : ℕ) → Six n → (is_digit b && ltb n 100000) ≡ true → Six (10 * n + (b - 48)) × (decimal n ++ b ∷ [] ≡ decimal (10 * n + (b - 48)))
more_digits n b h e =
    let p = and_parts (is_digit b) (ltb n 100000) e in
    let range = digit_range 48 57 b p.0 in
    let under = ltb-true n 100000 p.1 in
    let m = 10 * n + (b - 48) in
    let front : m / 10 ≡ n = omega arith in
    let last : 48 + m % 10 ≡ b = omega arith in
    let step = decimal_step m (omega arith) (omega arith) in
    ((omega arith, omega arith), sym (step ∙ ap (λ k. decimal k ++ (48 + m % 10) ∷ []) front ∙ ap (λ c. decimal n ++ c ∷ []) last))

-- each byte keeps what the state says of the bytes so far
pub writes_step : (s : State) (w : List ℕ) (b : ℕ) → Writes s w → Writes (stepped s b) (w ++ b ∷ [])
writes_step Start w b h =
    let P : State → Type 0 = λ s. Writes s (w ++ b ∷ []) in
    let alone : w ++ b ∷ [] ≡ b ∷ [] = ap (λ z. z ++ b ∷ []) h in
    cond_both (eqb b 45) _ _ P (λ e. alone ∙ ap (λ c. c ∷ []) (eqb-true b 45 e)) (λ _.
    cond_both (eqb b 48) _ _ P (λ e. alone ∙ ap (λ c. c ∷ []) (eqb-true b 48 e) ∙ sym (decimal_digit 0 (omega arith))) (λ _.
    cond_both (from_to 49 57 b) _ _ P (λ e. let d = one_digit b e in (d.0, alone ∙ d.1)) (λ _. tt)))
writes_step Minus w b h =
    let P : State → Type 0 = λ s. Writes s (w ++ b ∷ []) in
    let alone : w ++ b ∷ [] ≡ 45 ∷ b ∷ [] = ap (λ z. z ++ b ∷ []) h in
    cond_both (from_to 49 57 b) _ _ P (λ e. let d = one_digit b e in (d.0, alone ∙ ap (λ z. 45 ∷ z) d.1)) (λ _. tt)
writes_step Zero w b h = tt
writes_step (Above n) w b h =
    let P : State → Type 0 = λ s. Writes s (w ++ b ∷ []) in
    cond_both (is_digit b && ltb n 100000) _ _ P (λ e. let d = more_digits n b h.0 e in (d.0, ap (λ z. z ++ b ∷ []) h.1 ∙ d.1)) (λ _. tt)
writes_step (Below n) w b h =
    let P : State → Type 0 = λ s. Writes s (w ++ b ∷ []) in
    cond_both (is_digit b && ltb n 100000) _ _ P (λ e. let d = more_digits n b h.0 e in (d.0, ap (λ z. z ++ b ∷ []) h.1 ∙ ap (λ z. 45 ∷ z) d.1)) (λ _. tt)
writes_step Bad w b h = tt

-- and so do more bytes
pub writes_folded : (s : State) (w bs : List ℕ) → Writes s w → Writes (fold stepped s bs) (w ++ bs)
writes_folded s w [] h = subst (Writes s) (sym (append-nil w)) h
writes_folded s w (b ∷ bs) h =
    subst (Writes (fold stepped (stepped s b) bs)) (append_assoc w (b ∷ []) bs) (writes_folded (stepped s b) (w ++ b ∷ []) bs (writes_step s w b h))

-- a word is what the state after it says
pub writes_made : (w : List ℕ) → Writes (made w) w
writes_made w = writes_folded Start [] w refl

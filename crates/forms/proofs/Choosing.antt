-- The words that the reader takes for a name, a number or a lag. Assumes nothing.
use Rattle.std.proofs.Common.{◌≡◌, ℕ, zero, suc, ◌+◌, ◌-◌, ◌*◌, ◌/◌, ◌%◌, ◌<◌, ◌≤◌, true, false, ◌&&◌, eqb, ltb, leb, List, [], ◌∷◌, ℤ, pos, negsuc, neg_ℤ, nat_abs, Some, decimal, fold, sym, ap, ◌∙◌, subst, ⊎_elim, arith}
use Rattle.std.specs.Fmt.{signed_decimal}
use Rattle.std.specs.Str.{bytes_eq}
use Rattle.std.proofs.lemmas.Option.{none-some, same_Some}
use Rattle.std.proofs.lemmas.Fmt.{decimal_digit, decimal_by_steps}
use Rattle.std.proofs.lemmas.Slice.Eq.{bytes_eq-Decides}
use Rattle.std.proofs.lemmas.List.Sums.{fold_push}
use Rattle.std.proofs.lemmas.Bool.{cases_Bool, cases_eq, cond-true, cond-false, and_from, le-leb, lt-ltb, ne_eqb}
use Rattle.forms.specs.declared.number.State.{State}
use Rattle.forms.specs.declared.number.State.TheVariants.{Start, Minus, Zero, Above, Below, Bad}
use Rattle.forms.specs.Marks.{from_to, is_digit}
use Rattle.forms.specs.Names.{chosen}
use Rattle.forms.specs.Reading.{number_of, lag_of}
use Rattle.forms.specs.Spelling.{Few}
use Rattle.forms.specs.States.{stepped, made, number_in, lag_in}
use Rattle.forms.specs.Words.{in_word}
use Rattle.forms.proofs.Numbers.{Writes, writes_made, Six}
use Rattle.forms.proofs.Runs.{Words, all_in, decimal_in}

-- what is chosen is spelled so
pub chosen_to : {X : Type 0} (sp : X → List ℕ) (xs : List X) (w : List ℕ) (x : X) → chosen sp xs w ≡ Some x → w ≡ sp x
chosen_to sp [] w x h = absurd (none-some x h)
chosen_to sp (y ∷ xs) w x h =
    ⊎_elim
    (λ (same : bytes_eq w (sp y) ≡ true).
    (bytes_eq-Decides w (sp y)).0 same ∙ ap sp (same_Some y x (sym (cond-true (bytes_eq w (sp y)) (Some y) (chosen sp xs w) same) ∙ h)))
    (λ (other : bytes_eq w (sp y) ≡ false). chosen_to sp xs w x (sym (cond-false (bytes_eq w (sp y)) (Some y) (chosen sp xs w) other) ∙ h))
    (cases_Bool (bytes_eq w (sp y)))

-- what the digits of a number above 0 make, from a state before any digit
digits_make : (s : State) (K : ℕ → State)
    → ((d : ℕ) → 0 < d → d < 10 → stepped s (48 + d) ≡ K d)
    → ((m d : ℕ) → m < 100000 → d < 10 → stepped (K m) (48 + d) ≡ K (10 * m + d))
    → (n : ℕ) → Six n → fold stepped s (decimal n) ≡ K n
digits_make s K first more n six =
    decimal_by_steps (λ n ds. Six n → fold stepped s ds ≡ K n)
    (λ n small h. first n h.0 small)
    (λ n ds big ih h.
    let before = ih (omega arith, omega arith) in
    let low : n / 10 < 100000 = omega arith in
    let whole : 10 * (n / 10) + n % 10 ≡ n = omega arith in
    fold_push stepped s ds (48 + n % 10) ∙ ap (λ q. stepped q (48 + n % 10)) before ∙ more (n / 10) (n % 10) low (omega arith) ∙ ap K whole)
    n (omega arith) six

-- the value of a digit
digit_back : (d : ℕ) → 48 + d - 48 ≡ d
digit_back d = omega arith

-- a byte within bounds passes their test
within : (low high c : ℕ) → low ≤ c → c ≤ high → from_to low high c ≡ true
within low high c l h = and_from (leb low c) (leb c high) (le-leb low c l) (le-leb c high h)

-- a first digit other than 0
first_above : (d : ℕ) → 0 < d → d < 10 → stepped Start (48 + d) ≡ Above d
first_above d low high =
    cond-false (eqb (48 + d) 45) Minus _ (ne_eqb (48 + d) 45 (λ e. omega arith)) ∙
    cond-false (eqb (48 + d) 48) Zero _ (ne_eqb (48 + d) 48 (λ e. omega arith)) ∙
    cond-true (from_to 49 57 (48 + d)) _ Bad (within 49 57 (48 + d) (omega arith) (omega arith)) ∙
    ap Above (digit_back d)

-- the same after a minus
first_below : (d : ℕ) → 0 < d → d < 10 → stepped Minus (48 + d) ≡ Below d
first_below d low high =
    cond-true (from_to 49 57 (48 + d)) _ Bad (within 49 57 (48 + d) (omega arith) (omega arith)) ∙
    ap Below (digit_back d)

-- one more digit
more_passes : (m d : ℕ) → m < 100000 → d < 10 → (is_digit (48 + d) && ltb m 100000) ≡ true
more_passes m d low high = and_from (is_digit (48 + d)) (ltb m 100000) (within 48 57 (48 + d) (omega arith) (omega arith)) (lt-ltb m 100000 low)

-- one more digit, with no minus before
more_above : (m d : ℕ) → m < 100000 → d < 10 → stepped (Above m) (48 + d) ≡ Above (10 * m + d)
more_above m d low high =
    cond-true (is_digit (48 + d) && ltb m 100000) _ Bad (more_passes m d low high) ∙ ap (λ k. Above (10 * m + k)) (digit_back d)

-- one more digit, after a minus
more_below : (m d : ℕ) → m < 100000 → d < 10 → stepped (Below m) (48 + d) ≡ Below (10 * m + d)
more_below m d low high =
    cond-true (is_digit (48 + d) && ltb m 100000) _ Bad (more_passes m d low high) ∙ ap (λ k. Below (10 * m + k)) (digit_back d)

-- what the digits of a number above 0 make
pub above_made : (n : ℕ) → Six n → made (decimal n) ≡ Above n
above_made n six = digits_make Start Above first_above more_above n six

-- what a minus and such digits make
pub below_made : (n : ℕ) → Six n → made (45 ∷ decimal n) ≡ Below n
below_made n six = digits_make Minus Below first_below more_below n six

-- what the digit 0 makes
pub zero_made : made (decimal 0) ≡ Zero
zero_made = ap made (decimal_digit 0 (omega arith))

-- a number as it is read
number_to : (s : State) (w : List ℕ) (n : ℕ) → Writes s w → number_in s ≡ Some n → Few n × (w ≡ decimal n)
number_to Start w n h e = absurd (none-some n e)
number_to Minus w n h e = absurd (none-some n e)
number_to Zero w n h e = let same = same_Some 0 n e in (omega arith, h ∙ ap decimal same)
number_to (Above m) w n h e = let same = same_Some m n e in (omega arith, h.1 ∙ ap decimal same)
number_to (Below m) w n h e = absurd (none-some n e)
number_to Bad w n h e = absurd (none-some n e)

-- the digits of a number are read as that number
number_from : (n : ℕ) → Few n → number_of (decimal n) ≡ Some n
number_from n few =
    ⊎_elim
    (λ (none : n ≡ 0). ap (λ k. number_of (decimal k)) none ∙ ap number_in zero_made ∙ ap Some (sym none))
    (λ (some : n ≡ 0 → ⊥). ap number_in (above_made n (omega arith, few)))
    (cases_eq n 0)

-- the words for numbers are their digits, at most six
pub number_words : Words Few decimal number_of
number_words =
    record {
      to = λ w n e. number_to (made w) w n (writes_made w) e;
      from = number_from;
      inside = λ n few. decimal_in n (omega arith);
    }

-- a lag of at most six digits
abbrev pub FewLag : ℤ → Type 0
FewLag z = Few (nat_abs z)

-- a minus and digits write a number below 0
minus_to : (m : ℕ) (w : List ℕ) → Six m → w ≡ 45 ∷ decimal m → FewLag (neg_ℤ (pos m)) × (w ≡ signed_decimal (neg_ℤ (pos m)))
minus_to zero w six h = absurd (omega arith)
minus_to (suc m) w six h = (six.1, h)

-- a lag as it is read
lag_to : (s : State) (w : List ℕ) (z : ℤ) → Writes s w → lag_in s ≡ Some z → FewLag z × (w ≡ signed_decimal z)
lag_to Start w z h e = absurd (none-some z e)
lag_to Minus w z h e = absurd (none-some z e)
lag_to Zero w z h e = let P : ℤ → Type 0 = λ q. FewLag q × (w ≡ signed_decimal q) in subst P (same_Some (pos 0) z e) (omega arith, h)
lag_to (Above m) w z h e = let P : ℤ → Type 0 = λ q. FewLag q × (w ≡ signed_decimal q) in subst P (same_Some (pos m) z e) (h.0.1, h.1)
lag_to (Below m) w z h e = let P : ℤ → Type 0 = λ q. FewLag q × (w ≡ signed_decimal q) in subst P (same_Some (neg_ℤ (pos m)) z e) (minus_to m w h.0 h.1)
lag_to Bad w z h e = absurd (none-some z e)

-- what writes a lag is read as that lag
lag_from : (z : ℤ) → FewLag z → lag_of (signed_decimal z) ≡ Some z
lag_from (pos n) few =
    ⊎_elim
    (λ (none : n ≡ 0). ap (λ k. lag_of (decimal k)) none ∙ ap lag_in zero_made ∙ ap (λ k. Some (pos k)) (sym none))
    (λ (some : n ≡ 0 → ⊥). ap lag_in (above_made n (omega arith, few)))
    (cases_eq n 0)
lag_from (negsuc n) few = ap lag_in (below_made (suc n) (omega arith, few))

-- what writes a lag can stand in a word
lag_in_lem : (z : ℤ) → FewLag z → all_in (signed_decimal z) ≡ true
unfolding in_word
lag_in_lem (pos n) few = let small : n ≤ 999999 = few in decimal_in n (omega arith)
lag_in_lem (negsuc n) few = let small : suc n ≤ 999999 = few in decimal_in (suc n) (omega arith)

-- the words for lags are their digits, at most six, with a minus below 0
pub lag_words : Words FewLag signed_decimal lag_of
lag_words =
    record {
      to = λ w z e. lag_to (made w) w z (writes_made w) e;
      from = lag_from;
      inside = lag_in_lem;
    }

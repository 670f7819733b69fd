-- Words, as longest runs of the bytes that can stand in one. Assumes nothing.
use Rattle.std.proofs.Common.{◌≡◌, ℕ, ◌+◌, ◌-◌, ◌%◌, ◌^◌, ◌<◌, Bool, true, false, cond, ◌&&◌, eqb, ltb, leb, List, [], ◌∷◌, ◌++◌, length, get_or, take, drop, Some, None, decimal, Option, sym, refl, ap, ◌∙◌, append_assoc, one-add, arith}
use Rattle.std.specs.List.{prefix_len}
use Rattle.std.proofs.lemmas.Option.{none-some, same_Some, cond_some}
use Rattle.std.proofs.lemmas.Fmt.{decimal_by_steps}
use Rattle.std.proofs.lemmas.List.{drop_more, drop-drop, length-drop, length-append, take-append-drop, take_at, drop_at}
use Rattle.std.proofs.lemmas.Bool.{and_parts, and_from, ltb-true, eqb-true, lt-ltb, eq-eqb, ne_eqb, le-leb, cond-true, cond-false}
use Rattle.forms.specs.declared.mark.Mark.TheVariants.{Open, Close, Space, Minus, Digit}
use Rattle.forms.specs.Marks.{is_digit}
use Rattle.forms.specs.Reading.{then, paired, word_as}
use Rattle.forms.specs.Words.{in_word, of_word, word_end, stands, word_before}
use Rattle.forms.proofs.Rights.{Right, Spells, then_some}

-- each byte can stand in a word
abbrev pub all_in : List ℕ → Bool
all_in [] = true
all_in (c ∷ cs) = in_word c && all_in cs

-- two such lists, one after the other
pub all_in-append : (v w : List ℕ) → all_in v ≡ true → all_in w ≡ true → all_in (v ++ w) ≡ true
all_in-append [] w hv hw = hw
all_in-append (c ∷ cs) w hv hw =
    let parts = and_parts (in_word c) (all_in cs) hv in
    and_from (in_word c) (all_in (cs ++ w)) parts.0 (all_in-append cs w parts.1 hw)

-- a digit can stand in a word
pub digit_in : (d : ℕ) → d < 10 → in_word (48 + d) ≡ true
unfolding in_word
digit_in d h =
    let c = 48 + d in
    ap of_word (
    cond-false (eqb c 40) Open _ (ne_eqb c 40 (λ e. omega arith)) ∙
    cond-false (eqb c 41) Close _ (ne_eqb c 41 (λ e. omega arith)) ∙
    cond-false (eqb c 32) Space _ (ne_eqb c 32 (λ e. omega arith)) ∙
    cond-false (eqb c 45) Minus _ (ne_eqb c 45 (λ e. omega arith)) ∙
    cond-true (is_digit c) Digit _ (and_from (leb 48 c) (leb c 57) (le-leb 48 c (omega arith)) (le-leb c 57 (omega arith))))

-- and so can the digits of a number
pub decimal_in : (n : ℕ) → n < 2 ^ 64 → all_in (decimal n) ≡ true
decimal_in n h =
    decimal_by_steps (λ m ds. all_in ds ≡ true)
    (λ m small. and_from (in_word (48 + m)) true (digit_in m small) refl)
    (λ m ds big before. all_in-append ds ((48 + m % 10) ∷ []) before (and_from (in_word (48 + m % 10)) true (digit_in (m % 10) (omega arith)) refl))
    n h

-- a word is the longest run where a byte follows that can stand in none
pub run_is : (w : List ℕ) (b : ℕ) (rest : List ℕ) → all_in w ≡ true → in_word b ≡ false → prefix_len in_word (w ++ b ∷ rest) ≡ length w
run_is [] b rest all out = cond-false (in_word b) (1 + prefix_len in_word rest) 0 out
run_is (c ∷ cs) b rest all out =
    let parts = and_parts (in_word c) (all_in cs) all in
    cond-true (in_word c) (1 + prefix_len in_word (cs ++ b ∷ rest)) 0 parts.0 ∙ ap (λ n. 1 + n) (run_is cs b rest parts.1 out) ∙ one-add (length cs)

-- a word that was read stands there, with the byte after it
word_sound : (t : List ℕ) (at b : ℕ) (w : List ℕ) (e : ℕ) → word_before t at b ≡ Some (w, e) → drop at t ≡ w ++ b ∷ drop e t
word_sound t at b w e h =
    let n = prefix_len in_word (drop at t) in
    let end = word_end t at in
    let (here, pair) = cond_some (stands t end b) (take (end - at) (drop at t), end + 1) (w, e) h in
    let parts = and_parts (ltb end (length t)) (eqb (get_or t end 0) b) here in
    let long : end - at ≡ n = omega arith in
    let word : take n (drop at t) ≡ w = ap (λ k. take k (drop at t)) (sym long) ∙ ap (λ q. q.0) pair in
    let tail : drop n (drop at t) ≡ b ∷ drop e t =
    drop-drop n at t ∙ drop_more t end 0 (ltb-true end (length t) parts.0) ∙ ap (λ c. c ∷ drop (end + 1) t) (eqb-true (get_or t end 0) b parts.1) ∙ ap (λ q. b ∷ drop q.1 t) pair in
    sym (take-append-drop n (drop at t)) ∙ ap (λ z. z ++ drop n (drop at t)) word ∙ ap (λ z. w ++ z) tail

-- a word is read where its byte stands at its end
word_read : (t : List ℕ) (end b : ℕ) (v w : List ℕ) → end < length t → get_or t end 0 ≡ b → v ≡ w → cond {A = Option (List ℕ × ℕ)} (stands t end b) (Some (v, end + 1)) None ≡ Some (w, end + 1)
word_read t end b v w within here same =
    let passes = and_from (ltb end (length t)) (eqb (get_or t end 0) b) (lt-ltb end (length t) within) (eq-eqb (get_or t end 0) b here) in
    cond-true (stands t end b) (Some (v, end + 1)) None passes ∙ ap (λ z. Some (z, end + 1)) same

-- a word that stands there, with a byte after it that can stand in none, is read
word_complete : (t : List ℕ) (at b : ℕ) (w rest : List ℕ) → all_in w ≡ true → in_word b ≡ false → drop at t ≡ w ++ b ∷ rest → (word_before t at b ≡ Some (w, word_end t at + 1)) × (drop (word_end t at + 1) t ≡ rest)
word_complete t at b w rest all out d =
    let n = prefix_len in_word (drop at t) in
    let end = word_end t at in
    let run : n ≡ length w = ap (prefix_len in_word) d ∙ run_is w b rest all out in
    let long : length (drop at t) ≡ length w + length (b ∷ rest) = ap length d ∙ length-append w (b ∷ rest) in
    let left = length-drop at t in
    let within : end < length t = omega arith in
    let tail : drop end t ≡ b ∷ rest = sym (drop-drop n at t) ∙ ap (drop n) d ∙ drop_at w (b ∷ rest) n (sym run) in
    let split = drop_more t end 0 within in
    let here : get_or t end 0 ≡ b = cc in
    let more : drop (end + 1) t ≡ rest = cc in
    let size : end - at ≡ n = omega arith in
    let word : take (end - at) (drop at t) ≡ w = ap (λ k. take k (drop at t)) size ∙ ap (take n) d ∙ take_at w (b ∷ rest) n (sym run) in
    (word_read t end b (take (end - at) (drop at t)) w within here word, more)

-- brackets, spaces and the end of a line can stand in no word
pub space_out : in_word 32 ≡ false
unfolding in_word
space_out = refl

-- nor can a closing bracket
pub close_out : in_word 41 ≡ false
unfolding in_word
close_out = refl

-- f takes just the words that sp gives for what passes, and those can stand in a text
pub record Words {X : Type 0} (ok : X → Type 0) (sp : X → List ℕ) (f : List ℕ → Option X) : Type 0 where
  pub to : (w : List ℕ) (x : X) → f w ≡ Some x → ok x × (w ≡ sp x)
  pub from : (x : X) → ok x → f (sp x) ≡ Some x
  pub inside : (x : X) → ok x → all_in (sp x) ≡ true

-- a word with the byte after it
abbrev pub before : List ℕ → ℕ → List ℕ
before w b = w ++ b ∷ []

-- a pair that was made has both its parts
paired_some : {X : Type 0} (o : Option X) (m : ℕ) (x : X) (e : ℕ) → paired o m ≡ Some (x, e) → (o ≡ Some x) × (m ≡ e)
paired_some None m x e h = absurd (none-some (x, e) h)
paired_some (Some y) m x e h = let pair = same_Some (y, m) (x, e) h in (ap (λ q. Some q.0) pair, ap (λ q. q.1) pair)

-- a reader of words before a byte that can stand in none
pub word_right : {X : Type 0} (ok : X → Type 0) (sp : X → List ℕ) (f : List ℕ → Option X) (b : ℕ) → Words ok sp f → in_word b ≡ false → Right (Spells ok (λ x. before (sp x) b)) (λ t at. word_as f t at b)
word_right ok sp f b words out =
    record {
      sound = λ t at x e h.
          let (w, m, h₁, h₂) = then_some (word_before t at b) (λ w e. paired (f w) e) (x, e) h in
          let (hf, place) = paired_some (f w) m x e h₂ in
          let (fine, same) = words.to w x hf in
          (before (sp x) b, (fine, refl), word_sound t at b w m h₁ ∙ ap (λ z. z ++ b ∷ drop m t) same ∙ ap (λ k. sp x ++ b ∷ drop k t) place ∙ sym (append_assoc (sp x) (b ∷ []) (drop e t)));
      complete = λ t at x w rest r d.
          let (fine, same) = r in
          let stood : drop at t ≡ sp x ++ b ∷ rest = d ∙ ap (λ z. z ++ rest) same ∙ append_assoc (sp x) (b ∷ []) rest in
          let (h₁, dm) = word_complete t at b (sp x) rest (words.inside x fine) out stood in
          (word_end t at + 1, ap (λ o. then o (λ w e. paired (f w) e)) h₁ ∙ ap (λ o. paired o (word_end t at + 1)) (words.from x fine), dm);
    }

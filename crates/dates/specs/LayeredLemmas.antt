-- What stands on a date layer, and how a call on it is a call below or a change of its own. Assumes nothing.
use Rattle.std.specs.Prelude.{◌≡◌, ℕ, ◌+◌, ◌-◌, ◌<◌, ◌≤◌, Bool, true, false, cond, ◌&&◌, Some, None, Option, nat_le, refl}
use Rattle.std.proofs.Common.{sym, ap, ◌∙◌, inl, inr, ⊎_elim, arith}
use Rattle.std.proofs.Math.Path.{fun_ext}
use Rattle.std.proofs.lemmas.Bool.{cases_lt, cases_eq, cond-true, cond-false, le-leb, lt-leb, eq-eqb}
use Rattle.network.specs.Meanings.{Outside}
use Rattle.book.specs.declared.date.Date.{Date}
use Rattle.book.specs.Refusals.{Told}
use Rattle.book.specs.Rules.{BookMeaning, within, after, held, network_of}
use Rattle.book.specs.Layers.{added, asked, date_in_range, layer_rule, layer_gap}
use Rattle.book.specs.Laws.{LawfulBook}
use Rattle.book.specs.Calls.{Call, put, refusal, carried_out, answered, hears, with_date, layer, date, clear}
use Rattle.book.proofs.Layers.{layer_lawful, owner_own, gap_own}
use Rattle.book.proofs.Ranges.{within_true, within_false}
use Rattle.book.proofs.Puts.{put_same, put_other}
use Rattle.dates.specs.Layered.{date_over, layered}

module _ {E : Type 0} (m : BookMeaning E) (own : ℕ → Option Date) where
  pub date_below : (q : ℕ) → q ≤ m.rule.dates → date_over m own q ≡ m.ledger.date q
  date_below q h = cond-true (nat_le q m.rule.dates) _ _ (le-leb q m.rule.dates h)

  pub date_above : (q : ℕ) → m.rule.dates < q → date_over m own q ≡ cond (nat_le (q - m.rule.dates) (added m.rule.places)) (own (q - m.rule.dates)) None
  date_above q h = cond-false (nat_le q m.rule.dates) _ _ (lt-leb q m.rule.dates h)

  pub date_own : (q : ℕ) → m.rule.dates < q → q - m.rule.dates ≤ added m.rule.places → date_over m own q ≡ own (q - m.rule.dates)
  date_own q h k = date_above q h ∙ cond-true (nat_le (q - m.rule.dates) (added m.rule.places)) _ _ (le-leb _ _ k)

  pub date_past : (q : ℕ) → m.rule.dates < q → added m.rule.places < q - m.rule.dates → date_over m own q ≡ None
  date_past q h k = date_above q h ∙ cond-false (nat_le (q - m.rule.dates) (added m.rule.places)) _ _ (lt-leb _ _ k)

  -- a date place filled or emptied below
  put_below : (q : ℕ) (x : Option Date) → q ≤ m.rule.dates → (k : ℕ) → put (date_over m own) q x k ≡ date_over (with_date m q x) own k
  put_below q x h k =
      ⊎_elim
      (λ (e : k ≡ q). put_same (date_over m own) q x k e ∙ sym (cond-true (nat_le k m.rule.dates) _ _ (le-leb k _ (omega arith)) ∙ put_same m.ledger.date q x k e))
      (λ (e : k ≡ q → ⊥). put_other (date_over m own) q x k e ∙ ap (λ v. cond (nat_le k m.rule.dates) v (cond (nat_le (k - m.rule.dates) (added m.rule.places)) (own (k - m.rule.dates)) None)) (sym (put_other m.ledger.date q x k e)))
      (cases_eq k q)

  -- a date place of the layer filled or emptied
  put_own : (q : ℕ) (x : Option Date) → m.rule.dates < q → q - m.rule.dates ≤ added m.rule.places → (k : ℕ) → put (date_over m own) q x k ≡ date_over m (put own (q - m.rule.dates) x) k
  put_own q x h i k =
      ⊎_elim
      (λ (e : k ≡ q). put_same (date_over m own) q x k e ∙ sym (cond-false (nat_le k m.rule.dates) _ _ (lt-leb k _ (omega arith)) ∙ cond-true (nat_le (k - m.rule.dates) (added m.rule.places)) _ _ (le-leb _ _ (omega arith)) ∙ put_same own (q - m.rule.dates) x (k - m.rule.dates) (omega arith)))
      (λ (e : k ≡ q → ⊥). put_other (date_over m own) q x k e ∙
      ⊎_elim
      (λ (over : m.rule.dates < k). date_above k over ∙ ap (λ v. cond (nat_le (k - m.rule.dates) (added m.rule.places)) v None) (sym (put_other own (q - m.rule.dates) x (k - m.rule.dates) (λ same. e (omega arith)))) ∙ sym (cond-false (nat_le k m.rule.dates) _ _ (lt-leb k _ over)))
      (λ (under : k ≤ m.rule.dates). date_below k under ∙ sym (cond-true (nat_le k m.rule.dates) _ _ (le-leb k _ under)))
      (cases_lt m.rule.dates k))
      (cases_eq k q)

  abbrev dated : (ℕ → Option Date) → BookMeaning E
  dated f = record { rule = layer_rule m.rule; ledger = record { line = m.ledger.line; date = f } }

  with_below : (q : ℕ) (x : Option Date) → q ≤ m.rule.dates → with_date (layered m own) q x ≡ layered (with_date m q x) own
  with_below q x h = ap dated (fun_ext (put_below q x h))

  with_own : (q : ℕ) (x : Option Date) → m.rule.dates < q → q - m.rule.dates ≤ added m.rule.places → with_date (layered m own) q x ≡ layered m (put own (q - m.rule.dates) x)
  with_own q x h i = ap dated (fun_ext (put_own q x h i))

  answered-layered : (o : Option Told) (x : BookMeaning E) → answered o (layered x own) (layered m own) ≡ layered (answered o x m) own
  answered-layered None x = refl
  answered-layered (Some k) x = refl

  -- a call that is refused and carried out alike above and below
  hears-layered : (c : Call E) → refusal (layered m own) c ≡ refusal m c → carried_out (layered m own) c ≡ layered (carried_out m c) own → hears (layered m own) c ≡ layered (hears m c) own
  hears-layered c a b =
      ap (λ o. answered o (carried_out (layered m own) c) (layered m own)) a
      ∙ ap (λ x. answered (refusal m c) x (layered m own)) b
      ∙ answered-layered (refusal m c) (carried_out m c)

  within_below : (q : ℕ) → q ≤ m.rule.dates → within q (m.rule.dates + added m.rule.places) ≡ within q m.rule.dates
  within_below q h =
      ⊎_elim
      (λ (low : 0 < q). within_true q _ (omega arith) (omega arith) ∙ sym (within_true q _ (omega arith) h))
      (λ (zero : q ≤ 0). within_false q _ (inl (omega arith)) ∙ sym (within_false q _ (inl (omega arith))))
      (cases_lt 0 q)

  refused_date_below : (q : ℕ) (d : Date) → q ≤ m.rule.dates → refusal (layered m own) (date q d) ≡ refusal m (date q d)
  refused_date_below q d h = rw (within_below q h)

  refused_clear_below : (q : ℕ) → q ≤ m.rule.dates → refusal (layered m own) (clear q) ≡ refusal m (clear q)
  refused_clear_below q h = rw (within_below q h, date_below q h)

  hears_date_below : (q : ℕ) (d : Date) → q ≤ m.rule.dates → hears (layered m own) (date q d) ≡ layered (hears m (date q d)) own
  hears_date_below q d h = hears-layered (date q d) (refused_date_below q d h) (with_below q (Some d) h)

  hears_clear_below : (q : ℕ) → q ≤ m.rule.dates → hears (layered m own) (clear q) ≡ layered (hears m (clear q)) own
  hears_clear_below q h = hears-layered (clear q) (refused_clear_below q h) (with_below q None h)

  pub told_date_below : (o : Option Told) (q : ℕ) (d : Date) → q ≤ m.rule.dates → o ≡ refusal m (date q d) → o ≡ refusal (layered m own) (date q d)
  told_date_below o q d h e = e ∙ sym (refused_date_below q d h)

  pub told_clear_below : (o : Option Told) (q : ℕ) → q ≤ m.rule.dates → o ≡ refusal m (clear q) → o ≡ refusal (layered m own) (clear q)
  told_clear_below o q h e = e ∙ sym (refused_clear_below q h)

  -- what a call on a lower date place makes of the book below, it makes of the layer
  pub dated_below : (n : BookMeaning E) (q : ℕ) (d : Date) → q ≤ m.rule.dates → n ≡ hears m (date q d) → layered n own ≡ hears (layered m own) (date q d)
  dated_below n q d h e = ap (λ x. layered x own) e ∙ sym (hears_date_below q d h)

  pub cleared_below : (n : BookMeaning E) (q : ℕ) → q ≤ m.rule.dates → n ≡ hears m (clear q) → layered n own ≡ hears (layered m own) (clear q)
  cleared_below n q h e = ap (λ x. layered x own) e ∙ sym (hears_clear_below q h)

  -- what is put into the layer's own table stands on the layer
  pub put_stands : (own' : ℕ → Option Date) (q k : ℕ) (x : Option Date) → k ≡ q - m.rule.dates → m.rule.dates < q → q - m.rule.dates ≤ added m.rule.places → own' ≡ cond (within k 64) (put own k x) own → layered m own' ≡ with_date (layered m own) q x
  put_stands own' q k x same h i e =
      let stands : own' ≡ put own (q - m.rule.dates) x =
      e ∙ cond-true (within k 64) _ _ (within_true k 64 (omega arith) (omega arith)) ∙ ap (λ j. put own j x) same in
      ap (layered m) stands ∙ sym (with_own q x h i)

  module _ (laws : LawfulBook m) where
    no_date_over : (q : ℕ) → Outside (m.rule.dates + added m.rule.places) q → date_over m own q ≡ None
    no_date_over q (inl low) = date_below q (omega arith) ∙ laws.no_date q (inl low)
    no_date_over q (inr high) = date_past q (omega arith) (omega arith)

    pub layered_lawful : LawfulBook (layered m own)
    layered_lawful = record {
      rule = layer_lawful m.rule laws.rule;
      no_line = laws.no_line;
      no_date = no_date_over;
    }

    -- a new layer adds nothing that stands
    pub layered-blank : ((p : ℕ) → own p ≡ None) → layered m own ≡ hears m layer
    layered-blank none = ap dated (fun_ext (λ q.
        ⊎_elim
        (λ (over : m.rule.dates < q). date_above q over ∙ same_none (nat_le (q - m.rule.dates) (added m.rule.places)) (own (q - m.rule.dates)) (none _) ∙ sym (laws.no_date q (inr over)))
        (λ (under : q ≤ m.rule.dates). date_below q under)
        (cases_lt m.rule.dates q)))
      where
        same_none : (b : Bool) (x : Option Date) → x ≡ None → cond b x None ≡ None
        same_none true x e = e
        same_none false x e = refl

  -- what a place of the layer's own holds
  pub gap_of_own : (p : ℕ) → m.rule.places < p → p - m.rule.places ≤ added m.rule.places → (network_of (layered m own)).gap p ≡ after (own (p - m.rule.places)) (λ d. cond (date_in_range m.rule.events d) (Some (asked d)) None)
  gap_of_own p h i =
      let k = m.rule.dates + (p - m.rule.places) in
      let low : m.rule.dates < k = omega arith in
      let back : k - m.rule.dates ≡ p - m.rule.places = omega arith in
      let here : p ≡ m.rule.places + (k - m.rule.dates) = omega arith in
      ap (λ o. held (layered m own) o p) (owner_own m.rule p h (omega arith))
      ∙ ap (λ x. after x (λ d. layer_gap m.rule k d p)) (date_own k low (omega arith) ∙ ap own back)
      ∙ ap (after (own (p - m.rule.places))) (fun_ext (λ d. gap_own m.rule k d p low ∙ ap (λ b. cond (b && date_in_range m.rule.events d) (Some (asked d)) None) (eq-eqb p _ here)))

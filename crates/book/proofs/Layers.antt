-- A date layer over a lawful rule is lawful. Assumes nothing.
use Rattle.std.proofs.Common.{◌≡◌, ℕ, ◌+◌, ◌-◌, ◌<◌, ◌≤◌, true, cond, ◌&&◌, eqb, leb, Some, None, sym, ap, ◌∙◌, subst, inl, inr, ⊎_elim, arith}
use Rattle.std.proofs.lemmas.Int.{ints}
use Rattle.std.proofs.lemmas.Bool.{cases_lt, cond-true, cond-false, le-leb, lt-leb, leb-true, eqb-true, and_parts}
use Rattle.network.specs.declared.gap.Gap.{Gap}
use Rattle.network.specs.declared.gap.Owner.{Owner}
use Rattle.network.specs.declared.gap.Owner.TheVariants.{Line, DatePlace, Floor}
use Rattle.network.specs.Meanings.{Outside, Bounded, unowned}
use Rattle.book.specs.declared.date.Bound.{Bound}
use Rattle.book.specs.declared.date.Bound.TheVariants.{Least, Most}
use Rattle.book.specs.declared.date.Date.{Date}
use Rattle.book.specs.Rules.{Rule, within}
use Rattle.book.specs.Layers.{added, asked, asked_by, date_in_range, layer_owner, layer_gap, layer_rule}
use Rattle.book.specs.Laws.{LawfulRule, OwnsIn}
use Rattle.book.proofs.Options.{let_through}
use Rattle.book.proofs.Ranges.{within_parts}

-- a date within range asks for a bounded gap
asked_bounded : (b : Bound) (events event day : ℕ) → event ≤ events → day ≤ 99999 → Bounded events (asked_by b event day)
asked_bounded Least events event day e d = record { leaves = omega arith; reaches = e; above = omega (arith, ints); below = omega (arith, ints) }
asked_bounded Most events event day e d = record { leaves = e; reaches = omega arith; above = omega (arith, ints); below = omega (arith, ints) }

in_range_bounded : (events : ℕ) (d : Date) → date_in_range events d ≡ true → Bounded events (asked d)
in_range_bounded events d t =
    let both = and_parts (within d.event events) (leb d.day 99999) t in
    let event = within_parts d.event events both.0 in
    asked_bounded d.bound events d.event d.day event.1 (leb-true d.day 99999 both.1)

module _ {E : Type 0} (r : Rule E) where
  pub owner_below : (p : ℕ) → p ≤ r.places → layer_owner r p ≡ r.owner p
  owner_below p h = cond-true (leb p r.places) _ _ (le-leb p r.places h)

  pub owner_own : (p : ℕ) → r.places < p → p ≤ r.places + added r.places → layer_owner r p ≡ DatePlace (r.dates + (p - r.places))
  owner_own p low high = cond-false (leb p r.places) _ _ (lt-leb p r.places low) ∙ cond-true (leb p (r.places + added r.places)) _ _ (le-leb p _ high)

  owner_past : (p : ℕ) → r.places < p → r.places + added r.places < p → layer_owner r p ≡ unowned
  owner_past p low high = cond-false (leb p r.places) _ _ (lt-leb p r.places low) ∙ cond-false (leb p (r.places + added r.places)) _ _ (lt-leb p _ high)

  pub gap_below : (q : ℕ) (d : Date) (p : ℕ) → q ≤ r.dates → layer_gap r q d p ≡ r.date_gap q d p
  gap_below q d p h = cond-true (leb q r.dates) _ _ (le-leb q r.dates h)

  pub gap_own : (q : ℕ) (d : Date) (p : ℕ) → r.dates < q → layer_gap r q d p ≡ cond (eqb p (r.places + (q - r.dates)) && date_in_range r.events d) (Some (asked d)) None
  gap_own q d p h = cond-false (leb q r.dates) _ _ (lt-leb q r.dates h)

  -- what owned a place below owns it still
  owns_still : (o : Owner) → OwnsIn r o → OwnsIn (layer_rule r) o
  owns_still (Line n) h = h
  owns_still (DatePlace n) h = (h.0, omega (arith, h.1))
  owns_still (Floor n) h = h

  module _ (laws : LawfulRule r) where
    layer_owned : (p : ℕ) → 1 ≤ p → p ≤ r.places + added r.places → OwnsIn (layer_rule r) (layer_owner r p)
    layer_owned p low high =
        ⊎_elim
        (λ (over : r.places < p). subst (OwnsIn (layer_rule r)) (sym (owner_own p over high)) (omega arith, omega arith))
        (λ (under : p ≤ r.places). subst (OwnsIn (layer_rule r)) (sym (owner_below p under)) (owns_still (r.owner p) (laws.owned p low under)))
        (cases_lt r.places p)

    layer_outside : (p : ℕ) → Outside (r.places + added r.places) p → layer_owner r p ≡ unowned
    layer_outside p (inl low) = let h : p ≤ r.places = omega arith in owner_below p h ∙ laws.floor_outside p (inl low)
    layer_outside p (inr high) = owner_past p (omega arith) high

    -- a place that somebody owns below is owned by the same above
    owner_kept : (p : ℕ) (o : Owner) → (o ≡ unowned → ⊥) → r.owner p ≡ o → layer_owner r p ≡ o
    owner_kept p o real e =
        ⊎_elim
        (λ (over : r.places < p). absurd (real (sym e ∙ laws.floor_outside p (inr over))))
        (λ (under : p ≤ r.places). owner_below p under ∙ e)
        (cases_lt r.places p)

    layer_own_date : (q : ℕ) (d : Date) (p : ℕ) (g : Gap) → 1 ≤ q → q ≤ r.dates + added r.places → layer_gap r q d p ≡ Some g → layer_owner r p ≡ DatePlace q
    layer_own_date q d p g low high e =
        ⊎_elim
        (λ (over : r.dates < q).
        let through = let_through _ (asked d) g (sym (gap_own q d p over) ∙ e) in
        let at = eqb-true p (r.places + (q - r.dates)) (and_parts (eqb p (r.places + (q - r.dates))) (date_in_range r.events d) through.0).0 in
        let number : r.dates + (p - r.places) ≡ q = omega arith in
        owner_own p (omega arith) (omega arith) ∙ ap DatePlace number)
        (λ (under : q ≤ r.dates). owner_kept p (DatePlace q) (λ z. let w : ◌≡◌ {A = ℕ} 0 1 = cc in omega arith) (laws.own_date q d p g low under (sym (gap_below q d p under) ∙ e)))
        (cases_lt r.dates q)

    layer_date_bounded : (q : ℕ) (d : Date) (p : ℕ) (g : Gap) → 1 ≤ q → q ≤ r.dates + added r.places → layer_gap r q d p ≡ Some g → Bounded r.events g
    layer_date_bounded q d p g low high e =
        ⊎_elim
        (λ (over : r.dates < q).
        let through = let_through _ (asked d) g (sym (gap_own q d p over) ∙ e) in
        subst (Bounded r.events) through.1 (in_range_bounded r.events d (and_parts (eqb p (r.places + (q - r.dates))) (date_in_range r.events d) through.0).1))
        (λ (under : q ≤ r.dates). laws.date_bounded q d p g low under (sym (gap_below q d p under) ∙ e))
        (cases_lt r.dates q)

    pub layer_lawful : LawfulRule (layer_rule r)
    layer_lawful = record {
      few_events = laws.few_events;
      few_places = omega (arith, laws.few_places);
      few_lines = omega (arith, laws.few_lines);
      few_dates = omega (arith, laws.few_dates);
      owned = layer_owned;
      floor_outside = layer_outside;
      own_line = λ n e p g low high at. owner_kept p (Line n) (λ z. let w : ◌≡◌ {A = ℕ} 0 1 = cc in omega arith) (laws.own_line n e p g low high at);
      own_date = layer_own_date;
      line_bounded = laws.line_bounded;
      date_bounded = layer_date_bounded;
      entry_refused = laws.entry_refused;
    }

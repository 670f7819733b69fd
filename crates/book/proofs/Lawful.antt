-- A lawful rule makes a lawful network. Assumes nothing.
use Rattle.std.proofs.Common.{◌≡◌, ℕ, ◌<◌, ◌≤◌, ◌⊎◌, Some, None, sym, ap, ◌∙◌, inl, inr, ⊎_elim, arith}
use Rattle.std.proofs.lemmas.Bool.{cases_lt}
use Rattle.network.specs.declared.gap.Gap.{Gap}
use Rattle.network.specs.declared.gap.Owner.{Owner}
use Rattle.network.specs.declared.gap.Owner.TheVariants.{Line, DatePlace, Floor}
use Rattle.network.specs.Meanings.{Lawful, Outside, Bounded}
use Rattle.book.specs.Rules.{BookMeaning, held, network_of}
use Rattle.book.specs.Laws.{LawfulRule, OwnsIn}
use Rattle.book.proofs.Options.{after_some, none_is_not}

-- a number is one of the places, or it is not
pub cases_outside : (n p : ℕ) → ((1 ≤ p) × (p ≤ n)) ⊎ Outside n p
cases_outside n p =
    ⊎_elim
    (λ (low : 0 < p). ⊎_elim (λ (over : n < p). inr (inr over)) (λ (high : p ≤ n). inl (omega arith, high)) (cases_lt n p))
    (λ (low : p ≤ 0). inr (inl (omega arith)))
    (cases_lt 0 p)

module _ {E : Type 0} (m : BookMeaning E) (laws : LawfulRule m.rule) where
  held_bounded : (o : Owner) (p : ℕ) (g : Gap) → OwnsIn m.rule o → held m o p ≡ Some g → Bounded m.rule.events g
  held_bounded (Line n) p g owns e =
      let from = after_some (m.ledger.line n) (λ x. m.rule.line_gap n x p) g e in
      laws.line_bounded n from.0 p g owns.0 owns.1 from.2
  held_bounded (DatePlace n) p g owns e =
      let from = after_some (m.ledger.date n) (λ x. m.rule.date_gap n x p) g e in
      laws.date_bounded n from.0 p g owns.0 owns.1 from.2
  held_bounded (Floor n) p g owns e = absurd owns

  held_outside : (p : ℕ) → Outside m.rule.places p → (network_of m).gap p ≡ None
  held_outside p out = ap (λ o. held m o p) (laws.floor_outside p out)

  gap_bounded : (p : ℕ) (g : Gap) → (network_of m).gap p ≡ Some g → Bounded m.rule.events g
  gap_bounded p g e =
      ⊎_elim
      (λ (inside : (1 ≤ p) × (p ≤ m.rule.places)). held_bounded (m.rule.owner p) p g (laws.owned p inside.0 inside.1) e)
      (λ (out : Outside m.rule.places p). absurd (none_is_not g (sym (held_outside p out) ∙ e)))
      (cases_outside m.rule.places p)

  pub network_lawful : Lawful (network_of m)
  network_lawful = record {
    few_events = laws.few_events;
    few_places = laws.few_places;
    bounded = gap_bounded;
    nothing_outside = held_outside;
    floor_outside = laws.floor_outside;
  }

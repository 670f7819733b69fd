-- The rule of the arrow book is lawful. Assumes nothing.
use Rattle.std.specs.Prelude.{◌≡◌, ℕ, ◌≤◌, true, not, ◌&&◌, Some, Option, ◌==◌, nat_le}
use Rattle.std.proofs.Common.{sym, ap, subst, ◌∙◌, ⊎_elim, arith}
use Rattle.std.proofs.lemmas.Int.{ints}
use Rattle.std.proofs.lemmas.Bool.{cond-true, cond-false, and_parts, leb-true, eqb-true}
use Rattle.network.specs.declared.gap.Gap.{Gap}
use Rattle.network.specs.declared.gap.Owner.TheVariants.{Line}
use Rattle.network.specs.Meanings.{Bounded}
use Rattle.book.specs.declared.refusal.Refusal.{Refusal}
use Rattle.book.specs.declared.refusal.Refusal.TheVariants.{OutOfRange, SameEnds}
use Rattle.book.specs.Refusals.{number}
use Rattle.book.specs.Rules.{within}
use Rattle.book.specs.Laws.{LawfulRule, OwnsIn}
use Rattle.book.proofs.Options.{cond_some, let_through, unless_some, either_some, none_is_not}
use Rattle.book.proofs.Ranges.{within_true, within_false, within_parts}
use Rattle.arrow.specs.declared.entry.Arrow.{Arrow}
use Rattle.arrow.specs.Rule.{arrow_in_range, leads, owner_of, gap_of, judged_by, arrow_rule}

owner_inside : (p : ℕ) → 1 ≤ p → p ≤ 400 → owner_of p ≡ Line p
owner_inside p low high = cond-true (within p 400) _ _ (within_true p 400 low high)

owned : (p : ℕ) → 1 ≤ p → p ≤ 400 → OwnsIn arrow_rule (owner_of p)
owned p low high = subst (OwnsIn arrow_rule) (sym (owner_inside p low high)) (low, high)

leads_bounded : (a : Arrow) → arrow_in_range a ≡ true → Bounded 200 (leads a)
leads_bounded a t =
    let parts = and_parts (within a.from 200 && within a.to 200) (nat_le a.days 9999) t in
    let nodes = and_parts (within a.from 200) (within a.to 200) parts.0 in
    let days = leb-true a.days 9999 parts.1 in
    record {
      leaves = (within_parts a.from 200 nodes.0).1;
      reaches = (within_parts a.to 200 nodes.1).1;
      above = omega (arith, ints);
      below = omega (arith, ints);
    }

-- an arrow puts its gap into its line's own place, and the gap is bounded
pub record Put (n p : ℕ) (g : Gap) : Type 0 where
  pub place : p ≡ n
  pub bounded : Bounded 200 g

arrow_put : (n : ℕ) (a : Arrow) (p : ℕ) (g : Gap) → gap_of n a p ≡ Some g → Put n p g
arrow_put n a p g e =
    let taken = cond_some (within n 400 && arrow_in_range a) _ g e in
    let here = let_through (p == n) (leads a) g taken.1 in
    record {
      place = eqb-true p n here.0;
      bounded = subst (Bounded 200) here.1 (leads_bounded a (and_parts (within n 400) (arrow_in_range a) taken.0).1);
    }

own_place : (n p : ℕ) → 1 ≤ n → n ≤ 400 → p ≡ n → owner_of p ≡ Line n
own_place n p low high e = owner_inside p (omega arith) (omega arith) ∙ ap Line e

refused_4_or_5 : (ls : ℕ → Option Arrow) (n : ℕ) (a : Arrow) (k : Refusal) → judged_by ls n a ≡ Some k → (4 ≤ number k) × (number k ≤ 6)
refused_4_or_5 ls n a k e =
    ⊎_elim
    (λ range. let same = ap number (unless_some (arrow_in_range a) OutOfRange k range) in (omega (arith, same), omega (arith, same)))
    (λ ends. let same = ap number (unless_some (not (a.from == a.to)) SameEnds k ends) in (omega (arith, same), omega (arith, same)))
    (either_some _ _ k e)

pub arrow_lawful : LawfulRule arrow_rule
arrow_lawful = record {
  few_events = omega arith;
  few_places = omega arith;
  few_lines = omega arith;
  few_dates = omega arith;
  owned = owned;
  floor_outside = λ p out. cond-false (within p 400) _ _ (within_false p 400 out);
  own_line = λ n a p g low high at. own_place n p low high (arrow_put n a p g at).place;
  own_date = λ q d p g low high at. absurd (none_is_not g at);
  line_bounded = λ n a p g low high at. (arrow_put n a p g at).bounded;
  date_bounded = λ q d p g low high at. absurd (none_is_not g at);
  entry_refused = refused_4_or_5;
}

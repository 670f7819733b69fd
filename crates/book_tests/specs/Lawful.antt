-- The rule of the cramped book is lawful. Assumes nothing.
use Rattle.std.specs.Prelude.{◌≡◌, ℕ, ◌+◌, ◌-◌, ◌%◌, ◌≤◌}
use Rattle.std.proofs.Common.{sym, subst, arith}
use Rattle.std.proofs.lemmas.Bool.{cond-true, cond-false}
use Rattle.network.specs.declared.gap.Owner.TheVariants.{Line}
use Rattle.book.specs.Rules.{within}
use Rattle.book.specs.Laws.{LawfulRule, OwnsIn}
use Rattle.book.proofs.Options.{none_is_not}
use Rattle.book.proofs.Ranges.{within_true, within_false}
use Rattle.book_tests.specs.Cramped.{owner_of, cramped_rule}

owner_inside : (p : ℕ) → 1 ≤ p → p ≤ 4090 → owner_of p ≡ Line ((p - 1) % 400 + 1)
owner_inside p low high = cond-true (within p 4090) _ _ (within_true p 4090 low high)

pub cramped_lawful : LawfulRule cramped_rule
cramped_lawful = record {
  few_events = omega arith;
  few_places = omega arith;
  few_lines = omega arith;
  few_dates = omega arith;
  owned = λ p low high. subst (OwnsIn cramped_rule) (sym (owner_inside p low high)) (omega arith, omega arith);
  floor_outside = λ p out. cond-false (within p 4090) _ _ (within_false p 4090 out);
  own_line = λ n e p g low high at. absurd (none_is_not g at);
  own_date = λ q d p g low high at. absurd (none_is_not g at);
  line_bounded = λ n e p g low high at. absurd (none_is_not g at);
  date_bounded = λ q d p g low high at. absurd (none_is_not g at);
  entry_refused = λ ls n e k at. absurd (none_is_not k at);
}

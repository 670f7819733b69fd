-- The rule of the activity book is lawful. Assumes nothing.
use Rattle.std.specs.Prelude.{◌≡◌, ℕ, ◌+◌, ◌/◌, ◌≤◌, true, false, cond, not, ◌&&◌, ◌⊎◌, ℤ, pos, negsuc, ◌≤ℤ◌, Some, None, Option, ◌==◌, unsigned_abs}
use Rattle.std.proofs.Common.{sym, ap, subst, ◌∙◌, inl, inr, ⊎_elim, arith}
use Rattle.std.proofs.lemmas.Int.{ints}
use Rattle.std.proofs.lemmas.Bool.{cond-true, cond-false, and_parts, leb-true, eqb-true}
use Rattle.network.specs.declared.gap.Gap.{Gap}
use Rattle.network.specs.declared.gap.Owner.TheVariants.{Line}
use Rattle.network.specs.Meanings.{Bounded}
use Rattle.book.specs.declared.date.Bound.{Bound}
use Rattle.book.specs.declared.date.Bound.TheVariants.{Least, Most}
use Rattle.book.specs.declared.refusal.Refusal.{Refusal}
use Rattle.book.specs.declared.refusal.Refusal.TheVariants.{OutOfRange, SameEnds, NoActivity}
use Rattle.book.specs.Refusals.{number}
use Rattle.book.specs.Rules.{within}
use Rattle.book.specs.Laws.{LawfulRule, OwnsIn}
use Rattle.book.proofs.Options.{cond_some, let_through, cond_ways, mapped_some, unless_some, either_some, none_is_not}
use Rattle.book.proofs.Ranges.{within_true, within_false, within_parts}
use Rattle.activity.specs.declared.entry.Activity.{Activity}
use Rattle.activity.specs.declared.entry.Entry.{Entry}
use Rattle.activity.specs.declared.entry.Entry.TheVariants as entry
use Rattle.activity.specs.declared.entry.Kind.{Kind}
use Rattle.activity.specs.declared.entry.Kind.TheVariants.{FS, SS, FF, SF}
use Rattle.activity.specs.declared.entry.Relation.{Relation}
use Rattle.activity.specs.declared.entry.Running.{Running}
use Rattle.activity.specs.declared.entry.Running.TheVariants.{Whole, Broken}
use Rattle.activity.specs.declared.entry.Work.{Work}
use Rattle.activity.specs.declared.entry.Work.TheVariants.{Days, Hours}
use Rattle.activity.specs.Activities.{day_count, longest_pause, work_in_range, activity_in_range, runs, ends, runs_for, ends_by}
use Rattle.activity.specs.Relations.{lag_in_range, first_event, second_event, follows, relates}
use Rattle.activity.specs.Rule.{is_activity, owner_of, first_place, second_place, relation_in_range, gap_of, judged_by, activity_rule}

owner_inside : (p : ℕ) → 1 ≤ p → p ≤ 800 → owner_of p ≡ Line ((p + 1) / 2)
owner_inside p low high = cond-true (within p 800) _ _ (within_true p 800 low high)

owner_at : (p n : ℕ) → 1 ≤ p → p ≤ 800 → (p + 1) / 2 ≡ n → owner_of p ≡ Line n
owner_at p n low high e = owner_inside p low high ∙ ap Line e

owned : (p : ℕ) → 1 ≤ p → p ≤ 800 → OwnsIn activity_rule (owner_of p)
owned p low high = subst (OwnsIn activity_rule) (sym (owner_inside p low high)) (omega arith, omega arith)

-- an activity within range has at most 9,999 days
few_days : (w : Work) → work_in_range w ≡ true → day_count w ≤ 9999
few_days (Days days) t = leb-true days 9999 t
few_days (Hours hours) t = let h = leb-true hours 79992 t in omega arith

few_pauses : (r : Running) (pause : ℕ) → longest_pause r ≡ Some pause → pause ≡ 0
few_pauses Whole pause e = cc
few_pauses Broken pause e = absurd (none_is_not pause e)

runs_bounded : (n days : ℕ) → n ≤ 400 → days ≤ 9999 → Bounded 800 (runs n days)
runs_bounded n days h d = record { leaves = omega arith; reaches = omega arith; above = omega (arith, ints); below = omega (arith, ints) }

ends_bounded : (n days pause : ℕ) → n ≤ 400 → days ≤ 9999 → pause ≤ 9999 → Bounded 800 (ends n days pause)
ends_bounded n days pause h d e = record { leaves = omega arith; reaches = omega arith; above = omega (arith, ints); below = omega (arith, ints) }

lag_above : (z : ℤ) → unsigned_abs z ≤ 9999 → negsuc 99998 ≤ℤ z
lag_above (pos n) h = omega (arith, ints)
lag_above (negsuc n) h = omega (arith, ints)

lag_below : (z : ℤ) → unsigned_abs z ≤ 9999 → z ≤ℤ pos 99999
lag_below (pos n) h = omega (arith, ints)
lag_below (negsuc n) h = omega (arith, ints)

first_event_lem : (k : Kind) (a : ℕ) → a ≤ 400 → first_event k a ≤ 800
first_event_lem FS a h = omega arith
first_event_lem SS a h = omega arith
first_event_lem FF a h = omega arith
first_event_lem SF a h = omega arith

second_event_lem : (k : Kind) (b : ℕ) → b ≤ 400 → second_event k b ≤ 800
second_event_lem FS b h = omega arith
second_event_lem SS b h = omega arith
second_event_lem FF b h = omega arith
second_event_lem SF b h = omega arith

follows_bounded : (b : Bound) (u v : ℕ) (lag : ℤ) → u ≤ 800 → v ≤ 800 → unsigned_abs lag ≤ 9999 → Bounded 800 (follows b u v lag)
follows_bounded Least u v lag hu hv hl = record { leaves = hu; reaches = hv; above = lag_above lag hl; below = lag_below lag hl }
follows_bounded Most u v lag hu hv hl =
    let above = lag_above lag hl in
    let below = lag_below lag hl in
    record { leaves = hv; reaches = hu; above = omega (arith, ints); below = omega (arith, ints) }

relates_bounded : (r : Relation) → relation_in_range r ≡ true → Bounded 800 (relates r)
relates_bounded r t =
    let parts = and_parts (lag_in_range r.lag) (within r.first 400 && within r.second 400) t in
    let lines = and_parts (within r.first 400) (within r.second 400) parts.1 in
    follows_bounded r.bound (first_event r.kind r.first) (second_event r.kind r.second) r.lag
    (first_event_lem r.kind r.first (within_parts r.first 400 lines.0).1)
    (second_event_lem r.kind r.second (within_parts r.second 400 lines.1).1)
    (leb-true (unsigned_abs r.lag) 9999 parts.0)

-- what an entry puts into a place goes into one of its line's two places, and is bounded
pub record Put (n p : ℕ) (g : Gap) : Type 0 where
  pub place : (p ≡ first_place n) ⊎ (p ≡ second_place n)
  pub bounded : Bounded 800 g

activity_put : (n : ℕ) (a : Activity) (p : ℕ) (g : Gap) → n ≤ 400 → gap_of n (entry.Activity a) p ≡ Some g → Put n p g
activity_put n a p g high e =
    let taken = cond_some (within n 400 && activity_in_range a) _ g e in
    let few = few_days a.work (and_parts (within n 400) (activity_in_range a) taken.0).1 in
    ⊎_elim
    (λ (one : ((p == first_place n) ≡ true) × (◌≡◌ {A = Option Gap} (Some (runs_for n a)) (Some g))).
    let same : runs_for n a ≡ g = cc in
    record { place = inl (eqb-true p (first_place n) one.0); bounded = subst (Bounded 800) same (runs_bounded n (day_count a.work) high few) })
    (λ (other : ((p == first_place n) ≡ false) × (cond (p == second_place n) (ends_by n a) None ≡ Some g)).
    let two = cond_some (p == second_place n) (ends_by n a) g other.1 in
    let limit = mapped_some (ends n (day_count a.work)) (longest_pause a.running) g two.1 in
    let zero = few_pauses a.running limit.0 limit.1 in
    record { place = inr (eqb-true p (second_place n) two.0); bounded = subst (Bounded 800) limit.2 (ends_bounded n (day_count a.work) limit.0 high few (omega arith)) })
    (cond_ways (p == first_place n) _ _ (Some g) taken.1)

relation_put : (n : ℕ) (r : Relation) (p : ℕ) (g : Gap) → gap_of n (entry.Relation r) p ≡ Some g → Put n p g
relation_put n r p g e =
    let taken = cond_some (within n 400 && relation_in_range r) _ g e in
    let here = let_through (p == first_place n) (relates r) g taken.1 in
    record { place = inl (eqb-true p (first_place n) here.0); bounded = subst (Bounded 800) here.1 (relates_bounded r (and_parts (within n 400) (relation_in_range r) taken.0).1) }

entry_put : (n : ℕ) (e : Entry) (p : ℕ) (g : Gap) → n ≤ 400 → gap_of n e p ≡ Some g → Put n p g
entry_put n (entry.Activity a) p g high e = activity_put n a p g high e
entry_put n (entry.Relation r) p g high e = relation_put n r p g e

owns_places : (n p : ℕ) → 1 ≤ n → n ≤ 400 → (p ≡ first_place n) ⊎ (p ≡ second_place n) → owner_of p ≡ Line n
owns_places n p low high (inl e) = owner_at p n (omega arith) (omega arith) (omega arith)
owns_places n p low high (inr e) = owner_at p n (omega arith) (omega arith) (omega arith)

refused_4_to_6 : (ls : ℕ → Option Entry) (n : ℕ) (e : Entry) (k : Refusal) → judged_by ls n e ≡ Some k → (4 ≤ number k) × (number k ≤ 6)
refused_4_to_6 ls n (entry.Activity a) k e = let same = ap number (unless_some (activity_in_range a) OutOfRange k e) in (omega arith, omega arith)
refused_4_to_6 ls n (entry.Relation r) k e =
    ⊎_elim
    (λ range. let same = ap number (unless_some (lag_in_range r.lag) OutOfRange k range) in (omega (arith, same), omega (arith, same)))
    (λ rest. ⊎_elim
    (λ ends. let same = ap number (unless_some (not (r.first == r.second)) SameEnds k ends) in (omega (arith, same), omega (arith, same)))
    (λ stands. let same = ap number (unless_some (is_activity (ls r.first) && is_activity (ls r.second)) NoActivity k stands) in (omega (arith, same), omega (arith, same)))
    (either_some _ _ k rest))
    (either_some _ _ k e)

pub activity_lawful : LawfulRule activity_rule
activity_lawful = record {
  few_events = omega arith;
  few_places = omega arith;
  few_lines = omega arith;
  few_dates = omega arith;
  owned = owned;
  floor_outside = λ p out. cond-false (within p 800) _ _ (within_false p 800 out);
  own_line = λ n e p g low high at. owns_places n p low high (entry_put n e p g high at).place;
  own_date = λ q d p g low high at. absurd (none_is_not g at);
  line_bounded = λ n e p g low high at. (entry_put n e p g high at).bounded;
  date_bounded = λ q d p g low high at. absurd (none_is_not g at);
  entry_refused = refused_4_to_6;
}

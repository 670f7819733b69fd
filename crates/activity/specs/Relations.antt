-- What a relation asks for. Assumes nothing.
use Rattle.std.specs.Prelude.{ℕ, Bool, ℤ, neg_ℤ, nat_le, unsigned_abs}
use Rattle.network.specs.declared.gap.Gap.{Gap}
use Rattle.book.specs.declared.date.Bound.{Bound}
use Rattle.book.specs.declared.date.Bound.TheVariants.{Least, Most}
use Rattle.activity.specs.declared.entry.Kind.{Kind}
use Rattle.activity.specs.declared.entry.Kind.TheVariants.{FS, SS, FF, SF}
use Rattle.activity.specs.declared.entry.Relation.{Relation}
use Rattle.activity.specs.Activities.{start_of, finish_of}

-- at most 9,999 days either way
abbrev pub lag_in_range : ℤ → Bool
lag_in_range lag = nat_le (unsigned_abs lag) 9999

-- the kind's first letter picks the start or the finish of the first activity, its second letter that of the second
abbrev pub first_event : Kind → ℕ → ℕ
first_event FS a = finish_of a
first_event SS a = start_of a
first_event FF a = finish_of a
first_event SF a = start_of a

abbrev pub second_event : Kind → ℕ → ℕ
second_event FS b = start_of b
second_event SS b = start_of b
second_event FF b = finish_of b
second_event SF b = finish_of b

-- at least n days from u to v: a gap of n days from u to v; at most n: a gap of -n days from v to u
abbrev pub follows : Bound → ℕ → ℕ → ℤ → Gap
follows Least u v lag = record { left = u; reached = v; days = lag }
follows Most u v lag = record { left = v; reached = u; days = neg_ℤ lag }

abbrev pub relates : Relation → Gap
relates r = follows r.bound (first_event r.kind r.first) (second_event r.kind r.second) r.lag

-- The rule of a date layer over a book's rule. Assumes nothing.
--     added g         how many date places a layer adds over g places
--     asked d         the gap that a date asks for
--     layer_rule r     the rule r with a date layer over it
use Rattle.std.specs.Prelude.{ℕ, ◌+◌, ◌-◌, min, Bool, cond, ◌&&◌, pos, neg_ℤ, Some, None, Option, ◌==◌, nat_le}
use Rattle.network.specs.declared.gap.Gap.{Gap}
use Rattle.network.specs.declared.gap.Owner.{Owner}
use Rattle.network.specs.declared.gap.Owner.TheVariants.{DatePlace}
use Rattle.network.specs.Meanings.{unowned}
use Rattle.book.specs.declared.date.Bound.{Bound}
use Rattle.book.specs.declared.date.Bound.TheVariants.{Least, Most}
use Rattle.book.specs.declared.date.Date.{Date}
use Rattle.book.specs.Rules.{Rule, within}

-- 64, or as many as keep the places within 4,096
abbrev pub added : ℕ → ℕ
added places = min 64 (4096 - places)

-- at least that day: a gap from event 0; at most: a gap back to event 0
abbrev pub asked_by : Bound → ℕ → ℕ → Gap
asked_by Least event day = record { left = 0; reached = event; days = pos day }
asked_by Most event day = record { left = event; reached = 0; days = neg_ℤ (pos day) }

-- an event from 1 to the last, a day from 0 to 99,999
abbrev pub date_in_range : ℕ → Date → Bool
date_in_range events d = within d.event events && nat_le d.day 99999

abbrev pub asked : Date → Gap
asked d = asked_by d.bound d.event d.day

-- the layer's date places and places follow those below, one place to a date place
abbrev pub layer_owner : {E : Type 0} → Rule E → ℕ → Owner
layer_owner r p = cond (nat_le p r.places) (r.owner p) (cond (nat_le p (r.places + added r.places)) (DatePlace (r.dates + (p - r.places))) unowned)

-- a date out of range asks for nothing
abbrev pub layer_gap : {E : Type 0} → Rule E → ℕ → Date → ℕ → Option Gap
layer_gap r q d p = cond (nat_le q r.dates) (r.date_gap q d p) (cond (p == r.places + (q - r.dates) && date_in_range r.events d) (Some (asked d)) None)

abbrev pub layer_rule : {E : Type 0} → Rule E → Rule E
layer_rule r = record {
  events = r.events;
  places = r.places + added r.places;
  lines = r.lines;
  dates = r.dates + added r.places;
  owner = layer_owner r;
  line_gap = r.line_gap;
  date_gap = layer_gap r;
  enters = r.enters;
  strikes = r.strikes;
  alters = r.alters;
}

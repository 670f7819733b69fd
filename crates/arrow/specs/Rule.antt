-- The rule of the arrow book: 400 lines, nodes 1 to 200 as events, 400 places. Assumes nothing.
--     arrow_rule       what the book fixes
use Rattle.std.specs.Prelude.{ℕ, Bool, true, cond, not, ◌&&◌, pos, Some, None, Option, ◌==◌, nat_le}
use Rattle.network.specs.declared.gap.Gap.{Gap}
use Rattle.network.specs.declared.gap.Owner.{Owner}
use Rattle.network.specs.declared.gap.Owner.TheVariants.{Line}
use Rattle.network.specs.Meanings.{unowned}
use Rattle.book.specs.declared.refusal.Refusal.{Refusal}
use Rattle.book.specs.declared.refusal.Refusal.TheVariants.{OutOfRange, SameEnds}
use Rattle.book.specs.Rules as rules
use Rattle.book.specs.Rules.{within}
use Rattle.book.specs.Calls.{unless, ◌or_else◌}
use Rattle.arrow.specs.declared.entry.Arrow.{Arrow}

-- both nodes are there, and the days are at most 9,999
abbrev pub arrow_in_range : Arrow → Bool
arrow_in_range a = (within a.from 200 && within a.to 200) && nat_le a.days 9999

-- a gap of the arrow's days from one node to the other
abbrev pub leads : Arrow → Gap
leads a = record { left = a.from; reached = a.to; days = pos a.days }

-- line p owns place p
abbrev pub owner_of : ℕ → Owner
owner_of place = cond (within place 400) (Line place) unowned

-- an arrow whose numbers are out of range asks for nothing
abbrev pub gap_of : ℕ → Arrow → ℕ → Option Gap
gap_of p a place = cond (within p 400 && arrow_in_range a) (cond (place == p) (Some (leads a)) None) None

-- range before sameness
abbrev pub judged_by : (ℕ → Option Arrow) → ℕ → Arrow → Option Refusal
judged_by ls p a =
    unless (arrow_in_range a) OutOfRange or_else
    unless (not (a.from == a.to)) SameEnds

abbrev pub arrow_rule : rules.Rule Arrow
arrow_rule = record {
  events = 200;
  places = 400;
  lines = 400;
  dates = 0;
  owner = owner_of;
  line_gap = gap_of;
  date_gap = λ q d place. None;
  enters = judged_by;
  strikes = λ ls p. true;
  alters = λ ls p a. true;
}

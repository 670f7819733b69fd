-- The rule of the activity book: 400 lines, events 0 to 800, 800 places. Assumes nothing.
--     is_activity o    an activity stands there
--     named ls p      a relation on one of the lines names line p
--     activity_rule    what the book fixes
use Rattle.std.specs.Prelude.{ℕ, zero, suc, ◌+◌, ◌-◌, ◌*◌, ◌/◌, Bool, true, false, cond, not, ◌&&◌, ◌||◌, Some, None, Option, ◌==◌}
use Rattle.network.specs.declared.gap.Gap.{Gap}
use Rattle.network.specs.declared.gap.Owner.{Owner}
use Rattle.network.specs.declared.gap.Owner.TheVariants.{Line}
use Rattle.network.specs.Meanings.{unowned}
use Rattle.book.specs.declared.refusal.Refusal.{Refusal}
use Rattle.book.specs.declared.refusal.Refusal.TheVariants.{OutOfRange, SameEnds, NoActivity}
use Rattle.book.specs.Rules as rules
use Rattle.book.specs.Rules.{within}
use Rattle.book.specs.Calls.{unless, ◌or_else◌}
use Rattle.activity.specs.declared.entry.Entry.{Entry}
use Rattle.activity.specs.declared.entry.Entry.TheVariants as entry
use Rattle.activity.specs.declared.entry.Relation.{Relation}
use Rattle.activity.specs.Activities.{activity_in_range, runs_for, ends_by}
use Rattle.activity.specs.Relations.{lag_in_range, relates}

abbrev pub is_activity : Option Entry → Bool
is_activity None = false
is_activity (Some (entry.Activity a)) = true
is_activity (Some (entry.Relation r)) = false

abbrev pub names : Option Entry → ℕ → Bool
names None p = false
names (Some (entry.Activity a)) p = false
names (Some (entry.Relation r)) p = r.first == p || r.second == p

-- some number from 1 to n passes the test
unfoldable pub some_up_to : ℕ → (ℕ → Bool) → Bool
some_up_to zero f = false
some_up_to (suc n) f = f (suc n) || some_up_to n f

abbrev pub named : (ℕ → Option Entry) → ℕ → Bool
named ls p = some_up_to 400 (λ q. names (ls q) p)

-- a relation elsewhere names this activity
abbrev pub named_elsewhere : (ℕ → Option Entry) → ℕ → Bool
named_elsewhere ls p = is_activity (ls p) && named ls p

abbrev pub first_place : ℕ → ℕ
first_place p = 2 * p - 1

abbrev pub second_place : ℕ → ℕ
second_place p = 2 * p

-- the line whose two places are 2p - 1 and 2p
abbrev pub owner_of : ℕ → Owner
owner_of place = cond (within place 800) (Line ((place + 1) / 2)) unowned

-- the lag is within range, and both lines are there
abbrev pub relation_in_range : Relation → Bool
relation_in_range r = lag_in_range r.lag && (within r.first 400 && within r.second 400)

-- an entry whose numbers are out of range asks for nothing
abbrev pub gap_of : ℕ → Entry → ℕ → Option Gap
gap_of p (entry.Activity a) place = cond (within p 400 && activity_in_range a) (cond (place == first_place p) (Some (runs_for p a)) (cond (place == second_place p) (ends_by p a) None)) None
gap_of p (entry.Relation r) place = cond (within p 400 && relation_in_range r) (cond (place == first_place p) (Some (relates r)) None) None

-- range before sameness before existence
abbrev pub judged_by : (ℕ → Option Entry) → ℕ → Entry → Option Refusal
judged_by ls p (entry.Activity a) = unless (activity_in_range a) OutOfRange
judged_by ls p (entry.Relation r) =
    unless (lag_in_range r.lag) OutOfRange or_else
    unless (not (r.first == r.second)) SameEnds or_else
    unless (is_activity (ls r.first) && is_activity (ls r.second)) NoActivity

abbrev pub activity_rule : rules.Rule Entry
activity_rule = record {
  events = 800;
  places = 800;
  lines = 400;
  dates = 0;
  owner = owner_of;
  line_gap = gap_of;
  date_gap = λ q d place. None;
  enters = judged_by;
  strikes = λ ls p. not (named_elsewhere ls p);
  alters = λ ls p e. not (named_elsewhere ls p) || is_activity (Some e);
}

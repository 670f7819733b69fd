-- Which call of a plan's book a form says. Assumes nothing.
--     entry_of_item, event_of_point    of activity plans: an arrow and a node are of the other kind
--     arrow_of_item, node_of_point     of arrow plans
--     call_of ..                    the call that a form says; none where it is of the other kind, or begins a plan
use Rattle.std.specs.Prelude.{ℕ, Some, None, Option}
use Rattle.std.specs.Option.{option_map}
use Rattle.activity.specs.declared.entry.Entry.{Entry}
use Rattle.activity.specs.declared.entry.Entry.TheVariants as entry
use Rattle.activity.specs.Activities.{start_of, finish_of}
use Rattle.arrow.specs.declared.entry.Arrow.{Arrow}
use Rattle.book.specs.Calls as calls
use Rattle.forms.specs.declared.form.Item.{Item}
use Rattle.forms.specs.declared.form.Item.TheVariants as item
use Rattle.forms.specs.declared.form.Point.{Point}
use Rattle.forms.specs.declared.form.Point.TheVariants.{Start, Finish, Node}
use Rattle.forms.specs.declared.form.Form.{Form}
use Rattle.forms.specs.declared.form.Form.TheVariants.{Plan, Enter, Alter, Strike, Date, Clear}

abbrev pub entry_of_item : Item → Option Entry
entry_of_item (item.Activity a) = Some (entry.Activity a)
entry_of_item (item.Relation r) = Some (entry.Relation r)
entry_of_item (item.Arrow a) = None

-- start p and finish p name the events of line p; start 0 names event 0, which no date can name
abbrev pub event_of_point : Point → Option ℕ
event_of_point (Start p) = Some (start_of p)
event_of_point (Finish p) = Some (finish_of p)
event_of_point (Node e) = None

abbrev pub arrow_of_item : Item → Option Arrow
arrow_of_item (item.Activity a) = None
arrow_of_item (item.Relation r) = None
arrow_of_item (item.Arrow a) = Some a

abbrev pub node_of_point : Point → Option ℕ
node_of_point (Start p) = None
node_of_point (Finish p) = None
node_of_point (Node e) = Some e

module _ {E : Type 0} (entry_of : Item → Option E) (event_of : Point → Option ℕ) where
  abbrev pub call_of : Form → Option (calls.Call E)
  call_of (Plan k) = None
  call_of (Enter p i) = option_map (calls.enter p) (entry_of i)
  call_of (Alter p i) = option_map (calls.alter p) (entry_of i)
  call_of (Strike p) = Some (calls.strike p)
  call_of (Date q at bound day) = option_map (λ e. calls.date q (record { event = e; bound = bound; day = day })) (event_of at)
  call_of (Clear q) = Some (calls.clear q)

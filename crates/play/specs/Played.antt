-- What a planner hears of a list of plan calls. Assumes nothing.
--     heard_as c           the call, as a planner hears it: issue, reopen and readings write nothing
--     hears_all m cs       what a book that means m means after the calls cs, in their order
--     heard_all cs past    the past, and then the calls cs, the newest first
--     LedTo, RightAfterAll    the promise of a list, whatever past has led to the book
use Rattle.std.specs.Prelude.{◌≡◌, List, [], ◌∷◌, Result}
use Rattle.book.specs.Past.{heard}
use Rattle.book.specs.Rules.{Rule, BookMeaning, network_of}
use Rattle.plan.specs.Issues.{Right}
use Rattle.solver.specs.declared.ring.Ring.{Ring}
use Rattle.solver.specs.declared.times.Times.{Times}
use Rattle.book.specs.Calls as calls
use Rattle.book.specs.Calls.{hears}
use Rattle.play.specs.declared.call.PlanCall.{PlanCall}
use Rattle.play.specs.declared.call.PlanCall.TheVariants.{Enter, Alter, Strike, Date, Clear, Issue, Reopen, IsSound, Earliest, Latest, Length, RingStep, Sheet}

module _ {E : Type 0} where
  abbrev pub heard_as : PlanCall E → calls.Call E
  heard_as (Enter p e) = calls.enter p e
  heard_as (Alter p e) = calls.alter p e
  heard_as (Strike p) = calls.strike p
  heard_as (Date q d) = calls.date q d
  heard_as (Clear q) = calls.clear q
  heard_as Issue = calls.look
  heard_as Reopen = calls.look
  heard_as IsSound = calls.look
  heard_as (Earliest e) = calls.look
  heard_as (Latest e) = calls.look
  heard_as Length = calls.look
  heard_as (RingStep n) = calls.look
  heard_as Sheet = calls.look

  abbrev pub hears_all : BookMeaning E → List (PlanCall E) → BookMeaning E
  hears_all m [] = m
  hears_all m (c ∷ cs) = hears_all (hears m (heard_as c)) cs

  abbrev pub heard_all : List (PlanCall E) → List (calls.Call E) → List (calls.Call E)
  heard_all [] past = past
  heard_all (c ∷ cs) past = heard_all cs (heard_as c ∷ past)

  -- whatever past has led to m, that past and then the calls lead to n
  abbrev pub LedTo : BookMeaning E → BookMeaning E → List (PlanCall E) → Type 0
  LedTo m n cs = (r : Rule E) (past : List (calls.Call E)) → m ≡ heard r past → n ≡ heard r (heard_all cs past)

  -- and the times, or the ring, are right of the gaps of what that past and then the calls have written down
  abbrev pub RightAfterAll : BookMeaning E → List (PlanCall E) → Result Times Ring → Type 0
  RightAfterAll m cs outcome = (r : Rule E) (past : List (calls.Call E)) → m ≡ heard r past → Right (network_of (heard r (heard_all cs past))) outcome

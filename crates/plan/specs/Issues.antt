-- What an issued plan promises against a planner who has heard the same calls. Assumes nothing.
--     Right m outcome         the times are right of m, or the ring proves that m has no schedule
--     RightAfter m outcome    whatever past has led to m, the same holds of the gaps of what that past wrote down
use Rattle.std.specs.Prelude.{◌≡◌, List, Result}
use Rattle.network.specs.Meanings.{Meaning}
use Rattle.book.specs.Rules.{Rule, BookMeaning, network_of}
use Rattle.book.specs.Calls.{Call}
use Rattle.book.specs.Past.{heard}
use Rattle.solver.specs.declared.ring.Ring.{Ring}
use Rattle.solver.specs.declared.times.Times.{Times}
use Rattle.solver.specs.Solutions.{Solved}

-- a contradictory plan has no times at all
abbrev pub Right : Meaning → Result Times Ring → Type 0
Right m outcome = Solved m outcome

abbrev pub RightAfter : {E : Type 0} → BookMeaning E → Result Times Ring → Type 0
RightAfter {E} m outcome = (r : Rule E) (cs : List (Call E)) → m ≡ heard r cs → Right (network_of (heard r cs)) outcome

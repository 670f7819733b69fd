-- The past: what a planner who hears the same calls has written down, never having heard an answer. Assumes nothing.
--     heard r cs      what a book of the rule r means once the calls cs were heard, the newest first
--     InStep m n c    whatever past has led to m, that past and then c leads to n
use Rattle.std.specs.Prelude.{◌≡◌, List, [], ◌∷◌}
use Rattle.book.specs.Rules.{BookMeaning, Rule, blank}
use Rattle.book.specs.Calls.{Call, hears}

abbrev pub heard : {E : Type 0} → Rule E → List (Call E) → BookMeaning E
heard r [] = blank r
heard r (c ∷ cs) = hears (heard r cs) c

abbrev pub InStep : {E : Type 0} → BookMeaning E → BookMeaning E → Call E → Type 0
InStep {E} m n c = (r : Rule E) (cs : List (Call E)) → m ≡ heard r cs → n ≡ heard r (c ∷ cs)

-- What a list of calls comes to, whatever past it follows.
use Rattle.std.proofs.Common.{◌≡◌, List, [], ◌∷◌, refl}
use Rattle.book.specs.Calls.{Call}
use Rattle.book.specs.Past.{heard}
use Rattle.book.specs.Rules.{Rule}
use Rattle.play.specs.declared.call.PlanCall.{PlanCall}
use Rattle.play.specs.Played.{heard_as, hears_all, heard_all}

-- a book that a past has led to means, after the list, what the past and then the list lead to
pub hears-heard : {E : Type 0} (r : Rule E) (past : List (Call E)) (calls : List (PlanCall E)) → hears_all (heard r past) calls ≡ heard r (heard_all calls past)
hears-heard r past [] = refl
hears-heard r past (c ∷ calls) = hears-heard r (heard_as c ∷ past) calls

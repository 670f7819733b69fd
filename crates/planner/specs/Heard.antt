-- A call of the program's list, as a planner hears it. Assumes nothing.
use Rattle.book.specs.Calls as calls
use Rattle.planner.specs.declared.call.Call.{Call}
use Rattle.planner.specs.declared.call.Call.TheVariants.{Enter, Alter, Strike, Date, Clear}

abbrev pub heard_as : {E : Type 0} → Call E → calls.Call E
heard_as (Enter p e) = calls.enter p e
heard_as (Alter p e) = calls.alter p e
heard_as (Strike p) = calls.strike p
heard_as (Date q d) = calls.date q d
heard_as (Clear q) = calls.clear q

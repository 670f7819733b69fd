use Rattle.std.proofs.Common.{◌≡◌, ℕ, ◌<◌, ◌≤◌, false}
use Rattle.table.specs.Standing.{standing}
use Rattle.activity.specs.Rule.{names}
use Rattle.activity.proofs.lines.ActivityLines.is_named.Given as goal

-- no line so far names it
abbrev pub invariant-loop-q : goal.invariant-loop-q
invariant-loop-q l = (q : ℕ) → 1 ≤ q → q < l.q → names (standing l.self.table q) l.p ≡ false

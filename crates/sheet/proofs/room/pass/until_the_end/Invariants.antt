use Rattle.std.proofs.Common.{◌≡◌, ℕ, ◌-◌, ◌<◌, length, get_or}
use Rattle.sheet.specs.Rows.{earliest_told, length_told}
use Rattle.sheet.proofs.room.pass.until_the_end.Given as goal

abbrev pub invariant-loop-event : goal.invariant-loop-event
invariant-loop-event g l =
    (length l.day-items ≡ 1024)
    × ((e : ℕ) → e < l.event → get_or l.day-items e 0 ≡ length_told l.plan.outcome - earliest_told l.plan.outcome e)

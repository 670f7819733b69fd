use Rattle.std.proofs.Common.{◌+◌, ◌≤◌}
use Rattle.book.specs.Rules.{network_of}
use Rattle.sheet.specs.Rooms.{RoomsBy}
use Rattle.sheet.specs.Rows.{earliest_told, length_told}
use Rattle.sheet.proofs.room.pass.rooms_of.Given as goal

-- the places so far
abbrev pub invariant-loop-place : goal.invariant-loop-place
invariant-loop-place g l =
    (l.place ≤ l.place-end + 1)
    × RoomsBy (network_of (g.B.Book.meaning l.plan.book)) (earliest_told l.plan.outcome) (length_told l.plan.outcome) l.place l.rooms.alone.days l.rooms.both.days

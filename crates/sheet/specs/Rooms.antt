-- How far an event can be raised. Assumes nothing.
--     line_of e            the line that has e as its start or its finish
--     counted w l r       a gap from l to r holds l back, where the events of w are raised
--     narrowed_to room z   the room beside a gap of z days of slack
--     Fits .. k           event e can be raised by k days, as far as the places before n ask
--     Rooms ..            each event's room is the greatest such number
--     RoomsBy, RoomsFor   the rooms of an event alone, and of both events of a line, by some of the places or by all
use Rattle.std.specs.Prelude.{◌≡◌, ℕ, ◌+◌, ◌/◌, ◌<◌, ◌≤◌, min, Bool, true, not, List, ℤ, pos, negsuc, ◌+ℤ◌, ◌≤ℤ◌, Some, ◌==◌, slice_index}
use Rattle.network.specs.declared.gap.Gap.{Gap}
use Rattle.network.specs.Meanings.{Meaning}
use Rattle.network.specs.Schedules.{Schedule, length_of}
use Rattle.sheet.specs.Floats.{Greatest}
use Rattle.sheet.specs.declared.span.Moves.{Moves}
use Rattle.sheet.specs.declared.span.Moves.TheVariants.{Finish, Both}

abbrev pub line_of : ℕ → ℕ
line_of e = (e + 1) / 2

abbrev pub counted : Moves → ℕ → ℕ → Bool
counted Finish left reached = not (reached == left)
counted Both left reached = not (line_of reached == line_of left)

abbrev pub narrowed_to : ℕ → ℤ → ℕ
narrowed_to room (pos n) = min n room
narrowed_to room (negsuc n) = 0

module _ (m : Meaning) (t : ℕ → ℕ) (T : ℕ) (w : Moves) (n : ℕ) (e : ℕ) where
  -- with event e k days later, the counted gaps in the places before n are still met, and e is no later than T
  pub record Fits (k : ℕ) : Type 0 where
    pub met : (p : ℕ) (g : Gap) → p < n → m.gap p ≡ Some g → g.left ≡ e → counted w e g.reached ≡ true → (pos (t e + k) +ℤ g.days) ≤ℤ pos (t g.reached)
    pub ends : t e + k ≤ T

-- each event's room, by the places before n
abbrev pub Rooms : Meaning → (ℕ → ℕ) → ℕ → Moves → ℕ → List ℕ → Type 0
Rooms m t T w n rooms = (e : ℕ) → e ≤ m.events → Greatest (Fits m t T w n e) (slice_index rooms e)

-- the rooms of a schedule of length T, by the places before n: of an event alone, and of one with the other event of its line
abbrev pub RoomsBy : Meaning → (ℕ → ℕ) → ℕ → ℕ → List ℕ → List ℕ → Type 0
RoomsBy m t T n alone both =
    Schedule m t → length_of m t ≡ T → Rooms m t T Finish n alone × Rooms m t T Both n both

-- the same, by all places
abbrev pub RoomsFor : Meaning → (ℕ → ℕ) → ℕ → List ℕ → List ℕ → Type 0
RoomsFor m t T alone both = RoomsBy m t T (m.places + 1) alone both

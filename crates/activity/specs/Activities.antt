-- What an activity asks for: its finish at least its days after its start, and, where its pauses have a limit, no later
-- than those days and that limit. Assumes nothing.
use Rattle.std.specs.Prelude.{ℕ, ◌+◌, ◌-◌, ◌*◌, ◌/◌, Bool, pos, neg_ℤ, Some, None, Option, nat_le}
use Rattle.std.specs.Option.{option_map}
use Rattle.network.specs.declared.gap.Gap.{Gap}
use Rattle.activity.specs.declared.entry.Activity.{Activity}
use Rattle.activity.specs.declared.entry.Running.{Running}
use Rattle.activity.specs.declared.entry.Running.TheVariants.{Whole, Broken}
use Rattle.activity.specs.declared.entry.Work.{Work}
use Rattle.activity.specs.declared.entry.Work.TheVariants.{Days, Hours}

-- the events of the activity on line p
abbrev pub start_of : ℕ → ℕ
start_of p = 2 * p - 1

abbrev pub finish_of : ℕ → ℕ
finish_of p = 2 * p

-- hours become days at 8 to the day, rounded up
abbrev pub day_count : Work → ℕ
day_count (Days days) = days
day_count (Hours hours) = (hours + 7) / 8

-- the most days for which an activity may pause; none where there is no limit
abbrev pub longest_pause : Running → Option ℕ
longest_pause Whole = Some 0
longest_pause Broken = None

abbrev pub work_in_range : Work → Bool
work_in_range (Days days) = nat_le days 9999
work_in_range (Hours hours) = nat_le hours 79992

abbrev pub activity_in_range : Activity → Bool
activity_in_range a = work_in_range a.work

-- finish at least start plus days
abbrev pub runs : ℕ → ℕ → Gap
runs p days = record { left = start_of p; reached = finish_of p; days = pos days }

-- start at least finish less days and pause
abbrev pub ends : ℕ → ℕ → ℕ → Gap
ends p days pause = record { left = finish_of p; reached = start_of p; days = neg_ℤ (pos (days + pause)) }

abbrev pub runs_for : ℕ → Activity → Gap
runs_for p a = runs p (day_count a.work)

abbrev pub ends_by : ℕ → Activity → Option Gap
ends_by p a = option_map (ends p (day_count a.work)) (longest_pause a.running)

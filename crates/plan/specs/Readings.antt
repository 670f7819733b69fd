-- What is read of an issued plan, and what a reading is refused with. Assumes nothing.
--     last_event outcome events    the last event that has a time; where none has, the last of the network
--     time_read, of_sound ..       what is read
--     time_told, sound_told ..     what is told of the refusal, by its number
--     StaysInStep m                a reading leaves a book that means m in step with a planner who hears it
use Rattle.std.specs.Prelude.{ℕ, ◌-◌, cond, ◌&&◌, length, Some, None, Ok, Err, Option, Result, nat_le, slice_index_or, ok_or, ◌≡◌}
use Rattle.network.specs.declared.gap.Step.{Step}
use Rattle.book.specs.declared.refusal.Layer.TheVariants.{Plan}
use Rattle.book.specs.declared.refusal.Refusal.{Refusal}
use Rattle.book.specs.declared.refusal.Refusal.TheVariants.{NoSuchEvent, Contradictory, NoSuchStep}
use Rattle.book.specs.declared.refusal.Refused.{Refused}
use Rattle.book.specs.Calls.{look}
use Rattle.book.specs.Past.{InStep}
use Rattle.book.specs.Refusals.{Told}
use Rattle.book.specs.Rules.{BookMeaning}
use Rattle.solver.specs.declared.ring.Ring.{Ring}
use Rattle.solver.specs.declared.times.Times.{Times}
use Rattle.solver.specs.RingSteps.{ring_steps, floor_to}

abbrev pub refused_at : Refusal → ℕ → Refused
refused_at why place = record { why = why; layer = Plan; place = place }

-- of a sound plan, what is asked of its times
abbrev pub of_sound : {T : Type 0} → Result Times Ring → (Times → T) → ℕ → Result T Refused
of_sound (Ok ts) read place = Ok (read ts)
of_sound (Err ring) read place = Err (refused_at Contradictory place)

abbrev pub last_event : Result Times Ring → ℕ → ℕ
last_event (Ok ts) events = ts.events
last_event (Err ring) events = events

-- a time: first whether there is such an event, then whether the plan is sound
abbrev pub time_read : Result Times Ring → ℕ → (Times → ℕ → ℕ) → ℕ → Result ℕ Refused
time_read outcome events t e = cond (nat_le e (last_event outcome events)) (of_sound outcome (λ ts. t ts e) e) (Err (refused_at NoSuchEvent e))

-- the time that a reading of the times finds
abbrev pub TimeBy : Result Times Ring → ℕ → (Times → Option ℕ → Type 0) → ℕ → Result ℕ Refused → Type 0
TimeBy (Ok ts) events Reads e answer = (o : Option ℕ) × Reads ts o × (answer ≡ ok_or o (refused_at NoSuchEvent e))
TimeBy (Err ring) events Reads e answer = answer ≡ cond (nat_le e events) (Err (refused_at Contradictory e)) (Err (refused_at NoSuchEvent e))

-- how many steps the ring has; none where the plan is sound
abbrev pub step_count : Result Times Ring → ℕ
step_count (Ok ts) = 0
step_count (Err ring) = length (ring_steps ring)

-- a step of the ring, numbered from 1
abbrev pub step_read : Result Times Ring → ℕ → Result Step Refused
step_read (Ok ts) n = Err (refused_at NoSuchStep n)
step_read (Err ring) n = cond (nat_le 1 n && nat_le n (length (ring_steps ring))) (Ok (slice_index_or (ring_steps ring) (n - 1) (floor_to 0))) (Err (refused_at NoSuchStep n))

-- the refusals by their numbers: 8 where there is no such event, then 9 where the plan is contradictory
abbrev pub sound_told : Result Times Ring → ℕ → Option Told
sound_told (Ok ts) place = None
sound_told (Err ring) place = Some (record { number = 9; layer = Plan; place = place })

abbrev pub time_told : Result Times Ring → ℕ → ℕ → Option Told
time_told outcome events e = cond (nat_le e (last_event outcome events)) (sound_told outcome e) (Some (record { number = 8; layer = Plan; place = e }))

-- 10 where there is no such step
abbrev pub step_told : Result Times Ring → ℕ → Option Told
step_told outcome n = cond (nat_le 1 n && nat_le n (step_count outcome)) None (Some (record { number = 10; layer = Plan; place = n }))

-- whatever past has led to m, that past and then a reading lead to m
abbrev pub StaysInStep : {E : Type 0} → BookMeaning E → Type 0
StaysInStep m = InStep m m look

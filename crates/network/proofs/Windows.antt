-- The least schedule and the greatest of its length make right windows. Assumes nothing.
use Rattle.std.proofs.Common.{◌≡◌, ℕ, ◌-◌, ◌≤◌, max, arith}
use Rattle.std.proofs.lemmas.Int.{ints}
use Rattle.network.specs.Meanings.{Meaning}
use Rattle.network.specs.Schedules.{Schedule, length_of, Possible, Sound}
use Rattle.network.proofs.Lengths.{greatest_bounds, greatest_least, greatest_grows}

-- two schedules, the later moved back by k days, joined by the later time of each event
abbrev joined : (ℕ → ℕ) → (ℕ → ℕ) → ℕ → ℕ → ℕ
joined E L k v = max (E v) (L v - k)

module _ (m : Meaning) (E L : ℕ → ℕ) (T : ℕ) (early : Schedule m E) (late : Schedule m L) where
  joined_schedule : (k : ℕ) → Schedule m (joined E L k)
  joined_schedule k = record {
    begins = let e = early.begins in let l = late.begins in omega arith;
    meets = λ p g at. let e = early.meets p g at in let l = late.meets p g at in omega (arith, ints);
  }

  module _ (early-long : length_of m E ≡ T) (late-long : length_of m L ≡ T) where
    -- each day of a window is possible
    window_possible : (e d : ℕ) → e ≤ m.events → E e ≤ d → d ≤ L e → Possible m T e d
    window_possible e d h low high =
        let k = L e - d in
        let over = greatest_grows E (joined E L k) m.events (λ v _. omega arith) in
        let under = greatest_least (joined E L k) m.events T (λ v hv. let x = greatest_bounds E m.events v hv in let y = greatest_bounds L m.events v hv in omega arith) in
        record {
          times = joined E L k;
          schedule = joined_schedule k;
          long = omega arith;
          there = omega arith;
        }

    pub windows_sound : ((t : ℕ → ℕ) → Schedule m t → (e : ℕ) → e ≤ m.events → E e ≤ t e)
        → ((t : ℕ → ℕ) → Schedule m t → length_of m t ≡ T → (e : ℕ) → e ≤ m.events → t e ≤ L e)
        → Sound m E L T
    windows_sound least greatest-of = record {
      earliest = early;
      latest = late;
      earliest_long = early-long;
      latest_long = late-long;
      no_earlier = least;
      no_shorter = λ t keeps. let grows = greatest_grows E t m.events (least t keeps) in omega arith;
      no_later = greatest-of;
      possible = window_possible;
      impossible = λ e d h some. let low = least some.times some.schedule e h in let high = greatest-of some.times some.schedule some.long e h in let at = some.there in (omega arith, omega arith);
    }

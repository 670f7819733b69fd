-- Schedules of a network, their lengths, and what makes times right. Assumes nothing.
--     Meets t g         the times t meet the gap g
--     Schedule m t      t is a schedule of m: event 0 at 0, and every gap met
--     length_of m t      the greatest time of an event of m
--     Sound m E L T     E and L are the earliest and the latest times of m, and T is its length
use Rattle.std.specs.Prelude.{◌≡◌, ℕ, zero, suc, ◌≤◌, max, pos, ◌+ℤ◌, ◌≤ℤ◌, Some}
use Rattle.network.specs.declared.gap.Gap.{Gap}
use Rattle.network.specs.Meanings.{Meaning}

abbrev pub Meets : (ℕ → ℕ) → Gap → Type 0
Meets t g = (pos (t g.left) +ℤ g.days) ≤ℤ pos (t g.reached)

-- a natural number for each event, so that none is below 0
pub record Schedule (m : Meaning) (t : ℕ → ℕ) : Type 0 where
  pub begins : t 0 ≡ 0
  pub meets : (p : ℕ) (g : Gap) → m.gap p ≡ Some g → Meets t g

-- the greatest of the times of events 0 to n
unfoldable pub greatest : (ℕ → ℕ) → ℕ → ℕ
greatest t zero = t 0
greatest t (suc n) = max (t (suc n)) (greatest t n)

abbrev pub length_of : Meaning → (ℕ → ℕ) → ℕ
length_of m t = greatest t m.events

-- some schedule of length T has event e on day d
pub record Possible (m : Meaning) (T e d : ℕ) : Type 0 where
  pub times : ℕ → ℕ
  pub schedule : Schedule m times
  pub long : length_of m times ≡ T
  pub there : times e ≡ d

pub record Sound (m : Meaning) (E L : ℕ → ℕ) (T : ℕ) : Type 0 where
  -- both are schedules of length T
  pub earliest : Schedule m E
  pub latest : Schedule m L
  pub earliest_long : length_of m E ≡ T
  pub latest_long : length_of m L ≡ T
  -- every schedule has each event at its earliest or later, and is at least as long
  pub no_earlier : (t : ℕ → ℕ) → Schedule m t → (e : ℕ) → e ≤ m.events → E e ≤ t e
  pub no_shorter : (t : ℕ → ℕ) → Schedule m t → T ≤ length_of m t
  -- every schedule of length T has each event at its latest or earlier
  pub no_later : (t : ℕ → ℕ) → Schedule m t → length_of m t ≡ T → (e : ℕ) → e ≤ m.events → t e ≤ L e
  -- a day is possible exactly when it lies from earliest to latest
  pub possible : (e d : ℕ) → e ≤ m.events → E e ≤ d → d ≤ L e → Possible m T e d
  pub impossible : (e d : ℕ) → e ≤ m.events → Possible m T e d → (E e ≤ d) × (d ≤ L e)

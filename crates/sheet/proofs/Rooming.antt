-- The room of each event, place by place. Assumes nothing.
use Rattle.std.proofs.Common.{◌≡◌, ℕ, ◌+◌, ◌-◌, ◌<◌, ◌≤◌, true, false, cond, List, length, get_or, set, ℤ, pos, negsuc, ◌+ℤ◌, ◌-ℤ◌, ◌≤ℤ◌, Some, None, Option, sym, ap, ◌∙◌, subst, ⊎_elim, arith}
use Rattle.std.proofs.lemmas.List.{get_or-set_same, get_or-set_other}
use Rattle.std.proofs.lemmas.Int.{ints}
use Rattle.std.proofs.lemmas.Bool.{cases_eq, cases_Bool, cond-true, cond-false}
use Rattle.network.specs.declared.gap.Gap.{Gap}
use Rattle.network.specs.Meanings.{Meaning}
use Rattle.network.specs.Schedules.{Schedule, Meets, length_of}
use Rattle.network.proofs.Lengths.{greatest_bounds}
use Rattle.book.proofs.Options.{none_is_not}
use Rattle.sheet.specs.declared.span.Moves.{Moves}
use Rattle.sheet.specs.Floats.{Greatest}
use Rattle.sheet.specs.Rooms.{counted, narrowed_to, Fits, Rooms}

-- a place holds one gap
some_same : (g h : Gap) → ◌≡◌ {A = Option Gap} (Some g) (Some h) → g ≡ h
some_same g h e = cc

true_not_false : true ≡ false → ⊥
true_not_false e = let z : ◌≡◌ {A = ℕ} 0 1 = cc in omega arith

module _ (m : Meaning) (t : ℕ → ℕ) (T : ℕ) (w : Moves) where
  -- before the first place, an event can be raised to the end
  pub rooms_start : Schedule m t → length_of m t ≡ T → m.gap 0 ≡ None → (rooms : List ℕ) → ((e : ℕ) → e ≤ m.events → get_or rooms e 0 ≡ T - t e) → Rooms m t T w 1 rooms
  rooms_start keeps long none rooms start e h =
      let early = greatest_bounds t m.events e h in
      let is = start e h in
      record {
        holds = record { met = λ p g low at. absurd (none_is_not g (sym none ∙ ap m.gap (let same : 0 ≡ p = omega arith in same) ∙ at)); ends = omega arith };
        most = λ j fits. let x = fits.ends in omega arith;
      }

  -- a place that holds nothing leaves the rooms as they are
  pub rooms_none : (n : ℕ) → m.gap n ≡ None → (rooms : List ℕ) → Rooms m t T w n rooms → Rooms m t T w (n + 1) rooms
  rooms_none n none rooms was e h =
      let room = was e h in
      record {
        holds = record {
          met = λ p g low at. ⊎_elim
              (λ (same : p ≡ n). absurd (none_is_not g (sym none ∙ ap m.gap (sym same) ∙ at)))
              (λ (other : p ≡ n → ⊥). room.holds.met p g (omega arith) at)
              (cases_eq p n);
          ends = room.holds.ends;
        };
        most = λ j fits. room.most j (record { met = λ p g low at. fits.met p g (omega arith) at; ends = fits.ends });
      }

  -- the slack of a gap that is met
  slack_nat : (g : Gap) → Meets t g → (z : ℤ) → z ≡ ((pos (t g.reached) -ℤ pos (t g.left)) -ℤ g.days) → (room : ℕ)
      → ((pos (t g.left + narrowed_to room z) +ℤ g.days) ≤ℤ pos (t g.reached)) × ((narrowed_to room z ≤ room) × ((j : ℕ) → j ≤ room → (pos (t g.left + j) +ℤ g.days) ≤ℤ pos (t g.reached) → j ≤ narrowed_to room z))
  slack_nat g met (pos n) is room = (omega (arith, ints), (omega arith, λ j low fits. omega (arith, ints)))
  slack_nat g met (negsuc n) is room = absurd (omega (arith, ints))

  module _ (n : ℕ) (g : Gap) (there : m.gap n ≡ Some g) (e : ℕ) where
    abbrev Here : ℕ → Type 0
    Here k = g.left ≡ e → counted w e g.reached ≡ true → (pos (t e + k) +ℤ g.days) ≤ℤ pos (t g.reached)

    -- one place more, with a gap in it
    fits_more : (k : ℕ) → Fits m t T w n e k → Here k → Fits m t T w (n + 1) e k
    fits_more k was here = record {
      met = λ p h low at. ⊎_elim
          (λ (same : p ≡ n). let is : g ≡ h = some_same g h (sym there ∙ ap m.gap (sym same) ∙ at) in subst (λ x. x.left ≡ e → counted w e x.reached ≡ true → (pos (t e + k) +ℤ x.days) ≤ℤ pos (t x.reached)) is here)
          (λ (other : p ≡ n → ⊥). was.met p h (omega arith) at)
          (cases_eq p n);
      ends = was.ends;
    }

    fits_less : (k : ℕ) → Fits m t T w (n + 1) e k → Fits m t T w n e k × Here k
    fits_less k fits = (record { met = λ p h low at. fits.met p h (omega arith) at; ends = fits.ends }, λ leaves counts. fits.met n g (omega arith) there leaves counts)

    -- the gap leaves another event, or holds nothing back
    room_same : (k : ℕ) → (g.left ≡ e → counted w e g.reached ≡ true → ⊥) → Greatest (Fits m t T w n e) k → Greatest (Fits m t T w (n + 1) e) k
    room_same k free was = record {
      holds = fits_more k was.holds (λ leaves counts. absurd (free leaves counts));
      most = λ j fits. was.most j (fits_less j fits).0;
    }

    room_less : (z : ℤ) → z ≡ ((pos (t g.reached) -ℤ pos (t g.left)) -ℤ g.days) → Meets t g → g.left ≡ e → counted w e g.reached ≡ true → (k : ℕ) → Greatest (Fits m t T w n e) k → Greatest (Fits m t T w (n + 1) e) (narrowed_to k z)
    room_less z is met leaves counts k was =
        let s = slack_nat g met z is k in
        let at : t g.left ≡ t e = ap t leaves in
        let shorter = s.1.0 in
        record {
          holds = fits_more (narrowed_to k z)
              (record { met = λ p h low there l c. let x = was.holds.met p h low there l c in omega (arith, ints); ends = let x = was.holds.ends in omega arith })
              (λ l c. let x = s.0 in omega (arith, ints));
          most = λ j fits. let both = fits_less j fits in s.1.1 j (was.most j both.0) (let x = both.1 leaves counts in omega (arith, ints));
        }

  -- a gap narrows the room of the event that it leaves, where it holds it back
  pub rooms_gap : (n : ℕ) (g : Gap) → m.gap n ≡ Some g → Meets t g → (z : ℤ) → z ≡ ((pos (t g.reached) -ℤ pos (t g.left)) -ℤ g.days)
      → (rooms rooms' : List ℕ) → g.left < length rooms → rooms' ≡ cond (counted w g.left g.reached) (set rooms g.left (narrowed_to (get_or rooms g.left 0) z)) rooms
      → Rooms m t T w n rooms → Rooms m t T w (n + 1) rooms'
  rooms_gap n g there met z is rooms rooms' inside new was e h = ⊎_elim
      (λ (counts : counted w g.left g.reached ≡ true).
      let written : rooms' ≡ set rooms g.left (narrowed_to (get_or rooms g.left 0) z) = new ∙ cond-true (counted w g.left g.reached) _ _ counts in
      ⊎_elim
      (λ (same : g.left ≡ e).
      let k = get_or rooms e 0 in
      let now : get_or rooms' e 0 ≡ narrowed_to k z = ap (λ xs. get_or xs e 0) written ∙ ap (λ x. get_or (set rooms x (narrowed_to (get_or rooms x 0) z)) e 0) same ∙ get_or-set_same rooms e (narrowed_to k z) 0 (subst (λ x. x < length rooms) same inside) in
      subst (Greatest (Fits m t T w (n + 1) e)) (sym now) (room_less n g there e z is met same (subst (λ x. counted w x g.reached ≡ true) same counts) k (was e h)))
      (λ (other : g.left ≡ e → ⊥).
      let now : get_or rooms' e 0 ≡ get_or rooms e 0 = ap (λ xs. get_or xs e 0) written ∙ get_or-set_other rooms g.left e (narrowed_to (get_or rooms g.left 0) z) 0 (λ x. other (sym x)) in
      subst (Greatest (Fits m t T w (n + 1) e)) (sym now) (room_same n g there e (get_or rooms e 0) (λ l c. other l) (was e h)))
      (cases_eq g.left e))
      (λ (not : counted w g.left g.reached ≡ false).
      let kept : rooms' ≡ rooms = new ∙ cond-false (counted w g.left g.reached) _ _ not in
      subst (λ xs. Greatest (Fits m t T w (n + 1) e) (get_or xs e 0)) (sym kept)
      (room_same n g there e (get_or rooms e 0) (λ l c. true_not_false (sym c ∙ ap (λ x. counted w x g.reached) (sym l) ∙ not)) (was e h)))
      (cases_Bool (counted w g.left g.reached))

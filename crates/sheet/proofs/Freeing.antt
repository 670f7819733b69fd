-- The rooms of an activity's events yield its free float. Assumes nothing.
use Rattle.std.proofs.Common.{◌≡◌, ℕ, ◌+◌, ◌<◌, ◌≤◌, min, true, false, not, eqb, ◌⊎◌, List, get_or, Some, sym, refl, ap, ◌∙◌, subst, inl, inr, ⊎_elim, arith}
use Rattle.std.proofs.lemmas.Int.{ints}
use Rattle.std.proofs.lemmas.Bool.{cases_Bool, cases_eq, cases_lt, cond-true, cond-false, eqb-true, eqb-false, eq-eqb, ne_eqb, or_cases, or_left, or_right, or_from}
use Rattle.network.specs.declared.gap.Gap.{Gap}
use Rattle.network.specs.Meanings.{Meaning, Lawful}
use Rattle.network.specs.Schedules.{Schedule, length_of}
use Rattle.network.proofs.Lengths.{greatest_bounds, greatest_least, greatest_grows}
use Rattle.book.proofs.Options.{none_is_not}
use Rattle.activity.specs.Activities.{start_of, finish_of}
use Rattle.sheet.specs.declared.span.Moves.{Moves}
use Rattle.sheet.specs.declared.span.Moves.TheVariants.{Finish, Both}
use Rattle.sheet.specs.Floats.{Greatest, is_moved, raised, Raisable}
use Rattle.sheet.specs.Rooms.{line_of, counted, Fits, Rooms}

true_not_false : true ≡ false → ⊥
true_not_false e = let z : ◌≡◌ {A = ℕ} 0 1 = cc in omega arith

-- the events of line p
moved_line : (w : Moves) (p e : ℕ) → is_moved w p e ≡ true → (e ≡ finish_of p) ⊎ (e ≡ start_of p)
moved_line Finish p e is = inl (eqb-true e (finish_of p) is)
moved_line Both p e is = ⊎_elim
    (λ (a : eqb e (finish_of p) ≡ true). inl (eqb-true e (finish_of p) a))
    (λ (b : eqb e (start_of p) ≡ true). inr (eqb-true e (start_of p) b))
    (or_cases (eqb e (finish_of p)) (eqb e (start_of p)) is)

same_line : (p r : ℕ) → 1 ≤ p → eqb (line_of r) p ≡ is_moved Both p r
same_line p r low = ⊎_elim
    (λ (yes : eqb (line_of r) p ≡ true).
    let here = eqb-true (line_of r) p yes in
    yes ∙ sym (⊎_elim
    (λ (f : r ≡ finish_of p). or_left (eqb r (finish_of p)) (eqb r (start_of p)) (eq-eqb r (finish_of p) f))
    (λ (o : r ≡ finish_of p → ⊥). or_right (eqb r (finish_of p)) (eqb r (start_of p)) (eq-eqb r (start_of p) (omega arith)))
    (cases_eq r (finish_of p))))
    (λ (other : eqb (line_of r) p ≡ false).
    let away = eqb-false (line_of r) p other in
    other ∙ sym (or_from (eqb r (finish_of p)) (eqb r (start_of p))
    (ne_eqb r (finish_of p) (λ f. away (omega arith)))
    (ne_eqb r (start_of p) (λ f. away (omega arith)))))
    (cases_Bool (eqb (line_of r) p))

-- a gap holds a moved event back exactly where it reaches one that is not moved
moved_counted : (w : Moves) (p e r : ℕ) → 1 ≤ p → is_moved w p e ≡ true → counted w e r ≡ not (is_moved w p r)
moved_counted Finish p e r low is = ap (λ x. not (eqb r x)) (eqb-true e (finish_of p) is)
moved_counted Both p e r low is =
    let line : line_of e ≡ p = ⊎_elim (λ (f : e ≡ finish_of p). omega arith) (λ (s : e ≡ start_of p). omega arith) (moved_line Both p e is) in
    ap (λ x. not (eqb (line_of r) x)) line ∙ ap not (same_line p r low)

module _ (m : Meaning) (lawful : Lawful m) (t : ℕ → ℕ) (T : ℕ) (keeps : Schedule m t) (long : length_of m t ≡ T) (w : Moves) (p : ℕ) (low : 1 ≤ p) (high : finish_of p ≤ m.events) where
  abbrev Line : ℕ → ℕ → Type 0
  Line = Fits m t T w (m.places + 1)

  -- a gap lies in one of the places
  inside : (q : ℕ) (g : Gap) → m.gap q ≡ Some g → q < m.places + 1
  inside q g at = ⊎_elim
      (λ (h : q < m.places + 1). h)
      (λ (h : m.places + 1 ≤ q). absurd (none_is_not g (sym (lawful.nothing_outside q (inr (omega arith))) ∙ at)))
      (cases_lt q (m.places + 1))

  at_moved : (k e : ℕ) → is_moved w p e ≡ true → raised w p t k e ≡ t e + k
  at_moved k e is = cond-true (is_moved w p e) _ _ is

  at_other : (k e : ℕ) → is_moved w p e ≡ false → raised w p t k e ≡ t e
  at_other k e is = cond-false (is_moved w p e) _ _ is

  counts : (e r : ℕ) → is_moved w p e ≡ true → is_moved w p r ≡ false → counted w e r ≡ true
  counts e r is other = moved_counted w p e r low is ∙ ap not other

  not_moved : (e r : ℕ) → is_moved w p e ≡ true → counted w e r ≡ true → is_moved w p r ≡ false
  not_moved e r is held = ⊎_elim
      (λ (yes : is_moved w p r ≡ true). absurd (true_not_false (sym held ∙ moved_counted w p e r low is ∙ ap not yes)))
      (λ (other : is_moved w p r ≡ false). other)
      (cases_Bool (is_moved w p r))

  moved_inside : (e : ℕ) → is_moved w p e ≡ true → e ≤ m.events
  moved_inside e is = ⊎_elim (λ (f : e ≡ finish_of p). omega arith) (λ (s : e ≡ start_of p). omega arith) (moved_line w p e is)

  moved_late : (e : ℕ) → is_moved w p e ≡ true → 1 ≤ e
  moved_late e is = ⊎_elim (λ (f : e ≡ finish_of p). omega arith) (λ (s : e ≡ start_of p). omega arith) (moved_line w p e is)

  ne_moved : (e : ℕ) → e ≤ 0 → is_moved w p e ≡ false
  ne_moved e none = ⊎_elim
      (λ (is : is_moved w p e ≡ true). absurd (let x = moved_late e is in omega arith))
      (λ (other : is_moved w p e ≡ false). other)
      (cases_Bool (is_moved w p e))

  grows : (k e : ℕ) → t e ≤ raised w p t k e
  grows k e = ⊎_elim
      (λ (is : is_moved w p e ≡ true). let x = at_moved k e is in omega arith)
      (λ (other : is_moved w p e ≡ false). let x = at_other k e other in omega arith)
      (cases_Bool (is_moved w p e))

  -- what leaves a schedule of the same length leaves room at each moved event
  to_fits : (k : ℕ) → Raisable m t T w p k → (e : ℕ) → is_moved w p e ≡ true → Line e k
  to_fits k can e is = record {
    met = λ q g below at leaves held.
        let still : is_moved w p g.reached ≡ false = not_moved e g.reached is held in
        let here : raised w p t k g.left ≡ t e + k = ap (raised w p t k) leaves ∙ at_moved k e is in
        let there : raised w p t k g.reached ≡ t g.reached = at_other k g.reached still in
        let met = can.schedule.meets q g at in
        omega (arith, ints);
    ends =
        let x = greatest_bounds (raised w p t k) m.events e (moved_inside e is) in
        let y = at_moved k e is in
        let z = can.long in
        omega arith;
  }

  -- and room at each moved event leaves a schedule of the same length
  from_fits : (k : ℕ) → ((e : ℕ) → is_moved w p e ≡ true → Line e k) → Raisable m t T w p k
  from_fits k room = record {
    schedule = record {
      begins = at_other k 0 (ne_moved 0 (omega arith)) ∙ keeps.begins;
      meets = λ q g at.
          let met = keeps.meets q g at in
          ⊎_elim
          (λ (l : is_moved w p g.left ≡ true).
          let here = at_moved k g.left l in
          ⊎_elim
          (λ (r : is_moved w p g.reached ≡ true). let there = at_moved k g.reached r in omega (arith, ints))
          (λ (r : is_moved w p g.reached ≡ false).
          let there = at_other k g.reached r in
          let x = (room g.left l).met q g (inside q g at) at refl (counts g.left g.reached l r) in
          omega (arith, ints))
          (cases_Bool (is_moved w p g.reached)))
          (λ (l : is_moved w p g.left ≡ false).
          let here = at_other k g.left l in
          let there = grows k g.reached in
          omega (arith, ints))
          (cases_Bool (is_moved w p g.left));
    };
    long =
        let over = greatest_grows t (raised w p t k) m.events (λ e h. grows k e) in
        let under = greatest_least (raised w p t k) m.events T (λ e h. ⊎_elim
        (λ (is : is_moved w p e ≡ true). let x = at_moved k e is in let y = (room e is).ends in omega arith)
        (λ (other : is_moved w p e ≡ false). let x = at_other k e other in let y = greatest_bounds t m.events e h in omega arith)
        (cases_Bool (is_moved w p e))) in
        omega arith;
  }

  fits_down : (e k j : ℕ) → j ≤ k → Line e k → Line e j
  fits_down e k j less fits = record {
    met = λ q g below at leaves held. let x = fits.met q g below at leaves held in omega (arith, ints);
    ends = let x = fits.ends in omega arith;
  }

-- the free float by the rooms: of the finish alone, or the lesser of both events'
module _ (m : Meaning) (lawful : Lawful m) (t : ℕ → ℕ) (T : ℕ) (keeps : Schedule m t) (long : length_of m t ≡ T) (p : ℕ) (low : 1 ≤ p) (high : finish_of p ≤ m.events) where
  pub free_alone : (alone : List ℕ) → Rooms m t T Finish (m.places + 1) alone → Greatest (Raisable m t T Finish p) (get_or alone (finish_of p) 0)
  free_alone alone rooms =
      let room = rooms (finish_of p) high in
      record {
        holds = from_fits m lawful t T keeps long Finish p low high (get_or alone (finish_of p) 0) (λ e is. subst (λ x. Fits m t T Finish (m.places + 1) x (get_or alone (finish_of p) 0)) (sym (eqb-true e (finish_of p) is)) room.holds);
        most = λ j can. room.most j (to_fits m lawful t T keeps long Finish p low high j can (finish_of p) (eq-eqb (finish_of p) (finish_of p) refl));
      }

  pub free_both : (both : List ℕ) → Rooms m t T Both (m.places + 1) both → Greatest (Raisable m t T Both p) (min (get_or both (start_of p) 0) (get_or both (finish_of p) 0))
  free_both both rooms =
      let f = rooms (finish_of p) high in
      let s = rooms (start_of p) (omega arith) in
      let k = min (get_or both (start_of p) 0) (get_or both (finish_of p) 0) in
      record {
        holds = from_fits m lawful t T keeps long Both p low high k (λ e is. ⊎_elim
            (λ (x : e ≡ finish_of p). subst (λ y. Fits m t T Both (m.places + 1) y k) (sym x) (fits_down m lawful t T keeps long Both p low high (finish_of p) (get_or both (finish_of p) 0) k (omega arith) f.holds))
            (λ (x : e ≡ start_of p). subst (λ y. Fits m t T Both (m.places + 1) y k) (sym x) (fits_down m lawful t T keeps long Both p low high (start_of p) (get_or both (start_of p) 0) k (omega arith) s.holds))
            (moved_line Both p e is));
        most = λ j can.
            let x = f.most j (to_fits m lawful t T keeps long Both p low high j can (finish_of p) (or_left (eqb (finish_of p) (finish_of p)) (eqb (finish_of p) (start_of p)) (eq-eqb (finish_of p) (finish_of p) refl))) in
            let y = s.most j (to_fits m lawful t T keeps long Both p low high j can (start_of p) (or_right (eqb (start_of p) (finish_of p)) (eqb (start_of p) (start_of p)) (eq-eqb (start_of p) (start_of p) refl))) in
            omega arith;
      }

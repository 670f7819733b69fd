-- The steps of a ring, one after another. Assumes nothing.
use Rattle.std.proofs.Common.{◌≡◌, ℕ, ◌+◌, ◌-◌, ◌<◌, ◌≤◌, true, false, ◌&&◌, leb, [], ◌∷◌, ◌++◌, map, length, get_or, drop, Ok, Err, Result, sym, ap, ◌∙◌, ⊎_elim, arith}
use Rattle.std.proofs.lemmas.List.{at_drop_more, at_drop_all}
use Rattle.std.proofs.lemmas.Bool.{cases_Bool, and_from, and_parts, le-leb, leb-true, cond-true, cond-false, cases_lt}
use Rattle.network.specs.declared.gap.Step.{Step}
use Rattle.network.specs.Meanings.{Meaning}
use Rattle.book.specs.declared.refusal.Refused.{Refused}
use Rattle.plan.specs.Readings.{step_read}
use Rattle.solver.specs.declared.ring.Ring.{Ring}
use Rattle.solver.specs.declared.times.Times.{Times}
use Rattle.solver.specs.RingSteps.{ring_steps, floor_to}
use Rattle.solver.proofs.Climbing.{last_first_length}
use Rattle.sheet_forms.specs.declared.form.SheetForm.TheVariants as form
use Rattle.sheet.specs.Sheets.{owned}
use Rattle.sheet.specs.Walking.{steps_left}
use Rattle.sheet.specs.Strides.{StepReady}

-- a ring has at most 1,024 steps
pub few_steps : (outcome : Result Times Ring) (n : ℕ) → StepReady outcome n → n ≤ 1024
few_steps (Ok ts) n ready = absurd ready
few_steps (Err r) n ready = let size = last_first_length r.steps r.count in let few = r.few in omega arith

ok_not_err : {A B : Type 0} (x : A) (y : B) → ◌≡◌ {A = Result A B} (Ok x) (Err y) → ⊥
ok_not_err x y e = let z : ◌≡◌ {A = ℕ} 0 1 = cc in omega arith

ok_same : (x y : Step) → ◌≡◌ {A = Result Step Refused} (Ok x) (Ok y) → x ≡ y
ok_same x y e = cc

module _ (m : Meaning) where
  pub step_there : (outcome : Result Times Ring) (n : ℕ) → StepReady outcome n → (s : Step) → step_read outcome (n + 1) ≡ Ok s
      → (steps_left m outcome n ≡ owned m s ∷ steps_left m outcome (n + 1)) × StepReady outcome (n + 1)
  step_there (Ok ts) n ready s read = absurd ready
  step_there (Err r) n ready s read =
      let steps = ring_steps r in
      let test = leb 1 (n + 1) && leb (n + 1) (length steps) in
      ⊎_elim
      (λ (yes : test ≡ true).
      let inside : n < length steps = (let x = leb-true (n + 1) (length steps) (and_parts (leb 1 (n + 1)) (leb (n + 1) (length steps)) yes).1 in omega arith) in
      let before : n + 1 - 1 ≡ n = omega arith in
      let is : get_or steps n (floor_to 0) ≡ s = ap (λ i. get_or steps i (floor_to 0)) (sym before) ∙ ok_same _ s (sym (cond-true test _ _ yes) ∙ read) in
      let more : map (owned m) (drop n steps) ++ (form.End (length steps) ∷ []) ≡ owned m (get_or steps n (floor_to 0)) ∷ (map (owned m) (drop (n + 1) steps) ++ (form.End (length steps) ∷ [])) =
      at_drop_more (λ xs. map (owned m) xs ++ (form.End (length steps) ∷ [])) steps n (floor_to 0) inside in
      (more ∙ ap (λ x. owned m x ∷ (map (owned m) (drop (n + 1) steps) ++ (form.End (length steps) ∷ []))) is, omega arith))
      (λ (other : test ≡ false). absurd (ok_not_err s _ (sym read ∙ cond-false test _ _ other)))
      (cases_Bool test)

  pub step_past : (outcome : Result Times Ring) (n : ℕ) → StepReady outcome n → (k : Refused) → step_read outcome (n + 1) ≡ Err k → steps_left m outcome n ≡ form.End n ∷ []
  step_past (Ok ts) n ready k read = absurd ready
  step_past (Err r) n ready k read =
      let steps = ring_steps r in
      let test = leb 1 (n + 1) && leb (n + 1) (length steps) in
      ⊎_elim
      (λ (h : n < length steps). absurd (ok_not_err _ k (sym (cond-true test _ _ (and_from (leb 1 (n + 1)) (leb (n + 1) (length steps)) (le-leb 1 (n + 1) (omega arith)) (le-leb (n + 1) (length steps) (omega arith)))) ∙ read)))
      (λ (h : length steps ≤ n).
      let all : length steps ≡ n = omega arith in
      let none : map (owned m) (drop n steps) ++ (form.End (length steps) ∷ []) ≡ form.End (length steps) ∷ [] = at_drop_all (λ xs. map (owned m) xs ++ (form.End (length steps) ∷ [])) steps n h in
      none ∙ ap (λ c. form.End c ∷ []) all)
      (cases_lt n (length steps))

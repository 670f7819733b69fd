-- A ring of more than 0 days leaves no schedule. Assumes nothing.
use Rattle.std.proofs.Common.{ℕ, List, [], ◌∷◌, pos, ◌+ℤ◌, ◌≤ℤ◌, ◌<ℤ◌, ap, inl, inr, arith}
use Rattle.std.proofs.lemmas.Int.{ints}
use Rattle.network.specs.declared.gap.Step.{Step}
use Rattle.network.specs.Meanings.{Meaning}
use Rattle.network.specs.Schedules.{Schedule, Meets}
use Rattle.network.specs.Rings.{StepOf, Leads, sum_days}

module _ (m : Meaning) (t : ℕ → ℕ) (keeps : Schedule m t) where
  -- a schedule meets every step, a floor too
  step_met : (s : Step) → StepOf m s → Meets t s.gap
  step_met s (inl e) = keeps.meets s.place s.gap e
  step_met s (inr f) =
      let begins = keeps.begins in
      let leaves = ap t f.1.leaves in
      let none = f.1.none in
      omega (arith, ints)

  -- steps from u to v put v their days after u
  pub leads_later : (u : ℕ) (ss : List Step) (v : ℕ) → Leads m u ss v → (pos (t u) +ℤ sum_days ss) ≤ℤ pos (t v)
  leads_later u [] v e = let same = ap t e in omega (arith, ints)
  leads_later u (s ∷ ss) v way =
      let here = step_met s way.0 in
      let left = ap t way.1 in
      let rest = leads_later s.gap.reached ss v way.2 in
      omega (arith, ints)

  pub no_ring : (u : ℕ) (ss : List Step) → Leads m u ss u → pos 0 <ℤ sum_days ss → ⊥
  no_ring u ss way more = let later = leads_later u ss u way in omega (arith, ints)

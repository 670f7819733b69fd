-- Times that have not risen yet. Assumes nothing.
use Rattle.std.proofs.Common.{◌≡◌, ℕ, ◌≤◌, inl, arith}
use Rattle.network.specs.Schedules.{greatest}
use Rattle.network.proofs.Lengths.{greatest_least}
use Rattle.solver.specs.declared.arcs.Arcs.{Arcs}
use Rattle.solver.specs.declared.rise.Rise.{Rise}
use Rattle.solver.specs.Rising.{time_at, Rising}
use Rattle.solver.specs.Walks.{Risen}

module _ (arcs : Arcs) (rise : Rise) (times : (e : ℕ) → time_at rise.times e ≡ 0) (parents : (e : ℕ) → time_at rise.parents e ≡ 0) where
  pub rising_none : Rising arcs (λ _. 0) (time_at rise.times) (time_at rise.parents)
  rising_none = record {
    above = λ e h. omega arith;
    least = λ s over keeps e h. let x = times e in omega arith;
    order = λ _. 0;
    held = λ e h. inl (parents e, times e);
  }

  pub risen_none : Risen arcs rise
  risen_none = record { start = λ _. 0; starts = λ e h. omega arith; rising = rising_none }

  pub none_late : greatest (time_at rise.times) arcs.events ≤ 204800000
  none_late = greatest_least (time_at rise.times) arcs.events 204800000 (λ e h. let x = times e in omega arith)

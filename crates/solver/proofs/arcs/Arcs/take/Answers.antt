use Rattle.std.proofs.Common.{◌≡◌, ◌+◌, ◌<◌, length, set, Some, None, sym, ap, ◌∙◌, subst, arith, rules}
use Rattle.std.proofs.lemmas.List.{length-set}
use Rattle.solver.proofs.Gathering.{SoFar, so_far_none, so_far_some, so_far_at, gathered_all, arcs_low}
use Rattle.solver.specs.Rising.{AllLow}
use Rattle.solver.proofs.arcs.Arcs.take.Goals as goal
use Rattle.solver.proofs.arcs.Arcs.take.Given as given
use Rattle.solver.proofs.arcs.Arcs.take.Goals.{in-Some, in_default, Joined-gap}

pub arc_of-requires : goal.arc_of-requires
arc_of-requires g c =
    let m = g.N.Network.network c.args.network.now in
    let at : m.gap c.loop-place.place ≡ Some c.in-Some.gap = search rules in
    let lawful = g.met.N.Network.lawful c.args.network.now in
    let bounds = lawful.bounded c.loop-place.place c.in-Some.gap at in
    record {
      place = omega (arith, lawful.few_places);
      left = omega (arith, bounds.leaves, lawful.few_events);
      reached = omega (arith, bounds.reaches, lawful.few_events);
      above = bounds.above;
      below = bounds.below;
    }

pub invariant_of-self : goal.invariant_of-self
invariant_of-self g c =
    let m = g.N.Network.network c.args.network.now in
    let arcs = c.loop-place.self.arcs in
    let n = c.loop-place.self.count in
    let place = c.loop-place.place in
    let lawful = g.met.N.Network.lawful c.args.network.now in
    let at : m.gap place ≡ Some c.in-Some.gap = search rules in
    let a = c.arc_of.result in
    let so = c.loop-place.invariant.0 in
    let room : n < 4096 = omega (arith, lawful.few_places, so.few) in
    let long : length (set arcs n a) ≡ 4096 = length-set arcs n a ∙ so.long in
    let next = so_far_some m arcs n place so a c.in-Some.gap room at c.arc_of.ensures.there (c.arc_of.ensures.same m.events (lawful.bounded place c.in-Some.gap at)) long in
    let same : m.events ≡ c.loop-place.self.events = sym (c.loop-place.invariant.1 ∙ c.requires.events) in
    let low = subst (AllLow (set arcs n a) (n + 1)) same (arcs_low m (set arcs n a) (n + 1) next.each) in
    record {
      whole = long;
      few = omega arith;
      small = c.loop-place.self.small;
      lefts = λ k h. (low k h).0;
      ends = λ k h. (low k h).1.0;
      ups = λ k h. (low k h).1.1.0;
      downs = λ k h. (low k h).1.1.1;
    }

-- after each place, the arcs are the gaps of the places so far
taken : (g : given.Over) (c : Joined-gap g) → SoFar (g.N.Network.network c.args.network.now) c.match-gap.self.arcs c.match-gap.self.count (c.loop-place.place + 1) × (c.match-gap.self.events ≡ c.args.self.now.events)
taken g c =
    let m = g.N.Network.network c.args.network.now in
    let arcs = c.loop-place.self.arcs in
    let n = c.loop-place.self.count in
    let place = c.loop-place.place in
    let lawful = g.met.N.Network.lawful c.args.network.now in
    let so = c.loop-place.invariant.0 in
    elim c.match-gap.branch [
      | in-Some w ↦
          let at : m.gap place ≡ Some w.in-Some.gap = search rules in
          let a = w.arc_of.result in
          let room : n < 4096 = omega (arith, lawful.few_places, so.few) in
          let long : length (set arcs n a) ≡ 4096 = length-set arcs n a ∙ so.long in
          let next = so_far_some m arcs n place so a w.in-Some.gap room at w.arc_of.ensures.there (w.arc_of.ensures.same m.events (lawful.bounded place w.in-Some.gap at)) long in
          (so_far_at m (set arcs n a) c.match-gap.self.arcs (n + 1) c.match-gap.self.count (place + 1) (sym (ap (λ s. s.arcs) w.self-is)) (sym (ap (λ s. s.count) w.self-is)) next, ap (λ s. s.events) w.self-is ∙ c.loop-place.invariant.1)
      | in_default w ↦
          let none : m.gap place ≡ None = search rules in
          (so_far_at m arcs c.match-gap.self.arcs n c.match-gap.self.count (place + 1) (sym (ap (λ s. s.arcs) w.self-is)) (sym (ap (λ s. s.count) w.self-is)) (so_far_none m arcs n place so none), ap (λ s. s.events) w.self-is ∙ c.loop-place.invariant.1)
    ]

pub loop-place-preserved : goal.loop-place-preserved
loop-place-preserved g c = taken g (goal.at.loop-place-preserved g c).Joined-gap

pub returns-after-gap : goal.returns-after-gap
returns-after-gap g c =
    let so = taken g (goal.at.returns-after-gap g c).Joined-gap in
    record {
      gaps = gathered_all (g.N.Network.network c.args.network.now) c.match-gap.self.arcs c.match-gap.self.count (c.loop-place.place + 1) (g.met.N.Network.lawful c.args.network.now) so.0 (omega arith);
      events = sym (so.1 ∙ c.requires.events);
    }

pub returns : goal.returns
returns g c =
    let m = g.N.Network.network c.args.network.now in
    record {
      events = sym (c.loop-place.invariant.1 ∙ c.requires.events);
      gaps = gathered_all m c.loop-place.self.arcs c.loop-place.self.count c.loop-place.place (g.met.N.Network.lawful c.args.network.now) c.loop-place.invariant.0 (search rules);
    }

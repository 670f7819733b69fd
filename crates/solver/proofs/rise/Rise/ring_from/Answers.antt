use Rattle.std.proofs.Common.{◌≡◌, ◌+◌, ◌-◌, ◌<◌, ◌≤◌, replicate, set, sym, refl, ap, ◌∙◌, subst, ⊎_elim, arith}
use Rattle.network.specs.Rings.{Contradictory}
use Rattle.solver.specs.Arcs.{arc_at}
use Rattle.solver.specs.Rising.{time_at, parent_of}
use Rattle.solver.specs.RingSteps.{step_of, last_first}
use Rattle.solver.specs.Walks.{RingAt, Rooted}
use Rattle.solver.proofs.Climbing.{Climb, climb_ends, climb_none, climb_more, ring_closed, ring_floored, ring_raised}
use Rattle.solver.proofs.rise.Rise.ring_from.Goals as goal
use Rattle.solver.proofs.rise.Rise.ring_from.Goals.{Else-at-r, else-loop-i-test, then-loop-i-test+in-Some+else-at-r+else-i-i-end}

pub loop-i-init : goal.loop-i-init
loop-i-init c =
    let arcs = c.args.arcs.now in
    let now = c.args.self.now in
    climb_none arcs (λ _. 0) (time_at now.times) (time_at now.parents) c.requires.rising 0 (λ e h. omega arith) c.args.r (replicate 1024 c.floor_to-steps.result) refl c.requires.inside

pub returns-in_default : goal.returns-in_default
returns-in_default c m all =
    let arcs = c.args.arcs.now in
    let now = c.args.self.now in
    let t = time_at now.times in
    let par = time_at now.parents in
    let i = c.loop-i.i in
    let few : i < arcs.events + 1 = omega (arith, c.loop-i-test.true) in
    let small = arcs.small in
    let room : i < 1024 = omega arith in
    let none = c.in_default.ensures in
    subst (λ s. Contradictory m (last_first (set c.loop-i.steps i s) (i + 1))) (sym c.floor_to.ensures)
    (⊎_elim
    (λ (ring : RingAt arcs t par c.args.r). absurd (ring_raised arcs (λ _. 0) t par c.requires.rising 0 (λ e h. omega arith) c.args.r c.loop-i.steps i c.loop-i.at c.loop-i.invariant ring few none))
    (λ (lifted : (c.args.r ≡ 0) × ((1 ≤ t 0) × Rooted arcs t par 102398976 (arcs.events + 1) 0)). ring_floored arcs (λ _. 0) t par c.requires.rising 0 (λ e h. omega arith) c.args.r c.loop-i.steps i c.loop-i.at c.loop-i.invariant room none lifted.0 (λ e. refl) lifted.1.0 few m all)
    c.requires.ends)

pub returns-then-at-r : goal.returns-then-at-r
returns-then-at-r c m all =
    let arcs = c.args.arcs.now in
    let now = c.args.self.now in
    let i = c.loop-i.i in
    let few : i < arcs.events + 1 = omega (arith, c.loop-i-test.true) in
    let small = arcs.small in
    let room : i < 1024 = omega arith in
    let some : 1 ≤ time_at now.parents c.loop-i.at = omega (arith, c.in-Some.ensures) in
    let own : c.in-Some.k ≡ time_at now.parents c.loop-i.at - 1 = omega (arith, c.in-Some.ensures) in
    let is = c.step_of.ensures ∙ ap (λ k. step_of (arc_at arcs.arcs k)) own in
    let next : c.from-at.result ≡ (parent_of arcs (time_at now.parents) c.loop-i.at).left = c.from-at.ensures ∙ ap (λ k. (arc_at arcs.arcs k).left) own in
    ring_closed arcs (λ _. 0) (time_at now.times) (time_at now.parents) c.requires.rising 0 (λ e h. omega arith) c.args.r c.loop-i.steps i c.loop-i.at c.loop-i.invariant room some c.step_of.result is (sym next ∙ c.if-at-r.true) few m all

-- the climb goes on
further : (c : Else-at-r) → Climb c.args.arcs.now (time_at c.args.self.now.times) (time_at c.args.self.now.parents) c.args.r (set c.loop-i.steps c.loop-i.i c.step_of.result) (c.loop-i.i + 1) c.from-at.result
further c =
    let arcs = c.args.arcs.now in
    let now = c.args.self.now in
    let i = c.loop-i.i in
    let few : i < arcs.events + 1 = omega (arith, c.loop-i-test.true) in
    let small = arcs.small in
    let room : i < 1024 = omega arith in
    let some : 1 ≤ time_at now.parents c.loop-i.at = omega (arith, c.in-Some.ensures) in
    let own : c.in-Some.k ≡ time_at now.parents c.loop-i.at - 1 = omega (arith, c.in-Some.ensures) in
    let is = c.step_of.ensures ∙ ap (λ k. step_of (arc_at arcs.arcs k)) own in
    let next : c.from-at.result ≡ (parent_of arcs (time_at now.parents) c.loop-i.at).left = c.from-at.ensures ∙ ap (λ k. (arc_at arcs.arcs k).left) own in
    subst (Climb arcs (time_at now.times) (time_at now.parents) c.args.r (set c.loop-i.steps i c.step_of.result) (i + 1)) (sym next)
    (climb_more arcs (λ _. 0) (time_at now.times) (time_at now.parents) c.requires.rising 0 (λ e h. omega arith) c.args.r c.loop-i.steps i c.loop-i.at c.loop-i.invariant room some c.step_of.result is (λ back. c.if-at-r.false (next ∙ back)))

pub loop-i-preserved : goal.loop-i-preserved
loop-i-preserved c = further (goal.at.loop-i-preserved c).Else-at-r

pub unreachable-requires : goal.unreachable-requires
unreachable-requires c =
    let arcs = c.args.arcs.now in
    let now = c.args.self.now in
    let par = time_at now.parents in
    let small = arcs.small in
    elim c.loop-i-test.branch [
      | else-loop-i-test w ↦ omega (arith, w.loop-i-test.false)
      | then-loop-i-test+in-Some+else-at-r+else-i-i-end w ↦
          let room : c.loop-i.i < 1024 = omega arith in
          let some : 1 ≤ par c.loop-i.at = omega (arith, w.in-Some.ensures) in
          let own : w.in-Some.k ≡ par c.loop-i.at - 1 = omega (arith, w.in-Some.ensures) in
          let is = w.step_of.ensures ∙ ap (λ k. step_of (arc_at arcs.arcs k)) own in
          let next : w.from-at.result ≡ (parent_of arcs par c.loop-i.at).left = w.from-at.ensures ∙ ap (λ k. (arc_at arcs.arcs k).left) own in
          let on = climb_more arcs (λ _. 0) (time_at now.times) par c.requires.rising 0 (λ e h. omega arith) c.args.r c.loop-i.steps c.loop-i.i c.loop-i.at c.loop-i.invariant room some w.step_of.result is (λ back. w.if-at-r.false (next ∙ back)) in
          climb_ends arcs (λ _. 0) (time_at now.times) par c.requires.rising 0 (λ e h. omega arith) c.args.r _ _ _ on c.requires.ends (omega arith)
    ]

use Rattle.std.proofs.Common.{◌≡◌, ◌+◌, ◌-◌, ◌≤◌, set, sym, ap, ◌∙◌, subst, arith}
use Rattle.std.proofs.lemmas.List.{length-set}
use Rattle.solver.specs.Arcs.{arc_at}
use Rattle.solver.specs.Rising.{time_at, parent_of}
use Rattle.solver.proofs.Walking.{Midway, midway_none, midway_next, walked_end, ring_found, walked_joined, one_more, room}
use Rattle.solver.proofs.rise.Rise.walk.Goals as goal

pub loop-marks-init : goal.loop-marks-init
loop-marks-init c =
    let arcs = c.args.arcs.now in
    let ts = c.args.self.now.times in
    let ps = c.args.self.now.parents in
    let risen = c.requires.risen in
    midway_none arcs risen.start (time_at ts) (time_at ps) risen.rising 102398976 risen.starts c.args.marks.now c.args.e c.requires.inside c.requires.long c.requires.ids c.requires.rooted

pub returns-in_default : goal.returns-in_default
returns-in_default c =
    let arcs = c.args.arcs.now in
    let ts = c.args.self.now.times in
    let ps = c.args.self.now.parents in
    let risen = c.requires.risen in
    record {
      found = walked_end arcs risen.start (time_at ts) (time_at ps) risen.rising 102398976 risen.starts c.args.marks.now c.loop-marks.marks c.args.e c.loop-marks.at c.loop-marks.invariant c.loop-marks-test.true c.in_default.ensures;
      size = length-set c.loop-marks.marks c.loop-marks.at (c.args.e + 1) ∙ c.loop-marks.invariant.long;
    }

pub loop-marks-smaller : goal.loop-marks-smaller
loop-marks-smaller c =
    let arcs = c.args.arcs.now in
    let ts = c.args.self.now.times in
    let ps = c.args.self.now.parents in
    let risen = c.requires.risen in
    let more = one_more arcs risen.start (time_at ts) (time_at ps) risen.rising 102398976 risen.starts c.args.marks.now c.loop-marks.marks c.args.e c.loop-marks.at c.loop-marks.invariant c.loop-marks-test.true in
    let some = room arcs risen.start (time_at ts) (time_at ps) risen.rising 102398976 risen.starts c.args.marks.now c.loop-marks.marks c.args.e c.loop-marks.at c.loop-marks.invariant c.loop-marks-test.true in
    omega arith

pub loop-marks-preserved : goal.loop-marks-preserved
loop-marks-preserved c =
    let arcs = c.args.arcs.now in
    let ts = c.args.self.now.times in
    let ps = c.args.self.now.parents in
    let risen = c.requires.risen in
    let some : 1 ≤ time_at ps c.loop-marks.at = omega (arith, c.in-Some.ensures) in
    let own : c.in-Some.k ≡ time_at ps c.loop-marks.at - 1 = omega (arith, c.in-Some.ensures) in
    let next : c.from-at.result ≡ (parent_of arcs (time_at ps) c.loop-marks.at).left = c.from-at.ensures ∙ ap (λ k. (arc_at arcs.arcs k).left) own in
    subst (Midway arcs (time_at ts) (time_at ps) 102398976 c.args.marks.now (set c.loop-marks.marks c.loop-marks.at (c.args.e + 1)) c.args.e) (sym next)
    (midway_next arcs risen.start (time_at ts) (time_at ps) risen.rising 102398976 risen.starts c.args.marks.now c.loop-marks.marks c.args.e c.loop-marks.at c.loop-marks.invariant c.loop-marks-test.true some)

pub returns-then-marks-at : goal.returns-then-marks-at
returns-then-marks-at c =
    let arcs = c.args.arcs.now in
    let ts = c.args.self.now.times in
    let ps = c.args.self.now.parents in
    let risen = c.requires.risen in
    record { found = ring_found arcs risen.start (time_at ts) (time_at ps) risen.rising 102398976 risen.starts c.args.marks.now c.loop-marks.marks c.args.e c.loop-marks.at c.loop-marks.invariant (omega arith) c.if-marks-at.true; size = c.loop-marks.invariant.long }

pub returns-else-marks-at : goal.returns-else-marks-at
returns-else-marks-at c =
    let arcs = c.args.arcs.now in
    let ts = c.args.self.now.times in
    let ps = c.args.self.now.parents in
    let risen = c.requires.risen in
    record { found = walked_joined arcs risen.start (time_at ts) (time_at ps) risen.rising 102398976 risen.starts c.args.marks.now c.loop-marks.marks c.args.e c.loop-marks.at c.loop-marks.invariant (omega arith) c.if-marks-at.false; size = c.loop-marks.invariant.long }

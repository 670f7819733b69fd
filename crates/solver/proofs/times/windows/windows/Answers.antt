use Rattle.std.proofs.Common.{◌≡◌, ℕ, ◌≤◌, refl, arith}
use Rattle.network.proofs.Lengths.{greatest_least}
use Rattle.solver.specs.Rising.{time_at}
use Rattle.solver.proofs.Sounding.{under_due, due_low, rest_sound}
use Rattle.solver.proofs.times.windows.windows.Goals as goal

pub settle-requires : goal.settle-requires
settle-requires c =
    let arcs = c.args.arcs.now in
    let t = time_at c.args.rise.now.times in
    let T = c.longest-length.result in
    let is = c.longest-length.ensures in
    let small = arcs.small in
    let due : (e : ℕ) → 1 ≤ e → e ≤ arcs.events → time_at c.due.result e ≡ T = λ e low high. c.due.ensures.others e low (omega arith) in
    record {
      above = record { table = t; keeps = c.requires.keeps; below = under_due c.due.result T arcs.events c.due.ensures.first due t c.requires.first (omega arith) };
      bound = greatest_least (time_at c.due.result) arcs.events 3000000000 (λ e h. let x = due_low c.due.result T arcs.events c.due.ensures.first due e h in let y = c.requires.bound in omega arith);
    }

pub invariant_of-result : goal.invariant_of-result
invariant_of-result c =
    let arcs = c.args.arcs.now in
    let t = time_at c.args.rise.now.times in
    let T = c.longest-length.result in
    let is = c.longest-length.ensures in
    let small = arcs.small in
    let due : (e : ℕ) → 1 ≤ e → e ≤ arcs.events → time_at c.due.result e ≡ T = λ e low high. c.due.ensures.others e low (omega arith) in
    record {
      small = arcs.small;
      early = c.args.rise.now.timed;
      late = c.settle.new.self.timed;
      windows = c.settle.ensures.most t c.requires.keeps (under_due c.due.result T arcs.events c.due.ensures.first due t c.requires.first (omega arith));
      within = λ e h. let x = c.settle.ensures.falls e in let y = due_low c.due.result T arcs.events c.due.ensures.first due e h in omega arith;
    }

pub returns : goal.returns
returns c =
    let arcs = c.args.arcs.now in
    let rise = c.args.rise.now in
    let T = c.longest-length.result in
    let small = arcs.small in
    record {
      events = refl;
      sound = λ m all. rest_sound m arcs all (time_at rise.times) (time_at rise.parents) c.requires.rising c.requires.first c.requires.keeps
          c.due.result c.settle.new.self.times c.settle.ensures T c.longest-length.ensures c.due.ensures.first (λ e low high. c.due.ensures.others e low (omega arith));
    }

use Rattle.std.proofs.Common.{◌≡◌, ◌<◌, pos, ◌-ℤ◌, Some, None, sym, ap, ◌∙◌, subst, arith, rules}
use Rattle.network.specs.Meanings.{Lawful, Bounded}
use Rattle.book.specs.Rules.{network_of}
use Rattle.sheet.specs.declared.span.Moves.TheVariants.{Finish, Both}
use Rattle.sheet.specs.Rows.{earliest_told, length_told}
use Rattle.sheet.proofs.Rooming.{rooms_none, rooms_gap}
use Rattle.sheet.proofs.room.AllRooms.narrow.Goals as goal

pub slack-days-requires : goal.slack-days-requires
slack-days-requires g c =
    let at : (g.B.Network.network c.args.plan.now.book).gap c.args.place ≡ Some c.in-Some.gap = search rules in
    let bounds : Bounded _ _ = (g.met.B.Network.lawful c.args.plan.now.book).bounded c.args.place c.in-Some.gap at in
    let low = bounds.above in
    let high = bounds.below in
    search rules

pub narrow-requires : goal.narrow-requires
narrow-requires g c =
    let at : (g.B.Network.network c.args.plan.now.book).gap c.args.place ≡ Some c.in-Some.gap = search rules in
    let lawful = g.met.B.Network.lawful c.args.plan.now.book in
    let bounds : Bounded _ _ = lawful.bounded c.args.place c.in-Some.gap at in
    let left = bounds.leaves in
    let small = lawful.few_events in
    omega arith

pub narrow-requires-in-Some : goal.narrow-requires-in-Some
narrow-requires-in-Some g c =
    let at : (g.B.Network.network c.args.plan.now.book).gap c.args.place ≡ Some c.in-Some.gap = search rules in
    let lawful = g.met.B.Network.lawful c.args.plan.now.book in
    let bounds : Bounded _ _ = lawful.bounded c.args.place c.in-Some.gap at in
    let left = bounds.leaves in
    let small = lawful.few_events in
    omega arith

pub returns-in-Some : goal.returns-in-Some
returns-in-Some g c was keeps long =
    let plan = c.args.plan.now in
    let place = c.args.place in
    let old = c.args.self.now in
    let m = network_of (g.B.Book.meaning plan.book) in
    let t = earliest_told plan.outcome in
    let T = length_told plan.outcome in
    let made = g.met.B.Book.made plan.book in
    let lawful : Lawful m = subst Lawful made (g.met.B.Network.lawful plan.book) in
    let gap = c.in-Some.gap in
    let there : (g.B.Network.network plan.book).gap place ≡ Some gap = search rules in
    let at : m.gap place ≡ Some gap = ap (λ x. x.gap place) (sym made) ∙ there in
    let leaves = (lawful.bounded place gap at).leaves in
    let small = lawful.few_events in
    let left : gap.left < 1024 = omega arith in
    let size = old.alone.whole in
    let size2 = old.both.whole in
    let z : c.slack-days.result ≡ ((pos (t gap.reached) -ℤ pos (t gap.left)) -ℤ gap.days) = search rules in
    let met = keeps.meets place gap at in (
      rooms_gap m t T Finish place gap at met c.slack-days.result z old.alone.days c.narrow.new.self.days (omega arith) (search rules) (was keeps long).0,
      rooms_gap m t T Both place gap at met c.slack-days.result z old.both.days c.narrow-in-Some.new.self.days (omega arith) (search rules) (was keeps long).1,
    )

pub returns-in_default : goal.returns-in_default
returns-in_default g c was keeps long =
    let plan = c.args.plan.now in
    let place = c.args.place in
    let old = c.args.self.now in
    let m = network_of (g.B.Book.meaning plan.book) in
    let t = earliest_told plan.outcome in
    let T = length_told plan.outcome in
    let there : (g.B.Network.network plan.book).gap place ≡ None = search rules in
    let none : m.gap place ≡ None = ap (λ x. x.gap place) (sym (g.met.B.Book.made plan.book)) ∙ there in (
      rooms_none m t T Finish place none old.alone.days (was keeps long).0,
      rooms_none m t T Both place none old.both.days (was keeps long).1,
    )

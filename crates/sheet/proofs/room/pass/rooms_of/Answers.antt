use Rattle.std.proofs.Common.{◌≡◌, ◌+◌, ap, ◌∙◌, subst, arith, rules}
use Rattle.book.specs.Rules.{network_of}
use Rattle.sheet.specs.Rooms.{RoomsBy}
use Rattle.sheet.specs.Rows.{earliest_told, length_told}
use Rattle.sheet.proofs.room.pass.rooms_of.Goals as goal

pub returns : goal.returns
returns g c =
    let plan = c.args.plan.now in
    let places : c.places-place-end.result ≡ (g.B.Network.network plan.book).places = search rules in
    let end : c.loop-place.place ≡ c.places-place-end.result + 1 = omega (arith, c.loop-place.invariant.0) in
    subst (λ n. RoomsBy (network_of (g.B.Book.meaning plan.book)) (earliest_told plan.outcome) (length_told plan.outcome) n c.loop-place.rooms.alone.days c.loop-place.rooms.both.days)
    (end ∙ ap (λ n. n + 1) (places ∙ ap (λ x. x.places) (g.met.B.Book.made plan.book))) c.loop-place.invariant.1

pub returns-2 : goal.returns-2
returns-2 g c =
    let plan = c.args.plan.now in
    let places : c.places-place-end.result ≡ (g.B.Network.network plan.book).places = search rules in
    let end : c.loop-place.place ≡ c.places-place-end.result = omega arith in
    subst (λ n. RoomsBy (network_of (g.B.Book.meaning plan.book)) (earliest_told plan.outcome) (length_told plan.outcome) n c.narrow.new.self.alone.days c.narrow.new.self.both.days)
    (ap (λ n. n + 1) (end ∙ places ∙ ap (λ x. x.places) (g.met.B.Book.made plan.book))) (c.narrow.ensures c.loop-place.invariant.1)

use Rattle.std.proofs.Common.{◌≡◌, false, is_some, ap, rules}
use Rattle.book.proofs.Options.{none_from}
use Rattle.book.proofs.Puts.{put_none}
use Rattle.line_book.proofs.LineBook.on_enter.Goals as goal

-- the line is empty, so judging it as empty changes nothing
pub returns : goal.returns
returns g c =
    let ls = g.L.Lines.standing c.args.self.now.lines in
    let empty : is_some (ls c.args.p) ≡ false = search rules in
    let same = ap (λ f. g.L.Lines.rule.enters f c.args.p c.args.e) (put_none ls c.args.p (none_from (ls c.args.p) empty)) in
    search (rules, same, empty)

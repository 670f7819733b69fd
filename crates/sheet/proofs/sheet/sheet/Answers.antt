use Rattle.std.proofs.Common.{◌≡◌, true, false, leb, ◌++◌, length, drop, Ok, Err, sym, ap, ◌∙◌, subst, rules}
use Rattle.std.proofs.lemmas.Bool.{cond-true, cond-false}
use Rattle.network.specs.Meanings.{Lawful}
use Rattle.book.specs.Rules.{network_of}
use Rattle.sheet.specs.declared.row.Rows.{Rows}
use Rattle.sheet.specs.declared.walk.Walk.TheVariants as at
use Rattle.sheet.specs.Strides.{left_of, sheet_bytes}
use Rattle.sheet.proofs.Sheeting.{sheet_right}
use Rattle.sheet.proofs.sheet.sheet.Goals as goal

pub returns-then-fits : goal.returns-then-fits
returns-then-fits g c =
    let plan = c.args.plan.now in
    let rooms = c.rooms_of-rooms.result in
    let rows : Rows _ _ = record { plan = c.args.plan; rooms = rooms } in
    let m = g.B.Book.meaning plan.book in
    let lawful : Lawful (network_of m) = subst Lawful (g.met.B.Book.made plan.book) (g.met.B.Network.lawful plan.book) in
    let whole = sheet_bytes g.B.Entry.Spanned.span_of g.B.Book.meaning rows in
    let test : leb (length whole) (length c.args.out.now) ≡ true = search rules in
    let count = c.written.ensures.count in
    record {
      forms = left_of g.B.Entry.Spanned.span_of g.B.Book.meaning rows at.Head;
      sheet = sheet_right g.B.Entry.Spanned.span_of m lawful rows c.rooms_of-rooms.ensures;
      told = ap Ok count ∙ sym (cond-true _ _ _ test);
      bytes = c.written.ensures.bytes ∙ ap (λ n. whole ++ drop n c.args.out.now) count ∙ sym (cond-true _ _ _ test);
    }

pub returns-else-fits : goal.returns-else-fits
returns-else-fits g c =
    let plan = c.args.plan.now in
    let rooms = c.rooms_of-rooms.result in
    let rows : Rows _ _ = record { plan = c.args.plan; rooms = rooms } in
    let m = g.B.Book.meaning plan.book in
    let lawful : Lawful (network_of m) = subst Lawful (g.met.B.Book.made plan.book) (g.met.B.Network.lawful plan.book) in
    let whole = sheet_bytes g.B.Entry.Spanned.span_of g.B.Book.meaning rows in
    let test : leb (length whole) (length c.args.out.now) ≡ false = search rules in
    record {
      forms = left_of g.B.Entry.Spanned.span_of g.B.Book.meaning rows at.Head;
      sheet = sheet_right g.B.Entry.Spanned.span_of m lawful rows c.rooms_of-rooms.ensures;
      told = ap Err c.at.ensures ∙ sym (cond-false _ _ _ test);
      bytes = sym (cond-false _ _ _ test);
    }

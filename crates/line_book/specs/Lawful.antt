-- Lines in a table make a lawful book. Assumes nothing.
use Rattle.std.proofs.Common.{subst}
use Rattle.std.specs.Prelude.{ℕ, Option, refl}
use Rattle.network.specs.Meanings.{Outside}
use Rattle.book.specs.Rules.{Rule}
use Rattle.book.specs.Laws.{LawfulRule, LawfulBook}
use Rattle.line_book.specs.LineBooks.{LinesOnly, InTable, book_of}

pub lines_lawful : {E : Type 0} (r : Rule E) (ls : ℕ → Option E) → LawfulRule r → LinesOnly r → InTable ls → LawfulBook (book_of r ls)
lines_lawful r ls laws only table = record {
  rule = laws;
  no_line = λ p out. table p (subst (λ n. Outside n p) only.lines out);
  no_date = λ q out. refl;
}

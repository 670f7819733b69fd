-- What is known of a form of few digits. Assumes nothing.
use Rattle.std.proofs.Common.{ℕ}
use Rattle.book.specs.declared.date.Bound.{Bound}
use Rattle.forms.specs.declared.form.Point.{Point}
use Rattle.forms.specs.declared.form.Form.TheVariants.{Date}
use Rattle.forms.specs.Spelling.{Short, FewPoint}

pub short_point : (q : ℕ) (p : Point) (b : Bound) (day : ℕ) → Short (Date q p b day) → FewPoint p
unfolding Short
short_point q p b day short = short.1

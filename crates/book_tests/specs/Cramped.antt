-- The rule of a book that leaves room for six more places. Assumes nothing.
use Rattle.std.specs.Prelude.{ℕ, ◌+◌, ◌-◌, ◌%◌, true, cond, None}
use Rattle.network.specs.declared.gap.Owner.{Owner}
use Rattle.network.specs.declared.gap.Owner.TheVariants.{Line}
use Rattle.network.specs.Meanings.{unowned}
use Rattle.book.specs.Rules.{Rule, within}
use Rattle.book_tests.specs.declared.cramped.Mark.{Mark}

abbrev pub owner_of : ℕ → Owner
owner_of place = cond (within place 4090) (Line ((place - 1) % 400 + 1)) unowned

abbrev pub cramped_rule : Rule Mark
cramped_rule = record {
  events = 3;
  places = 4090;
  lines = 400;
  dates = 0;
  owner = owner_of;
  line_gap = λ p e place. None;
  date_gap = λ q d place. None;
  enters = λ ls p e. None;
  strikes = λ ls p. true;
  alters = λ ls p e. true;
}

-- A plan on its way through a list of calls. Assumes nothing.
--     book_in s            the book of the plan, open or issued
--     Upright f s         an issued plan is right of its book's network, where f gives a book's meaning
use Rattle.book.specs.Rules.{BookMeaning, network_of}
use Rattle.plan.specs.Issues.{Right}
use Rattle.play.specs.declared.stage.Stage.{Stage}
use Rattle.play.specs.declared.stage.Stage.TheVariants.{Open, Issued}

abbrev pub book_in : {B E : Type 0} → Stage B E → B
book_in (Open p) = p.book
book_in (Issued p) = p.book

abbrev pub Upright : {B E : Type 0} → (B → BookMeaning E) → Stage B E → Type 0
Upright f (Open p) = Unit {0}
Upright f (Issued p) = Right (network_of (f p.book)) p.outcome

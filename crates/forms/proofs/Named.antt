-- The words that the reader takes for a name, and names and numbers with the byte after them. Assumes nothing.
use Rattle.std.proofs.Common.{◌≡◌, ℕ, true, false, List, [], ◌∷◌, ℤ, Some, decimal, refl}
use Rattle.std.specs.Fmt.{signed_decimal}
use Rattle.activity.specs.declared.entry.Running.TheVariants.{Whole, Broken}
use Rattle.activity.specs.declared.entry.Kind.TheVariants.{FS, SS, FF, SF}
use Rattle.book.specs.declared.date.Bound.TheVariants.{Least, Most}
use Rattle.forms.specs.declared.form.PlanKind.TheVariants as plan
use Rattle.forms.specs.declared.names.Command.TheVariants as command
use Rattle.forms.specs.declared.names.ItemKind.TheVariants as item
use Rattle.forms.specs.declared.names.PointKind.TheVariants as point
use Rattle.forms.specs.Names.{chosen, command_word, item_kind_word, point_kind_word, command_of, plan_of, item_kind_of, running_of, kind_of, bound_of, point_kind_of}
use Rattle.forms.specs.Reading.{number_at, number_of}
use Rattle.forms.specs.Spelling.{plan_word, running_word, kind_word, bound_word, Few}
use Rattle.forms.specs.Words.{in_word}
use Rattle.forms.proofs.Choosing.{FewLag, chosen_to, number_words}
use Rattle.forms.proofs.Rights.{Right, Spells}
use Rattle.forms.proofs.Runs.{Words, all_in, before, word_right}

-- every name passes
abbrev pub Any : {X : Type 0} → X → Type 0
Any x = Unit {0}

-- a name, with the byte after it
abbrev pub Name : {X : Type 0} → (X → List ℕ) → ℕ → X → List ℕ → Type 0
Name sp b = Spells Any (λ x. before (sp x) b)

-- a number, with the byte after it
abbrev pub Number : ℕ → ℕ → List ℕ → Type 0
Number b = Spells Few (λ n. before (decimal n) b)

-- a lag, with the byte after it
abbrev pub Lag : ℕ → ℤ → List ℕ → Type 0
Lag b = Spells FewLag (λ z. before (signed_decimal z) b)

-- the reader of numbers reads just those
pub number_right : (b : ℕ) → in_word b ≡ false → Right (Number b) (λ t at. number_at t at b)
number_right b out = word_right Few decimal number_of b number_words out

-- names that are found again among all of their kind
pub names_words : {X : Type 0} (sp : X → List ℕ) (xs : List X) → ((x : X) → chosen sp xs (sp x) ≡ Some x) → ((x : X) → all_in (sp x) ≡ true) → Words Any sp (λ w. chosen sp xs w)
names_words sp xs found inside = record { to = λ w x h. (tt, chosen_to sp xs w x h); from = λ x _. found x; inside = λ x _. inside x }

-- the words for commands
pub command_words : Words Any command_word command_of
unfolding in_word
command_words =
    names_words command_word (command.Plan ∷ command.Enter ∷ command.Alter ∷ command.Strike ∷ command.Date ∷ command.Clear ∷ [])
    (elim [ command.Plan ↦ refl | command.Enter ↦ refl | command.Alter ↦ refl | command.Strike ↦ refl | command.Date ↦ refl | command.Clear ↦ refl ])
    (elim [ command.Plan ↦ refl | command.Enter ↦ refl | command.Alter ↦ refl | command.Strike ↦ refl | command.Date ↦ refl | command.Clear ↦ refl ])

-- the words for books
pub plan_words : Words Any plan_word plan_of
unfolding in_word
plan_words = names_words plan_word (plan.Activity ∷ plan.Arrow ∷ []) (elim [ plan.Activity ↦ refl | plan.Arrow ↦ refl ]) (elim [ plan.Activity ↦ refl | plan.Arrow ↦ refl ])

-- the words that items begin with
pub item_words_lem : Words Any item_kind_word item_kind_of
unfolding in_word
item_words_lem =
    names_words item_kind_word (item.Days ∷ item.Hours ∷ item.Relation ∷ item.Arrow ∷ [])
    (elim [ item.Days ↦ refl | item.Hours ↦ refl | item.Relation ↦ refl | item.Arrow ↦ refl ])
    (elim [ item.Days ↦ refl | item.Hours ↦ refl | item.Relation ↦ refl | item.Arrow ↦ refl ])

-- the words for ways to run
pub running_words : Words Any running_word running_of
unfolding in_word
running_words = names_words running_word (Whole ∷ Broken ∷ []) (elim [ Whole ↦ refl | Broken ↦ refl ]) (elim [ Whole ↦ refl | Broken ↦ refl ])

-- the words for kinds of relations
pub kind_words : Words Any kind_word kind_of
unfolding in_word
kind_words = names_words kind_word (FS ∷ SS ∷ FF ∷ SF ∷ []) (elim [ FS ↦ refl | SS ↦ refl | FF ↦ refl | SF ↦ refl ]) (elim [ FS ↦ refl | SS ↦ refl | FF ↦ refl | SF ↦ refl ])

-- the words for bounds
pub bound_words : Words Any bound_word bound_of
unfolding in_word
bound_words = names_words bound_word (Least ∷ Most ∷ []) (elim [ Least ↦ refl | Most ↦ refl ]) (elim [ Least ↦ refl | Most ↦ refl ])

-- the words that dates begin with
pub point_words : Words Any point_kind_word point_kind_of
unfolding in_word
point_words =
    names_words point_kind_word (point.Start ∷ point.Finish ∷ point.Node ∷ [])
    (elim [ point.Start ↦ refl | point.Finish ↦ refl | point.Node ↦ refl ])
    (elim [ point.Start ↦ refl | point.Finish ↦ refl | point.Node ↦ refl ])

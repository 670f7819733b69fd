-- The words that name a command, a kind or a bound, as the reader chooses among them. Assumes nothing.
--     chosen sp xs w                           the first of xs that is spelled w
--     command_word, item_kind_word, point_kind_word the words that forms, items and dates begin with
--     command_of and its like                   what a word names
--     command_at and its like                   what the word at place `at` before byte b names
use Rattle.std.specs.Prelude.{ℕ, cond, List, [], ◌∷◌, Some, None, codes, Option}
use Rattle.std.specs.Str.{bytes_eq}
use Rattle.activity.specs.declared.entry.Running.{Running}
use Rattle.activity.specs.declared.entry.Running.TheVariants.{Whole, Broken}
use Rattle.activity.specs.declared.entry.Kind.{Kind}
use Rattle.activity.specs.declared.entry.Kind.TheVariants.{FS, SS, FF, SF}
use Rattle.book.specs.declared.date.Bound.{Bound}
use Rattle.book.specs.declared.date.Bound.TheVariants.{Least, Most}
use Rattle.forms.specs.declared.form.PlanKind.{PlanKind}
use Rattle.forms.specs.declared.form.PlanKind.TheVariants as plan
use Rattle.forms.specs.declared.names.Command.{Command}
use Rattle.forms.specs.declared.names.Command.TheVariants as command
use Rattle.forms.specs.declared.names.ItemKind.{ItemKind}
use Rattle.forms.specs.declared.names.ItemKind.TheVariants as item
use Rattle.forms.specs.declared.names.PointKind.{PointKind}
use Rattle.forms.specs.declared.names.PointKind.TheVariants as point
use Rattle.forms.specs.Spelling.{plan_word, running_word, kind_word, bound_word}
use Rattle.forms.specs.Reading.{word_as}

abbrev pub chosen : {X : Type 0} → (X → List ℕ) → List X → List ℕ → Option X
chosen sp [] w = None
chosen sp (x ∷ xs) w = cond (bytes_eq w (sp x)) (Some x) (chosen sp xs w)

abbrev pub command_word : Command → List ℕ
command_word command.Plan = codes "plan"
command_word command.Enter = codes "enter"
command_word command.Alter = codes "alter"
command_word command.Strike = codes "strike"
command_word command.Date = codes "date"
command_word command.Clear = codes "clear"

abbrev pub item_kind_word : ItemKind → List ℕ
item_kind_word item.Days = codes "activity"
item_kind_word item.Hours = codes "hours"
item_kind_word item.Relation = codes "relation"
item_kind_word item.Arrow = codes "arrow"

abbrev pub point_kind_word : PointKind → List ℕ
point_kind_word point.Start = codes "start"
point_kind_word point.Finish = codes "finish"
point_kind_word point.Node = codes "node"

abbrev pub command_of : List ℕ → Option Command
command_of w = chosen command_word (command.Plan ∷ command.Enter ∷ command.Alter ∷ command.Strike ∷ command.Date ∷ command.Clear ∷ []) w

abbrev pub plan_of : List ℕ → Option PlanKind
plan_of w = chosen plan_word (plan.Activity ∷ plan.Arrow ∷ []) w

abbrev pub item_kind_of : List ℕ → Option ItemKind
item_kind_of w = chosen item_kind_word (item.Days ∷ item.Hours ∷ item.Relation ∷ item.Arrow ∷ []) w

abbrev pub running_of : List ℕ → Option Running
running_of w = chosen running_word (Whole ∷ Broken ∷ []) w

abbrev pub kind_of : List ℕ → Option Kind
kind_of w = chosen kind_word (FS ∷ SS ∷ FF ∷ SF ∷ []) w

abbrev pub bound_of : List ℕ → Option Bound
bound_of w = chosen bound_word (Least ∷ Most ∷ []) w

abbrev pub point_kind_of : List ℕ → Option PointKind
point_kind_of w = chosen point_kind_word (point.Start ∷ point.Finish ∷ point.Node ∷ []) w

abbrev pub command_at : List ℕ → ℕ → ℕ → Option (Command × ℕ)
command_at t at b = word_as command_of t at b

abbrev pub plan_at : List ℕ → ℕ → ℕ → Option (PlanKind × ℕ)
plan_at t at b = word_as plan_of t at b

abbrev pub item_kind_at : List ℕ → ℕ → ℕ → Option (ItemKind × ℕ)
item_kind_at t at b = word_as item_kind_of t at b

abbrev pub running_at : List ℕ → ℕ → ℕ → Option (Running × ℕ)
running_at t at b = word_as running_of t at b

abbrev pub kind_at : List ℕ → ℕ → ℕ → Option (Kind × ℕ)
kind_at t at b = word_as kind_of t at b

abbrev pub bound_at : List ℕ → ℕ → ℕ → Option (Bound × ℕ)
bound_at t at b = word_as bound_of t at b

abbrev pub point_kind_at : List ℕ → ℕ → ℕ → Option (PointKind × ℕ)
point_kind_at t at b = word_as point_kind_of t at b

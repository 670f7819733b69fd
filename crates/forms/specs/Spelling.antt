-- How each form is written: one line of words and brackets, ended by byte 10. Assumes nothing.
--     spaced ws                words divided by one space
--     bracketed ws             the same between brackets
--     plan_word and its like    the word for a kind, a bound or a way to run
--     item_words, date_words     the words of an item, and of a date
--     form_words f              the words of f
--     spelled f                the line that says f
--     Few n                    n has at most six digits
--     Short f                  no number in f has more than six digits
use Rattle.std.specs.Prelude.{ℕ, ◌≤◌, List, [], ◌∷◌, ◌++◌, codes, decimal, unsigned_abs}
use Rattle.std.specs.Fmt.{signed_decimal}
use Rattle.activity.specs.declared.entry.Work.{Work}
use Rattle.activity.specs.declared.entry.Work.TheVariants.{Days, Hours}
use Rattle.activity.specs.declared.entry.Running.{Running}
use Rattle.activity.specs.declared.entry.Running.TheVariants.{Whole, Broken}
use Rattle.activity.specs.declared.entry.Activity.{Activity}
use Rattle.activity.specs.declared.entry.Kind.{Kind}
use Rattle.activity.specs.declared.entry.Kind.TheVariants.{FS, SS, FF, SF}
use Rattle.activity.specs.declared.entry.Relation.{Relation}
use Rattle.arrow.specs.declared.entry.Arrow.{Arrow}
use Rattle.book.specs.declared.date.Bound.{Bound}
use Rattle.book.specs.declared.date.Bound.TheVariants.{Least, Most}
use Rattle.forms.specs.declared.form.PlanKind.{PlanKind}
use Rattle.forms.specs.declared.form.PlanKind.TheVariants as plan
use Rattle.forms.specs.declared.form.Point.{Point}
use Rattle.forms.specs.declared.form.Point.TheVariants.{Start, Finish, Node}
use Rattle.forms.specs.declared.form.Item.{Item}
use Rattle.forms.specs.declared.form.Item.TheVariants as item
use Rattle.forms.specs.declared.form.Form.{Form}
use Rattle.forms.specs.declared.form.Form.TheVariants.{Plan, Enter, Alter, Strike, Date, Clear}

abbrev pub spaced : List (List ℕ) → List ℕ
spaced [] = []
spaced (w ∷ []) = w
spaced (w ∷ v ∷ ws) = w ++ 32 ∷ spaced (v ∷ ws)

abbrev pub bracketed : List (List ℕ) → List ℕ
bracketed ws = 40 ∷ (spaced ws ++ 41 ∷ [])

abbrev pub plan_word : PlanKind → List ℕ
plan_word plan.Activity = codes "activity"
plan_word plan.Arrow = codes "arrow"

abbrev pub running_word : Running → List ℕ
running_word Whole = codes "whole"
running_word Broken = codes "broken"

abbrev pub kind_word : Kind → List ℕ
kind_word FS = codes "FS"
kind_word SS = codes "SS"
kind_word FF = codes "FF"
kind_word SF = codes "SF"

abbrev pub bound_word : Bound → List ℕ
bound_word Least = codes "least"
bound_word Most = codes "most"

-- work in days is written `activity`, and work in hours `hours`
abbrev pub work_words : Work → List ℕ → List (List ℕ)
work_words (Days n) running = codes "activity" ∷ decimal n ∷ running ∷ []
work_words (Hours n) running = codes "hours" ∷ decimal n ∷ running ∷ []

abbrev pub activity_words : Activity → List (List ℕ)
activity_words a = work_words a.work (running_word a.running)

abbrev pub relation_words : Relation → List (List ℕ)
relation_words r = codes "relation" ∷ kind_word r.kind ∷ bound_word r.bound ∷ decimal r.first ∷ decimal r.second ∷ signed_decimal r.lag ∷ []

abbrev pub arrow_words : Arrow → List (List ℕ)
arrow_words a = codes "arrow" ∷ decimal a.from ∷ decimal a.to ∷ decimal a.days ∷ []

abbrev pub item_words : Item → List (List ℕ)
item_words (item.Activity a) = activity_words a
item_words (item.Relation r) = relation_words r
item_words (item.Arrow a) = arrow_words a

abbrev pub date_words : Point → Bound → ℕ → List (List ℕ)
date_words (Start n) b day = codes "start" ∷ decimal n ∷ bound_word b ∷ decimal day ∷ []
date_words (Finish n) b day = codes "finish" ∷ decimal n ∷ bound_word b ∷ decimal day ∷ []
date_words (Node n) b day = codes "node" ∷ decimal n ∷ bound_word b ∷ decimal day ∷ []

abbrev pub form_words : Form → List (List ℕ)
form_words (Plan k) = codes "plan" ∷ plan_word k ∷ []
form_words (Enter line i) = codes "enter" ∷ decimal line ∷ bracketed (item_words i) ∷ []
form_words (Alter line i) = codes "alter" ∷ decimal line ∷ bracketed (item_words i) ∷ []
form_words (Strike line) = codes "strike" ∷ decimal line ∷ []
form_words (Date line p b day) = codes "date" ∷ decimal line ∷ bracketed (date_words p b day) ∷ []
form_words (Clear line) = codes "clear" ∷ decimal line ∷ []

unfoldable pub spelled : Form → List ℕ
spelled f = bracketed (form_words f) ++ 10 ∷ []

-- six digits
abbrev pub Few : ℕ → Type 0
Few n = n ≤ 999999

abbrev pub FewWork : Work → Type 0
FewWork (Days n) = Few n
FewWork (Hours n) = Few n

abbrev pub FewItem : Item → Type 0
FewItem (item.Activity a) = FewWork a.work
FewItem (item.Relation r) = Few r.first × Few r.second × Few (unsigned_abs r.lag)
FewItem (item.Arrow a) = Few a.from × Few a.to × Few a.days

abbrev pub FewPoint : Point → Type 0
FewPoint (Start n) = Few n
FewPoint (Finish n) = Few n
FewPoint (Node n) = Few n

unfoldable pub Short : Form → Type 0
Short (Plan k) = Unit {0}
Short (Enter line i) = Few line × FewItem i
Short (Alter line i) = Few line × FewItem i
Short (Strike line) = Few line
Short (Date line p b day) = Few line × FewPoint p × Few day
Short (Clear line) = Few line

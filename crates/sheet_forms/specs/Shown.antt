-- How the forms of a sheet are spelled. Each ends in byte 10. Assumes nothing.
--     window_text w      the earliest and the latest time
--     shown f           the bytes of the form f
use Rattle.std.specs.Prelude.{ℕ, ◌-◌, List, ◌++◌, codes, decimal}
use Rattle.std.specs.Fmt.{signed_decimal}
use Rattle.network.specs.declared.gap.Owner.{Owner}
use Rattle.network.specs.declared.gap.Owner.TheVariants as owner
use Rattle.sheet_forms.specs.declared.form.Window.{Window}
use Rattle.sheet_forms.specs.declared.form.Row.{Row}
use Rattle.sheet_forms.specs.declared.form.OwnedStep.{OwnedStep}
use Rattle.book.specs.declared.refusal.Layer.{Layer}
use Rattle.book.specs.declared.refusal.Layer.TheVariants as by
use Rattle.book.specs.Refusals.{number}
use Rattle.sheet_forms.specs.declared.form.SheetForm.{SheetForm}
use Rattle.sheet_forms.specs.declared.form.SheetForm.TheVariants.{Length, Line, Contradiction, Step, End, Refused}

abbrev pub window_text : Window → List ℕ
window_text w = decimal w.earliest ++ (codes " " ++ decimal w.latest)

-- by how much the latest time of a window passes the earliest
abbrev pub float_of : Window → ℕ
float_of w = w.latest - w.earliest

abbrev pub floats_text : Row → List ℕ
floats_text r = decimal (float_of r.start) ++ (codes " " ++ (decimal (float_of r.finish) ++ (codes " " ++ decimal r.free)))

abbrev pub row_text : Row → List ℕ
row_text r = codes "(line " ++ (decimal r.line ++ (codes " (start " ++ (window_text r.start ++ (codes ") (finish " ++ (window_text r.finish ++ (codes ") (float " ++ (floats_text r ++ codes "))\n")))))))

-- the layer of an owner, and its number there
abbrev pub layer_text : Owner → List ℕ
layer_text (owner.Line n) = codes "book"
layer_text (owner.DatePlace n) = codes "dates"
layer_text (owner.Floor n) = codes "floor"

abbrev pub number_of : Owner → ℕ
number_of (owner.Line n) = n
number_of (owner.DatePlace n) = n
number_of (owner.Floor n) = n

abbrev pub step_text : OwnedStep → List ℕ
step_text s = codes "(step " ++ (layer_text s.owner ++ (codes " " ++ (decimal (number_of s.owner) ++ (codes " " ++ (decimal s.gap.left ++ (codes " " ++ (decimal s.gap.reached ++ (codes " " ++ (signed_decimal s.gap.days ++ codes ")\n")))))))))

abbrev pub refuser : Layer → List ℕ
refuser by.Text = codes "text"
refuser by.Dates = codes "dates"
refuser by.Book = codes "book"
refuser by.Plan = codes "plan"

-- the text line, the layer and the number of the refusal
abbrev pub refused_text : ℕ → Layer → ℕ → List ℕ
refused_text line layer n = codes "(refused " ++ (decimal line ++ (codes " " ++ (refuser layer ++ (codes " " ++ (decimal n ++ codes ")\n")))))

abbrev pub shown : SheetForm → List ℕ
shown (Length days) = codes "(length " ++ (decimal days ++ codes ")\n")
shown (Line r) = row_text r
shown (Contradiction steps) = codes "(contradiction " ++ (decimal steps ++ codes ")\n")
shown (Step s) = step_text s
shown (Refused r) = refused_text r.place r.layer (number r.why)
shown (End count) = codes "(end " ++ (decimal count ++ codes ")\n")

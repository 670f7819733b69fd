-- Which plan the first form of a text begins. Assumes nothing.
use Rattle.std.specs.Prelude.{Some, None, Ok, Err, Option, Result}
use Rattle.forms.specs.declared.form.Form.{Form}
use Rattle.forms.specs.declared.form.Form.TheVariants.{Plan, Enter, Alter, Strike, Date, Clear}
use Rattle.forms.specs.declared.form.PlanKind.{PlanKind}
use Rattle.forms.specs.declared.reader.NoForm.{NoForm}

abbrev pub begins : Form → Option PlanKind
begins (Plan k) = Some k
begins (Enter p i) = None
begins (Alter p i) = None
begins (Strike p) = None
begins (Date q at bound day) = None
begins (Clear q) = None

abbrev pub kind_of : Result (Option Form) NoForm → Option PlanKind
kind_of (Ok None) = None
kind_of (Ok (Some f)) = begins f
kind_of (Err e) = None

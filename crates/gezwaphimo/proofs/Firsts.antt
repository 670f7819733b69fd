-- The first line of a text. Assumes nothing.
use Rattle.std.proofs.Common.{◌≡◌, ℕ, List, ◌++◌, Some, None, Ok, Err, Option, Result, sym, refl, ap, ◌∙◌}
use Rattle.std.proofs.lemmas.Option.{none-some, same_Some}
use Rattle.forms.specs.declared.form.Form.{Form}
use Rattle.forms.specs.declared.form.Form.TheVariants.{Plan, Enter, Alter, Strike, Date, Clear}
use Rattle.forms.specs.declared.form.PlanKind.{PlanKind}
use Rattle.forms.specs.declared.reader.NoForm.{NoForm}
use Rattle.forms.specs.Spelling.{spelled, Short}
use Rattle.forms.specs.Texts.{Reads}
use Rattle.gezwaphimo.specs.Kinds.{begins, kind_of}

begins_plan : (f : Form) (k : PlanKind) → begins f ≡ Some k → f ≡ Plan k
begins_plan (Plan j) k e = ap Plan (same_Some j k e)
begins_plan (Enter p i) k e = absurd (none-some k e)
begins_plan (Alter p i) k e = absurd (none-some k e)
begins_plan (Strike p) k e = absurd (none-some k e)
begins_plan (Date q at b d) k e = absurd (none-some k e)
begins_plan (Clear q) k e = absurd (none-some k e)

kind_plan : (a : Result (Option Form) NoForm) (k : PlanKind) → kind_of a ≡ Some k → a ≡ Ok (Some (Plan k))
kind_plan (Ok None) k e = absurd (none-some k e)
kind_plan (Ok (Some f)) k e = ap (λ g. Ok (Some g)) (begins_plan f k e)
kind_plan (Err why) k e = absurd (none-some k e)

plan_short : (k : PlanKind) → Short (Plan k)
unfolding Short
plan_short k = tt

-- a plan is begun, and the rest follows
pub begun : (text rest : List ℕ) (a : Result (Option Form) NoForm) (k : PlanKind) → Reads text rest a → kind_of a ≡ Some k → text ≡ spelled (Plan k) ++ rest
begun text rest a k reads is = ((reads (Plan k) rest).0 (kind_plan a k is, refl)).1

-- no plan is begun
pub not_begun : (text rest : List ℕ) (a : Result (Option Form) NoForm) → Reads text rest a → kind_of a ≡ None → (k : PlanKind) (r : List ℕ) → text ≡ spelled (Plan k) ++ r → ⊥
not_begun text rest a reads none k r is = none-some k (sym none ∙ ap kind_of ((reads (Plan k) r).1 (plan_short k, is)).0)

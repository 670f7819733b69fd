use Rattle.std.proofs.Common.{◌≡◌, pos, ◌-ℤ◌, neg_ℤ, Some, sym, ap, ◌∙◌, subst, arith, w32, to_z, of_z, rules}
use Rattle.std.proofs.lemmas.Int.{ints}
use Rattle.forms.specs.declared.number.State.{State}
use Rattle.forms.specs.States.{lag_in}
use Rattle.forms.proofs.Numbers.{Writes, writes_made, Six}
use Rattle.forms.proofs.number.I32Spelled.of_word.Goals as goal

above : (c : goal.In-Above) → Six c.in-Above.n
above c = (subst (λ (s : State). Writes s c.args.word.now) (sym c.in-Above.ensures) (writes_made c.args.word.now)).0

below : (c : goal.In-Below) → Six c.in-Below.n
below c = (subst (λ (s : State). Writes s c.args.word.now) (sym c.in-Below.ensures) (writes_made c.args.word.now)).0

pub overflow_cast-result : goal.overflow_cast-result
overflow_cast-result c = let h = above c in search rules

pub overflow_cast-result-in-Below : goal.overflow_cast-result-in-Below
overflow_cast-result-in-Below c = let h = below c in search rules

pub overflow_sub-result : goal.overflow_sub-result
overflow_sub-result c = let h = below c in search rules

pub returns-in-Above : goal.returns-in-Above
returns-in-Above c =
    let h = above c in
    let e : to_z w32 c.in-Above.n ≡ pos c.in-Above.n = omega (arith, ints) in
    ap Some e ∙ ap lag_in c.in-Above.ensures

pub returns-in-Below : goal.returns-in-Below
returns-in-Below c =
    let h = below c in
    let e : to_z w32 (of_z w32 (pos 0 -ℤ to_z w32 c.in-Below.n)) ≡ neg_ℤ (pos c.in-Below.n) = omega (arith, ints) in
    ap Some e ∙ ap lag_in c.in-Below.ensures

-- Nothing stands outside a table. Assumes nothing.
use Rattle.std.proofs.Common.{◌≡◌, ℕ, None, sym, subst}
use Rattle.network.specs.Meanings.{Outside}
use Rattle.table.specs.declared.Table.{Table}
use Rattle.table.specs.Standing.{standing}
use Rattle.table.proofs.Numbered.{at_outside}

pub in_table : {T : Type 0} {n : ℕ} (t : Table T n) (p : ℕ) → Outside n p → standing t p ≡ None
in_table t p out = at_outside t.records p (subst (λ n. Outside n p) (sym t.whole) out)

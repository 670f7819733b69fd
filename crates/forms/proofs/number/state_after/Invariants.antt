use Rattle.std.proofs.Common.{◌≡◌, take}
use Rattle.forms.specs.States.{made}
use Rattle.forms.proofs.number.state_after.Given as goal

-- the state is what the bytes so far make
abbrev pub invariant-loop-b : goal.invariant-loop-b
invariant-loop-b l = l.reader.state ≡ made (take l.b-index l.bytes)

-- A book that means what its calls make it mean keeps in step with the planner who hears them. Assumes nothing.
use Rattle.std.proofs.Common.{◌≡◌, ap, ◌∙◌}
use Rattle.book.specs.Rules.{BookMeaning}
use Rattle.book.specs.Calls.{Call, hears}
use Rattle.book.specs.Past.{InStep}

pub in_step : {E : Type 0} (m n : BookMeaning E) (c : Call E) → n ≡ hears m c → InStep m n c
in_step m n c e r cs was = e ∙ ap (λ x. hears x c) was

-- A word whose bytes are known one by one. Assumes nothing.
use Rattle.std.proofs.Common.{◌≡◌, List, ℕ, length, Some, Option, sym, ap, ◌∙◌}
use Rattle.std.proofs.lemmas.Slice.Eq.{HasBytesAt, text_from_reads}

-- such a word is read as its bytes are
pub read_as : {X : Type 0} (f : List ℕ → Option X) (w p : List ℕ) (x : X) → length w ≡ length p → HasBytesAt w 0 p → f p ≡ Some x → Some x ≡ f w
read_as f w p x long bytes is = sym (ap f (text_from_reads w p long bytes) ∙ is)

-- The bytes of a short text, and how they grow. Assumes nothing.
use Rattle.std.specs.Prelude.{◌≡◌, ℕ, ◌+◌, List, ◌++◌, length}
use Rattle.std.proofs.Common.{ap, ◌∙◌, append_assoc, arith}
use Rattle.std.proofs.lemmas.List.{length-append}
use Rattle.sheet_forms.specs.declared.text.FormText.{FormText}

abbrev pub text_of : FormText → List ℕ
text_of t = t.bytes.items

-- bytes and then others are both
pub joined : (a b c xs ys : List ℕ) → b ≡ a ++ xs → c ≡ b ++ ys → c ≡ a ++ (xs ++ ys)
joined a b c xs ys first then = then ∙ ap (λ zs. zs ++ ys) first ∙ append_assoc a xs ys

-- so many bytes and then so many are as many as both
pub counted : (a b c : ℕ) (xs ys : List ℕ) → b ≡ a + length xs → c ≡ b + length ys → c ≡ a + length (xs ++ ys)
counted a b c xs ys first then = let both = length-append xs ys in omega arith

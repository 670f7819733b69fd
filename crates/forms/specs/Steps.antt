-- How the reader goes on in a text. Assumes nothing.
--     Passes b before after answer     it goes past byte b, just where b stands at its place
--     Takes read before after answer    it reads what `read` gives at its place, and goes to the place after it
-- The text is the same; where nothing is read, the place after it is open.
use Rattle.std.specs.Prelude.{◌≡◌, ℕ, List, Option}
use Rattle.std.specs.Option.{option_map}
use Rattle.forms.specs.declared.reader.Reader.{Reader}
use Rattle.forms.specs.Reading.{paired}
use Rattle.forms.specs.Words.{byte_at}

abbrev pub Passes : ℕ → Reader → Reader → Option (Unit {0}) → Type 0
Passes b before after answer = (after.text ≡ before.text) × (option_map (λ u. after.at) answer ≡ byte_at before.text.now before.at b)

abbrev pub Takes : {X : Type 0} → (List ℕ → ℕ → Option (X × ℕ)) → Reader → Reader → Option X → Type 0
Takes read before after answer = (after.text ≡ before.text) × (paired answer after.at ≡ read before.text.now before.at)

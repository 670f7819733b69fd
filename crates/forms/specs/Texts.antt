-- What the reader of a text answers. Assumes nothing.
--     left r                       what is left of the text to read
--     Ends before answer           the answer is that nothing follows just where nothing is left
--     Stands f before rest         a short form f stands at the front of a text, and `rest` after it
--     Answers f after rest answer  the answer is f, and `rest` is left
--     Reads before after answer    each form and rest are answered just where they stand there
--     Stays old new answer         the place stays where no form was read
--     Shrinks before after answer  less is left where a form was read
--     Apart                        no line spells two forms, and no line begins another
use Rattle.std.specs.Prelude.{◌≡◌, ℕ, ◌<◌, List, [], ◌++◌, length, drop, Some, None, Ok, Err, Option, Result}
use Rattle.forms.specs.declared.form.Form.{Form}
use Rattle.forms.specs.declared.reader.NoForm.{NoForm}
use Rattle.forms.specs.declared.reader.Reader.{Reader}
use Rattle.forms.specs.Spelling.{Short, spelled}

abbrev pub left : Reader → List ℕ
left r = drop r.at r.text.now

abbrev pub Ends : List ℕ → Result (Option Form) NoForm → Type 0
Ends before answer = (answer ≡ Ok None → before ≡ []) × (before ≡ [] → answer ≡ Ok None)

abbrev pub Stands : Form → List ℕ → List ℕ → Type 0
Stands f before rest = Short f × (before ≡ spelled f ++ rest)

abbrev pub Answers : Form → List ℕ → List ℕ → Result (Option Form) NoForm → Type 0
Answers f after rest answer = (answer ≡ Ok (Some f)) × (after ≡ rest)

abbrev pub Reads : List ℕ → List ℕ → Result (Option Form) NoForm → Type 0
Reads before after answer = (f : Form) (rest : List ℕ) → (Answers f after rest answer → Stands f before rest) × (Stands f before rest → Answers f after rest answer)

abbrev pub Stays : ℕ → ℕ → Result (Option Form) NoForm → Type 0
Stays old new (Ok None) = new ≡ old
Stays old new (Ok (Some f)) = Unit {0}
Stays old new (Err e) = new ≡ old

abbrev pub Shrinks : List ℕ → List ℕ → Result (Option Form) NoForm → Type 0
Shrinks before after (Ok None) = Unit {0}
Shrinks before after (Ok (Some f)) = length after < length before
Shrinks before after (Err e) = Unit {0}

abbrev pub Apart : Type 0
Apart = (f g : Form) (r s : List ℕ) → Short f → Short g → spelled f ++ r ≡ spelled g ++ s → (f ≡ g) × (r ≡ s)

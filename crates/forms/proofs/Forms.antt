-- The reader of forms reads just the forms that are spelled. Assumes nothing.
use Rattle.std.proofs.Common.{◌≡◌, ℕ, List, [], ◌∷◌, ◌++◌, decimal, sym, refl, ap, ◌∙◌, subst, append_assoc}
use Rattle.forms.specs.declared.form.Form.{Form}
use Rattle.forms.specs.declared.form.Form.TheVariants.{Plan, Enter, Alter, Strike, Date, Clear}
use Rattle.forms.specs.declared.names.Command.{Command}
use Rattle.forms.specs.declared.names.Command.TheVariants as command
use Rattle.forms.specs.Lines.{entry_at, day_at, form_after, form_at}
use Rattle.forms.specs.Names.{command_word, command_at, plan_at, command_of, plan_of}
use Rattle.forms.specs.Parts.{item_at, date_at}
use Rattle.forms.specs.Reading.{number_at}
use Rattle.forms.specs.Spelling.{plan_word, Few, FewItem, Short, spelled}
use Rattle.forms.proofs.Dates.{FewDate, date_text, date_right}
use Rattle.forms.proofs.Items.{item_text, item_right}
use Rattle.forms.proofs.Named.{Any, Name, Number, number_right, command_words, plan_words}
use Rattle.forms.proofs.Rights.{Right, Spells, Then, Made, Byte, then_right, made_right, byte_right, done_right, spells_as}
use Rattle.forms.proofs.Runs.{before, word_right, space_out, close_out}

-- a line's number, and what is to stand there, up to the closing bracket
abbrev Placed : {X : Type 0} → (X → Type 0) → ℕ × X → Type 0
Placed ok p = Few p.0 × ok p.1

-- the text of such a pair
abbrev placed_text : {X : Type 0} → (X → List ℕ) → ℕ × X → List ℕ
placed_text sp p = before (decimal p.0) 32 ++ before (sp p.1) 41

-- such a pair by its parts
abbrev PlacedR : {X : Type 0} → (X → Type 0) → (X → List ℕ) → ℕ × X → List ℕ → Type 0
PlacedR ok sp = Then (Number 32) (λ line. Then (Spells ok sp) (λ x. Byte 41 (λ p w. (p ≡ (line, x)) × (w ≡ []))))

-- the parts of a pair spell it
placed_to : {X : Type 0} (ok : X → Type 0) (sp : X → List ℕ) (p : ℕ × X) (w : List ℕ) → PlacedR ok sp p w → Spells (Placed ok) (placed_text sp) p w
placed_to {X} ok sp p w h =
    let (line, u₁, v₁, (few, e₁), (x, u₂, v₂, (fine, e₂), (v₃, (ep, e₃), d₃), d₂), d₁) = h in
    let P : ℕ × X → Type 0 = λ q. Placed ok q × (w ≡ placed_text sp q) in
    let whole : w ≡ placed_text sp (line, x) = cc in
    subst P (sym ep) ((few, fine), whole)

-- and a pair has these parts
placed_from : {X : Type 0} (ok : X → Type 0) (sp : X → List ℕ) (p : ℕ × X) → Placed ok p → PlacedR ok sp p (placed_text sp p)
placed_from ok sp p few = (p.0, _, _, (few.0, refl), (p.1, _, _, (few.1, refl), (_, (refl, refl), refl), refl), refl)

-- a line with an item
entry_right : Right (Spells (Placed FewItem) (placed_text item_text)) entry_at
unfolding entry_at
entry_right =
    spells_as (Placed FewItem) (placed_text item_text) entry_at
    (then_right (λ t at. number_at t at 32) _ (number_right 32 space_out) (λ line. then_right item_at _ item_right (λ i. byte_right 41 _ (done_right (line, i)))))
    (placed_to FewItem item_text) (placed_from FewItem item_text)

-- a line with a date
day_right : Right (Spells (Placed FewDate) (placed_text date_text)) day_at
unfolding day_at
day_right =
    spells_as (Placed FewDate) (placed_text date_text) day_at
    (then_right (λ t at. number_at t at 32) _ (number_right 32 space_out) (λ line. then_right date_at _ date_right (λ d. byte_right 41 _ (done_right (line, d)))))
    (placed_to FewDate date_text) (placed_from FewDate date_text)

-- what follows the first word of a form
FormR : Command → Form → List ℕ → Type 0
FormR command.Plan = Made Plan (Name plan_word 41)
FormR command.Enter = Made (λ p. Enter p.0 p.1) (Spells (Placed FewItem) (placed_text item_text))
FormR command.Alter = Made (λ p. Alter p.0 p.1) (Spells (Placed FewItem) (placed_text item_text))
FormR command.Strike = Made Strike (Number 41)
FormR command.Date = Made (λ p. Date p.0 p.1.0 p.1.1 p.1.2) (Spells (Placed FewDate) (placed_text date_text))
FormR command.Clear = Made Clear (Number 41)

-- the reader of what follows reads just that
after_right : (c : Command) → Right (FormR c) (form_after c)
unfolding FormR form_after
after_right command.Plan = made_right Plan (λ t at. plan_at t at 41) (word_right Any plan_word plan_of 41 plan_words close_out)
after_right command.Enter = made_right (λ p. Enter p.0 p.1) entry_at entry_right
after_right command.Alter = made_right (λ p. Alter p.0 p.1) entry_at entry_right
after_right command.Strike = made_right Strike (λ t at. number_at t at 41) (number_right 41 close_out)
after_right command.Date = made_right (λ p. Date p.0 p.1.0 p.1.1 p.1.2) day_at day_right
after_right command.Clear = made_right Clear (λ t at. number_at t at 41) (number_right 41 close_out)

-- the line that a command and what follows it make
lined : Command → List ℕ → List ℕ
lined c v = 40 ∷ (before (command_word c) 32 ++ (v ++ 10 ∷ []))

-- a command and what follows it spell the form
form_to : (c : Command) (f : Form) (v : List ℕ) → FormR c f v → Short f × (lined c v ≡ spelled f)
unfolding FormR Short spelled lined
form_to command.Plan f v h =
    let (k, (any, ev), ef) = h in
    let P : Form → Type 0 = λ q. Short q × (lined command.Plan v ≡ spelled q) in
    subst P (sym ef) (tt, ap (lined command.Plan) ev ∙ simp append_assoc)
form_to command.Enter f v h =
    let (p, (few, ev), ef) = h in
    let P : Form → Type 0 = λ q. Short q × (lined command.Enter v ≡ spelled q) in
    subst P (sym ef) (few, ap (lined command.Enter) ev ∙ simp append_assoc)
form_to command.Alter f v h =
    let (p, (few, ev), ef) = h in
    let P : Form → Type 0 = λ q. Short q × (lined command.Alter v ≡ spelled q) in
    subst P (sym ef) (few, ap (lined command.Alter) ev ∙ simp append_assoc)
form_to command.Strike f v h =
    let (n, (few, ev), ef) = h in
    let P : Form → Type 0 = λ q. Short q × (lined command.Strike v ≡ spelled q) in
    subst P (sym ef) (few, ap (lined command.Strike) ev ∙ simp append_assoc)
form_to command.Date f v h =
    let (p, (few, ev), ef) = h in
    let P : Form → Type 0 = λ q. Short q × (lined command.Date v ≡ spelled q) in
    subst P (sym ef) ((few.0, few.1.0, few.1.1), ap (lined command.Date) ev ∙ simp append_assoc)
form_to command.Clear f v h =
    let (n, (few, ev), ef) = h in
    let P : Form → Type 0 = λ q. Short q × (lined command.Clear v ≡ spelled q) in
    subst P (sym ef) (few, ap (lined command.Clear) ev ∙ simp append_assoc)

-- the command of a form, and what follows it
form_from : (f : Form) → Short f → (c : Command) × (v : List ℕ) × FormR c f v
unfolding FormR Short
form_from (Plan k) few = (command.Plan, _, (k, (tt, refl), refl))
form_from (Enter line i) few = (command.Enter, _, ((line, i), (few, refl), refl))
form_from (Alter line i) few = (command.Alter, _, ((line, i), (few, refl), refl))
form_from (Strike line) few = (command.Strike, _, (line, (few, refl), refl))
form_from (Date line p b day) few = (command.Date, _, ((line, (p, b, day)), ((few.0, (few.1, few.2)), refl), refl))
form_from (Clear line) few = (command.Clear, _, (line, (few, refl), refl))

-- a whole line
pub form_right : Right (Spells Short spelled) form_at
unfolding form_at lined
form_right =
    spells_as Short spelled form_at
    (byte_right 40 _ (
    then_right (λ t at. command_at t at 32) _ (word_right Any command_word command_of 32 command_words space_out) (λ c.
    then_right (form_after c) _ (after_right c) (λ f. byte_right 10 _ (done_right f)))))
    (λ f w h.
    let (v, (c, u₁, v₁, (any, e₁), (g, u₂, v₂, r, (v₃, (eg, e₃), d₃), d₂), d₁), d₀) = h in
    let (few, same) = form_to c g u₂ r in
    let P : Form → Type 0 = λ q. Short q × (w ≡ spelled q) in
    let whole : w ≡ lined c u₂ = cc in
    subst P (sym eg) (few, whole ∙ same))
    (λ f few.
    let (c, v, r) = form_from f few in
    let same = (form_to c f v r).1 in
    (_, (c, _, _, (tt, refl), (f, v, _, r, (_, (refl, refl), refl), refl), refl), sym same))

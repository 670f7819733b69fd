-- What the reader answers, from what it read. Assumes nothing.
use Rattle.std.proofs.Common.{◌≡◌, ℕ, ◌<◌, ◌≤◌, List, [], ◌++◌, length, drop, Some, None, Ok, Err, sym, refl, ap, ◌∙◌, subst, arith}
use Rattle.std.proofs.lemmas.Option.{none-some, same_Some}
use Rattle.std.proofs.lemmas.List.{drop_all, length-drop, length-append}
use Rattle.forms.specs.declared.form.Form.{Form}
use Rattle.forms.specs.declared.reader.NoForm.{NoForm}
use Rattle.forms.specs.Lines.{form_at}
use Rattle.forms.specs.Spelling.{spelled}
use Rattle.forms.specs.Texts.{Ends, Stands, Reads, Apart}
use Rattle.forms.proofs.Forms.{form_right}

-- a line is not empty
pub spelled_long : (f : Form) → 0 < length (spelled f)
unfolding spelled
spelled_long f = omega arith

-- so nothing is not a line with something after it
spelled_some : (f : Form) (rest : List ℕ) → [] ≡ spelled f ++ rest → ⊥
spelled_some f rest h =
    let none = ap length h in
    let sum = length-append (spelled f) rest in
    let long = spelled_long f in
    omega arith

-- where nothing is left, that is the answer
pub end_ends : (t : List ℕ) (at : ℕ) → length t ≤ at → Ends (drop at t) (Ok None)
end_ends t at past = (λ _. drop_all at t past, λ _. refl)

-- and no form stood there
pub end_reads : (t : List ℕ) (at : ℕ) (after : List ℕ) → length t ≤ at → Reads (drop at t) after (Ok None)
end_reads t at after past f rest = (
  λ a. absurd (let z : ◌≡◌ {A = ℕ} 0 1 = cc a.0 in omega arith),
  λ s. absurd (spelled_some f rest (sym (drop_all at t past) ∙ s.1)),
)

-- where something is left, the answer is another
left_some : (t : List ℕ) (at : ℕ) → at < length t → drop at t ≡ [] → ⊥
left_some t at within h =
    let none = ap length h in
    let size = length-drop at t in
    omega arith

-- a form is not the end
pub form_ends : (t : List ℕ) (at : ℕ) (f : Form) → at < length t → Ends (drop at t) (Ok (Some f))
form_ends t at f within = (λ e. absurd (let z : ◌≡◌ {A = ℕ} 0 1 = cc in omega arith), λ e. absurd (left_some t at within e))

-- what is no form is not the end either
pub none_ends : (t : List ℕ) (at : ℕ) (e : NoForm) → at < length t → Ends (drop at t) (Err e)
none_ends t at why within = (λ e. absurd (let z : ◌≡◌ {A = ℕ} 0 1 = cc in omega arith), λ e. absurd (left_some t at within e))

-- a form that was read stood there
pub form_stands : (t : List ℕ) (at : ℕ) (f : Form) (e : ℕ) → form_at t at ≡ Some (f, e) → Stands f (drop at t) (drop e t)
form_stands t at f e h =
    let (w, (few, same), d) = form_right.sound t at f e h in
    (few, d ∙ ap (λ z. z ++ drop e t) same)

-- a form that stands there is read
pub form_answers : (t : List ℕ) (at : ℕ) (f : Form) (rest : List ℕ) → Stands f (drop at t) rest → (e : ℕ) × (form_at t at ≡ Some (f, e)) × (drop e t ≡ rest)
form_answers t at f rest s = form_right.complete t at f (spelled f) rest (s.0, refl) s.1

-- a form that was read stood there, and no other did
pub form_reads : (t : List ℕ) (at : ℕ) (f : Form) (e : ℕ) → form_at t at ≡ Some (f, e) → Reads (drop at t) (drop e t) (Ok (Some f))
form_reads t at f e h g rest = (
  λ a.
      let same : f ≡ g = cc a.0 in
      let P : Form → Type 0 = λ q. Stands q (drop at t) rest in
      let stood = form_stands t at f e h in
      subst P same (stood.0, stood.1 ∙ ap (λ z. spelled f ++ z) a.1),
  λ s.
      let (m, h₂, d) = form_answers t at g rest s in
      let pair = same_Some (f, e) (g, m) (sym h ∙ h₂) in
      (ap (λ q. Ok (Some q.0)) pair, ap (λ q. drop q.1 t) pair ∙ d),
)

-- where none was read, none stood there
pub none_reads : (t : List ℕ) (at : ℕ) (after : List ℕ) (e : NoForm) → form_at t at ≡ None → Reads (drop at t) after (Err e)
none_reads t at after why h g rest = (
  λ a. absurd (let z : ◌≡◌ {A = ℕ} 0 1 = cc a.0 in omega arith),
  λ s. let (m, h₂, d) = form_answers t at g rest s in absurd (none-some (g, m) (sym h ∙ h₂)),
)

-- less is left after a form
pub form_shrinks : (t : List ℕ) (at : ℕ) (f : Form) (e : ℕ) → form_at t at ≡ Some (f, e) → length (drop e t) < length (drop at t)
form_shrinks t at f e h =
    let size = ap length (form_stands t at f e h).1 ∙ length-append (spelled f) (drop e t) in
    let long = spelled_long f in
    omega arith

-- no form is spelled as another, and no spelling begins another
pub all_apart : Apart
all_apart f g r s few₁ few₂ same =
    let t = spelled f ++ r in
    let (e₁, h₁, d₁) = form_answers t 0 f r (few₁, refl) in
    let (e₂, h₂, d₂) = form_answers t 0 g s (few₂, same) in
    let pair = same_Some (f, e₁) (g, e₂) (sym h₁ ∙ h₂) in
    (ap (λ q. q.0) pair, sym d₁ ∙ ap (λ q. drop q.1 t) pair ∙ d₂)

-- Readers that read just what a relation spells, and how they are put together. Assumes nothing.
use Rattle.std.proofs.Common.{◌≡◌, ℕ, ◌+◌, ◌<◌, eqb, ltb, List, [], ◌∷◌, ◌++◌, length, get_or, drop, Some, None, Option, sym, refl, ap, ◌∙◌, subst, append_assoc, arith}
use Rattle.std.proofs.lemmas.Option.{none-some, same_Some, cond_some}
use Rattle.std.proofs.lemmas.List.{drop_more, length-drop}
use Rattle.std.proofs.lemmas.Bool.{and_parts, and_from, ltb-true, eqb-true, lt-ltb, eq-eqb, cond-true}
use Rattle.forms.specs.Reading.{after, then}
use Rattle.forms.specs.Words.{byte_at, stands}

-- p reads y just where a text that R gives for y stands, and goes to its end
pub record Right {Y : Type 0} (R : Y → List ℕ → Type 0) (p : List ℕ → ℕ → Option (Y × ℕ)) : Type 0 where
  pub sound : (t : List ℕ) (at : ℕ) (y : Y) (e : ℕ) → p t at ≡ Some (y, e) → (w : List ℕ) × R y w × (drop at t ≡ w ++ drop e t)
  pub complete : (t : List ℕ) (at : ℕ) (y : Y) (w rest : List ℕ) → R y w → drop at t ≡ w ++ rest → (e : ℕ) × (p t at ≡ Some (y, e)) × (drop e t ≡ rest)

-- the same where each y that passes has one spelling
abbrev pub Spells : {Y : Type 0} → (Y → Type 0) → (Y → List ℕ) → Y → List ℕ → Type 0
Spells ok sp y w = ok y × (w ≡ sp y)

-- where a second reading came to something, so did the first
pub then_some : {X Y : Type 0} (o : Option (X × ℕ)) (k : X → ℕ → Option (Y × ℕ)) (z : Y × ℕ) → then o k ≡ Some z → (x : X) × (e : ℕ) × (o ≡ Some (x, e)) × (k x e ≡ Some z)
then_some None k z h = absurd (none-some z h)
then_some (Some p) k z h = (p.0, p.1, refl, h)

-- and so where it came after a byte
pub after_some : {Y : Type 0} (o : Option ℕ) (k : ℕ → Option (Y × ℕ)) (z : Y × ℕ) → after o k ≡ Some z → (e : ℕ) × (o ≡ Some e) × (k e ≡ Some z)
after_some None k z h = absurd (none-some z h)
after_some (Some e) k z h = (e, refl, h)

-- one reading after another
abbrev pub Then : {X Y : Type 0} → (X → List ℕ → Type 0) → (X → Y → List ℕ → Type 0) → Y → List ℕ → Type 0
Then {X} R S y w = (x : X) × (u : List ℕ) × (v : List ℕ) × R x u × S x y v × (w ≡ u ++ v)

-- two readers, one after the other, read just what both relations spell together
pub then_right : {X Y : Type 0} {R : X → List ℕ → Type 0} {S : X → Y → List ℕ → Type 0} (p : List ℕ → ℕ → Option (X × ℕ)) (q : X → List ℕ → ℕ → Option (Y × ℕ)) → Right R p → ((x : X) → Right (S x) (q x)) → Right (Then R S) (λ t at. then (p t at) (λ x e. q x t e))
then_right p q first second =
    record {
      sound = λ t at y e h.
          let (x, m, h₁, h₂) = then_some (p t at) (λ x e. q x t e) (y, e) h in
          let (u, ru, du) = first.sound t at x m h₁ in
          let (v, sv, dv) = (second x).sound t m y e h₂ in
          (u ++ v, (x, u, v, ru, sv, refl), du ∙ ap (λ z. u ++ z) dv ∙ sym (append_assoc u v (drop e t)));
      complete = λ t at y w rest r d.
          let (x, u, v, ru, sv, ew) = r in
          let (m, h₁, dm) = first.complete t at x u (v ++ rest) ru (d ∙ ap (λ z. z ++ rest) ew ∙ append_assoc u v rest) in
          let (e, h₂, de) = (second x).complete t m y v rest sv dm in
          (e, ap (λ o. then o (λ x e. q x t e)) h₁ ∙ h₂, de);
    }

-- a reading, and what is made of it
abbrev pub Made : {X Y : Type 0} → (X → Y) → (X → List ℕ → Type 0) → Y → List ℕ → Type 0
Made {X} f R y w = (x : X) × R x w × (y ≡ f x)

-- what is made of a reading is spelled as the reading
pub made_right : {X Y : Type 0} {R : X → List ℕ → Type 0} (f : X → Y) (p : List ℕ → ℕ → Option (X × ℕ)) → Right R p → Right (Made f R) (λ t at. then (p t at) (λ x e. Some (f x, e)))
made_right f p first =
    record {
      sound = λ t at y e h.
          let (x, m, h₁, h₂) = then_some (p t at) (λ x e. Some (f x, e)) (y, e) h in
          let (u, ru, du) = first.sound t at x m h₁ in
          let pair = same_Some (f x, m) (y, e) h₂ in
          (u, (x, ru, sym (ap (λ z. z.0) pair)), du ∙ ap (λ z. u ++ drop z.1 t) pair);
      complete = λ t at y w rest r d.
          let (x, ru, ey) = r in
          let (m, h₁, dm) = first.complete t at x w rest ru d in
          (m, ap (λ o. then o (λ x e. Some (f x, e))) h₁ ∙ ap (λ z. Some (z, m)) (sym ey), dm);
    }

-- nothing more
pub done_right : {Y : Type 0} (y : Y) → Right (λ z w. (z ≡ y) × (w ≡ [])) (λ t at. Some (y, at))
done_right y =
    record {
      sound = λ t at z e h. let pair = same_Some (y, at) (z, e) h in ([], (sym (ap (λ q. q.0) pair), refl), ap (λ q. drop q.1 t) pair);
      complete = λ t at z w rest r d. (at, ap (λ q. Some (q, at)) (sym r.0), d ∙ ap (λ q. q ++ rest) r.1);
    }

-- the byte after which a byte was read
byte_sound : (t : List ℕ) (at b e : ℕ) → byte_at t at b ≡ Some e → drop at t ≡ b ∷ drop e t
byte_sound t at b e h =
    let (here, place) = cond_some (stands t at b) (at + 1) e h in
    let parts = and_parts (ltb at (length t)) (eqb (get_or t at 0) b) here in
    drop_more t at 0 (ltb-true at (length t) parts.0) ∙ ap (λ c. c ∷ drop (at + 1) t) (eqb-true (get_or t at 0) b parts.1) ∙ ap (λ m. b ∷ drop m t) place

-- a byte that stands there is read
byte_complete : (t : List ℕ) (at b : ℕ) (rest : List ℕ) → drop at t ≡ b ∷ rest → (byte_at t at b ≡ Some (at + 1)) × (drop (at + 1) t ≡ rest)
byte_complete t at b rest d =
    let long = ap length d in
    let left = length-drop at t in
    let within : at < length t = omega arith in
    let split = drop_more t at 0 within in
    let here : get_or t at 0 ≡ b = cc in
    let more : drop (at + 1) t ≡ rest = cc in
    (cond-true (stands t at b) (Some (at + 1)) None (and_from (ltb at (length t)) (eqb (get_or t at 0) b) (lt-ltb at (length t) within) (eq-eqb (get_or t at 0) b here)), more)

-- a byte, and a reading after it
abbrev pub Byte : {Y : Type 0} → ℕ → (Y → List ℕ → Type 0) → Y → List ℕ → Type 0
Byte b R y w = (v : List ℕ) × R y v × (w ≡ b ∷ v)

-- a byte and a reader after it read just the byte and what the reader reads
pub byte_right : {Y : Type 0} {R : Y → List ℕ → Type 0} (b : ℕ) (p : List ℕ → ℕ → Option (Y × ℕ)) → Right R p → Right (Byte b R) (λ t at. after (byte_at t at b) (λ e. p t e))
byte_right b p next =
    record {
      sound = λ t at y e h.
          let (m, h₁, h₂) = after_some (byte_at t at b) (λ e. p t e) (y, e) h in
          let (v, rv, dv) = next.sound t m y e h₂ in
          (b ∷ v, (v, rv, refl), byte_sound t at b m h₁ ∙ ap (λ z. b ∷ z) dv);
      complete = λ t at y w rest r d.
          let (v, rv, ew) = r in
          let (h₁, dm) = byte_complete t at b (v ++ rest) (d ∙ ap (λ z. z ++ rest) ew) in
          let (e, h₂, de) = next.complete t (at + 1) y v rest rv dm in
          (e, ap (λ o. after o (λ e. p t e)) h₁ ∙ h₂, de);
    }

-- a relation in other words
pub right_as : {Y : Type 0} {R S : Y → List ℕ → Type 0} (p : List ℕ → ℕ → Option (Y × ℕ)) → Right R p → ((y : Y) (w : List ℕ) → R y w → S y w) → ((y : Y) (w : List ℕ) → S y w → R y w) → Right S p
right_as p r to from =
    record {
      sound = λ t at y e h. let (w, rw, dw) = r.sound t at y e h in (w, to y w rw, dw);
      complete = λ t at y w rest sw d. r.complete t at y w rest (from y w sw) d;
    }

-- a relation that gives each y that passes one spelling
pub spells_as : {Y : Type 0} {R : Y → List ℕ → Type 0} (ok : Y → Type 0) (sp : Y → List ℕ) (p : List ℕ → ℕ → Option (Y × ℕ)) → Right R p → ((y : Y) (w : List ℕ) → R y w → Spells ok sp y w) → ((y : Y) → ok y → R y (sp y)) → Right (Spells ok sp) p
spells_as {R = R} ok sp p r to from = right_as p r to (λ y w h. subst (R y) (sym h.1) (from y h.0))

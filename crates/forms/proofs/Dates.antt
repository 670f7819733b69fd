-- The reader of dates reads just the dates that are spelled. Assumes nothing.
use Rattle.std.proofs.Common.{◌≡◌, ℕ, List, ◌∷◌, ◌++◌, decimal, sym, refl, ap, ◌∙◌, subst, append_assoc}
use Rattle.book.specs.declared.date.Bound.{Bound}
use Rattle.forms.specs.declared.form.Point.{Point}
use Rattle.forms.specs.declared.form.Point.TheVariants.{Start, Finish, Node}
use Rattle.forms.specs.declared.names.PointKind.{PointKind}
use Rattle.forms.specs.declared.names.PointKind.TheVariants as kind
use Rattle.forms.specs.Names.{point_kind_word, point_kind_at, bound_at, point_kind_of, bound_of}
use Rattle.forms.specs.Parts.{point_of, point_at, date_at}
use Rattle.forms.specs.Reading.{number_at}
use Rattle.forms.specs.Spelling.{bracketed, bound_word, date_words, Few, FewPoint}
use Rattle.forms.proofs.Named.{Any, Name, Number, number_right, point_words, bound_words}
use Rattle.forms.proofs.Rights.{Right, Spells, Then, Made, Byte, then_right, made_right, byte_right, spells_as}
use Rattle.forms.proofs.Runs.{before, word_right, space_out, close_out}

-- an event, with the space after it
abbrev PointR : Point → List ℕ → Type 0
PointR = Then (Name point_kind_word 32) (λ k. Made (λ n. point_of k n) (Number 32))

-- the reader of events reads just those
point_right : Right PointR point_at
unfolding point_at
point_right =
    then_right (λ t at. point_kind_at t at 32) _ (word_right Any point_kind_word point_kind_of 32 point_words space_out) (λ k.
    made_right (λ n. point_of k n) (λ t at. number_at t at 32) (number_right 32 space_out))

-- an event, a bound and a day
abbrev pub FewDate : Point × Bound × ℕ → Type 0
FewDate d = FewPoint d.0 × Few d.2

-- a date as it is spelled
abbrev pub date_text : Point × Bound × ℕ → List ℕ
date_text d = bracketed (date_words d.0 d.1 d.2)

-- a date by its parts
abbrev DateR : Point × Bound × ℕ → List ℕ → Type 0
DateR = Byte 40 (Then PointR (λ p. Then (Name bound_word 32) (λ b. Made (λ d. (p, b, d)) (Number 41))))

-- the words of a date, from its parts
date_words_lem : (k : PointKind) (n : ℕ) (b : Bound) (day : ℕ) → 40 ∷ ((before (point_kind_word k) 32 ++ before (decimal n) 32) ++ (before (bound_word b) 32 ++ before (decimal day) 41)) ≡ date_text (point_of k n, b, day)
date_words_lem kind.Start n b day = simp append_assoc
date_words_lem kind.Finish n b day = simp append_assoc
date_words_lem kind.Node n b day = simp append_assoc

-- an event has the number that was read
few_point : (k : PointKind) (n : ℕ) → Few n → FewPoint (point_of k n)
few_point kind.Start n few = few
few_point kind.Finish n few = few
few_point kind.Node n few = few

-- the parts of a date spell it
date_to : (d : Point × Bound × ℕ) (w : List ℕ) → DateR d w → Spells FewDate date_text d w
date_to d w h =
    let (v, (p, u₁, v₁, (k, u₂, v₂, (any₂, e₂), (n, (few₃, e₃), ep), d₂), (b, u₄, v₄, (any₄, e₄), (day, (few₅, e₅), ed), d₄), d₁), d₀) = h in
    let P : Point × Bound × ℕ → Type 0 = λ q. FewDate q × (w ≡ date_text q) in
    let same : d ≡ (point_of k n, b, day) = ed ∙ ap (λ q. (q, b, day)) ep in
    let whole : w ≡ 40 ∷ ((before (point_kind_word k) 32 ++ before (decimal n) 32) ++ (before (bound_word b) 32 ++ before (decimal day) 41)) = cc in
    subst P (sym same) ((few_point k n few₃, few₅), whole ∙ date_words_lem k n b day)

-- a date made of a kind and numbers has these parts
made_from : (k : PointKind) (n : ℕ) (b : Bound) (day : ℕ) → Few n → Few day → DateR (point_of k n, b, day) (date_text (point_of k n, b, day))
made_from k n b day few₁ few₂ =
    (_, (point_of k n, _, _, (k, _, _, (tt, refl), (n, (few₁, refl), refl), refl), (b, _, _, (tt, refl), (day, (few₂, refl), refl), refl), refl), sym (date_words_lem k n b day))

-- and so has each date
point_from : (p : Point) (b : Bound) (day : ℕ) → FewPoint p → Few day → DateR (p, b, day) (date_text (p, b, day))
point_from (Start n) b day few₁ few₂ = made_from kind.Start n b day few₁ few₂
point_from (Finish n) b day few₁ few₂ = made_from kind.Finish n b day few₁ few₂
point_from (Node n) b day few₁ few₂ = made_from kind.Node n b day few₁ few₂

-- a date between brackets
pub date_right : Right (Spells FewDate date_text) date_at
unfolding date_at
date_right =
    spells_as FewDate date_text date_at
    (byte_right 40 _ (
    then_right point_at _ point_right (λ p.
    then_right (λ t at. bound_at t at 32) _ (word_right Any bound_word bound_of 32 bound_words space_out) (λ b.
    made_right (λ d. (p, b, d)) (λ t at. number_at t at 41) (number_right 41 close_out)))))
    date_to
    (λ d few. point_from d.0 d.1 d.2 few.0 few.1)

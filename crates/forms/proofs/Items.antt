-- The reader of items reads just the items that are spelled. Assumes nothing.
use Rattle.std.proofs.Common.{◌≡◌, ℕ, List, ◌∷◌, ◌++◌, Some, decimal, sym, refl, ap, ◌∙◌, subst, append_assoc}
use Rattle.std.specs.Fmt.{signed_decimal}
use Rattle.activity.specs.declared.entry.Work.{Work}
use Rattle.activity.specs.declared.entry.Work.TheVariants.{Days, Hours}
use Rattle.activity.specs.declared.entry.Running.{Running}
use Rattle.activity.specs.declared.entry.Relation.{Relation}
use Rattle.arrow.specs.declared.entry.Arrow.{Arrow}
use Rattle.forms.specs.declared.form.Item.{Item}
use Rattle.forms.specs.declared.form.Item.TheVariants as item
use Rattle.forms.specs.declared.names.ItemKind.{ItemKind}
use Rattle.forms.specs.declared.names.ItemKind.TheVariants as kind
use Rattle.forms.specs.Names.{item_kind_word, item_kind_at, running_at, kind_at, bound_at, item_kind_of, running_of, kind_of, bound_of}
use Rattle.forms.specs.Parts.{amount_at, activity_at, relation_at, arrow_at, item_after, item_at}
use Rattle.forms.specs.Reading.{then, number_at, lag_at, lag_of}
use Rattle.forms.specs.Spelling.{bracketed, running_word, kind_word, bound_word, item_words, Few, FewWork, FewItem}
use Rattle.forms.proofs.Choosing.{FewLag, lag_words}
use Rattle.forms.proofs.Named.{Any, Name, Number, Lag, number_right, item_words_lem, running_words, kind_words, bound_words}
use Rattle.forms.proofs.Rights.{Right, Spells, Then, Made, Byte, then_right, made_right, byte_right, spells_as}
use Rattle.forms.proofs.Runs.{before, word_right, space_out, close_out}

-- an amount of work
abbrev pub FewAmount : ℕ × Running → Type 0
FewAmount p = Few p.0

-- an amount as it is spelled
abbrev pub amount_text : ℕ × Running → List ℕ
amount_text p = before (decimal p.0) 32 ++ before (running_word p.1) 41

-- an amount by its parts
AmountR : ℕ × Running → List ℕ → Type 0
AmountR = Then (Number 32) (λ n. Made (λ r. (n, r)) (Name running_word 41))

-- the parts of an amount spell it
amount_to : (p : ℕ × Running) (w : List ℕ) → AmountR p w → Spells FewAmount amount_text p w
unfolding AmountR
amount_to p w h =
    let (n, u, v, (few, eu), (r, (any, ev), ep), ew) = h in
    let P : ℕ × Running → Type 0 = λ q. FewAmount q × (w ≡ amount_text q) in
    let whole : w ≡ amount_text (n, r) = cc in
    subst P (sym ep) (few, whole)

-- the reader of amounts reads just those
pub amount_right : Right (Spells FewAmount amount_text) amount_at
unfolding amount_at AmountR
amount_right =
    spells_as FewAmount amount_text amount_at
    (then_right (λ t at. number_at t at 32) (λ n t at. then (running_at t at 41) (λ r e. Some ((n, r), e))) (number_right 32 space_out)
    (λ n. made_right (λ r. (n, r)) (λ t at. running_at t at 41) (word_right Any running_word running_of 41 running_words close_out)))
    amount_to
    (λ p few. (p.0, _, _, (few, refl), (p.1, (tt, refl), refl), refl))

-- a relation
abbrev pub FewRelation : Relation → Type 0
FewRelation r = Few r.first × Few r.second × FewLag r.lag

-- a relation as it is spelled after its first word
abbrev pub relation_text : Relation → List ℕ
relation_text r = before (kind_word r.kind) 32 ++ (before (bound_word r.bound) 32 ++ (before (decimal r.first) 32 ++ (before (decimal r.second) 32 ++ before (signed_decimal r.lag) 41)))

-- a relation by its parts
RelationR : Relation → List ℕ → Type 0
RelationR =
    Then (Name kind_word 32) (λ k. Then (Name bound_word 32) (λ b. Then (Number 32) (λ f. Then (Number 32) (λ s.
    Made (λ l. record { kind = k; bound = b; first = f; second = s; lag = l }) (Lag 41)))))

-- the parts of a relation spell it
relation_to : (r : Relation) (w : List ℕ) → RelationR r w → Spells FewRelation relation_text r w
unfolding RelationR
relation_to r w h =
    let (k, u₁, v₁, (any₁, e₁), (b, u₂, v₂, (any₂, e₂), (f, u₃, v₃, (few₃, e₃), (s, u₄, v₄, (few₄, e₄), (l, (few₅, e₅), er), d₄), d₃), d₂), d₁) = h in
    let P : Relation → Type 0 = λ q. FewRelation q × (w ≡ relation_text q) in
    let made : Relation = record { kind = k; bound = b; first = f; second = s; lag = l } in
    let whole : w ≡ relation_text made = cc in
    subst P (sym er) ((few₃, few₄, few₅), whole)

-- the reader of relations reads just those
pub relation_right : Right (Spells FewRelation relation_text) relation_at
unfolding relation_at RelationR
relation_right =
    spells_as FewRelation relation_text relation_at
    (then_right (λ t at. kind_at t at 32) _ (word_right Any kind_word kind_of 32 kind_words space_out) (λ k.
    then_right (λ t at. bound_at t at 32) _ (word_right Any bound_word bound_of 32 bound_words space_out) (λ b.
    then_right (λ t at. number_at t at 32) _ (number_right 32 space_out) (λ f.
    then_right (λ t at. number_at t at 32) _ (number_right 32 space_out) (λ s.
    made_right (λ l. record { kind = k; bound = b; first = f; second = s; lag = l }) (λ t at. lag_at t at 41) (word_right FewLag signed_decimal lag_of 41 lag_words close_out))))))
    relation_to
    (λ r few. (r.kind, _, _, (tt, refl), (r.bound, _, _, (tt, refl), (r.first, _, _, (few.0, refl), (r.second, _, _, (few.1, refl), (r.lag, (few.2, refl), refl), refl), refl), refl), refl))

-- an arrow
abbrev pub FewArrow : Arrow → Type 0
FewArrow a = Few a.from × Few a.to × Few a.days

-- an arrow as it is spelled after its first word
abbrev pub arrow_text : Arrow → List ℕ
arrow_text a = before (decimal a.from) 32 ++ (before (decimal a.to) 32 ++ before (decimal a.days) 41)

-- an arrow by its parts
ArrowR : Arrow → List ℕ → Type 0
ArrowR = Then (Number 32) (λ f. Then (Number 32) (λ s. Made (λ d. record { from = f; to = s; days = d }) (Number 41)))

-- the parts of an arrow spell it
arrow_to : (a : Arrow) (w : List ℕ) → ArrowR a w → Spells FewArrow arrow_text a w
unfolding ArrowR
arrow_to a w h =
    let (f, u₁, v₁, (few₁, e₁), (s, u₂, v₂, (few₂, e₂), (d, (few₃, e₃), ea), d₂), d₁) = h in
    let P : Arrow → Type 0 = λ q. FewArrow q × (w ≡ arrow_text q) in
    let made : Arrow = record { from = f; to = s; days = d } in
    let whole : w ≡ arrow_text made = cc in
    subst P (sym ea) ((few₁, few₂, few₃), whole)

-- the reader of arrows reads just those
pub arrow_right : Right (Spells FewArrow arrow_text) arrow_at
unfolding arrow_at ArrowR
arrow_right =
    spells_as FewArrow arrow_text arrow_at
    (then_right (λ t at. number_at t at 32) _ (number_right 32 space_out) (λ f.
    then_right (λ t at. number_at t at 32) _ (number_right 32 space_out) (λ s.
    made_right (λ d. record { from = f; to = s; days = d }) (λ t at. number_at t at 41) (number_right 41 close_out))))
    arrow_to
    (λ a few. (a.from, _, _, (few.0, refl), (a.to, _, _, (few.1, refl), (a.days, (few.2, refl), refl), refl), refl))

-- what follows the first word of an item
ItemR : ItemKind → Item → List ℕ → Type 0
ItemR kind.Days = Made (λ p. item.Activity (record { work = Days p.0; running = p.1 })) (Spells FewAmount amount_text)
ItemR kind.Hours = Made (λ p. item.Activity (record { work = Hours p.0; running = p.1 })) (Spells FewAmount amount_text)
ItemR kind.Relation = Made item.Relation (Spells FewRelation relation_text)
ItemR kind.Arrow = Made item.Arrow (Spells FewArrow arrow_text)

-- the reader of what follows reads just that
after_right : (k : ItemKind) → Right (ItemR k) (item_after k)
unfolding ItemR item_after activity_at
after_right kind.Days = made_right (λ p. item.Activity (record { work = Days p.0; running = p.1 })) amount_at amount_right
after_right kind.Hours = made_right (λ p. item.Activity (record { work = Hours p.0; running = p.1 })) amount_at amount_right
after_right kind.Relation = made_right item.Relation relation_at relation_right
after_right kind.Arrow = made_right item.Arrow arrow_at arrow_right

-- an item as it is spelled
abbrev pub item_text : Item → List ℕ
item_text i = bracketed (item_words i)

-- the words of an item, from the kind and what follows it
item_to : (k : ItemKind) (i : Item) (v : List ℕ) → ItemR k i v → FewItem i × (40 ∷ (before (item_kind_word k) 32 ++ v) ≡ item_text i)
unfolding ItemR
item_to kind.Days i v h =
    let (p, (few, ev), ei) = h in
    let P : Item → Type 0 = λ q. FewItem q × (40 ∷ (before (item_kind_word kind.Days) 32 ++ v) ≡ item_text q) in
    subst P (sym ei) (few, ap (λ z. 40 ∷ (before (item_kind_word kind.Days) 32 ++ z)) ev ∙ simp append_assoc)
item_to kind.Hours i v h =
    let (p, (few, ev), ei) = h in
    let P : Item → Type 0 = λ q. FewItem q × (40 ∷ (before (item_kind_word kind.Hours) 32 ++ v) ≡ item_text q) in
    subst P (sym ei) (few, ap (λ z. 40 ∷ (before (item_kind_word kind.Hours) 32 ++ z)) ev ∙ simp append_assoc)
item_to kind.Relation i v h =
    let (r, (few, ev), ei) = h in
    let P : Item → Type 0 = λ q. FewItem q × (40 ∷ (before (item_kind_word kind.Relation) 32 ++ v) ≡ item_text q) in
    subst P (sym ei) (few, ap (λ z. 40 ∷ (before (item_kind_word kind.Relation) 32 ++ z)) ev ∙ simp append_assoc)
item_to kind.Arrow i v h =
    let (a, (few, ev), ei) = h in
    let P : Item → Type 0 = λ q. FewItem q × (40 ∷ (before (item_kind_word kind.Arrow) 32 ++ v) ≡ item_text q) in
    subst P (sym ei) (few, ap (λ z. 40 ∷ (before (item_kind_word kind.Arrow) 32 ++ z)) ev ∙ simp append_assoc)

-- and back
work_from : (work : Work) (running : Running) → FewWork work → Byte 40 (Then (Name item_kind_word 32) ItemR) (item.Activity (record { work = work; running = running })) (item_text (item.Activity (record { work = work; running = running })))
unfolding ItemR
work_from (Days n) r few = (before (item_kind_word kind.Days) 32 ++ amount_text (n, r), (kind.Days, _, _, (tt, refl), ((n, r), (few, refl), refl), refl), simp append_assoc)
work_from (Hours n) r few = (before (item_kind_word kind.Hours) 32 ++ amount_text (n, r), (kind.Hours, _, _, (tt, refl), ((n, r), (few, refl), refl), refl), simp append_assoc)

-- each item has a kind and what follows it
item_from : (i : Item) → FewItem i → Byte 40 (Then (Name item_kind_word 32) ItemR) i (item_text i)
unfolding ItemR
item_from (item.Activity a) few = work_from a.work a.running few
item_from (item.Relation r) few = (before (item_kind_word kind.Relation) 32 ++ relation_text r, (kind.Relation, _, _, (tt, refl), (r, (few, refl), refl), refl), simp append_assoc)
item_from (item.Arrow a) few = (before (item_kind_word kind.Arrow) 32 ++ arrow_text a, (kind.Arrow, _, _, (tt, refl), (a, (few, refl), refl), refl), simp append_assoc)

-- an item between brackets
pub item_right : Right (Spells FewItem item_text) item_at
unfolding item_at
item_right =
    spells_as FewItem item_text item_at
    (byte_right 40 (λ t at. then (item_kind_at t at 32) (λ k e. item_after k t e)) (then_right (λ t at. item_kind_at t at 32) item_after (word_right Any item_kind_word item_kind_of 32 item_words_lem space_out) after_right))
    (λ i w h.
    let (v, (k, u, v', (any, eu), r, ev), ew) = h in
    let (few, same) = item_to k i v' r in
    (few, ew ∙ ap (λ z. 40 ∷ z) (ev ∙ ap (λ z. z ++ v') eu) ∙ same))
    item_from

-- Items and dates as they are read: what was read, and the place after it. Assumes nothing.
--     amount_at, relation_at, arrow_at   what stands between an item's first word and its closing bracket, with that bracket
--     Makes Post work                  what a function returns of each count is the work that `work` says
--     activity_at work                 an activity after its first word, whose count `work` makes work
--     item_after kind                  an item after its first word
--     item_at                          an item between brackets
--     point_of kind n                  the event of a kind with a number
--     point_at                         an event, with the space after it
--     date_at                          a date between brackets
use Rattle.std.specs.Prelude.{◌≡◌, ℕ, ◌<◌, ◌^◌, List, Some, Option}
use Rattle.activity.specs.declared.entry.Work.{Work}
use Rattle.activity.specs.declared.entry.Work.TheVariants.{Days, Hours}
use Rattle.activity.specs.declared.entry.Running.{Running}
use Rattle.activity.specs.declared.entry.Relation.{Relation}
use Rattle.arrow.specs.declared.entry.Arrow.{Arrow}
use Rattle.book.specs.declared.date.Bound.{Bound}
use Rattle.forms.specs.declared.form.Item.{Item}
use Rattle.forms.specs.declared.form.Item.TheVariants as item
use Rattle.forms.specs.declared.form.Point.{Point}
use Rattle.forms.specs.declared.form.Point.TheVariants as point
use Rattle.forms.specs.declared.names.ItemKind.{ItemKind}
use Rattle.forms.specs.declared.names.ItemKind.TheVariants as kind
use Rattle.forms.specs.declared.names.PointKind.{PointKind}
use Rattle.forms.specs.declared.names.PointKind.TheVariants as event
use Rattle.forms.specs.Names.{item_kind_at, running_at, kind_at, bound_at, point_kind_at}
use Rattle.forms.specs.Reading.{after, then, number_at, lag_at}
use Rattle.forms.specs.Words.{byte_at}

unfoldable pub amount_at : List ℕ → ℕ → Option ((ℕ × Running) × ℕ)
amount_at t at = then (number_at t at 32) (λ n e. then (running_at t e 41) (λ r e'. Some ((n, r), e')))

abbrev pub Makes : (ℕ → Work → Type 0) → (ℕ → Work) → Type 0
Makes Post work = (n : ℕ) (w : Work) → n < 2 ^ 32 → Post n w → w ≡ work n

unfoldable pub activity_at : (ℕ → Work) → List ℕ → ℕ → Option (Item × ℕ)
activity_at work t at = then (amount_at t at) (λ p e. Some (item.Activity (record { work = work p.0; running = p.1 }), e))

unfoldable pub relation_at : List ℕ → ℕ → Option (Relation × ℕ)
relation_at t at =
    then (kind_at t at 32) (λ k e₁. then (bound_at t e₁ 32) (λ b e₂. then (number_at t e₂ 32) (λ f e₃. then (number_at t e₃ 32) (λ s e₄.
    then (lag_at t e₄ 41) (λ l e₅. Some (record { kind = k; bound = b; first = f; second = s; lag = l }, e₅))))))

unfoldable pub arrow_at : List ℕ → ℕ → Option (Arrow × ℕ)
arrow_at t at =
    then (number_at t at 32) (λ f e₁. then (number_at t e₁ 32) (λ s e₂. then (number_at t e₂ 41) (λ d e₃.
    Some (record { from = f; to = s; days = d }, e₃))))

unfoldable pub item_after : ItemKind → List ℕ → ℕ → Option (Item × ℕ)
item_after kind.Days t at = activity_at Days t at
item_after kind.Hours t at = activity_at Hours t at
item_after kind.Relation t at = then (relation_at t at) (λ r e. Some (item.Relation r, e))
item_after kind.Arrow t at = then (arrow_at t at) (λ a e. Some (item.Arrow a, e))

unfoldable pub item_at : List ℕ → ℕ → Option (Item × ℕ)
item_at t at = after (byte_at t at 40) (λ e₁. then (item_kind_at t e₁ 32) (λ k e₂. item_after k t e₂))

abbrev pub point_of : PointKind → ℕ → Point
point_of event.Start n = point.Start n
point_of event.Finish n = point.Finish n
point_of event.Node n = point.Node n

unfoldable pub point_at : List ℕ → ℕ → Option (Point × ℕ)
point_at t at = then (point_kind_at t at 32) (λ k e₁. then (number_at t e₁ 32) (λ n e₂. Some (point_of k n, e₂)))

unfoldable pub date_at : List ℕ → ℕ → Option ((Point × Bound × ℕ) × ℕ)
date_at t at =
    after (byte_at t at 40) (λ e₁. then (point_at t e₁) (λ p e₂. then (bound_at t e₂ 32) (λ b e₃. then (number_at t e₃ 41) (λ d e₄.
    Some ((p, b, d), e₄)))))

-- Forms as they are read: what was read, and the place after it. Assumes nothing.
--     entry_at, day_at      a line's number and the item, or the date, up to the closing bracket
--     form_after command   a form after its first word, up to the closing bracket
--     form_at              a whole line
use Rattle.std.specs.Prelude.{ℕ, List, Some, Option}
use Rattle.book.specs.declared.date.Bound.{Bound}
use Rattle.forms.specs.declared.form.Form.{Form}
use Rattle.forms.specs.declared.form.Form.TheVariants.{Plan, Enter, Alter, Strike, Date, Clear}
use Rattle.forms.specs.declared.form.Item.{Item}
use Rattle.forms.specs.declared.form.Point.{Point}
use Rattle.forms.specs.declared.names.Command.{Command}
use Rattle.forms.specs.declared.names.Command.TheVariants as command
use Rattle.forms.specs.Names.{command_at, plan_at}
use Rattle.forms.specs.Parts.{item_at, date_at}
use Rattle.forms.specs.Reading.{after, then, number_at}
use Rattle.forms.specs.Words.{byte_at}

unfoldable pub entry_at : List ℕ → ℕ → Option ((ℕ × Item) × ℕ)
entry_at t at = then (number_at t at 32) (λ line e₁. then (item_at t e₁) (λ i e₂. after (byte_at t e₂ 41) (λ e₃. Some ((line, i), e₃))))

unfoldable pub day_at : List ℕ → ℕ → Option ((ℕ × (Point × Bound × ℕ)) × ℕ)
day_at t at = then (number_at t at 32) (λ line e₁. then (date_at t e₁) (λ d e₂. after (byte_at t e₂ 41) (λ e₃. Some ((line, d), e₃))))

unfoldable pub form_after : Command → List ℕ → ℕ → Option (Form × ℕ)
form_after command.Plan t at = then (plan_at t at 41) (λ k e. Some (Plan k, e))
form_after command.Enter t at = then (entry_at t at) (λ p e. Some (Enter p.0 p.1, e))
form_after command.Alter t at = then (entry_at t at) (λ p e. Some (Alter p.0 p.1, e))
form_after command.Strike t at = then (number_at t at 41) (λ line e. Some (Strike line, e))
form_after command.Date t at = then (day_at t at) (λ p e. Some (Date p.0 p.1.0 p.1.1 p.1.2, e))
form_after command.Clear t at = then (number_at t at 41) (λ line e. Some (Clear line, e))

unfoldable pub form_at : List ℕ → ℕ → Option (Form × ℕ)
form_at t at =
    after (byte_at t at 40) (λ e₁. then (command_at t e₁ 32) (λ c e₂. then (form_after c t e₂) (λ f e₃. after (byte_at t e₃ 10) (λ e₄. Some (f, e₄)))))

-- What a date layer means, by the book below it and its own dates. Assumes nothing.
--     layered m own    what a layer with its own dates means over a book that means m
--     over meaning b   what the dated book b means, where `meaning` tells what the book below means
use Rattle.std.specs.Prelude.{ℕ, ◌-◌, cond, None, Option, nat_le}
use Rattle.book.specs.declared.date.Date.{Date}
use Rattle.book.specs.Layers.{added, layer_rule}
use Rattle.book.specs.Rules.{BookMeaning}
use Rattle.table.specs.Standing.{standing}
use Rattle.dates.specs.declared.layer.Dated.{Dated}

-- what stands on a date place: below, or on one of the places that the layer adds
abbrev pub date_over : {E : Type 0} → BookMeaning E → (ℕ → Option Date) → ℕ → Option Date
date_over m own q = cond (nat_le q m.rule.dates) (m.ledger.date q) (cond (nat_le (q - m.rule.dates) (added m.rule.places)) (own (q - m.rule.dates)) None)

abbrev pub layered : {E : Type 0} → BookMeaning E → (ℕ → Option Date) → BookMeaning E
layered m own = record { rule = layer_rule m.rule; ledger = record { line = m.ledger.line; date = date_over m own } }

abbrev pub over : {B E : Type 0} → (B → BookMeaning E) → Dated B E → BookMeaning E
over meaning b = layered (meaning b.below) (standing b.own)

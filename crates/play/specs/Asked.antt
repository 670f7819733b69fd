-- The sheets that a list of calls asks for, each written into the same bytes. Assumes nothing.
--     SheetInto ..    the sheet of a plan that is right of m was asked for, with those bytes
--     Asked ..        what one call does to the bytes: nothing, but where it asks for the sheet
--     AllAsked ..     what a list of calls does to them
use Rattle.std.specs.Prelude.{◌≡◌, ℕ, List, [], ◌∷◌, Option, Result}
use Rattle.book.specs.declared.refusal.Refused.{Refused}
use Rattle.book.specs.Rules.{BookMeaning, network_of}
use Rattle.book.specs.Calls.{hears}
use Rattle.plan.specs.Issues.{Right}
use Rattle.solver.specs.declared.ring.Ring.{Ring}
use Rattle.solver.specs.declared.times.Times.{Times}
use Rattle.sheet.specs.declared.span.Span.{Span}
use Rattle.sheet.specs.Sheets.{Delivered}
use Rattle.play.specs.declared.call.PlanCall.{PlanCall}
use Rattle.play.specs.declared.call.PlanCall.TheVariants.{Enter, Alter, Strike, Date, Clear, Issue, Reopen, IsSound, Earliest, Latest, Length, RingStep, Sheet}
use Rattle.play.specs.Played.{heard_as}

module _ {E : Type 0} (span_of : E → ℕ → Option Span) where
  pub record SheetInto (m : BookMeaning E) (before now : List ℕ) : Type 0 where
    pub outcome : Result Times Ring
    pub right : Right (network_of m) outcome
    pub answer : Result ℕ Refused
    pub delivered : Delivered span_of m outcome before now answer

  abbrev pub Asked : BookMeaning E → PlanCall E → List ℕ → List ℕ → Type 0
  Asked m (Enter p e) before now = now ≡ before
  Asked m (Alter p e) before now = now ≡ before
  Asked m (Strike p) before now = now ≡ before
  Asked m (Date q d) before now = now ≡ before
  Asked m (Clear q) before now = now ≡ before
  Asked m Issue before now = now ≡ before
  Asked m Reopen before now = now ≡ before
  Asked m IsSound before now = now ≡ before
  Asked m (Earliest e) before now = now ≡ before
  Asked m (Latest e) before now = now ≡ before
  Asked m Length before now = now ≡ before
  Asked m (RingStep n) before now = now ≡ before
  Asked m Sheet before now = SheetInto m before now

  pub record Between (First Rest : List ℕ → Type 0) : Type 0 where
    pub bytes : List ℕ
    pub first : First bytes
    pub rest : Rest bytes

  -- each call in its turn
  abbrev pub AllAsked : BookMeaning E → List (PlanCall E) → List ℕ → List ℕ → Type 0
  AllAsked m [] before now = now ≡ before
  AllAsked m (c ∷ cs) before now = Between (Asked m c before) (λ bytes. AllAsked (hears m (heard_as c)) cs bytes now)

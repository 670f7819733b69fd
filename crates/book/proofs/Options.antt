-- What is known where something came out of a test. Assumes nothing.
use Rattle.std.proofs.Common.{◌≡◌, ℕ, Bool, true, false, cond, ◌⊎◌, is_some, Some, None, Option, refl, inl, inr, arith}
use Rattle.std.specs.Option.{option_map}
use Rattle.book.specs.declared.refusal.Refusal.{Refusal}
use Rattle.book.specs.Rules.{after}
use Rattle.book.specs.Calls.{unless, ◌or_else◌}

pub none_is_not : {A : Type 0} (x : A) → ◌≡◌ {A = Option A} None (Some x) → ⊥
none_is_not x e = let z : ◌≡◌ {A = ℕ} 0 1 = cc in omega arith

pub none_from : {A : Type 0} (o : Option A) → is_some o ≡ false → o ≡ None
none_from None e = refl
none_from (Some x) e = absurd (let w : ◌≡◌ {A = ℕ} 0 1 = cc in omega arith)

-- what a test lets through passed the test
pub cond_some : {A : Type 0} (b : Bool) (x : Option A) (y : A) → cond b x None ≡ Some y → (b ≡ true) × (x ≡ Some y)
cond_some true x y e = (refl, e)
cond_some false x y e = absurd (none_is_not y e)

pub let_through : {A : Type 0} (b : Bool) (x y : A) → cond b (Some x) None ≡ Some y → (b ≡ true) × (x ≡ y)
let_through true x y e = (refl, cc)
let_through false x y e = absurd (none_is_not y e)

-- one of two ways
pub cond_ways : {A : Type 0} (b : Bool) (x y z : A) → cond b x y ≡ z → ((b ≡ true) × (x ≡ z)) ⊎ ((b ≡ false) × (y ≡ z))
cond_ways true x y z e = inl (refl, e)
cond_ways false x y z e = inr (refl, e)

-- what comes out of something comes from something
pub after_some : {A B : Type 0} (o : Option A) (f : A → Option B) (y : B) → after o f ≡ Some y → (a : A) × (o ≡ Some a) × (f a ≡ Some y)
after_some None f y e = absurd (none_is_not y e)
after_some (Some a) f y e = (a, refl, e)

pub mapped_some : {A B : Type 0} (f : A → B) (o : Option A) (y : B) → option_map f o ≡ Some y → (a : A) × (o ≡ Some a) × (f a ≡ y)
mapped_some f None y e = absurd (none_is_not y e)
mapped_some f (Some a) y e = (a, refl, cc)

-- the refusal that came is the one that the test gives
pub unless_some : (b : Bool) (j k : Refusal) → unless b j ≡ Some k → j ≡ k
unless_some true j k e = absurd (none_is_not k e)
unless_some false j k e = cc

-- the refusal that came is one of the two
pub either_some : (x y : Option Refusal) (k : Refusal) → (x or_else y) ≡ Some k → (x ≡ Some k) ⊎ (y ≡ Some k)
either_some None y k e = inr e
either_some (Some j) y k e = inl e

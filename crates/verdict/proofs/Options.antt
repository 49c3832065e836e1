-- Options, taken apart.
use Rattle.std.proofs.Common.{◌≡◌, Bool, true, false, cond, is_some, Some, None, Option, sym, refl, ap}
use Rattle.std.specs.Option.{option_map}
use Rattle.std.proofs.lemmas.Bool.{false≢true}
use Rattle.rules.specs.Needs.{and_then}
use Rattle.rules.specs.Sites.{some}
use Rattle.rules.proofs.Needing.{none-some}

module _ {A : Type 0} where
  pub there-is : (o : Option A) → is_some o ≡ true → (a : A) × (o ≡ Some a)
  there-is None e = absurd (false≢true e)
  there-is (Some a) e = (a, refl)

  pub there-is-none : (o : Option A) → is_some o ≡ false → o ≡ None
  there-is-none None e = refl
  there-is-none (Some a) e = absurd (false≢true (sym e))

  pub none_or_some : (o : Option A) (P : Type 0) → (o ≡ None → P) → ((a : A) → o ≡ Some a → P) → P
  none_or_some None P n s = n refl
  none_or_some (Some a) P n s = s a refl

  -- what is said of an option, where it is there
  pub some_of : (o : Option A) (a : A) (f : A → Bool) → o ≡ Some a → some o f ≡ f a
  some_of o a f e = ap (λ p. some p f) e

module _ {A B : Type 0} where
  pub some_mapped : (f : A → B) (o : Option A) → is_some (option_map f o) ≡ is_some o
  some_mapped f None = refl
  some_mapped f (Some a) = refl

  pub first-there : (o : Option A) (f : A → Option B) → is_some (and_then o f) ≡ true → (a : A) × (o ≡ Some a) × (is_some (f a) ≡ true)
  first-there None f e = absurd (false≢true e)
  first-there (Some a) f e = (a, refl, e)

pub cond-some : {A : Type 0} (b : Bool) (o : Option A) (a : A) → cond b o None ≡ Some a → b ≡ true
cond-some true o a e = refl
cond-some false o a e = absurd (none-some e)

-- Arguments taken one after another, the last first, and a mark's entries put one on another.
use Rattle.std.proofs.Common.{◌≡◌, ℕ, zero, suc, ◌+◌, ◌<◌, ◌≤◌, List, [], ◌∷◌, ◌++◌, reverse, length, take, Some, None, Option, Ok, Err, Result, sym, refl, ap, ◌∙◌, append_assoc, arith, length-take}
use Rattle.std.specs.List.{slice_get}
use Rattle.std.proofs.lemmas.List.{length-reverse, reverse-append}
use Rattle.entries.specs.declared.Kind.{Kind}
use Rattle.entries.specs.declared.Entry.{Entry}
use Rattle.shape.specs.declared.Full.{Full}
use Rattle.shape.specs.Shapes.{Pushed, taken}
use Rattle.rules.specs.Needs.{and_then, argument, under_arguments}

pub none-some : {A : Type 0} {a : A} → ◌≡◌ {A = Option A} None (Some a) → ⊥
none-some e = absurd (let z : ◌≡◌ {A = ℕ} 0 1 = cc in omega arith)

pub some_same : {A : Type 0} {a b : A} → ◌≡◌ {A = Option A} (Some a) (Some b) → a ≡ b
some_same e = cc

then-none : (o : Option (List Entry)) → o ≡ and_then o (under_arguments [])
unfolding under_arguments
then-none None = refl
then-none (Some σ) = refl

then-more : (k : Kind) (ks : List Kind) (o : Option (List Entry)) → and_then (and_then o (under_arguments ks)) (taken (argument k)) ≡ and_then o (under_arguments (k ∷ ks))
unfolding under_arguments
then-more k ks None = refl
then-more k ks (Some σ) = refl

pub arguments-none : (ks : List Kind) (σ : List Entry) → ks ≡ [] → under_arguments ks σ ≡ Some σ
unfolding under_arguments
arguments-none ks σ e = ap (λ zs. under_arguments zs σ) e

-- what is under all arguments is under the others, where the last is taken
pub arguments-last : (ks : List Kind) (k : Kind) (σ : List Entry) → under_arguments (ks ++ k ∷ []) σ ≡ and_then (taken (argument k) σ) (under_arguments ks)
unfolding under_arguments
arguments-last [] k σ = then-none (taken (argument k) σ)
arguments-last (j ∷ ks) k σ = ap (λ o. and_then o (taken (argument j))) (arguments-last ks k σ) ∙ then-more j ks (taken (argument k) σ)

module _ (xs ys : List Kind) (k : Kind) (σ : List Entry) (e : xs ≡ ys ++ k ∷ []) where
  taken-last : (o : Option (List Entry)) → o ≡ taken (argument k) σ → under_arguments xs σ ≡ and_then o (under_arguments ys)
  taken-last o t = ap (λ zs. under_arguments zs σ) e ∙ arguments-last ys k σ ∙ ap (λ p. and_then p (under_arguments ys)) (sym t)

  pub arguments-turn : (τ : List Entry) → Some τ ≡ taken (argument k) σ → under_arguments xs σ ≡ under_arguments ys τ
  arguments-turn τ t = taken-last (Some τ) t

  pub arguments-missing : None ≡ taken (argument k) σ → under_arguments xs σ ≡ None
  arguments-missing t = taken-last None t

-- pushed where there is room
pushed-on : (r : Result (Unit {0}) Full) (a : Entry) (σ τ : List Entry) → 1 + length σ ≤ 16 → Pushed r a σ τ → τ ≡ a ∷ σ
pushed-on (Ok _) a σ τ room p = p.1
pushed-on (Err _) a σ τ room p = absurd (omega (arith, p.0))

-- one entry more of those that a mark tells, where those that are left are known
pub told_next : (n : ℕ) (es : List Entry) (a : Entry) (r : Result (Unit {0}) Full) (σ τ : List Entry) → n + 1 + length σ ≤ 16 → Pushed r a σ τ → (reverse (take (n + 1) (a ∷ es)) ++ σ ≡ reverse (take n es) ++ τ) × (n + length τ ≤ 16)
told_next n es a r σ τ room p =
    let on = pushed-on r a σ τ (omega arith) p in
    let l = ap length on in
    let q : n + 1 ≡ suc n = omega arith in (
      ap (λ m. reverse (take m (a ∷ es)) ++ σ) q
          ∙ ap (λ zs. zs ++ σ) (reverse-append (a ∷ []) (take n es))
          ∙ append_assoc (reverse (take n es)) (a ∷ []) σ
          ∙ ap (λ zs. reverse (take n es) ++ zs) (sym on),
      omega arith,
    )

-- what stands in a list at a place goes behind what stands before it
pub take_nth : {A : Type 0} (xs : List A) (i : ℕ) (a : A) → slice_get xs i ≡ Some a → take (suc i) xs ≡ take i xs ++ a ∷ []
take_nth [] i a e = absurd (none-some e)
take_nth (x ∷ xs) zero a e = let s : x ≡ a = some_same e in ap (λ y. y ∷ []) s
take_nth (x ∷ xs) (suc i) a e = ap (λ ys. x ∷ ys) (take_nth xs i a e)

-- where nothing stands, nothing goes behind
pub take-past : {A : Type 0} (xs : List A) (i : ℕ) → slice_get xs i ≡ None → take (suc i) xs ≡ take i xs
take-past [] zero e = refl
take-past [] (suc i) e = refl
take-past (x ∷ xs) zero e = absurd (none-some (sym e))
take-past (x ∷ xs) (suc i) e = ap (λ ys. x ∷ ys) (take-past xs i e)

-- one entry more of those that a mark tells, by its place
pub told_more : (xs : List Entry) (i : ℕ) (a : Entry) (r : Result (Unit {0}) Full) (was after : List Entry) → slice_get xs i ≡ Some a → i < 16 → was ≡ reverse (take i xs) → Pushed r a was after → after ≡ reverse (take (i + 1) xs)
told_more xs i a r was after e few h p =
    let n : i + 1 ≡ suc i = omega arith in
    let m = ap length h ∙ length-reverse (take i xs) ∙ length-take i xs in
    let more = ap reverse (take_nth xs i a e) ∙ reverse-append (take i xs) (a ∷ []) in
    pushed-on r a was after (omega (arith, m, few)) p ∙ ap (λ σ. a ∷ σ) h ∙ sym more ∙ ap (λ k. reverse (take k xs)) (sym n)

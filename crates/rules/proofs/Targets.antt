-- What has more than sixteen entries is unlike any mark.
use Rattle.std.proofs.Common.{◌≡◌, ℕ, ◌<◌, ◌≤◌, Bool, true, false, cond, not, ltb, List, length, take, length-take, Some, None, Option, sym, refl, ap, ◌∙◌, arith}
use Rattle.std.specs.Option.{option_map}
use Rattle.std.proofs.lemmas.Bool.Decides.{nat_tests}
use Rattle.entries.specs.declared.Entry.{Entry}
use Rattle.package.specs.Package.{Package}
use Rattle.std.proofs.lemmas.List.{length-reverse}
use Rattle.declarations.specs.Marks.{Mark, mark_at}
use Rattle.shape.specs.Shapes.{left, same_shape}
use Rattle.shape.proofs.Equal.{shape_differs}
use Rattle.rules.specs.Asking.{mark_shape, shape_of}
use Rattle.rules.specs.Sites.{some, unlike_target}
use Rattle.rules.proofs.Needing.{none-some, some_same}

over : {A : Type 0} (b : Bool) (a : A) → None ≡ cond b None (Some a) → b ≡ true
over true a e = refl
over false a e = absurd (none-some e)

-- a mark tells sixteen entries at most
told-few : (o : Option Mark) (told : List Entry) → Some told ≡ option_map shape_of o → length told ≤ 16
told-few None told e = absurd (none-some (sym e))
told-few (Some m) told e =
    let l = ap length (some_same e) ∙ length-reverse (take 16 m.entries) ∙ length-take 16 m.entries in omega arith

module _ (k : Package) (told : List Entry) (t : ℕ) (m : Some told ≡ mark_shape k t) where
  unlike-target : (σ : List Entry) → 16 < length σ → unlike_target k σ t ≡ true
  unlike-target σ l =
      let few = told-few (mark_at k.marks t) told m in
      let d : length told ≡ length σ → ⊥ = λ e. absurd (omega (arith, e, l, few)) in
      sym (ap (λ o. some o (λ τ. not (same_shape τ σ))) m) ∙ ap not (shape_differs told σ (λ e. d (ap length e)))

  pub unlike-over : (o : Option (List Entry)) (g : Option ℕ) (leaves : Option Entry) (rest : List Entry) → o ≡ Some rest → g ≡ Some t → None ≡ cond (ltb 16 (length (left leaves rest))) None (Some (left leaves rest)) → true ≡ some (option_map (left leaves) o) (λ σ. some g (unlike_target k σ))
  unlike-over o g leaves rest e h n =
      let b = over _ _ n in
      let l : 16 < length (left leaves rest) = grind (arith, nat_tests, b) in
      sym (ap (λ p. some (option_map (left leaves) p) (λ σ. some g (unlike_target k σ))) e ∙ ap (λ p. some p (unlike_target k (left leaves rest))) h ∙ unlike-target (left leaves rest) l)

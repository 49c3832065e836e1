-- Fields as bytes: a field is cut off again as it was put together.
use Rattle.std.proofs.Common.{◌≡◌, ℕ, ◌+◌, ◌*◌, ◌/◌, ◌%◌, ◌<◌, ◌≤◌, List, [], ◌∷◌, ◌++◌, map, length, get_or, take, drop, Some, sym, refl, ap, ◌∙◌, subst, arith, length-append}
use Rattle.std.specs.List.{flat_map, AllByRecursion}
use Rattle.std.proofs.lemmas.List.{take_at, drop_at, take-append-drop, length-take-le}
use Rattle.std.proofs.ByRecursion.{All-take, All-drop}
use Rattle.fields.specs.Bytes.{two, two_bytes}
use Rattle.fields.specs.Fields.{cut, Cut, field_bytes, bodies_in}
use Rattle.fields.proofs.Cuts.{cut-whole, cut-some}
use Rattle.fields.proofs.Bodies.{bodies-end, bodies-more}

-- a list of bytes
abbrev pub Bytes : List ℕ → Type 0
Bytes xs = AllByRecursion (λ b. b < 256) xs

-- the two bytes of a number, and the number of two bytes
pub two_back : (h l : ℕ) → l < 256 → two_bytes (h * 256 + l) ≡ h ∷ (l ∷ [])
two_back h l s =
    let a : (h * 256 + l) / 256 ≡ h = omega arith in
    let b : (h * 256 + l) % 256 ≡ l = omega arith in
    cc

pub two-there : (n : ℕ) → n / 256 * 256 + n % 256 ≡ n
two-there n = omega arith

-- a field that was cut off is what stood at the front
pub cut-back : (xs : List ℕ) (f : Cut) → Bytes xs → cut xs ≡ Some f → xs ≡ field_bytes f.tag f.body ++ f.rest
cut-back xs f b e =
    let p = cut-some xs f e in
    subst (λ (g : Cut). xs ≡ field_bytes g.tag g.body ++ g.rest) p.2 (go xs b p.0 p.1)
  where
    go : (ys : List ℕ) → Bytes ys → 3 ≤ length ys → two ys 1 ≤ length (drop 3 ys) → ys ≡ field_bytes (get_or ys 0 0) (take (two ys 1) (drop 3 ys)) ++ drop (two ys 1) (drop 3 ys)
    go [] b l n = absurd (omega arith)
    go (t ∷ []) b l n = absurd (omega arith)
    go (t ∷ h ∷ []) b l n = absurd (omega arith)
    go (t ∷ h ∷ k ∷ zs) (bt, (bh, (bk, bz))) l n =
        let m = ap two_bytes (length-take-le (h * 256 + k) zs n) ∙ two_back h k bk in
        ap (λ (ys : List ℕ). t ∷ h ∷ k ∷ ys) (sym (take-append-drop (h * 256 + k) zs))
        ∙ ap (λ (ys : List ℕ). t ∷ (ys ++ take (h * 256 + k) zs ++ drop (h * 256 + k) zs)) (sym m)

pub bytes-body : (xs : List ℕ) (f : Cut) → Bytes xs → cut xs ≡ Some f → Bytes f.body
bytes-body xs f b e =
    let p = cut-some xs f e in
    subst (λ (g : Cut). Bytes g.body) p.2 (All-take (λ c. c < 256) (two xs 1) (drop 3 xs) (All-drop (λ c. c < 256) 3 xs b))

pub bytes_rest : (xs : List ℕ) (f : Cut) → Bytes xs → cut xs ≡ Some f → Bytes f.rest
bytes_rest xs f b e =
    let p = cut-some xs f e in
    subst (λ (g : Cut). Bytes g.rest) p.2 (All-drop (λ c. c < 256) (two xs 1) (drop 3 xs) (All-drop (λ c. c < 256) 3 xs b))

-- a field is cut off from the front of what it was put before
pub cut-there : (tag : ℕ) (body rest : List ℕ) → cut (field_bytes tag body ++ rest) ≡ Some (record { tag = tag; body = body; rest = rest })
cut-there tag body rest =
    sym
    (cut-whole (field_bytes tag body ++ rest) (body ++ rest) body rest (length body) (omega arith) refl (sym (two-there (length body))) le
    (sym (take_at body rest (length body) refl))
    (sym (drop_at body rest (length body) refl)))
  where
    le : length body ≤ length (body ++ rest)
    le = simp length-append (omega arith)

-- the bodies of fields that stand one behind another
pub bodies-there : {A : Type 0} (tag : ℕ) (body_of : A → List ℕ) (items : List A) → bodies_in (flat_map (λ a. field_bytes tag (body_of a)) items) ≡ map body_of items
bodies-there tag body_of [] = bodies-end [] refl
bodies-there tag body_of (a ∷ items) =
    bodies-more (field_bytes tag (body_of a) ++ flat_map (λ b. field_bytes tag (body_of b)) items) (record { tag = tag; body = body_of a; rest = flat_map (λ b. field_bytes tag (body_of b)) items }) (cut-there tag (body_of a) (flat_map (λ b. field_bytes tag (body_of b)) items))
    ∙ ap (λ (bs : List (List ℕ)). body_of a ∷ bs) (bodies-there tag body_of items)

-- The answer of reading: along good fields it stays; it is the package where they fill the bytes, and else the fault.
use Rattle.std.proofs.Common.{◌≡◌, ℕ, zero, suc, ◌+◌, ◌<◌, ◌≤◌, Bool, true, false, cond, eqb, ltb, ◌⊎◌, List, [], ◌∷◌, ◌++◌, length, is_some, Some, None, Ok, Err, Option, Result, sym, refl, ap, ◌∙◌, subst, inl, inr, arith}
use Rattle.std.proofs.lemmas.List.{append-nil, nil_from_length}
use Rattle.std.proofs.lemmas.Bool.{cond-false, eq-eqb, ne_eqb, le-ltb, ltb-false, eqb-false, or_parts, or_from, and_from, and_left, and_right, cond_both, not_from_true, not_from_false, cases_eq}
use Rattle.package.specs.declared.faults.ReadFault.{ReadFault}
use Rattle.package.specs.declared.faults.ReadFault.TheVariants.{WrongTag, WrongLength, WrongContent, WrongCount}
use Rattle.fields.specs.Fields.{cut, Cut}
use Rattle.package.specs.Package.{Package}
use Rattle.declarations.specs.Marks.{Mark}
use Rattle.package.specs.Format.{encode, Valid}
use Rattle.package.specs.Rules.{misplaced, misshapen, unfit, miscounted, last_offset, of_field, broken}
use Rattle.package.specs.Reading.{number, place, judged, field_after, including, ended, onward, read_from, reading, Accepted, Refused, AcceptsExactly}
use Rattle.fields.proofs.Cuts.{cut-length, cut-none}
use Rattle.fields.proofs.Whole.{Bytes}
use Rattle.package.proofs.Fronts.{At, start, next, passed, at_front}
use Rattle.package.proofs.Complete.{sound-at}

-- a good field has bytes
field-size : (k : Package) (p : ℕ) (rest : List ℕ) (f : Cut) → field_after k p rest ≡ Ok f → 3 + length f.body + length f.rest ≡ length rest
field-size k p rest f e =
    cut-length rest f (passed (length k.code) (length k.procedures) (last_offset k.procedures) (length k.marks) k.marks p f (cut rest) e).there

field-turn : (n p : ℕ) (k : Package) (rest : List ℕ) (r : Result Cut ReadFault) → 1 ≤ length rest → field_after k p rest ≡ r → read_from (suc n) p k rest ≡ onward (read_from n) p k r
unfolding read_from
field-turn n p k [] r l e = absurd (omega arith)
field-turn n p k (b ∷ bs) r l e = ap (onward (read_from n) p k) e

end-turn : (n p : ℕ) (k : Package) (rest : List ℕ) → length rest ≡ 0 → read_from (suc n) p k rest ≡ ended p k
unfolding read_from
end-turn n p k [] l = refl
end-turn n p k (b ∷ bs) l = absurd (omega arith)

-- along good fields the answer stays
pub kept : (xs : List ℕ) (p : ℕ) (k : Package) (rest : List ℕ) → At xs p k rest → (n : ℕ) × (length rest ≤ n) × (read_from (suc n) p k rest ≡ reading xs)
unfolding reading
kept xs p k rest start = (length xs, omega arith, refl)
kept xs p k rest (next q j before f a e) = more (kept xs q j before a) (field-size j q before f e)
  where
    more : (n : ℕ) × (length before ≤ n) × (read_from (suc n) q j before ≡ reading xs) → 3 + length f.body + length f.rest ≡ length before → (n : ℕ) × (length f.rest ≤ n) × (read_from (suc n) (q + (3 + length f.body)) (including j f) f.rest ≡ reading xs)
    more (zero, l, s) z = absurd (omega arith)
    more (suc n, l, s) z = (n, omega arith, sym (field-turn (suc n) q j before (Ok f) (omega arith) e) ∙ s)

-- at the end of the bytes
pub read-end : (xs : List ℕ) (p : ℕ) (k : Package) (rest : List ℕ) → At xs p k rest → length rest ≡ 0 → reading xs ≡ ended p k
read-end xs p k rest a z = let h = kept xs p k rest a in sym (sym (end-turn h.0 p k rest z) ∙ h.2)

-- at a bad field
pub read-bad : (xs : List ℕ) (p : ℕ) (k : Package) (rest : List ℕ) (e : ReadFault) → At xs p k rest → 1 ≤ length rest → field_after k p rest ≡ Err e → reading xs ≡ Err e
read-bad xs p k rest e a l f =
    let h = kept xs p k rest a in sym (sym (field-turn h.0 p k rest (Err e) l f) ∙ h.2)

-- what a fault says of the field at a place

abbrev Below : (P : ℕ → Type 0) → ℕ → Type 0
Below P k = (n : ℕ) → n < k → P n

below_more : (P : ℕ → Type 0) (k : ℕ) → Below P k → P k → Below P (suc k)
below_more P k b p n l = go (cases_eq n k)
  where
    go : (n ≡ k) ⊎ (n ≡ k → ⊥) → P n
    go (inl e) = subst P (sym e) p
    go (inr d) = b n (omega arith)

module _ (k : Package) (rest : List ℕ) where
  pub record Explained (p : ℕ) (e : ReadFault) : Type 0 where
    pub at : place e ≡ p
    pub holds : broken (number e) k rest ≡ true
    pub lowest : (n : ℕ) → n < number e → broken n k rest ≡ false

  abbrev pub Explains : ℕ → Result Cut ReadFault → Type 0
  Explains p (Ok f) = Unit {0}
  Explains p (Err e) = Explained p e

  abbrev IsWhole : ℕ → Type 0
  IsWhole n = broken n k rest ≡ false

  one : Below IsWhole 1
  one n l = subst IsWhole (let z : 0 ≡ n = omega arith in z) refl

  explain : 1 ≤ length rest → (p : ℕ) (o : Option Cut) → cut rest ≡ o → Explains p (judged (length k.code) (length k.procedures) (last_offset k.procedures) (length k.marks) k.marks p o)
  explain l p None c =
      record {
        at = refl;
        holds = and_from _ _ (not_from_false _ (ne_eqb (length rest) 0 (λ z. omega arith))) (not_from_false _ (ap is_some c));
        lowest = one;
      }
  explain l p (Some f) c = go (misplaced size marked f.tag) (misshapen f.tag f.body) (unfit size count last k.marks f.tag f.body) refl refl refl
    where
      size : ℕ
      size = length k.code

      count : ℕ
      count = length k.procedures

      last : ℕ
      last = last_offset k.procedures

      marked : ℕ
      marked = length k.marks

      field : (test : Cut → Bool) (t : Bool) → test f ≡ t → of_field (cut rest) test ≡ t
      field test t e = ap (λ (o : Option Cut). of_field o test) c ∙ e

      two : Below IsWhole 2
      two = below_more IsWhole 1 one (and_right _ _ (not_from_true _ (ap is_some c)))

      go : (t s u : Bool) → misplaced size marked f.tag ≡ t → misshapen f.tag f.body ≡ s → unfit size count last k.marks f.tag f.body ≡ u → Explains p (cond t (Err (WrongTag p)) (cond s (Err (WrongLength p)) (cond u (Err (WrongContent p)) (Ok f))))
      go true s u et es eu = record { at = refl; holds = field (λ g. misplaced size marked g.tag) true et; lowest = two }
      go false true u et es eu =
          record {
            at = refl;
            holds = field (λ g. misshapen g.tag g.body) true es;
            lowest = below_more IsWhole 2 two (field (λ g. misplaced size marked g.tag) false et);
          }
      go false false true et es eu =
          record {
            at = refl;
            holds = field (λ g. unfit size count last k.marks g.tag g.body) true eu;
            lowest =
                below_more IsWhole 3 (below_more IsWhole 2 two (field (λ g. misplaced size marked g.tag) false et))
                (field (λ g. misshapen g.tag g.body) false es);
          }
      go false false false et es eu = tt

  pub explained : (p : ℕ) (e : ReadFault) → 1 ≤ length rest → field_after k p rest ≡ Err e → Explained p e
  explained p e l q = subst (Explains p) q (explain l p (cut rest) refl)

  pub count-explained : (p : ℕ) → length rest ≡ 0 → miscounted (length k.procedures) (length k.marks) ≡ true → Explained p (WrongCount p)
  count-explained p z m =
      record {
        at = refl;
        holds = and_from _ _ (eq-eqb (length rest) 0 z) m;
        lowest =
            below_more IsWhole 4
            (below_more IsWhole 3
            (below_more IsWhole 2 (below_more IsWhole 1 one (and_left _ _ (not_from_true _ (eq-eqb (length rest) 0 z))))
            (none-there (λ g. misplaced (length k.code) (length k.marks) g.tag)))
            (none-there (λ g. misshapen g.tag g.body)))
            (none-there (λ g. unfit (length k.code) (length k.procedures) (last_offset k.procedures) k.marks g.tag g.body));
      }
    where
      none-there : (test : Cut → Bool) → of_field (cut rest) test ≡ false
      none-there test = ap (λ (o : Option Cut). of_field o test) (cut-none rest (omega arith))

-- no fault is placed before where reading stands

abbrev Late : {A : Type 0} → ℕ → Result A ReadFault → Type 0
Late p (Ok a) = Unit {0}
Late p (Err e) = p ≤ place e

late-judged : (size count last marked : ℕ) (marks : List Mark) (p : ℕ) (o : Option Cut) → Late p (judged size count last marked marks p o)
late-judged size count last marked marks p None = omega arith
late-judged size count last marked marks p (Some f) =
    cond_both (misplaced size marked f.tag) _ _ (Late p) (λ _. omega arith)
    (λ _. cond_both (misshapen f.tag f.body) _ _ (Late p) (λ _. omega arith)
    (λ _. cond_both (unfit size count last marks f.tag f.body) _ _ (Late p) (λ _. omega arith) (λ _. tt)))

late-ended : (p : ℕ) (k : Package) → Late p (ended p k)
late-ended p k = cond_both (miscounted (length k.procedures) (length k.marks)) _ _ (Late p) (λ _. omega arith) (λ _. tt)

late-onward : (go : ℕ → Package → List ℕ → Result Package ReadFault) → ((q : ℕ) (j : Package) (ys : List ℕ) → Late q (go q j ys)) → (p : ℕ) (k : Package) (r : Result Cut ReadFault) → Late p r → Late p (onward go p k r)
late-onward go h p k (Err e) l = l
late-onward go h p k (Ok f) l = weaker (go (p + (3 + length f.body)) (including k f) f.rest) (h (p + (3 + length f.body)) (including k f) f.rest)
  where
    weaker : (r : Result Package ReadFault) → Late (p + (3 + length f.body)) r → Late p r
    weaker (Ok j) m = tt
    weaker (Err e) m = omega arith

late : (n p : ℕ) (k : Package) (rest : List ℕ) → Late p (read_from n p k rest)
unfolding read_from
late zero p k rest = late-ended p k
late (suc n) p k [] = late-ended p k
late (suc n) p k (b ∷ bs) = late-onward (read_from n) (late n) p k (field_after k p (b ∷ bs)) (late-judged _ _ _ _ _ p (cut (b ∷ bs)))

-- a front of good fields never reaches past a fault
pub no-further : (xs : List ℕ) (p : ℕ) (k : Package) (rest : List ℕ) (e : ReadFault) → At xs p k rest → reading xs ≡ Err e → p ≤ place e
no-further xs p k rest e a r =
    let h = kept xs p k rest a in subst (Late p) (h.2 ∙ r) (late (suc h.0) p k rest)

-- the two answers

counts : (k : Package) → miscounted (length k.procedures) (length k.marks) ≡ false → (1 ≤ length k.procedures) × (length k.procedures ≤ 64) × (length k.marks ≤ 512)
counts k e =
    let p = or_parts (eqb (length k.procedures) 0) _ e in
    let q = or_parts (ltb 64 (length k.procedures)) _ p.1 in
    let n = eqb-false (length k.procedures) 0 p.0 in
    (omega arith, ltb-false 64 (length k.procedures) q.0, ltb-false 512 (length k.marks) q.1)

counted : (k : Package) → Valid k → miscounted (length k.procedures) (length k.marks) ≡ false
counted k v =
    or_from (eqb (length k.procedures) 0) _ (ne_eqb (length k.procedures) 0 (λ z. omega (arith, v.some)))
    (or_from (ltb 64 (length k.procedures)) _ (le-ltb 64 (length k.procedures) v.procedures) (le-ltb 512 (length k.marks) v.marks))

-- a valid package is the answer for its bytes
pub valid-read : (xs : List ℕ) (j : Package) → Valid j → encode j ≡ xs → reading xs ≡ Ok j
valid-read xs j v e =
    read-end xs (length (encode j)) j [] (sound-at xs j [] v.sound (sym e ∙ sym (append-nil (encode j)))) refl
    ∙ cond-false _ _ _ (counted j v)

same-package : (j k : Package) → ◌≡◌ {A = Result Package ReadFault} (Ok j) (Ok k) → j ≡ k
same-package j k e = cc

not-both : (j : Package) (e : ReadFault) → ◌≡◌ {A = Result Package ReadFault} (Err e) (Ok j) → ⊥
not-both j e q = let z : ◌≡◌ {A = ℕ} 0 1 = cc in omega arith

pub accepted : (xs : List ℕ) (p : ℕ) (k : Package) (rest : List ℕ) → Bytes xs → At xs p k rest → length rest ≡ 0 → miscounted (length k.procedures) (length k.marks) ≡ false → Accepted xs k
accepted xs p k rest b a z m =
    let f = at_front xs p k rest b a in
    let c = counts k m in
    record {
      valid = record { sound = f.good; some = c.0; procedures = c.1; marks = c.2 };
      encoded = sym (f.split ∙ (ap (λ (ys : List ℕ). encode k ++ ys) (nil_from_length rest z) ∙ append-nil (encode k)));
      only = λ j v e. same-package j k (sym (valid-read xs j v e) ∙ (read-end xs p k rest a z ∙ cond-false _ _ _ m));
    }

pub refused : (xs : List ℕ) (p : ℕ) (k : Package) (rest : List ℕ) (e : ReadFault) → Bytes xs → At xs p k rest → Explained k rest p e → reading xs ≡ Err e → Refused xs e
refused xs p k rest e b a x r =
    let f = at_front xs p k rest b a in
    record {
      before = k;
      rest = rest;
      good = f.good;
      split = f.split;
      at = x.at ∙ f.place;
      holds = x.holds;
      lowest = x.lowest;
      longest = λ j ys s q. no-further xs (length (encode j)) j ys e (sound-at xs j ys s q) r;
    }

pub invalid : (xs : List ℕ) (e : ReadFault) → reading xs ≡ Err e → AcceptsExactly xs (Err e)
invalid xs e r j v q = not-both j e (sym r ∙ valid-read xs j v q)

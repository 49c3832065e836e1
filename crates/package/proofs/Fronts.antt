-- Fronts of the bytes: the places that reading comes to over good fields.
use Rattle.std.proofs.Common.{◌≡◌, ℕ, ◌+◌, ◌<◌, ◌≤◌, Bool, true, false, cond, not, eqb, ltb, ◌⊎◌, List, [], ◌∷◌, ◌++◌, length, Some, None, Ok, Err, Option, Result, sym, refl, ap, ◌∙◌, subst, inl, inr, arith, length-append}
use Rattle.std.specs.List.{flat_map, AllByRecursion}
use Rattle.std.proofs.lemmas.List.{append_assoc, append-nil, nil_from_length}
use Rattle.std.proofs.lemmas.Bool.{cond-true, cond-false, eq-eqb, ne_eqb, eqb-true, eqb-false, ltb-false, or_parts, not-false, cases_eq}
use Rattle.package.specs.declared.faults.ReadFault.{ReadFault}
use Rattle.package.specs.declared.faults.ReadFault.TheVariants.{WrongTag, WrongLength, WrongContent}
use Rattle.fields.specs.Fields.{cut, Cut, field_bytes}
use Rattle.declarations.specs.Procedures.{Procedure, procedure_of}
use Rattle.declarations.specs.Marks.{Mark, mark_of}
use Rattle.package.specs.Package.{Package}
use Rattle.package.specs.Format.{code_field, procedure_field, mark_field, encode, EachFrom, EachAfter, GoodProcedure, GoodMark, Sound}
use Rattle.package.specs.Rules.{misplaced, misshapen, unfit, unfit_procedure, unfit_mark, last_offset}
use Rattle.package.specs.Reading.{judged, field_after, nothing, including}
use Rattle.fields.proofs.Whole.{Bytes}
use Rattle.fields.proofs.Whole.{cut-back, bytes-body}
use Rattle.package.proofs.Good.{each_none, each-push, layout, procedure-good, procedure-same, mark-layout, mark-good, mark-same}

-- the fields before the place p hold k, each good after those before it, and the rest stands behind
pub data At (xs : List ℕ) : ℕ → Package → List ℕ → Type 0 where
  start : At xs 0 nothing xs
  next : (p : ℕ) (k : Package) (rest : List ℕ) (f : Cut) → At xs p k rest → field_after k p rest ≡ Ok f → At xs (p + (3 + length f.body)) (including k f) f.rest

-- what is known of a field that passed

module _ (size count last marked : ℕ) (marks : List Mark) (p : ℕ) (f : Cut) where
  pub record Passed (o : Option Cut) : Type 0 where
    pub there : o ≡ Some f
    pub tag : misplaced size marked f.tag ≡ false
    pub shape : misshapen f.tag f.body ≡ false
    pub fit : unfit size count last marks f.tag f.body ≡ false

  err≢ok : (e : ReadFault) → ◌≡◌ {A = Result Cut ReadFault} (Err e) (Ok f) → ⊥
  err≢ok e q = let z : ◌≡◌ {A = ℕ} 0 1 = cc in omega arith

  pub passed : (o : Option Cut) → judged size count last marked marks p o ≡ Ok f → Passed o
  passed None e = absurd (err≢ok _ e)
  passed (Some g) e = go (misplaced size marked g.tag) (misshapen g.tag g.body) (unfit size count last marks g.tag g.body) refl refl refl e
    where
      go : (t s u : Bool) → misplaced size marked g.tag ≡ t → misshapen g.tag g.body ≡ s → unfit size count last marks g.tag g.body ≡ u → cond t (Err (WrongTag p)) (cond s (Err (WrongLength p)) (cond u (Err (WrongContent p)) (Ok g))) ≡ Ok f → Passed (Some g)
      go true s u et es eu q = absurd (err≢ok _ q)
      go false true u et es eu q = absurd (err≢ok _ q)
      go false false true et es eu q = absurd (err≢ok _ q)
      go false false false et es eu q =
          let same : g ≡ f = cc in
          record {
            there = ap Some same;
            tag = subst (λ (h : Cut). misplaced size marked h.tag ≡ false) same et;
            shape = subst (λ (h : Cut). misshapen h.tag h.body ≡ false) same es;
            fit = subst (λ (h : Cut). unfit size count last marks h.tag h.body ≡ false) same eu;
          }

  pub passes : (o : Option Cut) → Passed o → judged size count last marked marks p o ≡ Ok f
  passes o w =
      ap (judged size count last marked marks p) w.there
      ∙ (cond-false _ _ _ w.tag ∙ (cond-false _ _ _ w.shape ∙ cond-false _ _ _ w.fit))

all-behind : {A : Type 0} (P : A → Type 0) (xs ys : List A) → AllByRecursion P (xs ++ ys) → AllByRecursion P ys
all-behind P [] ys a = a
all-behind P (x ∷ xs) ys (h, a) = all-behind P xs ys a

-- where each tag may stand
pub place-cases : (size marked tag : ℕ) → misplaced size marked tag ≡ false → ((size ≡ 0) × (tag ≡ 1)) ⊎ (((size ≡ 0 → ⊥) × (tag ≡ 2) × (marked ≡ 0)) ⊎ ((size ≡ 0 → ⊥) × (tag ≡ 3)))
place-cases size marked tag e = go (cases_eq size 0) (cases_eq tag 2)
  where
    later : (size ≡ 0 → ⊥) → cond (eqb tag 2) (ltb 0 marked) (not (eqb tag 3)) ≡ false
    later n = sym (cond-false (eqb size 0) _ _ (ne_eqb size 0 n)) ∙ e

    go : (size ≡ 0) ⊎ (size ≡ 0 → ⊥) → (tag ≡ 2) ⊎ (tag ≡ 2 → ⊥) → ((size ≡ 0) × (tag ≡ 1)) ⊎ (((size ≡ 0 → ⊥) × (tag ≡ 2) × (marked ≡ 0)) ⊎ ((size ≡ 0 → ⊥) × (tag ≡ 3)))
    go (inl z) t = inl (z, eqb-true tag 1 (not-false _ (sym (cond-true (eqb size 0) _ _ (eq-eqb size 0 z)) ∙ e)))
    go (inr n) (inl t) =
        let l = ltb-false 0 marked (sym (cond-true (eqb tag 2) _ _ (eq-eqb tag 2 t)) ∙ later n) in
        inr (inl (n, t, omega arith))
    go (inr n) (inr t) = inr (inr (n, eqb-true tag 3 (not-false _ (sym (cond-false (eqb tag 2) _ _ (ne_eqb tag 2 t)) ∙ later n))))

-- what is included, by the tag
pub including-code : (k : Package) (f : Cut) → f.tag ≡ 1 → including k f ≡ record { code = f.body; procedures = k.procedures; marks = k.marks }
including-code k f t = cond-true _ _ _ (eq-eqb f.tag 1 t)

pub including-procedure : (k : Package) (f : Cut) → f.tag ≡ 2 → including k f ≡ record { code = k.code; procedures = k.procedures ++ (procedure_of f.body ∷ []); marks = k.marks }
including-procedure k f t =
    cond-false _ _ _ (ne_eqb f.tag 1 (λ z. omega arith)) ∙ cond-true _ _ _ (eq-eqb f.tag 2 t)

pub including-mark : (k : Package) (f : Cut) → f.tag ≡ 3 → including k f ≡ record { code = k.code; procedures = k.procedures; marks = k.marks ++ (mark_of f.body ∷ []) }
including-mark k f t =
    cond-false _ _ _ (ne_eqb f.tag 1 (λ z. omega arith)) ∙ cond-false _ _ _ (ne_eqb f.tag 2 (λ z. omega arith))

-- the bytes of a package with one field more

joined-push : {A : Type 0} (g : A → List ℕ) (items : List A) (a : A) → flat_map g (items ++ (a ∷ [])) ≡ flat_map g items ++ g a
joined-push g [] a = append-nil (g a)
joined-push g (b ∷ items) a = ap (λ (ys : List ℕ). g b ++ ys) (joined-push g items a) ∙ sym (append_assoc (g b) (flat_map g items) (g a))

pub encode-code : (body : List ℕ) (ps : List Procedure) (ms : List Mark) → 1 ≤ length body → ps ≡ [] → ms ≡ [] → encode (record { code = body; procedures = ps; marks = ms }) ≡ field_bytes 1 body
unfolding encode
encode-code [] ps ms l ep em = absurd (omega arith)
encode-code (b ∷ bs) ps ms l ep em =
    ap (λ (qs : List Procedure). field_bytes 1 (b ∷ bs) ++ (flat_map procedure_field qs ++ flat_map mark_field ms)) ep
    ∙ ap (λ (ns : List Mark). field_bytes 1 (b ∷ bs) ++ flat_map mark_field ns) em
    ∙ append-nil (field_bytes 1 (b ∷ bs))

pub encode-procedure : (c : List ℕ) (ps : List Procedure) (p : Procedure) (ms : List Mark) → ms ≡ [] → encode (record { code = c; procedures = ps ++ (p ∷ []); marks = ms }) ≡ encode (record { code = c; procedures = ps; marks = ms }) ++ procedure_field p
unfolding encode
encode-procedure c ps p ms em =
    ap (λ (ns : List Mark). code_field c ++ (flat_map procedure_field (ps ++ (p ∷ [])) ++ flat_map mark_field ns)) em
    ∙ ap (λ (ys : List ℕ). code_field c ++ ys) (append-nil (flat_map procedure_field (ps ++ (p ∷ []))) ∙ joined-push procedure_field ps p)
    ∙ sym (append_assoc (code_field c) (flat_map procedure_field ps) (procedure_field p))
    ∙ ap (λ (ys : List ℕ). (code_field c ++ ys) ++ procedure_field p) (sym (append-nil (flat_map procedure_field ps)))
    ∙ ap (λ (ns : List Mark). (code_field c ++ (flat_map procedure_field ps ++ flat_map mark_field ns)) ++ procedure_field p) (sym em)

pub encode-mark : (c : List ℕ) (ps : List Procedure) (ms : List Mark) (m : Mark) → encode (record { code = c; procedures = ps; marks = ms ++ (m ∷ []) }) ≡ encode (record { code = c; procedures = ps; marks = ms }) ++ mark_field m
unfolding encode
encode-mark c ps ms m =
    ap (λ (ys : List ℕ). code_field c ++ (flat_map procedure_field ps ++ ys)) (joined-push mark_field ms m)
    ∙ ap (λ (ys : List ℕ). code_field c ++ ys) (sym (append_assoc (flat_map procedure_field ps) (flat_map mark_field ms) (mark_field m)))
    ∙ sym (append_assoc (code_field c) (flat_map procedure_field ps ++ flat_map mark_field ms) (mark_field m))

-- without code there is no procedure and no mark
no-procedures : (n : ℕ) (ps : List Procedure) → n ≡ 0 → EachAfter (GoodProcedure n) ps → ps ≡ []
unfolding EachFrom
no-procedures n [] z e = refl
no-procedures n (p ∷ ps) z (g, e) = let i = g.inside in absurd (omega arith)

pub no-marks : (n : ℕ) (ms : List Mark) → n ≡ 0 → EachAfter (GoodMark n) ms → ms ≡ []
unfolding EachFrom
no-marks n [] z e = refl
no-marks n (m ∷ ms) z (g, e) = let i = g.inside in absurd (omega arith)

encode-none : (k : Package) → k.code ≡ [] → k.procedures ≡ [] → k.marks ≡ [] → encode k ≡ []
unfolding encode
encode-none k ec ep em =
    ap (λ (c : List ℕ). code_field c ++ (flat_map procedure_field k.procedures ++ flat_map mark_field k.marks)) ec
    ∙ ap (λ (ps : List Procedure). flat_map procedure_field ps ++ flat_map mark_field k.marks) ep
    ∙ ap (flat_map mark_field) em

-- one good field more

record Extended (k : Package) (f : Cut) (j : Package) : Type 0 where
  good : Sound j
  bytes : encode j ≡ encode k ++ field_bytes f.tag f.body

extend-code : (k : Package) (f : Cut) → Sound k → length k.code ≡ 0 → f.tag ≡ 1 → misshapen 1 f.body ≡ false → Extended k f (record { code = f.body; procedures = k.procedures; marks = k.marks })
extend-code k f s z t e =
    record {
      good =
          record {
            size = ltb-false 8192 (length f.body) p.1;
            procedures = subst (EachAfter (GoodProcedure (length f.body))) (sym ep) (each_none (GoodProcedure (length f.body)));
            marks = subst (EachAfter (GoodMark (length f.body))) (sym em) (each_none (GoodMark (length f.body)));
          };
      bytes =
          encode-code f.body k.procedures k.marks long ep em
          ∙ ap (λ (n : ℕ). field_bytes n f.body) (sym t)
          ∙ ap (λ (ys : List ℕ). ys ++ field_bytes f.tag f.body) (sym (encode-none k (nil_from_length k.code z) ep em));
    }
  where
    p : (eqb (length f.body) 0 ≡ false) × (ltb 8192 (length f.body) ≡ false)
    p = or_parts (eqb (length f.body) 0) (ltb 8192 (length f.body)) e

    long : 1 ≤ length f.body
    long = let n = eqb-false (length f.body) 0 p.0 in omega arith

    ep : k.procedures ≡ []
    ep = no-procedures (length k.code) k.procedures z s.procedures

    em : k.marks ≡ []
    em = no-marks (length k.code) k.marks z s.marks

extend-procedure : (k : Package) (f : Cut) → Bytes f.body → Sound k → f.tag ≡ 2 → length k.marks ≡ 0 → misshapen 2 f.body ≡ false → unfit_procedure (length k.code) (length k.procedures) (last_offset k.procedures) f.body ≡ false → Extended k f (record { code = k.code; procedures = k.procedures ++ (procedure_of f.body ∷ []); marks = k.marks })
extend-procedure k f b s t z e u =
    let l = layout f.body e in
    record {
      good =
          record {
            size = s.size;
            procedures = each-push (GoodProcedure (length k.code)) k.procedures (procedure_of f.body) s.procedures (procedure-good (length k.code) k.procedures f.body s.procedures l u);
            marks = s.marks;
          };
      bytes =
          encode-procedure k.code k.procedures (procedure_of f.body) k.marks (nil_from_length k.marks z)
          ∙ ap (λ (ys : List ℕ). encode k ++ field_bytes 2 ys) (procedure-same (length k.code) (length k.procedures) (last_offset k.procedures) f.body b l u)
          ∙ ap (λ (n : ℕ). encode k ++ field_bytes n f.body) (sym t);
    }

extend-mark : (k : Package) (f : Cut) → Bytes f.body → Sound k → f.tag ≡ 3 → misshapen 3 f.body ≡ false → unfit_mark (length k.code) k.marks f.body ≡ false → Extended k f (record { code = k.code; procedures = k.procedures; marks = k.marks ++ (mark_of f.body ∷ []) })
extend-mark k f b s t e u =
    let l = mark-layout f.body e in
    record {
      good =
          record {
            size = s.size;
            procedures = s.procedures;
            marks = each-push (GoodMark (length k.code)) k.marks (mark_of f.body) s.marks (mark-good (length k.code) k.marks f.body b l u);
          };
      bytes =
          encode-mark k.code k.procedures k.marks (mark_of f.body)
          ∙ ap (λ (ys : List ℕ). encode k ++ field_bytes 3 ys) (mark-same (length k.code) k.marks f.body b l u)
          ∙ ap (λ (n : ℕ). encode k ++ field_bytes n f.body) (sym t);
    }

extend : (k : Package) (p : ℕ) (rest : List ℕ) (f : Cut) → Bytes rest → Sound k → field_after k p rest ≡ Ok f → Extended k f (including k f)
extend k p rest f b s e = go (place-cases (length k.code) (length k.marks) f.tag w.tag)
  where
    w : Passed (length k.code) (length k.procedures) (last_offset k.procedures) (length k.marks) k.marks p f (cut rest)
    w = passed (length k.code) (length k.procedures) (last_offset k.procedures) (length k.marks) k.marks p f (cut rest) e

    body : Bytes f.body
    body = bytes-body rest f b w.there

    shape : (n : ℕ) → f.tag ≡ n → misshapen n f.body ≡ false
    shape n t = subst (λ (m : ℕ). misshapen m f.body ≡ false) t w.shape

    fit : (n : ℕ) → f.tag ≡ n → unfit (length k.code) (length k.procedures) (last_offset k.procedures) k.marks n f.body ≡ false
    fit n t = subst (λ (m : ℕ). unfit (length k.code) (length k.procedures) (last_offset k.procedures) k.marks m f.body ≡ false) t w.fit

    go : ((length k.code ≡ 0) × (f.tag ≡ 1)) ⊎ (((length k.code ≡ 0 → ⊥) × (f.tag ≡ 2) × (length k.marks ≡ 0)) ⊎ ((length k.code ≡ 0 → ⊥) × (f.tag ≡ 3))) → Extended k f (including k f)
    go (inl (z, t)) = subst (Extended k f) (sym (including-code k f t)) (extend-code k f s z t (shape 1 t))
    go (inr (inl (n, t, z))) = subst (Extended k f) (sym (including-procedure k f t)) (extend-procedure k f body s t z (shape 2 t) (fit 2 t))
    go (inr (inr (n, t))) = subst (Extended k f) (sym (including-mark k f t)) (extend-mark k f body s t (shape 3 t) (fit 3 t))

-- over good fields: they are sound, and their bytes are the front

pub record Front (xs : List ℕ) (p : ℕ) (k : Package) (rest : List ℕ) : Type 0 where
  pub good : Sound k
  pub split : xs ≡ encode k ++ rest
  pub place : p ≡ length (encode k)

front-start : (xs : List ℕ) → Front xs 0 nothing xs
unfolding encode
front-start xs =
    record {
      good = record { size = omega arith; procedures = each_none (GoodProcedure 0); marks = each_none (GoodMark 0) };
      split = refl;
      place = refl;
    }

front-next : (xs : List ℕ) (p : ℕ) (k : Package) (rest : List ℕ) (f : Cut) → Bytes xs → Front xs p k rest → field_after k p rest ≡ Ok f → Front xs (p + (3 + length f.body)) (including k f) f.rest
front-next xs p k rest f b a e =
    record {
      good = x.good;
      split = a.split ∙ bytes;
      place = size;
    }
  where
    rest-bytes : Bytes rest
    rest-bytes = all-behind (λ c. c < 256) (encode k) rest (subst Bytes a.split b)

    x : Extended k f (including k f)
    x = extend k p rest f rest-bytes a.good e

    there : cut rest ≡ Some f
    there = (passed (length k.code) (length k.procedures) (last_offset k.procedures) (length k.marks) k.marks p f (cut rest) e).there

    bytes : encode k ++ rest ≡ encode (including k f) ++ f.rest
    bytes =
        ap (λ (ys : List ℕ). encode k ++ ys) (cut-back rest f rest-bytes there)
        ∙ sym (append_assoc (encode k) (field_bytes f.tag f.body) f.rest)
        ∙ ap (λ (ys : List ℕ). ys ++ f.rest) (sym x.bytes)

    size : p + (3 + length f.body) ≡ length (encode (including k f))
    size =
        let l = ap length x.bytes ∙ length-append (encode k) (field_bytes f.tag f.body) in
        let h = a.place in
        omega arith

pub at_front : (xs : List ℕ) (p : ℕ) (k : Package) (rest : List ℕ) → Bytes xs → At xs p k rest → Front xs p k rest
at_front xs p k rest b start = front-start xs
at_front xs p k rest b (next q j before f a e) = front-next xs q j before f b (at_front xs q j before b a) e

-- Good fields: what the tests of reading say in the words of the format.
use Rattle.std.proofs.Common.{◌≡◌, ℕ, ◌+◌, ◌-◌, ◌*◌, ◌%◌, ◌<◌, ◌≤◌, true, false, not, eqb, ltb, leb, ◌⊎◌, List, [], ◌∷◌, ◌++◌, map, length, get_or, take, drop, is_some, None, sym, refl, ap, ◌∙◌, subst, inl, inr, arith, length-drop}
use Rattle.std.specs.List.{AllByRecursion}
use Rattle.std.proofs.lemmas.List.{append_assoc, append-nil, length-map, length-take, drop_all}
use Rattle.std.proofs.ByRecursion.{All-append, All-weaker, All-drop}
use Rattle.std.proofs.lemmas.Bool.{cond-true, cond-false, eq-eqb, ne_eqb, eqb-true, lt-leb, leb-false, le-ltb, ltb-false, true≢false, or_parts, or_from, not-false, not_from_true, cases_eq}
use Rattle.fields.specs.Bytes.{two}
use Rattle.entries.specs.Sizes.{size_of}
use Rattle.declarations.specs.Kinds.{is_result, result_byte, result_of, kind_of, are_kinds}
use Rattle.declarations.specs.Entries.{are_entries}
use Rattle.declarations.specs.Marks.{mark_at, Mark, mark_of, entries_of}
use Rattle.declarations.specs.Procedures.{Procedure, procedure_of}
use Rattle.package.specs.Format.{EachFrom, EachAfter, GoodProcedure, GoodMark, procedure_body, mark_body}
use Rattle.package.specs.Rules.{misshapen, unfit_procedure, unfit_mark, out_of_turn, last_offset}
use Rattle.fields.proofs.Whole.{Bytes, two-there}
use Rattle.package.proofs.Inverses.{result-is, kinds-are, entries-good, entries-are, entries-bytes, procedure-back, mark-back}
use Rattle.declarations.proofs.Triples.{entries-length}

-- each element with those before it

module _ {A : Type 0} (P : List A → A → Type 0) where
  pub each-split : (before xs ys : List A) → EachFrom P before (xs ++ ys) → EachFrom P before xs × EachFrom P (before ++ xs) ys
  unfolding EachFrom
  each-split before [] ys e = (tt, subst (λ (zs : List A). EachFrom P zs ys) (sym (append-nil before)) e)
  each-split before (x ∷ xs) ys (p, e) =
      let r = each-split (before ++ (x ∷ [])) xs ys e in
      ((p, r.0), subst (λ (zs : List A). EachFrom P zs ys) (append_assoc before (x ∷ []) xs) r.1)

  pub each-join : (before xs ys : List A) → EachFrom P before xs → EachFrom P (before ++ xs) ys → EachFrom P before (xs ++ ys)
  unfolding EachFrom
  each-join before [] ys e f = subst (λ (zs : List A). EachFrom P zs ys) (append-nil before) f
  each-join before (x ∷ xs) ys (p, e) f =
      (p, each-join (before ++ (x ∷ [])) xs ys e (subst (λ (zs : List A). EachFrom P zs ys) (sym (append_assoc before (x ∷ []) xs)) f))

  pub each_none : EachAfter P []
  unfolding EachFrom
  each_none = tt

  pub each-push : (xs : List A) (x : A) → EachAfter P xs → P xs x → EachAfter P (xs ++ (x ∷ []))
  unfolding EachFrom
  each-push xs x e p = each-join [] xs (x ∷ []) e (p, tt)

  -- the element behind some others
  pub each_at : (xs : List A) (y : A) (ys : List A) → EachAfter P (xs ++ (y ∷ ys)) → P xs y
  unfolding EachFrom
  each_at xs y ys e = (each-split [] xs (y ∷ ys) e).1.0

  pub each-front : (xs ys : List A) → EachAfter P (xs ++ ys) → EachAfter P xs
  each-front xs ys e = (each-split [] xs ys e).0

  pub each_all : (Q : A → Type 0) → ((before : List A) (x : A) → P before x → Q x) → (before xs : List A) → EachFrom P before xs → AllByRecursion Q xs
  unfolding EachFrom
  each_all Q w before [] e = tt
  each_all Q w before (x ∷ xs) (p, e) = (w before x p, each_all Q w (before ++ (x ∷ [])) xs e)

-- the last of several procedures that rise opens behind the others
last-push : (ps : List Procedure) (p : Procedure) → last_offset (ps ++ (p ∷ [])) ≡ p.offset
unfolding last_offset
last-push [] p = refl
last-push (q ∷ []) p = refl
last-push (q ∷ r ∷ ps) p = last-push (r ∷ ps) p

pub last-offset : (ps : List Procedure) (p : Procedure) → last_offset (ps ++ (p ∷ [])) ≡ p.offset
last-offset = last-push

-- those that rise are all at the last offset or before
module _ (size : ℕ) where
  up-to-last : (before ps : List Procedure) → AllByRecursion (λ q. q.offset ≤ last_offset before) before → EachFrom (GoodProcedure size) before ps → AllByRecursion (λ q. q.offset ≤ last_offset (before ++ ps)) (before ++ ps)
  unfolding EachFrom
  up-to-last before [] a e = subst (λ (zs : List Procedure). AllByRecursion (λ q. q.offset ≤ last_offset zs) zs) (sym (append-nil before)) a
  up-to-last before (p ∷ ps) a (g, e) =
      let l = last-push before p in
      let here : AllByRecursion (λ q. q.offset ≤ last_offset (before ++ (p ∷ []))) (before ++ (p ∷ [])) =
      subst (λ (n : ℕ). AllByRecursion (λ q. q.offset ≤ n) (before ++ (p ∷ []))) (sym l)
      (All-append (λ q. q.offset ≤ p.offset) before (p ∷ []) (All-weaker (λ q. q.offset < p.offset) (λ q. q.offset ≤ p.offset) (λ q h. omega arith) before g.rises) (omega arith, tt)) in
      subst (λ (zs : List Procedure). AllByRecursion (λ q. q.offset ≤ last_offset zs) zs) (append_assoc before (p ∷ []) ps) (up-to-last (before ++ (p ∷ [])) ps here e)

  pub all-below : (ps : List Procedure) (x : ℕ) → EachAfter (GoodProcedure size) ps → last_offset ps < x → AllByRecursion (λ q. q.offset < x) ps
  all-below ps x e l = All-weaker (λ q. q.offset ≤ last_offset ps) (λ q. q.offset < x) (λ q h. omega arith) ps (up-to-last [] ps tt e)

-- the last of them is one of them
pub last-below : (ps : List Procedure) (x : ℕ) → AllByRecursion (λ q. q.offset < x) ps → (ps ≡ [] → ⊥) → last_offset ps < x
unfolding last_offset
last-below [] x a n = absurd (n refl)
last-below (p ∷ []) x (h, a) n = h
last-below (p ∷ q ∷ ps) x (h, a) n = last-below (q ∷ ps) x a (λ e. let z : ◌≡◌ {A = ℕ} 0 1 = cc in omega arith)

-- no mark is found where none has the offset
pub mark-absent : (ms : List Mark) (x : ℕ) → AllByRecursion (λ m. m.offset ≡ x → ⊥) ms → is_some (mark_at ms x) ≡ false
unfolding mark_at
mark-absent [] x a = refl
mark-absent (m ∷ ms) x (h, a) = ap is_some (cond-false _ _ _ (ne_eqb m.offset x h)) ∙ mark-absent ms x a

alone-parts : (m : Mark) (ms : List Mark) (x : ℕ) → is_some (mark_at (m ∷ ms) x) ≡ false → (m.offset ≡ x → ⊥) × (is_some (mark_at ms x) ≡ false)
unfolding mark_at
alone-parts m ms x e = go (cases_eq m.offset x)
  where
    go : (m.offset ≡ x) ⊎ (m.offset ≡ x → ⊥) → (m.offset ≡ x → ⊥) × (is_some (mark_at ms x) ≡ false)
    go (inl h) = absurd (true≢false (sym (ap is_some (cond-true _ _ _ (eq-eqb m.offset x h))) ∙ e))
    go (inr h) = (h, sym (ap is_some (cond-false _ _ _ (ne_eqb m.offset x h))) ∙ e)

pub mark-alone : (ms : List Mark) (x : ℕ) → is_some (mark_at ms x) ≡ false → AllByRecursion (λ m. m.offset ≡ x → ⊥) ms
mark-alone [] x e = tt
mark-alone (m ∷ ms) x e = let p = alone-parts m ms x e in (p.0, mark-alone ms x p.1)

-- a procedure's field

nil-count : (ps : List Procedure) → length ps ≡ 0 → ps ≡ []
nil-count [] e = refl
nil-count (p ∷ ps) e = absurd (omega arith)

-- what its length tells
pub record Layout (body : List ℕ) : Type 0 where
  pub long : 8 ≤ length body
  pub count : get_or body 7 0 ≤ 8
  pub exact : length body ≡ 8 + get_or body 7 0

pub layout : (body : List ℕ) → misshapen 2 body ≡ false → Layout body
layout body e =
    let p = or_parts (ltb (length body) 8) _ e in
    let q = or_parts (ltb 8 (get_or body 7 0)) _ p.1 in
    record {
      long = ltb-false (length body) 8 p.0;
      count = ltb-false 8 (get_or body 7 0) q.0;
      exact = eqb-true (length body) (8 + get_or body 7 0) (not-false _ q.1);
    }

-- its parts
parts : List ℕ → Procedure
parts body = record { offset = two body 0; locals = two body 2; depth = two body 4; result = result_of (get_or body 6 0); parameters = map kind_of (take 8 (drop 8 body)) }

seen_parts : (body : List ℕ) → 8 ≤ length body → procedure_of body ≡ parts body
unfolding parts
seen_parts body long = cond-false _ _ _ (le-ltb (length body) 8 long)

few-parts : (body : List ℕ) → length (parts body).parameters ≤ 8
unfolding parts
few-parts body = simp (length-map, length-take) (omega arith)

-- the other tests, one by one
record Fit (size count last : ℕ) (body : List ℕ) : Type 0 where
  inside : two body 0 < size
  locals : two body 2 ≤ 4096
  depth : two body 4 ≤ 2000
  result : is_result (get_or body 6 0) ≡ true
  kinds : are_kinds (drop 8 body) ≡ true
  turn : out_of_turn count last body ≡ false

fit-from : (size count last : ℕ) (body : List ℕ) → unfit_procedure size count last body ≡ false → Fit size count last body
fit-from size count last body e =
    let p = or_parts (leb size (two body 0)) _ e in
    let q = or_parts (ltb 4096 (two body 2)) _ p.1 in
    let r = or_parts (ltb 2000 (two body 4)) _ q.1 in
    let s = or_parts (not (is_result (get_or body 6 0))) _ r.1 in
    let t = or_parts (not (are_kinds (drop 8 body))) _ s.1 in
    record {
      inside = leb-false size (two body 0) p.0;
      locals = ltb-false 4096 (two body 2) q.0;
      depth = ltb-false 2000 (two body 4) r.0;
      result = not-false _ s.0;
      kinds = not-false _ t.0;
      turn = t.1;
    }

fit-to : (size count last : ℕ) (body : List ℕ) → Fit size count last body → unfit_procedure size count last body ≡ false
fit-to size count last body f =
    or_from (leb size (two body 0)) _ (lt-leb size (two body 0) f.inside)
    (or_from (ltb 4096 (two body 2)) _ (le-ltb 4096 (two body 2) f.locals)
    (or_from (ltb 2000 (two body 4)) _ (le-ltb 2000 (two body 4) f.depth)
    (or_from (not (is_result (get_or body 6 0))) _ (not_from_true _ f.result)
    (or_from (not (are_kinds (drop 8 body))) _ (not_from_true _ f.kinds) f.turn))))

first-turn : (last : ℕ) (body : List ℕ) (count : ℕ) → count ≡ 0 → out_of_turn count last body ≡ false → (two body 0 ≡ 0) × (get_or body 6 0 ≡ 0) × (get_or body 7 0 ≡ 0)
first-turn last body count z e =
    let c = sym (cond-true (eqb count 0) _ _ (eq-eqb count 0 z)) ∙ e in
    let p = or_parts (not (eqb (two body 0) 0)) _ c in
    let q = or_parts (not (eqb (get_or body 6 0) 0)) _ p.1 in
    (eqb-true _ _ (not-false _ p.0), eqb-true _ _ (not-false _ q.0), eqb-true _ _ (not-false _ q.1))

later-turn : (last : ℕ) (body : List ℕ) (count : ℕ) → (count ≡ 0 → ⊥) → out_of_turn count last body ≡ false → last < two body 0
later-turn last body count n e = leb-false (two body 0) last (sym (cond-false (eqb count 0) _ _ (ne_eqb count 0 n)) ∙ e)

procedure-fits : (size : ℕ) (ps : List Procedure) (body : List ℕ) → EachAfter (GoodProcedure size) ps → Layout body → Fit size (length ps) (last_offset ps) body → GoodProcedure size ps (parts body)
unfolding parts
procedure-fits size ps body each l f =
    record {
      inside = f.inside;
      locals = f.locals;
      depth = f.depth;
      parameters = few-parts body;
      program = λ e. program (first-turn (last_offset ps) body (length ps) (ap length e) f.turn);
      rises = rises ps each f.turn;
    }
  where
    program : (two body 0 ≡ 0) × (get_or body 6 0 ≡ 0) × (get_or body 7 0 ≡ 0) → (two body 0 ≡ 0) × (result_of (get_or body 6 0) ≡ None) × (map kind_of (take 8 (drop 8 body)) ≡ [])
    program (o, r, n) =
        let k = l.exact in
        (o, ap result_of r, ap (λ (xs : List ℕ). map kind_of (take 8 xs)) (drop_all 8 body (omega arith)))

    rises : (qs : List Procedure) → EachAfter (GoodProcedure size) qs → out_of_turn (length qs) (last_offset qs) body ≡ false → AllByRecursion (λ q. q.offset < two body 0) qs
    rises [] a e = tt
    rises (q ∷ qs) a e = all-below size (q ∷ qs) (two body 0) a (later-turn (last_offset (q ∷ qs)) body (length (q ∷ qs)) (λ z. omega arith) e)

pub procedure-good : (size : ℕ) (ps : List Procedure) (body : List ℕ) → EachAfter (GoodProcedure size) ps → Layout body → unfit_procedure size (length ps) (last_offset ps) body ≡ false → GoodProcedure size ps (procedure_of body)
procedure-good size ps body each l e =
    subst (GoodProcedure size ps) (sym (seen_parts body l.long)) (procedure-fits size ps body each l (fit-from size (length ps) (last_offset ps) body e))

-- and its bytes are the body
pub procedure-same : (size count last : ℕ) (body : List ℕ) → Bytes body → Layout body → unfit_procedure size count last body ≡ false → procedure_body (procedure_of body) ≡ body
procedure-same size count last body b l e =
    let f = fit-from size count last body e in
    procedure-back body b l.long l.exact l.count f.result f.kinds

-- a good procedure's bytes pass the tests

pub procedure-shape : (p : Procedure) → length p.parameters ≤ 8 → misshapen 2 (procedure_body p) ≡ false
procedure-shape p few =
    or_from (ltb (length (procedure_body p)) 8) _ (le-ltb (length (procedure_body p)) 8 (omega arith))
    (or_from (ltb 8 (length p.parameters)) _ (le-ltb 8 (length p.parameters) few)
    (not_from_true (eqb (length (procedure_body p)) (8 + length p.parameters)) (eq-eqb (length (procedure_body p)) (8 + length p.parameters) exact)))
  where
    exact : length (procedure_body p) ≡ 8 + length p.parameters
    exact = let n = length-map p.parameters size_of in omega arith

pub procedure-fit : (size : ℕ) (ps : List Procedure) (p : Procedure) → GoodProcedure size ps p → unfit_procedure size (length ps) (last_offset ps) (procedure_body p) ≡ false
procedure-fit size ps p g =
    fit-to size (length ps) (last_offset ps) (procedure_body p)
    (record {
      inside = subst (λ (n : ℕ). n < size) (sym (two-there p.offset)) g.inside;
      locals = subst (λ (n : ℕ). n ≤ 4096) (sym (two-there p.locals)) g.locals;
      depth = subst (λ (n : ℕ). n ≤ 2000) (sym (two-there p.depth)) g.depth;
      result = result-is p.result;
      kinds = kinds-are p.parameters;
      turn = turn ps g.program g.rises;
    })
  where
    turn : (qs : List Procedure) → (qs ≡ [] → (p.offset ≡ 0) × (p.result ≡ None) × (p.parameters ≡ [])) → AllByRecursion (λ q. q.offset < p.offset) qs → out_of_turn (length qs) (last_offset qs) (procedure_body p) ≡ false
    turn [] program rises =
        let f = program refl in
        or_from (not (eqb (two (procedure_body p) 0) 0)) _ (not_from_true _ (eq-eqb (two (procedure_body p) 0) 0 (two-there p.offset ∙ f.0)))
        (or_from (not (eqb (result_byte p.result) 0)) _ (not_from_true _ (eq-eqb (result_byte p.result) 0 (ap result_byte f.1)))
        (not_from_true _ (eq-eqb (length p.parameters) 0 (ap length f.2))))
    turn (q ∷ qs) program rises =
        let l = last-below (q ∷ qs) p.offset rises (λ e. let z : ◌≡◌ {A = ℕ} 0 1 = cc in omega arith) in
        cond-false (eqb (length (q ∷ qs)) 0) _ _ (ne_eqb (length (q ∷ qs)) 0 (λ z. omega arith))
        ∙ lt-leb (two (procedure_body p) 0) (last_offset (q ∷ qs)) (subst (λ (n : ℕ). last_offset (q ∷ qs) < n) (sym (two-there p.offset)) l)

-- a mark's field

pub record MarkLayout (body : List ℕ) : Type 0 where
  pub long : 2 ≤ length body
  pub short : length body ≤ 50
  pub triples : (length body - 2) % 3 ≡ 0

pub mark-layout : (body : List ℕ) → misshapen 3 body ≡ false → MarkLayout body
mark-layout body e =
    let p = or_parts (ltb (length body) 2) _ e in
    let q = or_parts (ltb 50 (length body)) _ p.1 in
    record {
      long = ltb-false (length body) 2 p.0;
      short = ltb-false 50 (length body) q.0;
      triples = eqb-true ((length body - 2) % 3) 0 (not-false _ q.1);
    }

mark-parts : (size : ℕ) (ms : List Mark) (body : List ℕ) → unfit_mark size ms body ≡ false → (two body 0 < size) × (are_entries (drop 2 body) ≡ true) × (is_some (mark_at ms (two body 0)) ≡ false)
mark-parts size ms body e =
    let p = or_parts (leb size (two body 0)) _ e in
    let q = or_parts (not (are_entries (drop 2 body))) _ p.1 in
    (leb-false size (two body 0) p.0, not-false _ q.0, q.1)

pub mark-good : (size : ℕ) (ms : List Mark) (body : List ℕ) → Bytes body → MarkLayout body → unfit_mark size ms body ≡ false → GoodMark size ms (mark_of body)
mark-good size ms body b l e =
    subst (GoodMark size ms) (sym (cond-false _ _ _ (le-ltb (length body) 2 l.long)))
    (record {
      inside = p.0;
      few = few;
      entries = entries-good (drop 2 body) (All-drop (λ c. c < 256) 2 body b) p.1;
      alone = mark-alone ms (two body 0) p.2;
    })
  where
    p : (two body 0 < size) × (are_entries (drop 2 body) ≡ true) × (is_some (mark_at ms (two body 0)) ≡ false)
    p = mark-parts size ms body e

    few : length (entries_of (drop 2 body)) ≤ 16
    few = let n = entries-length (drop 2 body) in let d = length-drop 2 body in let s = l.short in omega arith

pub mark-same : (size : ℕ) (ms : List Mark) (body : List ℕ) → Bytes body → MarkLayout body → unfit_mark size ms body ≡ false → mark_body (mark_of body) ≡ body
mark-same size ms body b l e = mark-back body b l.long l.triples (mark-parts size ms body e).1

pub mark-shape : (m : Mark) → length m.entries ≤ 16 → misshapen 3 (mark_body m) ≡ false
mark-shape m few =
    or_from (ltb (length (mark_body m)) 2) _ (le-ltb (length (mark_body m)) 2 (omega arith))
    (or_from (ltb 50 (length (mark_body m))) _ (le-ltb 50 (length (mark_body m)) (omega (arith, size)))
    (not_from_true _ (eq-eqb ((length (mark_body m) - 2) % 3) 0 (omega (arith, size)))))
  where
    size : length (mark_body m) ≡ 2 + 3 * length m.entries
    size = let n = entries-bytes m.entries in omega arith

pub mark-fit : (size : ℕ) (ms : List Mark) (m : Mark) → GoodMark size ms m → unfit_mark size ms (mark_body m) ≡ false
mark-fit size ms m g =
    or_from (leb size (two (mark_body m) 0)) _ (lt-leb size (two (mark_body m) 0) (subst (λ (n : ℕ). n < size) (sym (two-there m.offset)) g.inside))
    (or_from (not (are_entries (drop 2 (mark_body m)))) _ (not_from_true _ (entries-are m.entries g.entries))
    (ap (λ (n : ℕ). is_some (mark_at ms n)) (two-there m.offset) ∙ mark-absent ms m.offset g.alone))

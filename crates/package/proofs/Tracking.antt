-- The numbers that reading keeps are those of the fields that it has passed.
use Rattle.std.proofs.Common.{◌≡◌, ℕ, ◌+◌, ◌-◌, ◌≤◌, false, ◌⊎◌, List, [], ◌∷◌, ◌++◌, map, length, take, drop, Ok, sym, refl, ap, ◌∙◌, subst, subst₂, inl, inr, arith, length-append}
use Rattle.std.specs.List.{flat_map, AllByRecursion}
use Rattle.std.proofs.lemmas.List.{append_assoc, append-nil, take_at, drop_at, length_push, nil_from_length}
use Rattle.std.proofs.lemmas.Bool.{cond-true, cond-false, eq-eqb, ne_eqb, le-ltb}
use Rattle.package.specs.declared.reading.Tally.{Tally}
use Rattle.fields.specs.Bytes.{two}
use Rattle.fields.specs.Fields.{cut, Cut}
use Rattle.declarations.specs.Procedures.{Procedure, procedure_of}
use Rattle.declarations.specs.Marks.{Mark, mark_of}
use Rattle.package.specs.Package.{Package}
use Rattle.package.specs.Format.{code_field, procedure_field, mark_field, procedure_body, mark_body, encode, EachAfter, GoodProcedure, GoodMark}
use Rattle.package.specs.Judging.{tallied, place_behind}
use Rattle.package.specs.Reading.{judged, field_after, nothing, including}
use Rattle.package.specs.Rules.{misshapen, last_offset}
use Rattle.declarations.specs.Views.{marks_in, procedures_in}
use Rattle.fields.proofs.Whole.{Bytes}
use Rattle.package.proofs.Inverses.{procedure-there, mark-there}
use Rattle.fields.proofs.Cuts.{cut-length}
use Rattle.fields.proofs.Whole.{bodies-there}
use Rattle.package.proofs.Good.{each_all, last-offset, layout}
use Rattle.package.proofs.Fronts.{At, start, next, passed, Passed, at_front, place-cases, including-code, including-procedure, including-mark, no-marks}

-- the fields of good procedures and of good marks show them

there-all : {A : Type 0} (f : List ℕ → A) (g : A → List ℕ) (items : List A) → AllByRecursion (λ a. f (g a) ≡ a) items → map f (map g items) ≡ items
there-all f g [] a = refl
there-all f g (x ∷ items) (h, a) = let r = there-all f g items a in cc

pub marks-shown : (size : ℕ) (ms : List Mark) → EachAfter (GoodMark size) ms → marks_in (flat_map mark_field ms) ≡ ms
marks-shown size ms e =
    ap (map mark_of) (bodies-there 3 mark_body ms)
    ∙ there-all mark_of mark_body ms (each_all (GoodMark size) (λ m. mark_of (mark_body m) ≡ m) (λ _ m g. mark-there m g.entries) [] ms e)

pub procedures-shown : (size : ℕ) (ps : List Procedure) → EachAfter (GoodProcedure size) ps → procedures_in (flat_map procedure_field ps) ≡ ps
procedures-shown size ps e =
    ap (map procedure_of) (bodies-there 2 procedure_body ps)
    ∙ there-all procedure_of procedure_body ps (each_all (GoodProcedure size) (λ p. procedure_of (procedure_body p) ≡ p) (λ _ p g. procedure-there p g.parameters) [] ps e)

-- the bytes before the marks
unfoldable pub fore_bytes : Package → List ℕ
fore_bytes k = code_field k.code ++ flat_map procedure_field k.procedures

encode-fore : (k : Package) → encode k ≡ fore_bytes k ++ flat_map mark_field k.marks
unfolding encode fore_bytes
encode-fore k = sym (append_assoc (code_field k.code) (flat_map procedure_field k.procedures) (flat_map mark_field k.marks))

fore-all : (k : Package) → length k.marks ≡ 0 → length (encode k) ≡ length (fore_bytes k)
fore-all k z =
    ap length (encode-fore k ∙ (ap (λ (ms : List Mark). fore_bytes k ++ flat_map mark_field ms) (nil_from_length k.marks z) ∙ append-nil (fore_bytes k)))

pub record Tracks (xs : List ℕ) (t : Tally) (rest : List ℕ) (k : Package) : Type 0 where
  pub at : At xs t.at k rest
  pub code : t.code ≡ length k.code
  pub procedures : t.procedures ≡ length k.procedures
  pub last : t.last ≡ last_offset k.procedures
  pub marks : t.marks ≡ length k.marks
  pub fore : t.fore ≡ length (fore_bytes k)
  pub whole : t.at + length rest ≡ length xs
  pub few : (t.procedures ≤ t.at) × (t.marks ≤ t.at)
  pub inside : t.fore ≤ t.at

pub tracks-none : (xs : List ℕ) → Tracks xs (record { at = 0; code = 0; procedures = 0; last = 0; marks = 0; fore = 0 }) xs nothing
unfolding fore_bytes last_offset
tracks-none xs =
    record {
      at = start;
      code = refl;
      procedures = refl;
      last = refl;
      marks = refl;
      fore = refl;
      whole = omega arith;
      few = (omega arith, omega arith);
      inside = omega arith;
    }

-- the parts of the bytes that the fields before a place take

pub front-split : (xs : List ℕ) (t : Tally) (rest : List ℕ) (k : Package) → Bytes xs → Tracks xs t rest k → xs ≡ fore_bytes k ++ (flat_map mark_field k.marks ++ rest)
front-split xs t rest k b w =
    (at_front xs t.at k rest b w.at).split
    ∙ (ap (λ (ys : List ℕ). ys ++ rest) (encode-fore k) ∙ append_assoc (fore_bytes k) (flat_map mark_field k.marks) rest)

pub place-split : (xs : List ℕ) (t : Tally) (rest : List ℕ) (k : Package) → Bytes xs → Tracks xs t rest k → t.at ≡ length (fore_bytes k) + length (flat_map mark_field k.marks)
place-split xs t rest k b w =
    (at_front xs t.at k rest b w.at).place
    ∙ (ap length (encode-fore k) ∙ length-append (fore_bytes k) (flat_map mark_field k.marks))

pub marked-bytes : (xs : List ℕ) (t : Tally) (rest : List ℕ) (k : Package) → Bytes xs → Tracks xs t rest k → take (t.at - t.fore) (drop t.fore xs) ≡ flat_map mark_field k.marks
marked-bytes xs t rest k b w =
    ap (λ (ys : List ℕ). take (t.at - t.fore) (drop t.fore ys)) (front-split xs t rest k b w)
    ∙ ap (take (t.at - t.fore)) (drop_at (fore_bytes k) (flat_map mark_field k.marks ++ rest) t.fore (sym w.fore))
    ∙ take_at (flat_map mark_field k.marks) rest (t.at - t.fore) size
  where
    size : length (flat_map mark_field k.marks) ≡ t.at - t.fore
    size = let p = place-split xs t rest k b w in let f = w.fore in omega arith

pub marked-shown : (xs : List ℕ) (t : Tally) (rest : List ℕ) (k : Package) → Bytes xs → Tracks xs t rest k → marks_in (take (t.at - t.fore) (drop t.fore xs)) ≡ k.marks
marked-shown xs t rest k b w =
    ap marks_in (marked-bytes xs t rest k b w)
    ∙ marks-shown (length k.code) k.marks (at_front xs t.at k rest b w.at).good.marks

-- the judgement over the numbers is that over the fields
pub judged-same : (xs : List ℕ) (t : Tally) (rest : List ℕ) (k : Package) (marks : List Mark) → Tracks xs t rest k → marks ≡ k.marks → judged t.code t.procedures t.last t.marks marks t.at (cut rest) ≡ field_after k t.at rest
judged-same xs t rest k marks w em =
    ap (λ (n : ℕ). judged n t.procedures t.last t.marks marks t.at (cut rest)) w.code
    ∙ ap (λ (n : ℕ). judged (length k.code) n t.last t.marks marks t.at (cut rest)) w.procedures
    ∙ ap (λ (n : ℕ). judged (length k.code) (length k.procedures) n t.marks marks t.at (cut rest)) w.last
    ∙ ap (λ (n : ℕ). judged (length k.code) (length k.procedures) (last_offset k.procedures) n marks t.at (cut rest)) w.marks
    ∙ ap (λ (ms : List Mark). judged (length k.code) (length k.procedures) (last_offset k.procedures) (length k.marks) ms t.at (cut rest)) em

-- one field more

tallied-code : (t : Tally) (f : Cut) → f.tag ≡ 1 → tallied t f ≡ record { at = place_behind t f; code = length f.body; procedures = t.procedures; last = t.last; marks = t.marks; fore = place_behind t f }
tallied-code t f e = cond-true _ _ _ (eq-eqb f.tag 1 e)

tallied-procedure : (t : Tally) (f : Cut) → f.tag ≡ 2 → tallied t f ≡ record { at = place_behind t f; code = t.code; procedures = t.procedures + 1; last = two f.body 0; marks = t.marks; fore = place_behind t f }
tallied-procedure t f e = cond-false _ _ _ (ne_eqb f.tag 1 (λ z. omega arith)) ∙ cond-true _ _ _ (eq-eqb f.tag 2 e)

tallied-mark : (t : Tally) (f : Cut) → f.tag ≡ 3 → tallied t f ≡ record { at = place_behind t f; code = t.code; procedures = t.procedures; last = t.last; marks = t.marks + 1; fore = t.fore }
tallied-mark t f e = cond-false _ _ _ (ne_eqb f.tag 1 (λ z. omega arith)) ∙ cond-false _ _ _ (ne_eqb f.tag 2 (λ z. omega arith))

module _ (xs : List ℕ) (t : Tally) (rest : List ℕ) (k : Package) (f : Cut) (b : Bytes xs) (w : Tracks xs t rest k) (e : field_after k t.at rest ≡ Ok f) where
  known : Passed (length k.code) (length k.procedures) (last_offset k.procedures) (length k.marks) k.marks t.at f (cut rest)
  known = passed (length k.code) (length k.procedures) (last_offset k.procedures) (length k.marks) k.marks t.at f (cut rest) e

  reached : At xs (place_behind t f) (including k f) f.rest
  reached = next t.at k rest f w.at e

  left_over : place_behind t f + length f.rest ≡ length xs
  left_over = let c = cut-length rest f known.there in let h = w.whole in omega arith

  -- where no mark has come, the marks may begin next
  fore-next : (j : Package) → At xs (place_behind t f) j f.rest → length j.marks ≡ 0 → place_behind t f ≡ length (fore_bytes j)
  fore-next j a z = (at_front xs (place_behind t f) j f.rest b a).place ∙ fore-all j z

  by_code : length k.code ≡ 0 → f.tag ≡ 1 → Tracks xs (record { at = place_behind t f; code = length f.body; procedures = t.procedures; last = t.last; marks = t.marks; fore = place_behind t f }) f.rest (record { code = f.body; procedures = k.procedures; marks = k.marks })
  by_code z tag =
      let a = subst (λ (j : Package). At xs (place_behind t f) j f.rest) (including-code k f tag) reached in
      let n = no-marks (length k.code) k.marks z (at_front xs t.at k rest b w.at).good.marks in
      record {
        at = a;
        code = refl;
        procedures = w.procedures;
        last = w.last;
        marks = w.marks;
        fore = fore-next _ a (ap length n);
        whole = left_over;
        few = (omega (arith, w.few), omega (arith, w.few));
        inside = omega arith;
      }

  by-procedure : f.tag ≡ 2 → length k.marks ≡ 0 → Tracks xs (record { at = place_behind t f; code = t.code; procedures = t.procedures + 1; last = two f.body 0; marks = t.marks; fore = place_behind t f }) f.rest (record { code = k.code; procedures = k.procedures ++ (procedure_of f.body ∷ []); marks = k.marks })
  by-procedure tag z =
      let a = subst (λ (j : Package). At xs (place_behind t f) j f.rest) (including-procedure k f tag) reached in
      record {
        at = a;
        code = w.code;
        procedures = ap (λ (n : ℕ). n + 1) w.procedures ∙ sym (length_push k.procedures (procedure_of f.body));
        last = sym (last-offset k.procedures (procedure_of f.body) ∙ offset);
        marks = w.marks;
        fore = fore-next _ a z;
        whole = left_over;
        few = (omega (arith, w.few), omega (arith, w.few));
        inside = omega arith;
      }
    where
      offset : (procedure_of f.body).offset ≡ two f.body 0
      offset =
          let l = layout f.body (subst (λ (n : ℕ). misshapen n f.body ≡ false) tag known.shape) in
          ap (λ (p : Procedure). p.offset) (cond-false _ _ _ (le-ltb (length f.body) 8 l.long))

  by-mark : f.tag ≡ 3 → Tracks xs (record { at = place_behind t f; code = t.code; procedures = t.procedures; last = t.last; marks = t.marks + 1; fore = t.fore }) f.rest (record { code = k.code; procedures = k.procedures; marks = k.marks ++ (mark_of f.body ∷ []) })
  unfolding fore_bytes
  by-mark tag =
      record {
        at = subst (λ (j : Package). At xs (place_behind t f) j f.rest) (including-mark k f tag) reached;
        code = w.code;
        procedures = w.procedures;
        last = w.last;
        marks = ap (λ (n : ℕ). n + 1) w.marks ∙ sym (length_push k.marks (mark_of f.body));
        fore = w.fore;
        whole = left_over;
        few = (omega (arith, w.few), omega (arith, w.few));
        inside = omega (arith, w.inside);
      }

  pub tracks-next : Tracks xs (tallied t f) f.rest (including k f)
  tracks-next = go (place-cases (length k.code) (length k.marks) f.tag known.tag)
    where
      go : ((length k.code ≡ 0) × (f.tag ≡ 1)) ⊎ (((length k.code ≡ 0 → ⊥) × (f.tag ≡ 2) × (length k.marks ≡ 0)) ⊎ ((length k.code ≡ 0 → ⊥) × (f.tag ≡ 3))) → Tracks xs (tallied t f) f.rest (including k f)
      go (inl (z, tag)) =
          subst₂ (λ (s : Tally) (j : Package). Tracks xs s f.rest j) (sym (tallied-code t f tag)) (sym (including-code k f tag)) (by_code z tag)
      go (inr (inl (n, tag, z))) =
          subst₂ (λ (s : Tally) (j : Package). Tracks xs s f.rest j) (sym (tallied-procedure t f tag)) (sym (including-procedure k f tag)) (by-procedure tag z)
      go (inr (inr (n, tag))) =
          subst₂ (λ (s : Tally) (j : Package). Tracks xs s f.rest j) (sym (tallied-mark t f tag)) (sym (including-mark k f tag)) (by-mark tag)

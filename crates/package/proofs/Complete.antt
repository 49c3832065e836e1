-- Every sound package is read off its bytes, field by field.
use Rattle.std.proofs.Common.{◌≡◌, ℕ, ◌+◌, ◌≤◌, false, eqb, ltb, List, [], ◌∷◌, ◌++◌, length, sym, refl, ap, ◌∙◌, subst, arith, length-append}
use Rattle.std.specs.List.{flat_map}
use Rattle.std.proofs.lemmas.List.{append_assoc, append-nil}
use Rattle.std.proofs.lemmas.Bool.{cond-false, ne_eqb, le-ltb, or_from}
use Rattle.fields.specs.Fields.{cut, field_bytes}
use Rattle.declarations.specs.Procedures.{Procedure}
use Rattle.declarations.specs.Marks.{Mark}
use Rattle.package.specs.Package.{Package}
use Rattle.package.specs.Format.{code_field, procedure_field, mark_field, procedure_body, mark_body, encode, EachAfter, GoodProcedure, GoodMark, Sound}
use Rattle.package.specs.Rules.{misplaced, misshapen, unfit, last_offset}
use Rattle.package.specs.Reading.{nothing, including}
use Rattle.package.proofs.Inverses.{procedure-there, mark-there}
use Rattle.fields.proofs.Whole.{cut-there}
use Rattle.package.proofs.Good.{each_at, procedure-shape, procedure-fit, mark-shape, mark-fit}
use Rattle.package.proofs.Fronts.{At, start, next, passes}

module _ (xs : List ℕ) where
  -- one field more, given by its parts
  at_push : (p : ℕ) (k j : Package) (tag : ℕ) (body rest behind : List ℕ) → At xs p k rest → rest ≡ field_bytes tag body ++ behind → misplaced (length k.code) (length k.marks) tag ≡ false → misshapen tag body ≡ false → unfit (length k.code) (length k.procedures) (last_offset k.procedures) k.marks tag body ≡ false → including k (record { tag = tag; body = body; rest = behind }) ≡ j → At xs (p + length (field_bytes tag body)) j behind
  at_push p k j tag body rest behind a r t s u i =
      subst (λ (q : ℕ). At xs q j behind) place
      (subst (λ (g : Package). At xs (p + (3 + length body)) g behind) i
      (next p k rest (record { tag = tag; body = body; rest = behind }) a
      (passes (length k.code) (length k.procedures) (last_offset k.procedures) (length k.marks) k.marks p (record { tag = tag; body = body; rest = behind }) (cut rest)
      (record { there = ap cut r ∙ cut-there tag body behind; tag = t; shape = s; fit = u }))))
    where
      place : p + (3 + length body) ≡ p + length (field_bytes tag body)
      place = omega arith

  at_code : (c behind : List ℕ) → xs ≡ code_field c ++ behind → length c ≤ 8192 → At xs (length (code_field c)) (record { code = c; procedures = []; marks = [] }) behind
  at_code [] behind e l = subst (λ (ys : List ℕ). At xs 0 nothing ys) e start
  at_code (b ∷ bs) behind e l =
      subst (λ (q : ℕ). At xs q (record { code = b ∷ bs; procedures = []; marks = [] }) behind) (omega arith)
      (at_push 0 nothing (record { code = b ∷ bs; procedures = []; marks = [] }) 1 (b ∷ bs) xs behind start e refl
      (or_from (eqb (length (b ∷ bs)) 0) (ltb 8192 (length (b ∷ bs))) (ne_eqb (length (b ∷ bs)) 0 (λ z. omega arith)) (le-ltb 8192 (length (b ∷ bs)) l))
      refl
      refl)

  at-procedures : (c : List ℕ) (p : ℕ) (done todo : List Procedure) (behind : List ℕ) → EachAfter (GoodProcedure (length c)) (done ++ todo) → At xs p (record { code = c; procedures = done; marks = [] }) (flat_map procedure_field todo ++ behind) → At xs (p + length (flat_map procedure_field todo)) (record { code = c; procedures = done ++ todo; marks = [] }) behind
  at-procedures c p done [] behind e a =
      subst (λ (q : ℕ). At xs q (record { code = c; procedures = done ++ []; marks = [] }) behind) (omega arith)
      (subst (λ (qs : List Procedure). At xs p (record { code = c; procedures = qs; marks = [] }) behind) (sym (append-nil done)) a)
  at-procedures c p done (q ∷ todo) behind e a =
      subst (λ (n : ℕ). At xs n (record { code = c; procedures = done ++ (q ∷ todo); marks = [] }) behind) place
      (subst (λ (qs : List Procedure). At xs (p + length (procedure_field q) + length (flat_map procedure_field todo)) (record { code = c; procedures = qs; marks = [] }) behind) (append_assoc done (q ∷ []) todo)
      (at-procedures c (p + length (procedure_field q)) (done ++ (q ∷ [])) todo behind
      (subst (EachAfter (GoodProcedure (length c))) (sym (append_assoc done (q ∷ []) todo)) e)
      (at_push p (record { code = c; procedures = done; marks = [] }) (record { code = c; procedures = done ++ (q ∷ []); marks = [] }) 2 (procedure_body q) (flat_map procedure_field (q ∷ todo) ++ behind) (flat_map procedure_field todo ++ behind) a
      (append_assoc (procedure_field q) (flat_map procedure_field todo) behind)
      (cond-false (eqb (length c) 0) _ _ (ne_eqb (length c) 0 (λ z. omega (arith, good.inside))))
      (procedure-shape q good.parameters)
      (procedure-fit (length c) done q good)
      (ap (λ (r : Procedure). record { code = c; procedures = done ++ (r ∷ []); marks = [] }) (procedure-there q good.parameters)))))
    where
      good : GoodProcedure (length c) done q
      good = each_at (GoodProcedure (length c)) done q todo e

      place : p + length (procedure_field q) + length (flat_map procedure_field todo) ≡ p + length (flat_map procedure_field (q ∷ todo))
      place = let n = length-append (procedure_field q) (flat_map procedure_field todo) in omega arith

  at-marks : (c : List ℕ) (ps : List Procedure) (p : ℕ) (done todo : List Mark) (behind : List ℕ) → EachAfter (GoodMark (length c)) (done ++ todo) → At xs p (record { code = c; procedures = ps; marks = done }) (flat_map mark_field todo ++ behind) → At xs (p + length (flat_map mark_field todo)) (record { code = c; procedures = ps; marks = done ++ todo }) behind
  at-marks c ps p done [] behind e a =
      subst (λ (q : ℕ). At xs q (record { code = c; procedures = ps; marks = done ++ [] }) behind) (omega arith)
      (subst (λ (ms : List Mark). At xs p (record { code = c; procedures = ps; marks = ms }) behind) (sym (append-nil done)) a)
  at-marks c ps p done (m ∷ todo) behind e a =
      subst (λ (n : ℕ). At xs n (record { code = c; procedures = ps; marks = done ++ (m ∷ todo) }) behind) place
      (subst (λ (ms : List Mark). At xs (p + length (mark_field m) + length (flat_map mark_field todo)) (record { code = c; procedures = ps; marks = ms }) behind) (append_assoc done (m ∷ []) todo)
      (at-marks c ps (p + length (mark_field m)) (done ++ (m ∷ [])) todo behind
      (subst (EachAfter (GoodMark (length c))) (sym (append_assoc done (m ∷ []) todo)) e)
      (at_push p (record { code = c; procedures = ps; marks = done }) (record { code = c; procedures = ps; marks = done ++ (m ∷ []) }) 3 (mark_body m) (flat_map mark_field (m ∷ todo) ++ behind) (flat_map mark_field todo ++ behind) a
      (append_assoc (mark_field m) (flat_map mark_field todo) behind)
      (cond-false (eqb (length c) 0) _ _ (ne_eqb (length c) 0 (λ z. omega (arith, good.inside))))
      (mark-shape m good.few)
      (mark-fit (length c) done m good)
      (ap (λ (n : Mark). record { code = c; procedures = ps; marks = done ++ (n ∷ []) }) (mark-there m good.entries)))))
    where
      good : GoodMark (length c) done m
      good = each_at (GoodMark (length c)) done m todo e

      place : p + length (mark_field m) + length (flat_map mark_field todo) ≡ p + length (flat_map mark_field (m ∷ todo))
      place = let n = length-append (mark_field m) (flat_map mark_field todo) in omega arith

  -- all fields of a sound package
  pub sound-at : (k : Package) (behind : List ℕ) → Sound k → xs ≡ encode k ++ behind → At xs (length (encode k)) k behind
  unfolding encode
  sound-at k behind s e =
      subst (λ (n : ℕ). At xs n k behind) place
      (at-marks k.code k.procedures (length (code_field k.code) + length (flat_map procedure_field k.procedures)) [] k.marks behind s.marks
      (at-procedures k.code (length (code_field k.code)) [] k.procedures (flat_map mark_field k.marks ++ behind) s.procedures
      (at_code k.code (flat_map procedure_field k.procedures ++ (flat_map mark_field k.marks ++ behind)) split s.size)))
    where
      split : xs ≡ code_field k.code ++ (flat_map procedure_field k.procedures ++ (flat_map mark_field k.marks ++ behind))
      split = e ∙ (append_assoc (code_field k.code) (flat_map procedure_field k.procedures ++ flat_map mark_field k.marks) behind ∙ ap (λ (ys : List ℕ). code_field k.code ++ ys) (append_assoc (flat_map procedure_field k.procedures) (flat_map mark_field k.marks) behind))

      place : length (code_field k.code) + length (flat_map procedure_field k.procedures) + length (flat_map mark_field k.marks) ≡ length (code_field k.code ++ (flat_map procedure_field k.procedures ++ flat_map mark_field k.marks))
      place =
          let a = length-append (code_field k.code) (flat_map procedure_field k.procedures ++ flat_map mark_field k.marks) in
          let b = length-append (flat_map procedure_field k.procedures) (flat_map mark_field k.marks) in
          omega arith

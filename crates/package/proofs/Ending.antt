-- What reading answers at a bad field, after the last field, and at the end.
use Rattle.std.proofs.Common.{◌≡◌, ℕ, ◌+◌, ◌-◌, ◌<◌, ◌≤◌, Bool, true, false, eqb, List, [], ◌∷◌, ◌++◌, length, get_or, take, drop, Ok, Err, Result, sym, refl, ap, ◌∙◌, subst, arith, length-append, w8, Fits}
use Rattle.std.specs.List.{flat_map as joined}
use Rattle.std.proofs.ByRecursion.{All-from_get_or}
use Rattle.std.proofs.lemmas.List.{append_assoc, take_at, drop_at}
use Rattle.std.proofs.lemmas.Bool.{cond-true, cond-false, eqb-false, or_parts}
use Rattle.package.specs.declared.faults.ReadFault.{ReadFault}
use Rattle.package.specs.declared.faults.ReadFault.TheVariants.{WrongCount}
use Rattle.package.specs.declared.reading.Tally.{Tally}
use Rattle.fields.specs.Fields.{cut, Cut, field_bytes}
use Rattle.declarations.specs.Procedures.{Procedure}
use Rattle.declarations.specs.Marks.{Mark}
use Rattle.package.specs.Package.{Package}
use Rattle.package.specs.Format.{code_field, procedure_field, mark_field, EachAfter, GoodProcedure}
use Rattle.package.specs.Judging.{package_within, tallied}
use Rattle.package.specs.Reading.{judged, field_after, including, reading, AcceptsExactly, RefusesFirst}
use Rattle.package.specs.Rules.{miscounted, misshapen, last_offset}
use Rattle.declarations.specs.Views.{marks_in, procedures_in}
use Rattle.fields.proofs.Whole.{Bytes}
use Rattle.fields.proofs.Cuts.{cut-length}
use Rattle.package.proofs.Good.{each_at}
use Rattle.package.proofs.Fronts.{at_front, passed}
use Rattle.package.proofs.Answering.{read-end, read-bad, explained, count-explained, accepted, refused, invalid}
use Rattle.package.proofs.Tracking.{Tracks, fore_bytes, marked-shown, judged-same, procedures-shown, front-split, tracks-next}

-- the three promises of an answer
pub record Promised (xs : List ℕ) (r : Result Package ReadFault) : Type 0 where
  pub answers : r ≡ reading xs
  pub accepts : AcceptsExactly xs r
  pub refuses : RefusesFirst xs r

-- bytes, as code knows them
bytes-known : (xs : List ℕ) → ((i : ℕ) → Fits w8 (get_or xs i 0)) → Bytes xs
bytes-known xs h = All-from_get_or (λ b. b < 256) xs 0 (λ i _. (h i).fits)

same-package : (c d : List ℕ) (p q : List Procedure) (m n : List Mark) → c ≡ d → p ≡ q → m ≡ n → ◌≡◌ {A = Package} (record { code = c; procedures = p; marks = m }) (record { code = d; procedures = q; marks = n })
same-package c d p q m n ec ep em = cc

module _ (xs : List ℕ) (t : Tally) (rest : List ℕ) (k : Package) (b : Bytes xs) (w : Tracks xs t rest k) where
  abbrev marked_in : List Mark
  marked_in = marks_in (take (t.at - t.fore) (drop t.fore xs))

  judged-here : (r : Result Cut ReadFault) → r ≡ judged t.code t.procedures t.last t.marks marked_in t.at (cut rest) → field_after k t.at rest ≡ r
  judged-here r e = sym (e ∙ judged-same xs t rest k marked_in w (marked-shown xs t rest k b w))

  bad-field : (e : ReadFault) → 1 ≤ length rest → field_after k t.at rest ≡ Err e → Promised xs (Err e)
  bad-field e l q =
      let r = read-bad xs t.at k rest e w.at l q in
      record {
        answers = sym r;
        accepts = invalid xs e r;
        refuses = refused xs t.at k rest e b w.at (explained k rest t.at e l q) r;
      }

  miscounts-same : (v : Bool) → v ≡ miscounted t.procedures t.marks → miscounted (length k.procedures) (length k.marks) ≡ v
  miscounts-same v e =
      sym (e ∙ (ap (λ (n : ℕ). miscounted n t.marks) w.procedures ∙ ap (miscounted (length k.procedures)) w.marks))

  wrong-count : length rest ≡ 0 → true ≡ miscounted t.procedures t.marks → Promised xs (Err (WrongCount t.at))
  wrong-count z e =
      let m = miscounts-same true e in
      let r = read-end xs t.at k rest w.at z ∙ cond-true _ _ _ m in
      record {
        answers = sym r;
        accepts = invalid xs (WrongCount t.at) r;
        refuses = refused xs t.at k rest (WrongCount t.at) b w.at (count-explained k rest t.at z m) r;
      }

  all-good : length rest ≡ 0 → false ≡ miscounted t.procedures t.marks → Promised xs (Ok k)
  all-good z e =
      let m = miscounts-same false e in
      record {
        answers = sym (read-end xs t.at k rest w.at z ∙ cond-false _ _ _ m);
        accepts = accepted xs t.at k rest b w.at z m;
        refuses = tt;
      }

  -- the parts of bytes that hold nothing but good fields

  some-code : false ≡ miscounted t.procedures t.marks → 1 ≤ length k.code
  some-code e =
      let p = or_parts (eqb (length k.procedures) 0) _ (miscounts-same false e) in
      go k.procedures (at_front xs t.at k rest b w.at).good.procedures (eqb-false (length k.procedures) 0 p.0)
    where
      go : (ps : List Procedure) → EachAfter (GoodProcedure (length k.code)) ps → (length ps ≡ 0 → ⊥) → 1 ≤ length k.code
      go [] g n = absurd (n refl)
      go (q ∷ ps) g n = let h = each_at (GoodProcedure (length k.code)) [] q ps g in omega (arith, h.inside)

  code-field : 1 ≤ length k.code → code_field k.code ≡ field_bytes 1 k.code
  code-field l = go k.code l
    where
      go : (c : List ℕ) → 1 ≤ length c → code_field c ≡ field_bytes 1 c
      go [] m = absurd (omega arith)
      go (x ∷ c) m = refl

  fore-size : 1 ≤ length k.code → t.fore ≡ 3 + t.code + length (joined procedure_field k.procedures)
  unfolding fore_bytes
  fore-size l =
      let a = length-append (code_field k.code) (joined procedure_field k.procedures) in
      let c = ap length (code-field l) in
      let f = w.fore in
      let d = w.code in
      omega arith

  view-fits : false ≡ miscounted t.procedures t.marks → (3 + t.code ≤ t.fore) × (t.fore ≤ length xs)
  view-fits e =
      let f = fore-size (some-code e) in
      (omega arith, omega (arith, w.inside, w.whole))

  split-code : 1 ≤ length k.code → xs ≡ field_bytes 1 k.code ++ (joined procedure_field k.procedures ++ (joined mark_field k.marks ++ rest))
  unfolding fore_bytes
  split-code l =
      front-split xs t rest k b w
      ∙ (ap (λ (ys : List ℕ). (ys ++ joined procedure_field k.procedures) ++ (joined mark_field k.marks ++ rest)) (code-field l)
      ∙ append_assoc (field_bytes 1 k.code) (joined procedure_field k.procedures) (joined mark_field k.marks ++ rest))

  shown-code : 1 ≤ length k.code → take (3 + t.code - 3) (drop 3 xs) ≡ k.code
  shown-code l =
      ap (λ (ys : List ℕ). take (3 + t.code - 3) (drop 3 ys)) (split-code l)
      ∙ take_at k.code (joined procedure_field k.procedures ++ (joined mark_field k.marks ++ rest)) (3 + t.code - 3) (omega (arith, w.code))

  shown-procedures : 1 ≤ length k.code → procedures_in (take (t.fore - (3 + t.code)) (drop (3 + t.code) xs)) ≡ k.procedures
  shown-procedures l =
      ap (λ (ys : List ℕ). procedures_in (take (t.fore - (3 + t.code)) (drop (3 + t.code) ys))) (split-code l)
      ∙ ap (λ (ys : List ℕ). procedures_in (take (t.fore - (3 + t.code)) ys)) (drop_at (field_bytes 1 k.code) (joined procedure_field k.procedures ++ (joined mark_field k.marks ++ rest)) (3 + t.code) (omega (arith, w.code)))
      ∙ ap procedures_in (take_at (joined procedure_field k.procedures) (joined mark_field k.marks ++ rest) (t.fore - (3 + t.code)) (let f = fore-size l in omega arith))
      ∙ procedures-shown (length k.code) k.procedures (at_front xs t.at k rest b w.at).good.procedures

  shown-marks : length rest ≡ 0 → marks_in (take (length xs - t.fore) (drop t.fore xs)) ≡ k.marks
  shown-marks z =
      ap (λ (n : ℕ). marks_in (take (n - t.fore) (drop t.fore xs))) (let h = w.whole in let n : length xs ≡ t.at = omega arith in n)
      ∙ marked-shown xs t rest k b w

  shown : length rest ≡ 0 → false ≡ miscounted t.procedures t.marks → package_within xs t.code t.fore ≡ k
  shown z e =
      let ec = shown-code (some-code e) in
      let ep = shown-procedures (some-code e) in
      let em = shown-marks z in
      same-package _ _ _ _ _ _ ec ep em

-- the same, from what the code knows at a turn of its loop and after it

module _ (xs : List ℕ) (t : Tally) (rest : List ℕ) (typed : (i : ℕ) → Fits w8 (get_or xs i 0)) (inv : (k : Package) × Tracks xs t rest k) where
  abbrev known : Bytes xs
  known = bytes-known xs typed

  pub record Goes (f : Cut) : Type 0 where
    pub shape : misshapen f.tag f.body ≡ false
    pub within : t.at + (3 + length f.body) ≤ length xs
    pub few : (t.procedures ≤ t.at) × (t.marks ≤ t.at)
    pub shorter : length f.rest < length rest
    pub tracks : Tracks xs (tallied t f) f.rest (including inv.0 f)

  pub goes_on : (f : Cut) → Ok f ≡ judged t.code t.procedures t.last t.marks (marks_in (take (t.at - t.fore) (drop t.fore xs))) t.at (cut rest) → Goes f
  goes_on f q =
      let k = inv.0 in
      let w = inv.1 in
      let e = judged-here xs t rest k known w (Ok f) q in
      let p = passed (length k.code) (length k.procedures) (last_offset k.procedures) (length k.marks) k.marks t.at f (cut rest) e in
      let c = cut-length rest f p.there in
      record {
        shape = p.shape;
        within = omega (arith, w.whole);
        few = w.few;
        shorter = omega arith;
        tracks = tracks-next xs t rest k f known w e;
      }

  pub goes-again : (f : Cut) (s : Tally) → Ok f ≡ judged t.code t.procedures t.last t.marks (marks_in (take (t.at - t.fore) (drop t.fore xs))) t.at (cut rest) → s ≡ tallied t f → (k : Package) × Tracks xs s f.rest k
  goes-again f s q e =
      (including inv.0 f, subst (λ (u : Tally). Tracks xs u f.rest (including inv.0 f)) (sym e) (goes_on f q).tracks)

  pub stops : (e : ReadFault) → 1 ≤ length rest → Err e ≡ judged t.code t.procedures t.last t.marks (marks_in (take (t.at - t.fore) (drop t.fore xs))) t.at (cut rest) → Promised xs (Err e)
  stops e l q = bad-field xs t rest inv.0 known inv.1 e l (judged-here xs t rest inv.0 known inv.1 (Err e) q)

  pub ends-wrong : length rest ≡ 0 → true ≡ miscounted t.procedures t.marks → Promised xs (Err (WrongCount t.at))
  ends-wrong = wrong-count xs t rest inv.0 known inv.1

  pub ends-fitting : false ≡ miscounted t.procedures t.marks → (3 + t.code ≤ t.fore) × (t.fore ≤ length xs)
  ends-fitting = view-fits xs t rest inv.0 known inv.1

  pub ends-well : length rest ≡ 0 → false ≡ miscounted t.procedures t.marks → (k : Package) → k ≡ package_within xs t.code t.fore → Promised xs (Ok k)
  ends-well z e k q =
      subst (λ (j : Package). Promised xs (Ok j)) (sym (q ∙ shown xs t rest inv.0 known inv.1 z e)) (all-good xs t rest inv.0 known inv.1 z e)

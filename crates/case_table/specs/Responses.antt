-- What is answered to the lines of a table, and what is printed of them.
use Rattle.std.specs.Prelude.{◌≡◌, ℕ, ◌⊎◌, List, ◌++◌, codes, Option, Some, Result, Ok, Err, option_map, IfSome}
use Rattle.case_table.specs.declared.line.Line.{Line}
use Rattle.case_table.specs.declared.line.Line.TheVariants.{Heading, Case}
use Rattle.case_table.specs.declared.response.Response.{Response}
use Rattle.case_table.specs.declared.response.Response.TheVariants as response
use Rattle.case_table.specs.Words.{Spells, HasNoCase}

-- `passed` and `refusal` are the texts of what a judge answers, where they are known
module _ {T E : Type 0} (passed : T → Option (List ℕ)) (refusal : E → Option (List ℕ)) (done : List ℕ) where
  -- how a verdict reads: what was done and what passed, or the refusal
  abbrev pub verdict_text : Result T E → Option (List ℕ)
  verdict_text (Ok x) = option_map (λ text. done ++ codes " " ++ text) (passed x)
  verdict_text (Err e) = refusal e

  -- what is said is the verdict's text behind the name
  abbrev pub SaysVerdict : List ℕ → Result T E → List ℕ → Type 0
  SaysVerdict name verdict said = IfSome (verdict_text verdict) (λ answer. said ≡ name ++ codes ": " ++ answer)

  -- of a case: that its text spells no bytes, or the verdict on the bytes that it spells; `Judged` holds of bytes and of each verdict on them that may come
  abbrev pub SaysOfCase : (List ℕ → Result T E → Type 0) → List ℕ → List ℕ → List ℕ → Type 0
  SaysOfCase Judged name text said = (HasNoCase text × (said ≡ name ++ codes ": no case"))
      ⊎ ((bytes : List ℕ) × (verdict : Result T E) × Spells text bytes × Judged bytes verdict × SaysVerdict name verdict said)

  -- of a line: a heading as it stands
  abbrev pub Says : (List ℕ → Result T E → Type 0) → Line → List ℕ → Type 0
  Says Judged (Heading heading) said = said ≡ heading.now
  Says Judged (Case name text) said = SaysOfCase Judged name.now text.now said

module _ {T E : Type 0} (done : List ℕ) (Judged : List ℕ → Result T E → Type 0) where
  -- what a line is answered: a heading itself; of a case its name, and that its text spells no bytes, or what was done and the verdict on the bytes that it spells
  abbrev pub Answers : Line → Response T E → Type 0
  Answers (Heading heading) (response.Heading shown) = shown.now ≡ heading.now
  Answers (Heading heading) (response.NoCase name) = ⊥
  Answers (Heading heading) (response.Judged name what verdict) = ⊥
  Answers (Case name text) (response.Heading shown) = ⊥
  Answers (Case name text) (response.NoCase shown) = (shown.now ≡ name.now) × HasNoCase text.now
  Answers (Case name text) (response.Judged shown what verdict) = (shown.now ≡ name.now) × (what.now ≡ done)
      × ((bytes : List ℕ) × Spells text.now bytes × Judged bytes verdict)

module _ {T E : Type 0} (passed : T → Option (List ℕ)) (refusal : E → Option (List ℕ)) where
  -- what is printed of a response, where the text of the verdict is known
  abbrev pub response_text : Response T E → Option (List ℕ)
  response_text (response.Heading heading) = Some heading.now
  response_text (response.NoCase name) = Some (name.now ++ codes ": no case")
  response_text (response.Judged name done verdict) = option_map (λ answer. name.now ++ codes ": " ++ answer) (verdict_text passed refusal done.now verdict)

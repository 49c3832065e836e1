-- What is printed of a response says what the line is answered.
use Rattle.std.proofs.Common.{◌≡◌, ℕ, List, ◌++◌, codes, inl, inr, Option, Some, None, Result, ap, refl, append_assoc, ◌∙◌}
use Rattle.std.specs.Option.{option_map, IfSome}
use Rattle.case_table.specs.Responses.{Answers, Says, SaysVerdict, response_text, verdict_text}
use Rattle.case_table.specs.declared.line.Line.{Line}
use Rattle.case_table.specs.declared.line.Line.TheVariants.{Heading, Case}
use Rattle.case_table.specs.declared.response.Response.{Response}
use Rattle.case_table.specs.declared.response.Response.TheVariants as response

behind-name : (name said : List ℕ) (answer : Option (List ℕ)) → IfSome (option_map (λ text. name ++ codes ": " ++ text) answer) (λ text. said ≡ text) → IfSome answer (λ text. said ≡ name ++ codes ": " ++ text)
behind-name name said (Some text) is = is
behind-name name said None is = tt

module _ {T E : Type 0} (passed : T → Option (List ℕ)) (refusal : E → Option (List ℕ)) (done : List ℕ) (Judged : List ℕ → Result T E → Type 0) (said : List ℕ) where
  verdict-said : (name shown what : List ℕ) (verdict : Result T E) → shown ≡ name → what ≡ done → IfSome (option_map (λ text. shown ++ codes ": " ++ text) (verdict_text passed refusal what verdict)) (λ text. said ≡ text) → SaysVerdict passed refusal done name verdict said
  verdict-said name shown what verdict n w is = behind-name name said (verdict_text passed refusal done verdict) (rw (n, w) at is)

  pub answered : (read : Line) (r : Response T E) → Answers done Judged read r → IfSome (response_text passed refusal r) (λ text. said ≡ text) → Says passed refusal done Judged read said
  answered (Heading heading) (response.Heading shown) a is = is ∙ a
  answered (Heading heading) (response.NoCase name) a is = absurd a
  answered (Heading heading) (response.Judged name what verdict) a is = absurd a
  answered (Case name text) (response.Heading shown) a is = absurd a
  answered (Case name text) (response.NoCase shown) a is = inl (a.1, is ∙ ap (λ n. n ++ codes ": no case") a.0)
  answered (Case name text) (response.Judged shown what verdict) (n, w, (bytes, spells, judged)) is = inr (bytes, verdict, spells, judged, verdict-said name.now shown.now what.now verdict n w is)

-- what is printed of a verdict that passes is what was written piece by piece, where the text of what passed is known
pub passed-text : (name done : List ℕ) (passed written : Option (List ℕ)) (Said : List ℕ → Type 0) → ((text : List ℕ) → passed ≡ Some text → written ≡ Some (name ++ (codes ": " ++ (done ++ (codes " " ++ text))))) → IfSome written Said → IfSome (option_map (λ answer. name ++ codes ": " ++ answer) (option_map (λ text. done ++ codes " " ++ text) passed)) Said
passed-text name done None written Said pieces said = tt
passed-text name done (Some text) written Said pieces said =
    let joined : (name ++ codes ": ") ++ ((done ++ codes " ") ++ text) ≡ name ++ (codes ": " ++ (done ++ (codes " " ++ text))) =
    append_assoc name (codes ": ") _ ∙ ap (λ xs. name ++ (codes ": " ++ xs)) (append_assoc done (codes " ") text) in
    rw joined (rw (pieces text refl) at said)

-- The answers of clearing are exact.
use Rattle.std.proofs.Common.{◌≡◌, ℕ, ◌≤◌, Bool, true, false, cond, ltb, List, length, Some, None, Err, Option, sym, refl, ◌∙◌}
use Rattle.std.proofs.lemmas.Bool.{false≢true, ltb-false, ltb-true}
use Rattle.entries.specs.declared.Entry.{Entry}
use Rattle.package.specs.Package.{Package}
use Rattle.verdict.specs.declared.ClearFault.TheVariants.{WorkTooShort}
use Rattle.verdict.specs.Answers.{Cleared, ClearsExactly, FirstBroken, clearing, ruled}
use Rattle.verdict.specs.Assignment.{Clears}
use Rattle.verdict.specs.Breaking.{Breach, Soonest, Unbroken, verdict}
use Rattle.verdict.proofs.Here.{shape_at}
use Rattle.verdict.proofs.Holding.{holding, one-assignment}
use Rattle.verdict.proofs.Laws.{no-breach, some-breach}
use Rattle.verdict.proofs.Meeting.{meeting}

module _ (k : Package) where
  pub cleared : Unbroken k → Cleared k
  cleared u =
      let c = meeting k u in
      record { shape = shape_at k; clears = c; only = λ other o x s l. one-assignment k other (shape_at k) o c x s l }

  breached : (b : Breach) → Soonest k b → (shape : ℕ → List Entry) → Clears k shape → ⊥
  breached b s shape c = false≢true (sym (holding k shape c b.rule b.place s.within) ∙ s.holds)

  ruled-exactly : (room : ℕ) → length k.code ≤ room → (o : Option Breach) → verdict k ≡ o → ClearsExactly k room (ruled k o)
  ruled-exactly room l None e = (l, refl, cleared (no-breach k e))
  ruled-exactly room l (Some b) e = (l, breached b (some-breach k b e))

  exactly-by : (room : ℕ) (b : Bool) → ltb room (length k.code) ≡ b → ClearsExactly k room (cond b (Err WorkTooShort) (ruled k (verdict k)))
  exactly-by room true e = ltb-true _ _ e
  exactly-by room false e = ruled-exactly room (ltb-false _ _ e) (verdict k) refl

  pub clears-exactly : (room : ℕ) → ClearsExactly k room (clearing k room)
  unfolding clearing
  clears-exactly room = exactly-by room (ltb room (length k.code)) refl

  ruled-first : (o : Option Breach) → verdict k ≡ o → FirstBroken k (ruled k o)
  ruled-first None e = no-breach k e
  ruled-first (Some b) e = some-breach k b e

  first_by : (b : Bool) → FirstBroken k (cond b (Err WorkTooShort) (ruled k (verdict k)))
  first_by true = tt
  first_by false = ruled-first (verdict k) refl

  pub first-broken : (room : ℕ) → FirstBroken k (clearing k room)
  unfolding clearing
  first-broken room = first_by (ltb room (length k.code))

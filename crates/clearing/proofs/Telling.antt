-- The table, with one offset more.
use Rattle.std.proofs.Common.{◌≡◌, ℕ, suc, ◌+◌, ◌<◌, ◌≤◌, true, false, cond, List, Some, sym, ap, ◌∙◌, ⊎_elim, arith}
use Rattle.std.proofs.lemmas.Bool.{cases_eq, eq-eqb, ne_eqb}
use Rattle.instruction.specs.declared.decoding.Decoded.{Decoded}
use Rattle.instruction.specs.Decoding.{decoded}
use Rattle.rules.specs.Starts.{behind, is_start, start_from}
use Rattle.rules.proofs.Starting.{from-turn}
use Rattle.start_table.specs.declared.StartTable.{StartTable}
use Rattle.start_table.specs.Table.{TellsMore, size, told}
use Rattle.clearing.specs.Passing.{TellsStarts}

-- from x on, no start is told
abbrev pub BlankFrom : StartTable → ℕ → Type 0
BlankFrom t x = (y : ℕ) → x ≤ y → y < size t → told t y ≡ false

module _ (code : List ℕ) (x n : ℕ) (h : n ≡ start_from code x) where
  turn : start_from code (x + 1) ≡ cond (is_start code x) (behind x (decoded code x)) (start_from code x)
  turn = let q : x + 1 ≡ suc x = omega arith in ap (start_from code) q ∙ from-turn code x

  pub starts-here : x ≡ n → is_start code x ≡ true
  starts-here e = eq-eqb _ _ (sym h ∙ sym e)

  pub next-behind : (d : Decoded) → x ≡ n → decoded code x ≡ Some d → d.next ≡ start_from code (x + 1)
  next-behind d e g = sym (turn ∙ ap (λ b. cond b (behind x (decoded code x)) (start_from code x)) (starts-here e) ∙ ap (behind x) g)

  pub no-start-here : (x ≡ n → ⊥) → is_start code x ≡ false
  no-start-here e = ne_eqb _ _ (λ q. e (sym (h ∙ q)))

  pub next-same : (x ≡ n → ⊥) → n ≡ start_from code (x + 1)
  next-same e = sym (turn ∙ ap (λ b. cond b (behind x (decoded code x)) (start_from code x)) (no-start-here e) ∙ sym h)

  module _ (t : StartTable) (told_below : TellsStarts code t x) where
    pub tells-start : (u : StartTable) → x ≡ n → TellsMore x t u → TellsStarts code u (x + 1)
    tells-start u e m y l =
        ⊎_elim
        (λ q. ap (told u) q ∙ m.there ∙ sym (ap (is_start code) q ∙ starts-here e))
        (λ q. m.others y q ∙ told_below y (omega (arith, l, q)))
        (cases_eq y x)

    pub tells_none : (x ≡ n → ⊥) → x < size t → BlankFrom t x → TellsStarts code t (x + 1)
    tells_none e s b y l =
        ⊎_elim
        (λ q. ap (told t) q ∙ b x (omega arith) s ∙ sym (ap (is_start code) q ∙ no-start-here e))
        (λ q. told_below y (omega (arith, l, q)))
        (cases_eq y x)

pub blank-more : (x : ℕ) (t u : StartTable) → BlankFrom t x → TellsMore x t u → size u ≡ size t → BlankFrom u (x + 1)
blank-more x t u b m s y l r = m.others y (λ q. absurd (omega (arith, q, l))) ∙ b y (omega (arith, l)) (omega (arith, r, s))

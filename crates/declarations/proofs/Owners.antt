-- Which procedure owns an offset.
use Rattle.std.proofs.Common.{◌≡◌, ℕ, suc, ◌+◌, ◌≤◌, Bool, true, false, cond, leb, List, [], ◌∷◌, map, take, None, refl, ap, ◌∙◌, arith}
use Rattle.std.specs.List.{last_or, prefix_len}
use Rattle.std.specs.Option.{unwrap_or}
use Rattle.std.proofs.lemmas.Bool.{cond_both, leb-true}
use Rattle.declarations.specs.Procedures.{Procedure, blank, owner_from, owner_of, procedure_of}
use Rattle.declarations.proofs.Lists.{unwrap_or-last}

from_le : (best : Procedure) (ps : List Procedure) (x : ℕ) → best.offset ≤ x → (owner_from best ps x).offset ≤ x
unfolding owner_from
from_le best [] x l = l
from_le best (p ∷ ps) x l = cond_both (leb p.offset x) _ _ (λ (q : Procedure). q.offset ≤ x) (λ e. from_le p ps x (leb-true _ _ e)) (λ e. l)

-- it opens there or before
pub owner-le : (ps : List Procedure) (x : ℕ) → (owner_of ps x).offset ≤ x
owner-le ps x = from_le blank ps x (omega arith)

-- it is the last of those at the front that open there or before
pub owner-last : (best : List ℕ) (bodies : List (List ℕ)) (x : ℕ) → procedure_of (unwrap_or (last_or None (take (prefix_len (λ b. leb (procedure_of b).offset x) bodies) bodies)) best) ≡ owner_from (procedure_of best) (map procedure_of bodies) x
unfolding owner_from
owner-last best [] x = refl
owner-last best (b ∷ bs) x = go (leb (procedure_of b).offset x) (owner-last b bs x)
  where
    go : (t : Bool) → procedure_of (unwrap_or (last_or None (take (prefix_len (λ c. leb (procedure_of c).offset x) bs) bs)) b) ≡ owner_from (procedure_of b) (map procedure_of bs) x
        → procedure_of (unwrap_or (last_or None (take (cond t (1 + prefix_len (λ c. leb (procedure_of c).offset x) bs) 0) (b ∷ bs))) best) ≡ cond t (owner_from (procedure_of b) (map procedure_of bs) x) (procedure_of best)
    go false e = refl
    go true e =
        let one : 1 + prefix_len (λ (c : List ℕ). leb (procedure_of c).offset x) bs ≡ suc (prefix_len (λ (c : List ℕ). leb (procedure_of c).offset x) bs) = omega arith in
        rw one (ap procedure_of (unwrap_or-last b best (take (prefix_len (λ c. leb (procedure_of c).offset x) bs) bs)) ∙ e)

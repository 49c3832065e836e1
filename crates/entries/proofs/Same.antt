-- Entries are the same exactly when they are equal.
use Rattle.std.proofs.Common.{◌≡◌, ℕ, true, cond, eqb, sym, refl, ap, ◌∙◌}
use Rattle.std.proofs.lemmas.Bool.{and_from, and_parts, eq-eqb, eqb-true}
use Rattle.entries.specs.declared.EntryKind.{EntryKind}
use Rattle.entries.specs.declared.EntryKind.TheVariants.{Byte, Char, Int, Local, Global, Text}
use Rattle.entries.specs.declared.Entry.{Entry}
use Rattle.entries.specs.Alike.{rank_of, same_entry}

-- the kind with a rank
abbrev ranked : ℕ → EntryKind
ranked n =
    cond (eqb n 0) Byte (cond (eqb n 1) Char (cond (eqb n 2) Int (cond (eqb n 3) Local (cond (eqb n 4) Global Text))))

unranked : (k : EntryKind) → ranked (rank_of k) ≡ k
unranked Byte = refl
unranked Char = refl
unranked Int = refl
unranked Local = refl
unranked Global = refl
unranked Text = refl

kind-is : (k j : EntryKind) → rank_of k ≡ rank_of j → k ≡ j
kind-is k j e = sym (unranked k) ∙ ap ranked e ∙ unranked j

pub entry-is : (a b : Entry) → same_entry a b ≡ true → a ≡ b
entry-is a b e =
    let p = and_parts (eqb (rank_of a.kind) (rank_of b.kind)) (eqb a.number b.number) e in
    let q = kind-is a.kind b.kind (eqb-true _ _ p.0) in
    let r = eqb-true a.number b.number p.1 in
    ap (λ (k : EntryKind). record { kind = k; number = a.number }) q ∙ ap (λ (n : ℕ). record { kind = b.kind; number = n }) r

pub entry-same : (a : Entry) → same_entry a a ≡ true
entry-same a = and_from _ _ (eq-eqb (rank_of a.kind) _ refl) (eq-eqb a.number _ refl)

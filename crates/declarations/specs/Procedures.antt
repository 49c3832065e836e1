-- Procedures.
use Rattle.std.specs.Prelude.{ℕ, cond, List, [], ◌∷◌, map, length, take, drop, None, sum_by, Option, ◌==◌, nat_le, nat_lt, slice_index}
use Rattle.std.specs.List.{find}
use Rattle.entries.specs.declared.Kind.{Kind}
use Rattle.entries.specs.Sizes.{size_of}
use Rattle.fields.specs.Bytes.{two}
use Rattle.declarations.specs.Kinds.{kind_of, result_of}

-- A procedure opens at its offset. Locals counts the bytes of its variables, depth those that its operand stack may
-- hold above them. The first procedure of a package is the program; its variables are the globals.
pub record Procedure : Type 0 where
  pub offset : ℕ
  pub locals : ℕ
  pub depth : ℕ
  pub result : Option Kind
  pub parameters : List Kind

-- the bytes of all parameters together
abbrev pub parameters_size : List Kind → ℕ
parameters_size ks = sum_by size_of ks

-- what stands for a procedure where there is none
abbrev pub blank : Procedure
blank = record { offset = 0; locals = 0; depth = 0; result = None; parameters = [] }

-- the procedure that a field's body declares
abbrev pub procedure_of : List ℕ → Procedure
procedure_of body =
    cond (nat_lt (length body) 8) blank
    (record {
      offset = two body 0;
      locals = two body 2;
      depth = two body 4;
      result = result_of (slice_index body 6);
      parameters = map kind_of (take 8 (drop 8 body));
    })

-- the last of the leading procedures that open at x or before, or else a given one
unfoldable pub owner_from : Procedure → List Procedure → ℕ → Procedure
owner_from best [] x = best
owner_from best (p ∷ ps) x = cond (nat_le p.offset x) (owner_from p ps x) best

-- the procedure that owns x: offsets rise, and a procedure owns the code from its offset up to the next one's
abbrev pub owner_of : List Procedure → ℕ → Procedure
owner_of ps x = owner_from blank ps x

-- the procedure that opens at x
unfoldable pub opening_at : List Procedure → ℕ → Option Procedure
opening_at ps x = find (λ p. p.offset == x) ps

-- the program is the first procedure; its variables are the globals
unfoldable pub program_of : List Procedure → Procedure
program_of [] = blank
program_of (p ∷ ps) = p

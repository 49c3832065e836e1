-- The rules of reading, each a test of the field at the front of some bytes, behind the fields before it.
use Rattle.std.specs.Prelude.{ℕ, ◌+◌, ◌-◌, ◌%◌, Bool, false, cond, not, ◌&&◌, ◌||◌, List, [], ◌∷◌, length, drop, is_some, Option, ◌==◌, nat_le, nat_lt, slice_index}
use Rattle.std.specs.Option.{option_map_or}
use Rattle.fields.specs.Bytes.{two}
use Rattle.fields.specs.Fields.{cut, Cut}
use Rattle.declarations.specs.Kinds.{are_kinds, is_result}
use Rattle.declarations.specs.Entries.{are_entries}
use Rattle.declarations.specs.Marks.{mark_at, Mark}
use Rattle.declarations.specs.Procedures.{Procedure}
use Rattle.package.specs.Package.{Package}

-- Tags: 1 is code, 2 a procedure, 3 a mark. The first field is the code, and there is one; no procedure follows a mark.
-- `size` is that of the code before, 0 where none has come; `marks` the number of marks before.
abbrev pub misplaced : ℕ → ℕ → ℕ → Bool
misplaced size marks tag =
    cond (size == 0) (not (tag == 1)) (cond (tag == 2) (nat_lt 0 marks) (not (tag == 3)))

-- Lengths and counts: code has 1 to 8,192 bytes; a procedure 8 bytes and one for each of at most 8 parameters, which
-- the eighth byte counts; a mark 2 bytes and 3 for each of at most 16 entries.
abbrev pub misshapen : ℕ → List ℕ → Bool
misshapen tag body =
    cond (tag == 1) (length body == 0 || nat_lt 8192 (length body))
    (cond (tag == 2) (nat_lt (length body) 8 || (nat_lt 8 (slice_index body 7) || not (length body == 8 + slice_index body 7)))
    (nat_lt (length body) 2 || (nat_lt 50 (length body) || not ((length body - 2) % 3 == 0))))

-- the offset of the last procedure, or 0
unfoldable pub last_offset : List Procedure → ℕ
last_offset [] = 0
last_offset (p ∷ []) = p.offset
last_offset (p ∷ q ∷ ps) = last_offset (q ∷ ps)

-- The first procedure opens the code and has neither result nor parameters; a later one opens behind the one before.
-- `count` is the number of procedures before, `last` the offset of the last of them.
abbrev pub out_of_turn : ℕ → ℕ → List ℕ → Bool
out_of_turn count last body =
    cond (count == 0) (not (two body 0 == 0) || (not (slice_index body 6 == 0) || not (slice_index body 7 == 0)))
    (nat_le (two body 0) last)

-- Everything else in a procedure: its offset, locals at most 4,096, depth at most 2,000, its kinds, its turn.
abbrev pub unfit_procedure : ℕ → ℕ → ℕ → List ℕ → Bool
unfit_procedure size count last body =
    nat_le size (two body 0)
    || (nat_lt 4096 (two body 2)
    || (nat_lt 2000 (two body 4)
    || (not (is_result (slice_index body 6))
    || (not (are_kinds (drop 8 body)) || out_of_turn count last body))))

-- Everything else in a mark: its offset, its entries, and that no mark before it has the same offset.
abbrev pub unfit_mark : ℕ → List Mark → List ℕ → Bool
unfit_mark size marks body =
    nat_le size (two body 0) || (not (are_entries (drop 2 body)) || is_some (mark_at marks (two body 0)))

abbrev pub unfit : ℕ → ℕ → ℕ → List Mark → ℕ → List ℕ → Bool
unfit size count last marks tag body =
    cond (tag == 1) false (cond (tag == 2) (unfit_procedure size count last body) (unfit_mark size marks body))

-- After the last field: 1 to 64 procedures, and at most 512 marks.
abbrev pub miscounted : ℕ → ℕ → Bool
miscounted procedures marks = procedures == 0 || (nat_lt 64 procedures || nat_lt 512 marks)

-- a test of the field at the front of some bytes, if there is a whole one
abbrev pub of_field : Option Cut → (Cut → Bool) → Bool
of_field o test = option_map_or test o false

abbrev pub none : List ℕ → Bool
none rest = length rest == 0

-- Whether the sentence with a number holds, where k is what the fields before hold and the rest is what stands behind:
-- 1, a field runs past the end of the bytes; 2, its tag is wrong; 3, its length or count; 4, anything else in it;
-- 5, there is no further field, and procedures or marks are too many or too few.
abbrev pub broken : ℕ → Package → List ℕ → Bool
broken n k rest =
    cond (n == 1) (not (none rest) && not (is_some (cut rest)))
    (cond (n == 2) (of_field (cut rest) (λ f. misplaced (length k.code) (length k.marks) f.tag))
    (cond (n == 3) (of_field (cut rest) (λ f. misshapen f.tag f.body))
    (cond (n == 4) (of_field (cut rest) (λ f. unfit (length k.code) (length k.procedures) (last_offset k.procedures) k.marks f.tag f.body))
    (cond (n == 5) (none rest && miscounted (length k.procedures) (length k.marks)) false))))

-- What a field's body declares.
use Rattle.std.proofs.Common.{◌≡◌, ℕ, ◌<◌, ◌≤◌, List, [], map, length, get_or, take, drop, Option, sym, ◌∙◌, arith}
use Rattle.std.proofs.lemmas.Bool.{cond-false, cond-true, le-ltb, lt-ltb}
use Rattle.entries.specs.declared.Entry.{Entry}
use Rattle.entries.specs.declared.Kind.{Kind}
use Rattle.entries.specs.declared.Kind.TheVariants.{Byte, Char, Int}
use Rattle.fields.specs.Bytes.{two}
use Rattle.entries.specs.Sizes.{size_of}
use Rattle.declarations.specs.Kinds.{kind_of, result_of}
use Rattle.declarations.specs.Procedures.{Procedure, procedure_of}
use Rattle.declarations.specs.Marks.{Mark, mark_of, entries_of}

pub procedure-made : (body ks : List ℕ) (o l d : ℕ) (r : Option Kind) → 8 ≤ length body → o ≡ two body 0 → l ≡ two body 2 → d ≡ two body 4 → r ≡ result_of (get_or body 6 0) → ks ≡ drop 8 body → record { offset = o; locals = l; depth = d; result = r; parameters = map kind_of (take 8 ks) } ≡ procedure_of body
procedure-made body ks o l d r long eo el ed er ek =
    let q : ◌≡◌ {A = Procedure} (record { offset = o; locals = l; depth = d; result = r; parameters = map kind_of (take 8 ks) }) (record { offset = two body 0; locals = two body 2; depth = two body 4; result = result_of (get_or body 6 0); parameters = map kind_of (take 8 (drop 8 body)) }) = cc in
    q ∙ sym (cond-false _ _ _ (le-ltb (length body) 8 long))

pub size-le : (k : Kind) → size_of k ≤ 4
size-le Byte = omega arith
size-le Char = omega arith
size-le Int = omega arith

-- the mark that a body holds
pub mark_made : (body : List ℕ) (o : ℕ) (es : List Entry) → 2 ≤ length body → o ≡ two body 0 → es ≡ entries_of (drop 2 body) → record { offset = o; entries = es } ≡ mark_of body
mark_made body o es long eo ee =
    let q : ◌≡◌ {A = Mark} (record { offset = o; entries = es }) (record { offset = two body 0; entries = entries_of (drop 2 body) }) = cc in
    q ∙ sym (cond-false _ _ _ (le-ltb (length body) 2 long))

-- a body that is too short holds a blank mark
pub mark-none : (body : List ℕ) → length body < 2 → record { offset = 0; entries = entries_of [] } ≡ mark_of body
unfolding entries_of
mark-none body short = sym (cond-true _ _ _ (lt-ltb (length body) 2 short))

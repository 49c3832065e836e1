-- What `split_once` gives at an ASCII character.
use Rattle.std.proofs.Common.{◌≡◌, ℕ, ◌<◌, ◌==◌, List, ◌∷◌, ◌++◌, length, Option, Some, None, Bor, sym, ◌∙◌, arith, ◌≤◌, take, get_or, length-take}
use Rattle.std.proofs.Math.Seq.{get_or-take}
use borrow.Author.Tests.{eqb-true, eqb-false}
use Rattle.std.specs.List.{before_first, after_first, position_or_len}
use Rattle.std.specs.Str.Iter.{LacksByte}
use Rattle.std.proofs.lemmas.List.Sums.{fails_before_first, passes_at_first, split_at_first}
use Rattle.std.proofs.lemmas.Str.Pattern.{IsSplitOnceResult, split_once_first}

-- the front and the back of a text that has the byte, cut at the first
pub record IsCut (byte : ℕ) (text front back : List ℕ) : Type 0 where
  pub inside : position_or_len (λ b. b == byte) text < length text
  pub front_is : front ≡ before_first (λ b. b == byte) text
  pub back_is : back ≡ after_first (λ b. b == byte) text
  pub joined : text ≡ front ++ byte ∷ back
  pub lacks : LacksByte byte front

-- no byte before the first is that byte
fails_below : (byte : ℕ) (text : List ℕ) (n : ℕ) → n ≤ position_or_len (λ b. b == byte) text → LacksByte byte (take n text)
fails_below byte text n below k inside is =
    let at : get_or (take n text) k 0 ≡ get_or text k 0 = get_or-take n text k 0 (omega (arith, length-take n text)) in
    eqb-false _ byte (fails_before_first (λ b. b == byte) text k 0 (omega (arith, length-take n text))) (sym at ∙ is)

module _ (byte : ℕ) (ascii : byte < 128) (text : List ℕ) (r : Option (Bor (List ℕ) × Bor (List ℕ))) (split : IsSplitOnceResult byte text r) where
  pub cut : (x : Bor (List ℕ) × Bor (List ℕ)) → r ≡ Some x → IsCut byte text x.0.now x.1.now
  cut x is =
      let (inside, front, back) = rw is at (split_once_first byte text r split ascii) in
      let here : get_or text (position_or_len (λ b. b == byte) text) 0 ≡ byte = eqb-true _ byte (passes_at_first (λ b. b == byte) text 0 inside) in
      record {
        inside = inside;
        front_is = front;
        back_is = back;
        joined = cc (split_at_first (λ b. b == byte) text 0 inside);
        lacks = rw front (fails_below byte text _ (omega arith));
      }

  pub uncut : r ≡ None → (position_or_len (λ b. b == byte) text ≡ length text) × LacksByte byte text
  uncut is =
      let none = rw is at (split_once_first byte text r split ascii) in
      (none, λ k inside. eqb-false _ byte (fails_before_first (λ b. b == byte) text k 0 (omega arith)))

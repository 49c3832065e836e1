-- Shapes: lists of entries, the top of the stack first.
use Rattle.std.specs.Prelude.{◌≡◌, ℕ, ◌<◌, ◌≤◌, Bool, true, cond, Ok, Err, Result, List, [], ◌∷◌, drop, length, Some, None, Option}
use Rattle.std.specs.List.{slice_get, sum_by}
use Rattle.entries.specs.declared.Entry.{Entry}
use Rattle.std.specs.Cmp.{IsEquivalence, on_equiv, and_equiv, nat_eq_equiv}
use Rattle.std.specs.Cmp.Lexicographic.{pointwise, lists_equiv}
use Rattle.entries.specs.Alike.{rank_of, same_entry, is_address}
use Rattle.entries.specs.Sizes.{entry_size}
use Rattle.instruction.specs.declared.effects.Want.{Want}
use Rattle.instruction.specs.declared.effects.Want.TheVariants.{Nothing, Exactly, Address}
use Rattle.shape.specs.declared.Full.{Full}

-- the bytes that the entries take
unfoldable pub shape_size : List Entry → ℕ
shape_size σ = sum_by entry_size σ

-- whether two shapes have the same entries, which `==` tells
unfoldable pub same_shape : List Entry → List Entry → Bool
same_shape σ τ = pointwise same_entry σ τ

-- as `==` must, it holds of a shape and itself, both ways round, and along a chain
pub same_shape_equiv : IsEquivalence same_shape
unfolding same_shape
same_shape_equiv = lists_equiv (and_equiv (on_equiv (λ e. rank_of e.kind) nat_eq_equiv) (on_equiv (λ e. e.number) nat_eq_equiv))

-- whether an entry is what is wanted
abbrev pub fits : Want → Entry → Bool
fits Nothing e = true
fits (Exactly w) e = same_entry e w
fits Address e = is_address e

abbrev pub top_of : List Entry → Option Entry
top_of σ = slice_get σ 0

-- what is under the top, if that is what is wanted
abbrev pub under : Want → List Entry → Option (List Entry)
under w [] = None
under w (e ∷ σ) = cond (fits w e) (Some σ) None

-- what is left where what is wanted is taken from the top
abbrev pub taken : Want → List Entry → Option (List Entry)
taken Nothing σ = Some σ
taken (Exactly w) σ = under (Exactly w) σ
taken Address σ = under Address σ

-- what is there where an entry, if any, is left on top
abbrev pub left : Option Entry → List Entry → List Entry
left None σ = σ
left (Some e) σ = e ∷ σ

-- what the operations on a shape do: `was` before, `after` behind

abbrev pub Pushed : Result (Unit {0}) Full → Entry → List Entry → List Entry → Type 0
Pushed (Ok _) e was after = (length was < 16) × (after ≡ e ∷ was)
Pushed (Err _) e was after = (length was ≡ 16) × (after ≡ was)

abbrev pub Popped : Option Entry → List Entry → List Entry → Type 0
Popped (Some e) was after = was ≡ e ∷ after
Popped None was after = (was ≡ []) × (after ≡ [])

abbrev pub Taken : Want → List Entry → List Entry → Option (Unit {0}) → Type 0
Taken w was after (Some _) = taken w was ≡ Some after
Taken w was after None = (taken w was ≡ None) × (after ≡ drop 1 was)

abbrev pub Left : Option Entry → List Entry → List Entry → Result (Unit {0}) Full → Type 0
Left o was after (Ok _) = (left o was ≡ after) × (length (left o was) ≤ 16)
Left o was after (Err _) = (16 < length (left o was)) × (after ≡ was)

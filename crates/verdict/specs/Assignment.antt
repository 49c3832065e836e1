-- When code clears: there is a shape for every instruction that meets the rules.
use Rattle.std.specs.Prelude.{◌≡◌, ℕ, ◌<◌, ◌≤◌, true, false, List, [], length, is_some, Some, None, ◌≢◌}
use Rattle.entries.specs.declared.Entry.{Entry}
use Rattle.declarations.specs.Marks.{mark_at}
use Rattle.declarations.specs.Procedures.{Procedure}
use Rattle.package.specs.Package.{Package}
use Rattle.instruction.specs.declared.effects.Effect.{Effect}
use Rattle.instruction.specs.declared.decoding.Decoded.{Decoded}
use Rattle.instruction.specs.Decoding.{decoded}
use Rattle.instruction.specs.Effects.{callee_of, effect_of, falls, target_of}
use Rattle.shape.specs.Shapes.{left, shape_size, taken, top_of}
use Rattle.rules.specs.Starts.{Start}
use Rattle.rules.specs.Asking.{globals_size, mark_shape, opens_at, procedure_at}
use Rattle.rules.specs.Places.{is_opening, opens_as}
use Rattle.rules.specs.Needs.{under_upper}
use Rattle.rules.specs.Regions.{strays}

abbrev pub effect_in : Decoded → Effect
effect_in d = effect_of d.instruction

-- Where procedures open and where marks stand.
pub record Placed (k : Package) : Type 0 where
  -- where a procedure opens, its own opening starts, without a mark
  pub opened : (x : ℕ) → x < length k.code → opens_at k x ≡ true
      → Start k.code x × (mark_at k.marks x ≡ None)
      × (d : Decoded) × (decoded k.code x ≡ Some d) × (opens_as x (procedure_at k x).locals (effect_in d).flow ≡ true)
  -- elsewhere none starts
  pub elsewhere : (x : ℕ) (d : Decoded) → Start k.code x → decoded k.code x ≡ Some d → opens_at k x ≡ false → is_opening (effect_in d).flow ≡ false
  -- where a mark is, an instruction starts
  pub marks : (x : ℕ) → x < length k.code → is_some (mark_at k.marks x) ≡ true → Start k.code x

-- Control comes to x from p with a shape: an instruction of p starts there, does not open it, and has that shape before it.
pub record Arrives (k : Package) (shape : ℕ → List Entry) (p : Procedure) (σ : List Entry) (x : ℕ) : Type 0 where
  pub start : Start k.code x
  pub inside : x < length k.code
  pub same_procedure : (procedure_at k x).offset ≡ p.offset
  pub later : opens_at k x ≡ false
  pub shape_is : shape x ≡ σ

-- An instruction falls through into x.
pub record FallsTo (k : Package) (x : ℕ) : Type 0 where
  pub from : ℕ
  pub instruction : Decoded
  pub start : Start k.code from
  pub decodes : decoded k.code from ≡ Some instruction
  pub next : instruction.next ≡ x
  pub goes_on : falls (effect_in instruction).flow ≡ true

-- The instruction d at x meets the rules, given the shape before each instruction.
pub record Meets (k : Package) (shape : ℕ → List Entry) (x : ℕ) (d : Decoded) : Type 0 where
  -- a mark tells the shape, an opening finds the empty one, and what has neither is fallen into
  pub marked : (σ : List Entry) → mark_shape k x ≡ Some σ → shape x ≡ σ
  pub opening : opens_at k x ≡ true → shape x ≡ []
  pub reached : opens_at k x ≡ false → mark_shape k x ≡ None → FallsTo k x
  -- what is needed is there, the upper part and the lower; the rest is what is there without it
  pub under : List Entry
  pub rest : List Entry
  pub upper : under_upper k d.next (effect_in d).upper (effect_in d).flow (shape x) ≡ Some under
  pub lower : taken (effect_in d).lower under ≡ Some rest
  -- regions, and what may be left and removed
  pub regions : strays (globals_size k) (procedure_at k x) (effect_in d) (top_of under) ≡ false
  -- limits on what is left
  pub few : length (left (effect_in d).leaves rest) ≤ 16
  pub fitting : shape_size (left (effect_in d).leaves rest) ≤ (procedure_at k x).depth
  -- where control goes
  pub falls_on : falls (effect_in d).flow ≡ true → Arrives k shape (procedure_at k x) (left (effect_in d).leaves rest) d.next
  pub branches : (t : ℕ) → target_of d.next (effect_in d).flow ≡ Some t
      → (is_some (mark_shape k t) ≡ true) × Arrives k shape (procedure_at k x) (left (effect_in d).leaves rest) t
  pub calls : (t : ℕ) → callee_of d.next (effect_in d).flow ≡ Some t → (opens_at k t ≡ true) × (t ≢ 0)

-- The rules hold, with such a shape before each instruction.
pub record Clears (k : Package) (shape : ℕ → List Entry) : Type 0 where
  pub decodes : (x : ℕ) → Start k.code x → x < length k.code → (d : Decoded) × (decoded k.code x ≡ Some d)
  pub places : Placed k
  pub meets : (x : ℕ) (d : Decoded) → Start k.code x → decoded k.code x ≡ Some d → Meets k shape x d

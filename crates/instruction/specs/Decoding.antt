-- The instruction at an offset of the code.
use Rattle.std.specs.Prelude.{ℕ, ◌+◌, ◌*◌, ◌<◌, ◌≤◌, cond, List, length, drop, Some, None, Option, option_and_then, nat_le, nat_lt, slice_index}
use Rattle.entries.specs.declared.Kind.{Kind}
use Rattle.entries.specs.Kinds.{sized_kind}
use Rattle.entries.specs.Sizes.{size_of}
use Rattle.instruction.specs.declared.decoding.Decoded.{Decoded}
use Rattle.instruction.specs.declared.operations.Instruction.{Instruction}
use Rattle.instruction.specs.Form.{Form}
use Rattle.instruction.specs.Form as form
use Rattle.instruction.specs.Table.{Line, line_of}

-- the four-byte number at the front of some bytes, high byte first
unfoldable pub word_of : List ℕ → ℕ
word_of xs = slice_index xs 0 * 16777216 + slice_index xs 1 * 65536 + slice_index xs 2 * 256 + slice_index xs 3

-- the number of one byte, of two and of four at the front of some bytes; none where they are fewer
abbrev pub first_byte : List ℕ → Option ℕ
first_byte xs = cond (nat_lt (length xs) 1) None (Some (slice_index xs 0))

abbrev pub first_unit : List ℕ → Option ℕ
first_unit xs = cond (nat_lt (length xs) 2) None (Some (slice_index xs 0 * 256 + slice_index xs 1))

abbrev pub first_word : List ℕ → Option ℕ
first_word xs = cond (nat_lt (length xs) 4) None (Some (word_of xs))

-- the same word as the size of a kind, as a count of at most 32, and as a count whose units stand behind it
abbrev pub first_kind : List ℕ → Option Kind
first_kind xs = option_and_then sized_kind (first_word xs)

abbrev pub small_count : ℕ → Option ℕ
small_count w = cond (nat_le w 32) (Some w) None

abbrev pub first_count : List ℕ → Option ℕ
first_count xs = option_and_then small_count (first_word xs)

abbrev pub with_units : List ℕ → ℕ → Option ℕ
with_units xs n = cond (nat_lt (length xs) (4 + 2 * n)) None (Some n)

abbrev pub first_text : List ℕ → Option ℕ
first_text xs = option_and_then (with_units xs) (first_count xs)

abbrev pub found : Instruction → ℕ → Option Decoded
found i next = Some (record { instruction = i; next = next })

-- an instruction that was read up to an offset
abbrev pub read_to : ℕ → Option Instruction → Option Decoded
read_to next i = option_and_then (λ i. found i next) i

-- the instruction of a form, at an offset, with what stands behind its opcode; none where its operand is cut or out of
-- its range
abbrev pub operand_of : Form → (ℕ → Instruction) → ℕ → List ℕ → Option Decoded
operand_of form.Bare make at behind = found (make 0) (at + 1)
operand_of form.Byte make at behind = option_and_then (λ b. found (make b) (at + 2)) (first_byte behind)
operand_of form.Unit make at behind = option_and_then (λ u. found (make u) (at + 3)) (first_unit behind)
operand_of form.Word make at behind = option_and_then (λ w. found (make w) (at + 5)) (first_word behind)
operand_of form.Size make at behind = option_and_then (λ k. found (make (size_of k)) (at + 5)) (first_kind behind)
operand_of form.Count make at behind = option_and_then (λ n. found (make n) (at + 5)) (first_count behind)
operand_of form.Units make at behind = option_and_then (λ n. found (make n) (at + 5 + 2 * n)) (first_text behind)

abbrev pub line_at : Option Line → ℕ → List ℕ → Option Decoded
line_at None at behind = None
line_at (Some l) at behind = operand_of l.form l.make at behind

abbrev pub decoded_open : List ℕ → ℕ → Option Decoded
decoded_open code at = cond (nat_lt at (length code)) (line_at (line_of (slice_index code at)) at (drop (at + 1) code)) None

-- the instruction at an offset: none where the opcode is not listed, or its operand is cut or out of range
unfoldable pub decoded : List ℕ → ℕ → Option Decoded
decoded code at = decoded_open code at

-- an instruction ends behind its first byte, and in the code
abbrev pub Within : List ℕ → ℕ → Option Decoded → Type 0
Within code at None = Unit {0}
Within code at (Some d) = (at < d.next) × (d.next ≤ length code)

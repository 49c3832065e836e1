-- The instruction table: a row for each opcode.
use Rattle.std.specs.Prelude.{ℕ, ◌%◌, List, [], ◌∷◌, Option, unwrap_or, ◌==◌}
use Rattle.std.specs.List.{find}
use Rattle.entries.specs.Kinds.{sized_kind}
use Rattle.entries.specs.declared.Kind.{Kind}
use Rattle.entries.specs.declared.Kind.TheVariants as kind
use Rattle.instruction.specs.declared.operations.Compare.TheVariants as compare
use Rattle.instruction.specs.declared.operations.Branch.TheVariants as branch
use Rattle.instruction.specs.declared.operations.Binary.TheVariants as binary
use Rattle.instruction.specs.declared.operations.Unary.TheVariants as unary
use Rattle.instruction.specs.declared.operations.Return.TheVariants as back
use Rattle.instruction.specs.declared.operations.Opening.TheVariants as opening
use Rattle.instruction.specs.declared.operations.Operation.{Operation}
use Rattle.instruction.specs.declared.operations.Operation.TheVariants as op
use Rattle.instruction.specs.declared.operations.Instruction.{Instruction}
use Rattle.instruction.specs.declared.operations.Instruction.TheVariants as instruction
use Rattle.instruction.specs.Form.{Form}
use Rattle.instruction.specs.Form as form

-- the kind with a size
abbrev pub kind_sized : ℕ → Kind
kind_sized n = unwrap_or (sized_kind n) kind.Int

abbrev pub does : Operation → Instruction
does o = instruction.Operation o

pub record Line : Type 0 where
  pub opcode : ℕ
  pub form : Form
  pub make : ℕ → Instruction

abbrev line : ℕ → Form → (ℕ → Instruction) → Line
line n f m = record { opcode = n; form = f; make = m }

-- opcode, what stands behind it, and the instruction that its operand makes of it
abbrev pub table : List Line
table =
    line 0 form.Bare (λ _. does op.Halt)
    ∷ line 10 form.Bare (λ _. does (op.Load kind.Byte))
    ∷ line 11 form.Bare (λ _. does (op.Load kind.Char))
    ∷ line 12 form.Bare (λ _. does (op.Load kind.Int))
    ∷ line 20 form.Byte (λ b. does (op.Constant kind.Byte b))
    ∷ line 21 form.Bare (λ _. does (op.Constant kind.Byte 0))
    ∷ line 22 form.Bare (λ _. does (op.Constant kind.Byte 1))
    ∷ line 23 form.Unit (λ c. does (op.Constant kind.Char c))
    ∷ line 24 form.Word (λ i. does (op.Constant kind.Int i))
    ∷ line 25 form.Bare (λ _. does (op.Constant kind.Int 0))
    ∷ line 26 form.Bare (λ _. does (op.Constant kind.Int 1))
    ∷ line 27 form.Units (λ n. does (op.Text n))
    ∷ line 28 form.Word (λ k. does (op.LocalAddress k))
    ∷ line 29 form.Word (λ k. does (op.GlobalAddress k))
    ∷ line 31 form.Bare (λ _. does (op.Store kind.Byte))
    ∷ line 32 form.Bare (λ _. does (op.Store kind.Char))
    ∷ line 33 form.Bare (λ _. does (op.Store kind.Int))
    ∷ line 40 form.Size (λ n. does (op.Allocate (kind_sized n)))
    ∷ line 42 form.Bare (λ _. does op.Not)
    ∷ line 44 form.Byte (λ b. does (op.Unary (unary.ShiftLeft (b % 32))))
    ∷ line 45 form.Byte (λ b. does (op.Unary (unary.ShiftRight (b % 32))))
    ∷ line 50 form.Word (λ d. does (op.Branch branch.Always d))
    ∷ line 51 form.Word (λ d. does (op.Branch (branch.When compare.Equal) d))
    ∷ line 52 form.Word (λ d. does (op.Branch (branch.When compare.NotEqual) d))
    ∷ line 53 form.Word (λ d. does (op.Branch (branch.When compare.Greater) d))
    ∷ line 54 form.Word (λ d. does (op.Branch (branch.When compare.GreaterOrEqual) d))
    ∷ line 55 form.Word (λ d. does (op.Branch (branch.When compare.Less) d))
    ∷ line 56 form.Word (λ d. does (op.Branch (branch.When compare.LessOrEqual) d))
    ∷ line 57 form.Word (λ d. does (op.Branch branch.Zero d))
    ∷ line 58 form.Word (λ d. does (op.Branch branch.NotZero d))
    ∷ line 70 form.Bare (λ _. does (op.Binary binary.Add))
    ∷ line 71 form.Bare (λ _. does (op.Binary binary.Subtract))
    ∷ line 72 form.Bare (λ _. does (op.Binary binary.Multiply))
    ∷ line 73 form.Bare (λ _. does (op.Binary binary.Divide))
    ∷ line 74 form.Bare (λ _. does (op.Binary binary.Remainder))
    ∷ line 75 form.Bare (λ _. does (op.Unary unary.Negate))
    ∷ line 76 form.Bare (λ _. does (op.Unary unary.Increment))
    ∷ line 77 form.Bare (λ _. does (op.Unary unary.Decrement))
    ∷ line 80 form.Bare (λ _. does op.ReadChar)
    ∷ line 81 form.Bare (λ _. does op.ReadInt)
    ∷ line 83 form.Bare (λ _. does op.WriteByte)
    ∷ line 84 form.Bare (λ _. does op.WriteChar)
    ∷ line 85 form.Bare (λ _. does op.WriteInt)
    ∷ line 86 form.Bare (λ _. does op.WriteLine)
    ∷ line 87 form.Count (λ n. does (op.WriteText n))
    ∷ line 90 form.Word (λ n. instruction.Open opening.Program n)
    ∷ line 91 form.Word (λ n. instruction.Open opening.Procedure n)
    ∷ line 92 form.Word (λ d. instruction.Call d)
    ∷ line 93 form.Word (λ n. instruction.Return (back.Bytes n))
    ∷ line 94 form.Bare (λ _. instruction.Return back.Zero)
    ∷ line 95 form.Bare (λ _. instruction.Return back.Four)
    ∷ []

-- the line of an opcode; none where it is not listed
abbrev pub line_in : List Line → ℕ → Option Line
line_in ls o = find (λ l. o == l.opcode) ls

abbrev pub line_of : ℕ → Option Line
line_of o = line_in table o

-- What each instruction does to a shape, how many bytes it touches, and where control goes.
use Rattle.std.specs.Prelude.{ℕ, ◌+◌, ◌%◌, Bool, true, false, Some, None, Option}
use Rattle.entries.specs.declared.Kind.{Kind}
use Rattle.entries.specs.declared.Kind.TheVariants as kind
use Rattle.entries.specs.declared.EntryKind.TheVariants as entry
use Rattle.entries.specs.declared.Entry.{Entry}
use Rattle.entries.specs.Kinds.{plain_entry}
use Rattle.entries.specs.Sizes.{size_of}
use Rattle.instruction.specs.declared.effects.Want.{Want}
use Rattle.instruction.specs.declared.effects.Want.TheVariants.{Nothing, Exactly, Address}
use Rattle.instruction.specs.declared.effects.Flow.{Flow}
use Rattle.instruction.specs.declared.effects.Flow.TheVariants as flow
use Rattle.instruction.specs.declared.effects.Effect.{Effect}
use Rattle.instruction.specs.declared.operations.Branch.TheVariants as branch
use Rattle.instruction.specs.declared.operations.Binary.TheVariants as binary
use Rattle.instruction.specs.declared.operations.Return.{Return}
use Rattle.instruction.specs.declared.operations.Return.TheVariants as back
use Rattle.instruction.specs.declared.operations.Operation.{Operation}
use Rattle.instruction.specs.declared.operations.Operation.TheVariants as op
use Rattle.instruction.specs.declared.operations.Instruction.{Instruction}
use Rattle.instruction.specs.declared.operations.Instruction.TheVariants as instruction

abbrev pub text_entry : ℕ → Entry
text_entry n = record { kind = entry.Text; number = n }

abbrev pub local_entry : ℕ → Entry
local_entry k = record { kind = entry.Local; number = k }

abbrev pub global_entry : ℕ → Entry
global_entry k = record { kind = entry.Global; number = k }

abbrev byte : Want
byte = Exactly (plain_entry kind.Byte)

abbrev char : Want
char = Exactly (plain_entry kind.Char)

abbrev int : Want
int = Exactly (plain_entry kind.Int)

-- takes and leaves, and touches nothing
abbrev pub acts : Want → Want → Option Entry → Flow → Effect
acts upper lower leaves f = record { upper = upper; lower = lower; leaves = leaves; touches = 0; flow = f }

-- touches a value of a kind through an address
abbrev pub reaches : Want → Option Entry → Kind → Effect
reaches upper leaves k = record { upper = upper; lower = Address; leaves = leaves; touches = size_of k; flow = flow.Next }

-- the bytes of parameters that a return removes
abbrev pub bytes_of : Return → ℕ
bytes_of (back.Bytes n) = n
bytes_of back.Zero = 0
bytes_of back.Four = 4

abbrev pub operation_effect : Operation → Effect
operation_effect op.Halt = acts Nothing Nothing None flow.Halt
operation_effect (op.Load k) = reaches Nothing (Some (plain_entry k)) k
operation_effect (op.Store k) = reaches (Exactly (plain_entry k)) None k
operation_effect (op.Constant k v) = acts Nothing Nothing (Some (plain_entry k)) flow.Next
operation_effect (op.Text n) = acts Nothing Nothing (Some (text_entry n)) flow.Next
operation_effect (op.LocalAddress k) = acts Nothing Nothing (Some (local_entry k)) flow.Next
operation_effect (op.GlobalAddress k) = acts Nothing Nothing (Some (global_entry k)) flow.Next
operation_effect (op.Allocate k) = acts Nothing Nothing (Some (plain_entry k)) flow.Next
operation_effect op.Not = acts Nothing byte (Some (plain_entry kind.Byte)) flow.Next
operation_effect (op.Unary u) = acts Nothing int (Some (plain_entry kind.Int)) flow.Next
operation_effect (op.Binary binary.Add) = acts int Address (Some (plain_entry kind.Int)) flow.Next
operation_effect (op.Binary binary.Subtract) = acts int int (Some (plain_entry kind.Int)) flow.Next
operation_effect (op.Binary binary.Multiply) = acts int int (Some (plain_entry kind.Int)) flow.Next
operation_effect (op.Binary binary.Divide) = acts int int (Some (plain_entry kind.Int)) flow.Next
operation_effect (op.Binary binary.Remainder) = acts int int (Some (plain_entry kind.Int)) flow.Next
operation_effect (op.Branch branch.Always d) = acts Nothing Nothing None (flow.Jump d)
operation_effect (op.Branch (branch.When c) d) = acts int int None (flow.Fork d)
operation_effect (op.Branch branch.Zero d) = acts Nothing byte None (flow.Fork d)
operation_effect (op.Branch branch.NotZero d) = acts Nothing byte None (flow.Fork d)
operation_effect op.ReadChar = reaches Nothing None kind.Char
operation_effect op.ReadInt = reaches Nothing None kind.Int
operation_effect op.WriteByte = acts Nothing byte None flow.Next
operation_effect op.WriteChar = acts Nothing char None flow.Next
operation_effect op.WriteInt = acts Nothing int None flow.Next
operation_effect op.WriteLine = acts Nothing Nothing None flow.Next
operation_effect (op.WriteText n) = acts Nothing (Exactly (text_entry n)) None flow.Next

abbrev pub effect_of : Instruction → Effect
effect_of (instruction.Operation o) = operation_effect o
effect_of (instruction.Open o n) = acts Nothing Nothing None (flow.Open o n)
effect_of (instruction.Call d) = acts Nothing Nothing None (flow.Call d)
effect_of (instruction.Return r) = acts Nothing Nothing None (flow.Return (bytes_of r))

-- an offset and a distance from it, added in 32 bits
abbrev pub displaced_by : ℕ → ℕ → ℕ
displaced_by next d = (next + d) % 4294967296

-- whether control can go on to the next instruction
abbrev pub falls : Flow → Bool
falls flow.Next = true
falls flow.Halt = false
falls (flow.Jump d) = false
falls (flow.Fork d) = true
falls (flow.Call d) = true
falls (flow.Return n) = false
falls (flow.Open o n) = true

-- where a branch leads
abbrev pub target_of : ℕ → Flow → Option ℕ
target_of next flow.Next = None
target_of next flow.Halt = None
target_of next (flow.Jump d) = Some (displaced_by next d)
target_of next (flow.Fork d) = Some (displaced_by next d)
target_of next (flow.Call d) = None
target_of next (flow.Return n) = None
target_of next (flow.Open o n) = None

-- where a call leads
abbrev pub callee_of : ℕ → Flow → Option ℕ
callee_of next flow.Next = None
callee_of next flow.Halt = None
callee_of next (flow.Jump d) = None
callee_of next (flow.Fork d) = None
callee_of next (flow.Call d) = Some (displaced_by next d)
callee_of next (flow.Return n) = None
callee_of next (flow.Open o n) = None

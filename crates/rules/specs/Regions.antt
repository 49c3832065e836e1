-- The region rule, and what may be left and removed.
use Rattle.std.specs.Prelude.{ℕ, ◌+◌, Bool, true, false, not, ◌&&◌, ◌||◌, Some, None, Option, ◌==◌, nat_le, nat_lt}
use Rattle.entries.specs.declared.EntryKind.{EntryKind}
use Rattle.entries.specs.declared.EntryKind.TheVariants as entry
use Rattle.entries.specs.declared.Entry.{Entry}
use Rattle.declarations.specs.Kinds.{result_byte}
use Rattle.declarations.specs.Procedures.{Procedure, parameters_size}
use Rattle.instruction.specs.declared.effects.Flow.{Flow}
use Rattle.instruction.specs.declared.effects.Flow.TheVariants as flow
use Rattle.instruction.specs.declared.effects.Effect.{Effect}
use Rattle.rules.specs.Asking.{is_program}

-- Whether w bytes may be touched from local k on: all among parameters and result, −(P + R) ≤ k and k + w ≤ 0, or all
-- among the variables, 8 ≤ k and k + w ≤ 8 + locals. Below 0, k is held as k + 2^32.
abbrev pub local_reaches : Procedure → ℕ → ℕ → Bool
local_reaches p w k =
    (nat_le 4294967296 (k + parameters_size p.parameters + result_byte p.result) && nat_le (k + w) 4294967296)
    || (nat_le 8 k && nat_le (k + w) (8 + p.locals))

-- Whether w bytes may be touched through an entry in a procedure, with v bytes of globals. What an int points to is
-- known only when it is used.
abbrev pub kind_reaches : EntryKind → ℕ → Procedure → ℕ → ℕ → Bool
kind_reaches entry.Byte v p w n = true
kind_reaches entry.Char v p w n = true
kind_reaches entry.Int v p w n = true
kind_reaches entry.Local v p w n = local_reaches p w n
kind_reaches entry.Global v p w n = nat_le (n + w) v
kind_reaches entry.Text v p w n = true

abbrev pub entry_reaches : ℕ → Procedure → ℕ → Entry → Bool
entry_reaches v p w e = kind_reaches e.kind v p w e.number

abbrev pub top_reaches : ℕ → Procedure → ℕ → Option Entry → Bool
top_reaches v p w None = true
top_reaches v p w (Some e) = entry_reaches v p w e

-- an address that is left must point into its region, and a local's not stand in the program
abbrev pub is_local : EntryKind → Bool
is_local entry.Byte = false
is_local entry.Char = false
is_local entry.Int = false
is_local entry.Local = true
is_local entry.Global = false
is_local entry.Text = false

abbrev pub leaves_stray : ℕ → Procedure → Option Entry → Bool
leaves_stray v p None = false
leaves_stray v p (Some e) = (is_local e.kind && is_program p) || not (entry_reaches v p 1 e)

-- a return must not stand in the program, and must remove the parameters
abbrev pub wrong_return : Procedure → Flow → Bool
wrong_return p flow.Next = false
wrong_return p flow.Halt = false
wrong_return p (flow.Jump d) = false
wrong_return p (flow.Fork d) = false
wrong_return p (flow.Call d) = false
wrong_return p (flow.Return n) = is_program p || not (n == parameters_size p.parameters)
wrong_return p (flow.Open o n) = false

-- of an instruction that finds an entry, if any, where it takes the address that it touches through
abbrev pub strays : ℕ → Procedure → Effect → Option Entry → Bool
strays v p e o = (nat_lt 0 e.touches && not (top_reaches v p e.touches o)) || (leaves_stray v p e.leaves || wrong_return p e.flow)

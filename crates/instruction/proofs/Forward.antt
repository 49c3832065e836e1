-- An instruction ends behind its first byte, and in the code.
use Rattle.std.proofs.Common.{◌≡◌, ℕ, ◌+◌, ◌<◌, ◌≤◌, List, length, drop, Some, Option, subst, arith}
use Rattle.std.proofs.lemmas.Grind.{common_steps}
use Rattle.instruction.specs.declared.decoding.Decoded.{Decoded}
use Rattle.instruction.specs.Table.{Line}
use Rattle.instruction.specs.Decoding.{line_at, decoded, Within}

line-within : (code : List ℕ) (at : ℕ) (behind : List ℕ) → at + 1 + length behind ≡ length code → (l : Option Line) → Within code at (line_at l at behind)
line-within code at behind fits l = grind (arith, common_steps)

pub within : (code : List ℕ) (at : ℕ) → Within code at (decoded code at)
unfolding decoded
within code at = grind (arith, common_steps, line-within code at (drop (at + 1) code))

pub forward : (code : List ℕ) (at : ℕ) (d : Decoded) → decoded code at ≡ Some d → (at < d.next) × (d.next ≤ length code)
forward code at d e = subst (Within code at) e (within code at)

-- Where instructions start.
use Rattle.std.specs.Prelude.{◌≡◌, ℕ, zero, suc, Bool, cond, List, Some, None, Option, ◌==◌}
use Rattle.instruction.specs.declared.decoding.Decoded.{Decoded}
use Rattle.instruction.specs.Decoding.{decoded}

-- Starts are 0 and each offset behind a start's instruction.
pub data Start (code : List ℕ) : ℕ → Type 0 where
  first : Start code 0
  next : {x : ℕ} (d : Decoded) → Start code x → decoded code x ≡ Some d → Start code d.next

-- the offset behind the instruction at x, or x where none decodes there
abbrev pub behind : ℕ → Option Decoded → ℕ
behind x None = x
behind x (Some d) = d.next

-- the first start at x or behind it; where the instruction at a lower start does not decode, that start
unfoldable pub start_from : List ℕ → ℕ → ℕ
start_from code zero = 0
start_from code (suc x) = cond (start_from code x == x) (behind x (decoded code x)) (start_from code x)

-- whether an instruction starts at x
abbrev pub is_start : List ℕ → ℕ → Bool
is_start code x = start_from code x == x

-- a value that goes from start to start: z at the first, and made anew by f at each
unfoldable pub carried : {A : Type 0} → List ℕ → A → (ℕ → A → A) → ℕ → A
carried code z f zero = z
carried code z f (suc x) = cond (is_start code x) (f x (carried code z f x)) (carried code z f x)

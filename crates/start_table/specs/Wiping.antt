-- Zeroed bytes.
use Rattle.std.specs.Prelude.{ℕ, List, ◌++◌, drop, replicate}

-- the first c bytes zeroed
unfoldable pub wiped : ℕ → List ℕ → List ℕ
wiped c xs = replicate c 0 ++ drop c xs

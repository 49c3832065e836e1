-- Parameters and results take few bytes.
use Rattle.std.proofs.Common.{ℕ, zero, suc, ◌*◌, ◌≤◌, List, [], ◌∷◌, map, take, Some, None, Option, arith}
use Rattle.std.specs.Prelude.{sum_by}
use Rattle.std.proofs.lemmas.List.Sums.{sum_by-cons}
use Rattle.entries.specs.declared.Kind.{Kind}
use Rattle.entries.specs.Sizes.{size_of}
use Rattle.declarations.proofs.Bodies.{size-le}
use Rattle.declarations.specs.Kinds.{kind_of, result_byte}

pub result-small : (o : Option Kind) → result_byte o ≤ 4
result-small None = omega arith
result-small (Some k) = size-le k

pub parameters-small : (n : ℕ) (xs : List ℕ) → sum_by size_of (map kind_of (take n xs)) ≤ 4 * n
parameters-small zero [] = omega arith
parameters-small zero (x ∷ xs) = omega arith
parameters-small (suc n) [] = omega arith
parameters-small (suc n) (x ∷ xs) = let a = size-le (kind_of x) in let b = parameters-small n xs in let e = sum_by-cons size_of (kind_of x) (map kind_of (take n xs)) in omega arith

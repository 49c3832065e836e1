-- The bytes that words spell, with one word more.
use Rattle.std.proofs.Common.{◌≡◌, ℕ, List, [], ◌∷◌, ◌++◌, Option, Some, None, refl, sym, ap, append_assoc, append-nil}
use Rattle.std.specs.Borrow.{Bor}
use Rattle.case_table.specs.Spelling.{◌>>=◌, bytes_of_group, behind}
use Rattle.case_table.specs.Words.{bytes_of_words}

alone : (spelled : Option (List ℕ)) → (spelled >>= λ first. Some [] >>= λ others. Some (first ++ others)) ≡ behind [] spelled
alone (Some first) = ap Some (append-nil first)
alone None = refl

between : (first others last : Option (List ℕ)) → (first >>= λ a. (others >>= λ b. behind b last) >>= λ more. Some (a ++ more)) ≡ ((first >>= λ a. others >>= λ b. Some (a ++ b)) >>= λ bytes. behind bytes last)
between (Some a) (Some b) (Some c) = ap Some (sym (append_assoc a b c))
between (Some a) (Some b) None = refl
between (Some a) None last = refl
between None others last = refl

-- the bytes of a word more stand behind the others
pub bytes_of_words-push : (words : List (Bor (List ℕ))) (word : Bor (List ℕ)) → bytes_of_words (words ++ word ∷ []) ≡ (bytes_of_words words >>= λ bytes. behind bytes (bytes_of_group word.now))
bytes_of_words-push [] word = alone (bytes_of_group word.now)
bytes_of_words-push (first ∷ words) word = rw (bytes_of_words-push words word) (between (bytes_of_group first.now) (bytes_of_words words) (bytes_of_group word.now))

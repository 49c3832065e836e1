-- What is encoded is decoded again, and what is decoded from good bytes is encoded in the same.
use Rattle.std.proofs.Common.{◌≡◌, ℕ, ◌+◌, ◌-◌, ◌*◌, ◌%◌, ◌<◌, ◌≤◌, Bool, true, false, cond, ◌||◌, eqb, leb, ◌⊎◌, List, [], ◌∷◌, ◌++◌, map, length, get_or, take, drop, is_some, Some, None, Option, sym, refl, ap, ◌∙◌, subst, inl, inr, arith}
use Rattle.std.specs.List.{flat_map, AllByRecursion}
use Rattle.std.proofs.lemmas.List.{take_all, length-map}
use Rattle.std.proofs.lemmas.Bool.{cond-true, cond-false, eq-eqb, eqb-true, le-leb, true≢false, or_cases, cases_Bool, leb-true, cases_lt, lt-ltb, le-ltb}
use Rattle.entries.specs.declared.Kind.{Kind}
use Rattle.entries.specs.declared.Kind.TheVariants as kind
use Rattle.entries.specs.declared.EntryKind.{EntryKind}
use Rattle.entries.specs.declared.EntryKind.TheVariants as entry
use Rattle.entries.specs.declared.Entry.{Entry}
use Rattle.fields.specs.Bytes.{two, two_bytes}
use Rattle.entries.specs.Sizes.{size_of}
use Rattle.declarations.specs.Kinds.{is_kind, kind_of, result_byte, is_result, result_of, are_kinds}
use Rattle.declarations.specs.Entries.{entry_bytes, entry_kind_byte, GoodNumber, GoodEntry, is_entry, sign_extended, entry_of, are_entries}
use Rattle.declarations.specs.Procedures.{Procedure, procedure_of}
use Rattle.declarations.specs.Marks.{Mark, mark_of, entries_of}
use Rattle.fields.proofs.Whole.{Bytes, two_back, two-there}
use Rattle.package.specs.Format.{procedure_body, mark_body}

-- kinds

-- a byte that names a kind is 1, 2 or 4
by_kind : (P : ℕ → Type 0) → P 1 → P 2 → P 4 → (b : ℕ) → is_kind b ≡ true → P b
by_kind P one two four b e = go (eqb b 1) (eqb b 2) (eqb b 4) refl refl refl e
  where
    at : (n : ℕ) → P n → eqb b n ≡ true → P b
    at n p t = subst P (sym (eqb-true b n t)) p

    go : (t u v : Bool) → eqb b 1 ≡ t → eqb b 2 ≡ u → eqb b 4 ≡ v → is_some (cond t (Some kind.Byte) (cond u (Some kind.Char) (cond v (Some kind.Int) None))) ≡ true → P b
    go true u v et eu ev s = at 1 one et
    go false true v et eu ev s = at 2 two eu
    go false false true et eu ev s = at 4 four ev
    go false false false et eu ev s = absurd (true≢false (sym s))

pub kind-back : (b : ℕ) → is_kind b ≡ true → size_of (kind_of b) ≡ b
kind-back = by_kind (λ b. size_of (kind_of b) ≡ b) refl refl refl

pub kind-there : (k : Kind) → kind_of (size_of k) ≡ k
kind-there kind.Byte = refl
kind-there kind.Char = refl
kind-there kind.Int = refl

pub kind-is : (k : Kind) → is_kind (size_of k) ≡ true
kind-is kind.Byte = refl
kind-is kind.Char = refl
kind-is kind.Int = refl

both : (t u : Bool) → cond t u false ≡ true → (t ≡ true) × (u ≡ true)
both true u e = (refl, e)
both false u e = absurd (true≢false (sym e))

kinds-parts : (b : ℕ) (bs : List ℕ) → are_kinds (b ∷ bs) ≡ true → (is_kind b ≡ true) × (are_kinds bs ≡ true)
unfolding are_kinds
kinds-parts b bs e = both (is_kind b) (are_kinds bs) e

pub kinds-back : (bs : List ℕ) → are_kinds bs ≡ true → map size_of (map kind_of bs) ≡ bs
kinds-back [] e = refl
kinds-back (b ∷ bs) e =
    let p = kinds-parts b bs e in
    let h = kind-back b p.0 in
    let r = kinds-back bs p.1 in
    cc

pub kinds-there : (ks : List Kind) → map kind_of (map size_of ks) ≡ ks
kinds-there [] = refl
kinds-there (k ∷ ks) = let h = kind-there k in let r = kinds-there ks in cc

pub kinds-are : (ks : List Kind) → are_kinds (map size_of ks) ≡ true
unfolding are_kinds
kinds-are [] = refl
kinds-are (k ∷ ks) = cond-true _ _ _ (kind-is k) ∙ kinds-are ks

pub result-back : (b : ℕ) → is_result b ≡ true → result_byte (result_of b) ≡ b
result-back b e = go (or_cases (eqb b 0) (is_kind b) e)
  where
    go : (eqb b 0 ≡ true) ⊎ (is_kind b ≡ true) → result_byte (result_of b) ≡ b
    go (inl t) = subst (λ (n : ℕ). result_byte (result_of n) ≡ n) (sym (eqb-true b 0 t)) refl
    go (inr t) = by_kind (λ n. result_byte (result_of n) ≡ n) refl refl refl b t

pub result-there : (r : Option Kind) → result_of (result_byte r) ≡ r
result-there None = refl
result-there (Some kind.Byte) = refl
result-there (Some kind.Char) = refl
result-there (Some kind.Int) = refl

pub result-is : (r : Option Kind) → is_result (result_byte r) ≡ true
result-is None = refl
result-is (Some kind.Byte) = refl
result-is (Some kind.Char) = refl
result-is (Some kind.Int) = refl

-- entries

-- what makes up an entry: a plain kind with 0, a local or a global with any number, a text with at most 32
by-entry : (P : ℕ → ℕ → Type 0) → P 1 0 → P 2 0 → P 4 0 → ((n : ℕ) → P 5 n) → ((n : ℕ) → P 6 n) → ((n : ℕ) → n ≤ 32 → P 7 n) → (b n : ℕ) → is_entry b n ≡ true → P b n
by-entry P byte char int local global text b n e = go (cases_Bool (is_kind b))
  where
    plain : is_kind b ≡ true → P b n
    plain k =
        let z : n ≡ 0 = eqb-true n 0 (sym (cond-true (is_kind b) _ _ k) ∙ e) in
        subst (λ (m : ℕ). P b m) (sym z) (by_kind (λ m. P m 0) byte char int b k)

    rest : is_kind b ≡ false → cond (eqb b 5 || eqb b 6) true (cond (eqb b 7) (leb n 32) false) ≡ true
    rest k = sym (cond-false (is_kind b) _ _ k) ∙ e

    address : (eqb b 5 ≡ true) ⊎ (eqb b 6 ≡ true) → P b n
    address (inl t) = subst (λ (m : ℕ). P m n) (sym (eqb-true b 5 t)) (local n)
    address (inr t) = subst (λ (m : ℕ). P m n) (sym (eqb-true b 6 t)) (global n)

    lastly : cond (eqb b 7) (leb n 32) false ≡ true → P b n
    lastly r =
        let p = both (eqb b 7) (leb n 32) r in
        subst (λ (m : ℕ). P m n) (sym (eqb-true b 7 p.0)) (text n (leb-true n 32 p.1))

    other : cond (eqb b 5 || eqb b 6) true (cond (eqb b 7) (leb n 32) false) ≡ true → (eqb b 5 || eqb b 6 ≡ true) ⊎ (eqb b 5 || eqb b 6 ≡ false) → P b n
    other r (inl t) = address (or_cases (eqb b 5) (eqb b 6) t)
    other r (inr t) = lastly (sym (cond-false (eqb b 5 || eqb b 6) _ _ t) ∙ r)

    go : (is_kind b ≡ true) ⊎ (is_kind b ≡ false) → P b n
    go (inl k) = plain k
    go (inr k) = other (rest k) (cases_Bool (eqb b 5 || eqb b 6))

low : (n : ℕ) → n < 65536 → n % 65536 ≡ n
low n s = omega arith

low-extended : (n : ℕ) → n < 65536 → sign_extended n % 65536 ≡ n
low-extended n s = go (cases_lt n 32768)
  where
    go : (n < 32768) ⊎ (32768 ≤ n) → sign_extended n % 65536 ≡ n
    go (inl l) = ap (λ (m : ℕ). m % 65536) (cond-true _ _ _ (lt-ltb n 32768 l)) ∙ low n s
    go (inr l) = let m : (n + 4294901760) % 65536 ≡ n = omega arith in ap (λ (m : ℕ). m % 65536) (cond-false _ _ _ (le-ltb n 32768 l)) ∙ m

-- the entry's bytes are those that it was made from
pub entry-back : (b n : ℕ) → n < 65536 → is_entry b n ≡ true → entry_bytes (entry_of b n) ≡ b ∷ two_bytes n
entry-back b n s e =
    by-entry (λ c m. m < 65536 → entry_bytes (entry_of c m) ≡ c ∷ two_bytes m) (λ _. refl) (λ _. refl) (λ _. refl)
    (λ m l. ap (λ (x : ℕ). 5 ∷ two_bytes x) (low-extended m l))
    (λ m l. ap (λ (x : ℕ). 6 ∷ two_bytes x) (low m l))
    (λ m _ l. ap (λ (x : ℕ). 7 ∷ two_bytes x) (low m l))
    b n e s

good-extended : (n : ℕ) → n < 65536 → GoodNumber entry.Local (sign_extended n)
good-extended n s = go (cases_lt n 32768)
  where
    go : (n < 32768) ⊎ (32768 ≤ n) → GoodNumber entry.Local (sign_extended n)
    go (inl l) = subst (GoodNumber entry.Local) (sym (cond-true _ _ _ (lt-ltb n 32768 l))) (inl l)
    go (inr l) = subst (GoodNumber entry.Local) (sym (cond-false _ _ _ (le-ltb n 32768 l))) (inr (omega arith, omega arith))

pub entry-good : (b n : ℕ) → n < 65536 → is_entry b n ≡ true → GoodEntry (entry_of b n)
entry-good b n s e =
    by-entry (λ c m. m < 65536 → GoodEntry (entry_of c m)) (λ _. refl) (λ _. refl) (λ _. refl) (λ m l. good-extended m l)
    (λ m l. l) (λ m k _. k) b n e s

-- a good entry is made again from its bytes

extended-low : (n : ℕ) → GoodNumber entry.Local n → sign_extended (n % 65536) ≡ n
extended-low n (inl l) =
    let m : n % 65536 ≡ n = omega arith in
    ap sign_extended m ∙ cond-true _ _ _ (lt-ltb n 32768 l)
extended-low n (inr (a, b)) =
    let m : n % 65536 + 4294901760 ≡ n = omega arith in
    let k : 32768 ≤ n % 65536 = omega arith in
    cond-false _ _ _ (le-ltb (n % 65536) 32768 k) ∙ m

same-entry : (k : EntryKind) (m n : ℕ) → m ≡ n → ◌≡◌ {A = Entry} (record { kind = k; number = m }) (record { kind = k; number = n })
same-entry k m n e = cc

pub entry-there : (e : Entry) → GoodEntry e → entry_of (entry_kind_byte e.kind) (e.number % 65536) ≡ e
entry-there e g = go e.kind e.number g
  where
    go : (k : EntryKind) (n : ℕ) → GoodNumber k n → ◌≡◌ {A = Entry} (entry_of (entry_kind_byte k) (n % 65536)) (record { kind = k; number = n })
    go entry.Byte n g = same-entry entry.Byte (n % 65536) n (omega arith)
    go entry.Char n g = same-entry entry.Char (n % 65536) n (omega arith)
    go entry.Int n g = same-entry entry.Int (n % 65536) n (omega arith)
    go entry.Local n g = same-entry entry.Local (sign_extended (n % 65536)) n (extended-low n g)
    go entry.Global n g = same-entry entry.Global (n % 65536) n (low n g)
    go entry.Text n g = same-entry entry.Text (n % 65536) n (omega arith)

pub entry-is : (e : Entry) → GoodEntry e → is_entry (entry_kind_byte e.kind) (e.number % 65536) ≡ true
entry-is e g = go e.kind e.number g
  where
    go : (k : EntryKind) (n : ℕ) → GoodNumber k n → is_entry (entry_kind_byte k) (n % 65536) ≡ true
    go entry.Byte n g = eq-eqb (n % 65536) 0 (omega arith)
    go entry.Char n g = eq-eqb (n % 65536) 0 (omega arith)
    go entry.Int n g = eq-eqb (n % 65536) 0 (omega arith)
    go entry.Local n g = refl
    go entry.Global n g = refl
    go entry.Text n g = le-leb (n % 65536) 32 (omega arith)

-- lists of entries

entries-parts : (b h l : ℕ) (xs : List ℕ) → are_entries (b ∷ h ∷ l ∷ xs) ≡ true → (is_entry b (h * 256 + l) ≡ true) × (are_entries xs ≡ true)
unfolding are_entries
entries-parts b h l xs e = both (is_entry b (h * 256 + l)) (are_entries xs) e

pub entries-back : (xs : List ℕ) → Bytes xs → are_entries xs ≡ true → length xs % 3 ≡ 0 → flat_map entry_bytes (entries_of xs) ≡ xs
unfolding entries_of
entries-back [] f e m = refl
entries-back (b ∷ []) f e m = absurd (omega arith)
entries-back (b ∷ h ∷ []) f e m = absurd (omega arith)
entries-back (b ∷ h ∷ l ∷ xs) (fb, (fh, (fl, f))) e m =
    let p = entries-parts b h l xs e in
    let n : h * 256 + l < 65536 = omega arith in
    let here = entry-back b (h * 256 + l) n p.0 ∙ ap (λ (ys : List ℕ). b ∷ ys) (two_back h l fl) in
    let rest = entries-back xs f p.1 (omega arith) in
    ap (λ (ys : List ℕ). ys ++ flat_map entry_bytes (entries_of xs)) here ∙ ap (λ (ys : List ℕ). b ∷ h ∷ l ∷ ys) rest

pub entries-good : (xs : List ℕ) → Bytes xs → are_entries xs ≡ true → AllByRecursion GoodEntry (entries_of xs)
unfolding entries_of
entries-good [] f e = tt
entries-good (b ∷ []) f e = tt
entries-good (b ∷ h ∷ []) f e = tt
entries-good (b ∷ h ∷ l ∷ xs) (fb, (fh, (fl, f))) e =
    let p = entries-parts b h l xs e in
    (entry-good b (h * 256 + l) (omega arith) p.0, entries-good xs f p.1)

pub entries-there : (es : List Entry) → AllByRecursion GoodEntry es → entries_of (flat_map entry_bytes es) ≡ es
unfolding entries_of
entries-there [] g = refl
entries-there (e ∷ es) (g, gs) =
    let n = ap (entry_of (entry_kind_byte e.kind)) (two-there (e.number % 65536)) ∙ entry-there e g in
    let r = entries-there es gs in
    cc

pub entries-are : (es : List Entry) → AllByRecursion GoodEntry es → are_entries (flat_map entry_bytes es) ≡ true
unfolding are_entries
entries-are [] g = refl
entries-are (e ∷ es) (g, gs) =
    cond-true _ _ _ (ap (is_entry (entry_kind_byte e.kind)) (two-there (e.number % 65536)) ∙ entry-is e g) ∙ entries-are es gs

pub entries-bytes : (es : List Entry) → length (flat_map entry_bytes es) ≡ 3 * length es
entries-bytes [] = refl
entries-bytes (e ∷ es) = let r = entries-bytes es in omega arith

-- procedures

same-procedure : (o o' l l' d d' : ℕ) (r r' : Option Kind) (k k' : List Kind) → o ≡ o' → l ≡ l' → d ≡ d' → r ≡ r' → k ≡ k' → ◌≡◌ {A = Procedure} (record { offset = o; locals = l; depth = d; result = r; parameters = k }) (record { offset = o'; locals = l'; depth = d'; result = r'; parameters = k' })
same-procedure o o' l l' d d' r r' k k' eo el ed er ek = cc

pub procedure-there : (p : Procedure) → length p.parameters ≤ 8 → procedure_of (procedure_body p) ≡ p
procedure-there p few =
    cond-false _ _ _ (le-ltb (length (procedure_body p)) 8 (omega arith))
    ∙ same-procedure _ _ _ _ _ _ _ _ _ _ (two-there p.offset) (two-there p.locals) (two-there p.depth) (result-there p.result) (ap (map kind_of) (take_all 8 (map size_of p.parameters) (simp length-map few)) ∙ kinds-there p.parameters)

same_body : (o l d : ℕ) (r : Option Kind) (k : List Kind) (a b c d' e g h i : ℕ) (ks : List ℕ) → two_bytes o ≡ a ∷ b ∷ [] → two_bytes l ≡ c ∷ d' ∷ [] → two_bytes d ≡ e ∷ g ∷ [] → result_byte r ≡ h → length k ≡ i → map size_of k ≡ ks → procedure_body (record { offset = o; locals = l; depth = d; result = r; parameters = k }) ≡ a ∷ b ∷ c ∷ d' ∷ e ∷ g ∷ h ∷ i ∷ ks
same_body o l d r k a b c d' e g h i ks eo el ed er en ek =
    let tail : result_byte r ∷ length k ∷ map size_of k ≡ h ∷ i ∷ ks = cc in
    ap (λ (xs : List ℕ). xs ++ (two_bytes l ++ (two_bytes d ++ (result_byte r ∷ length k ∷ map size_of k)))) eo
    ∙ ap (λ (xs : List ℕ). a ∷ b ∷ (xs ++ (two_bytes d ++ (result_byte r ∷ length k ∷ map size_of k)))) el
    ∙ ap (λ (xs : List ℕ). a ∷ b ∷ c ∷ d' ∷ (xs ++ (result_byte r ∷ length k ∷ map size_of k))) ed
    ∙ ap (λ (xs : List ℕ). a ∷ b ∷ c ∷ d' ∷ e ∷ g ∷ xs) tail

pub procedure-back : (body : List ℕ) → Bytes body → 8 ≤ length body → length body ≡ 8 + get_or body 7 0 → get_or body 7 0 ≤ 8 → is_result (get_or body 6 0) ≡ true → are_kinds (drop 8 body) ≡ true → procedure_body (procedure_of body) ≡ body
procedure-back [] f long n few r k = absurd (omega arith)
procedure-back (a ∷ []) f long n few r k = absurd (omega arith)
procedure-back (a ∷ b ∷ []) f long n few r k = absurd (omega arith)
procedure-back (a ∷ b ∷ c ∷ []) f long n few r k = absurd (omega arith)
procedure-back (a ∷ b ∷ c ∷ d ∷ []) f long n few r k = absurd (omega arith)
procedure-back (a ∷ b ∷ c ∷ d ∷ e ∷ []) f long n few r k = absurd (omega arith)
procedure-back (a ∷ b ∷ c ∷ d ∷ e ∷ g ∷ []) f long n few r k = absurd (omega arith)
procedure-back (a ∷ b ∷ c ∷ d ∷ e ∷ g ∷ h ∷ []) f long n few r k = absurd (omega arith)
procedure-back (a ∷ b ∷ c ∷ d ∷ e ∷ g ∷ h ∷ i ∷ ks) (fa, (fb, (fc, (fd, (fe, (fg, f)))))) long n few r k =
    ap procedure_body (cond-false _ _ _ (le-ltb (length (a ∷ b ∷ c ∷ d ∷ e ∷ g ∷ h ∷ i ∷ ks)) 8 long))
    ∙ same_body _ _ _ (result_of h) _ a b c d e g h i ks (two_back a b fb) (two_back c d fd) (two_back e g fg) (result-back h r) (ap length t ∙ (length-map ks kind_of ∙ omega arith)) (ap (map size_of) t ∙ kinds-back ks k)
  where
    t : map kind_of (take 8 ks) ≡ map kind_of ks
    t = ap (map kind_of) (take_all 8 ks (omega arith))

-- marks

same-mark : (o o' : ℕ) (e e' : List Entry) → o ≡ o' → e ≡ e' → ◌≡◌ {A = Mark} (record { offset = o; entries = e }) (record { offset = o'; entries = e' })
same-mark o o' e e' eo ee = cc

pub mark-there : (m : Mark) → AllByRecursion GoodEntry m.entries → mark_of (mark_body m) ≡ m
mark-there m g =
    cond-false _ _ _ (le-ltb (length (mark_body m)) 2 (omega arith))
    ∙ same-mark _ _ _ _ (two-there m.offset) (entries-there m.entries g)

pub mark-back : (body : List ℕ) → Bytes body → 2 ≤ length body → (length body - 2) % 3 ≡ 0 → are_entries (drop 2 body) ≡ true → mark_body (mark_of body) ≡ body
mark-back [] f long n e = absurd (omega arith)
mark-back (a ∷ []) f long n e = absurd (omega arith)
mark-back (a ∷ b ∷ es) (fa, (fb, f)) long n e =
    ap mark_body (cond-false _ _ _ (le-ltb (length (a ∷ b ∷ es)) 2 long))
    ∙ ap (λ (xs : List ℕ). xs ++ flat_map entry_bytes (entries_of es)) (two_back a b fb)
    ∙ ap (λ (xs : List ℕ). a ∷ b ∷ xs) (entries-back es f e (omega arith))

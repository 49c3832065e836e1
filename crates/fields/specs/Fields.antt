-- Fields: a one-byte tag, a two-byte length and that many bytes.
use Rattle.std.specs.Prelude.{ℕ, zero, suc, cond, List, [], ◌∷◌, ◌++◌, map, length, take, drop, Some, None, Option, option_map, nat_lt, slice_index}
use Rattle.fields.specs.declared.Field.{Field}
use Rattle.fields.specs.declared.Fields.{Fields}
use Rattle.fields.specs.Bytes.{two, two_bytes}

-- a field taken off the front of some bytes
pub record Cut : Type 0 where
  pub tag : ℕ
  pub body : List ℕ
  pub rest : List ℕ

-- the field at the front of the bytes; none where it runs past their end
abbrev pub cut : List ℕ → Option Cut
cut xs =
    cond (nat_lt (length xs) 3) None
    (cond (nat_lt (length (drop 3 xs)) (two xs 1)) None
    (Some (record { tag = slice_index xs 0; body = take (two xs 1) (drop 3 xs); rest = drop (two xs 1) (drop 3 xs) })))

-- a field as bytes
abbrev pub field_bytes : ℕ → List ℕ → List ℕ
field_bytes tag body = tag ∷ (two_bytes (length body) ++ body)

abbrev pub seen_field : Field → Cut
seen_field f = record { tag = f.tag; body = f.body.now; rest = f.rest.now }

abbrev pub seen : Option Field → Option Cut
seen f = option_map seen_field f

-- the fields that stand in some bytes, given the one at the front and what gives those behind it
abbrev pub fields_by : (List ℕ → List Cut) → Option Cut → List Cut
fields_by onward None = []
fields_by onward (Some f) = f ∷ onward f.rest

-- the first fields of some bytes, at most n of them
unfoldable pub fields_up_to : ℕ → List ℕ → List Cut
fields_up_to zero xs = []
fields_up_to (suc n) xs = fields_by (fields_up_to n) (cut xs)

-- the fields that stand in some bytes, one behind another: no more of them than there are bytes
unfoldable pub fields_in : List ℕ → List Cut
fields_in xs = fields_up_to (length xs) xs

-- their bodies
abbrev pub bodies_in : List ℕ → List (List ℕ)
bodies_in xs = map (λ f. f.body) (fields_in xs)

-- what is left to go over
abbrev pub fields_left : Fields → List Cut
fields_left f = fields_in f.rest.now

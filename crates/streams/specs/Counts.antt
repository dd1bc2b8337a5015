-- A count of the first entries of a list, and the first bytes of a reader.
use Rattle.std.specs.Prelude.{ℕ, ◌≡◌, ◌≤◌, ⊤, Option, Some, None, List, ◌++◌, length, take}

-- There are that many: `&xs[..n]` is in bounds and has n entries. The second part follows from the first, and spares a caller a proof.
abbrev pub IsPrefixLen : ℕ → List ℕ → Type 0
IsPrefixLen n xs = (n ≤ length xs) × (n ≡ length (take n xs))

-- the bytes of a reader, where they are known, begin with bs
abbrev pub BeginsWith : Option (List ℕ) → List ℕ → Type 0
BeginsWith None bs = ⊤
BeginsWith (Some xs) bs = (ys : List ℕ) × (xs ≡ bs ++ ys)

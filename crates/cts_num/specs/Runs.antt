-- Digits taken together by twos.
use Rattle.std.specs.Prelude.{ℕ, ◌+◌, ◌*◌, List, [], ◌∷◌}

-- each two neighbours as one number, the first of them the higher, which counts `unit`
abbrev pub coupled : ℕ → List ℕ → List ℕ
coupled unit [] = []
coupled unit (digit ∷ []) = []
coupled unit (high ∷ low ∷ rest) = (high * unit + low) ∷ coupled unit rest

-- What holds of each item of a list that is told item by item.
use Rattle.std.proofs.Common.{zero, suc, List, [], ◌∷◌, All, arith}

pub all_none : {A : Type 0} (P : A → Type 0) → All P []
all_none P k d w = absurd (omega arith)

pub all_then : {A : Type 0} (P : A → Type 0) (a : A) (others : List A) → P a → All P others → All P (a ∷ others)
all_then P a others p ps zero d w = p
all_then P a others p ps (suc k) d w = ps k d (omega arith)

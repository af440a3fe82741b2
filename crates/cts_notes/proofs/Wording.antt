-- The words among some arguments, taken one after another.
use Rattle.std.proofs.Common.{◌≡◌, ℕ, zero, suc, ◌+◌, ◌<◌, List, [], ◌∷◌, ◌++◌, append-nil, append_assoc, length, take, drop, map, slice_get, get_or, Option, Some, None, String, string_bytes, sym, ap, ◌∙◌, refl, arith}
use Rattle.std.proofs.lemmas.Option.{slice_get-map, slice_get-get_or}
use Rattle.std.specs.Prelude.{IfSome, option_map}
use Rattle.std.specs.Global.{Global}
use Rattle.std.specs.Str.Lossy.{utf8_lossy}
use Rattle.cts_notes.specs.Words.{AreWords, IsArgument, words_in}

-- the arguments from a number on
here : {X : Type 0} (xs : List X) (k : ℕ) (x : X) → slice_get xs k ≡ Some x → drop k xs ≡ x ∷ drop (suc k) xs
here [] k x e = cc
here (y ∷ ys) zero x e = cc
here (y ∷ ys) (suc k) x e = here ys k x e

from_here : {X : Type 0} (xs : List X) (k : ℕ) (x : X) → slice_get xs k ≡ Some x → drop k xs ≡ x ∷ drop (k + 1) xs
from_here xs k x e = let next : suc k ≡ k + 1 = omega arith in here xs k x e ∙ ap (λ n. x ∷ drop n xs) next

none_from : {X : Type 0} (xs : List X) (k : ℕ) → slice_get xs k ≡ None → drop k xs ≡ []
none_from [] zero e = refl
none_from [] (suc k) e = refl
none_from (y ∷ ys) zero e = cc
none_from (y ∷ ys) (suc k) e = none_from ys k e

map_push : (words : List (String Global)) (word : String Global) → map string_bytes (words ++ word ∷ []) ≡ map string_bytes words ++ string_bytes word ∷ []
map_push [] word = refl
map_push (w ∷ ws) word = ap (λ t. string_bytes w ∷ t) (map_push ws word)

-- before the argument of this number these words were taken: with those from there on they are all
abbrev pub AreTaken : Option (List (List ℕ)) → List (String Global) → ℕ → Type 0
AreTaken told words number = IfSome told (λ all. map string_bytes words ++ map utf8_lossy (drop number all) ≡ words_in all)

pub none_taken : (told : Option (List (List ℕ))) → AreTaken told [] 1
none_taken None = tt
none_taken (Some all) = refl

pub one_taken : (told : Option (List (List ℕ))) (words : List (String Global)) (word : String Global) (number : ℕ) (bytes : List ℕ)
    → AreTaken told words number → IsArgument told number (Some bytes) → string_bytes word ≡ utf8_lossy bytes
    → AreTaken told (words ++ word ∷ []) (number + 1)
one_taken None words word number bytes taken is text = tt
one_taken (Some all) words word number bytes taken is text =
    let rest = map utf8_lossy (drop (number + 1) all) in
    ap (λ t. t ++ rest) (map_push words word)
    ∙ append_assoc (map string_bytes words) (string_bytes word ∷ []) rest
    ∙ ap (λ b. map string_bytes words ++ b ∷ rest) text
    ∙ ap (λ t. map string_bytes words ++ map utf8_lossy t) (sym (from_here all number bytes is))
    ∙ taken

pub all_taken : (told : Option (List (List ℕ))) (words : List (String Global)) (number : ℕ)
    → AreTaken told words number → IsArgument told number None → IfSome told (AreWords words)
all_taken None words number taken none = tt
all_taken (Some all) words number taken none =
    sym (append-nil (map string_bytes words))
    ∙ ap (λ t. map string_bytes words ++ map utf8_lossy t) (sym (none_from all number none))
    ∙ taken

-- the front of a room that was copied to
pub front_taken : {X : Type 0} (n : ℕ) (xs ys : List X) → n ≡ length xs → take n (xs ++ ys) ≡ xs
front_taken {X = X} n xs ys e = ap (λ k. take k (xs ++ ys)) e ∙ front xs
  where
    front : (front : List X) → take (length front) (front ++ ys) ≡ front
    front [] = refl
    front (f ∷ fs) = ap (λ t. f ∷ t) (front fs)

-- the argument of a number, where it is seen by its bytes
pub seen_at : {X Y : Type 0} (view : X → Y) (xs ys : List X) (seen : List Y) (k : ℕ) (x : X) → ys ≡ xs → map view xs ≡ seen
    → k < length ys → x ≡ get_or ys k x → slice_get seen k ≡ Some (view x)
seen_at view xs ys seen k x same is inside there =
    ap (λ s. slice_get s k) (sym is)
    ∙ slice_get-map view xs k
    ∙ ap (option_map view) (ap (λ s. slice_get s k) (sym same) ∙ slice_get-get_or ys k x inside ∙ ap Some (sym there))

-- Pins that are listed by the places in sorted keys.
use Rattle.std.proofs.Common.{◌≡◌, ℕ, suc, ◌+◌, ◌%◌, ◌^◌, ◌<◌, List, [], ◌∷◌, ◌++◌, map, length, get_or, refl, sym, ap, ap₂, subst, ◌∙◌, arith, map-id, IsPermutation}
use Rattle.std.specs.List.{All, range_with_len}
use Rattle.std.proofs.lemmas.List.{map-append, length-map, get_or-map}
use Rattle.std.proofs.lemmas.List.FromFn.{length-range_with_len, get_or-range_with_len, map-range_with_len_more}
use Rattle.std.proofs.lemmas.List.Sorted.{IsPermutation-map}
use Rattle.cts_topo.specs.declared.pin.Pin.{Pin}

-- the pin past the end of a list
abbrev no_pin : Pin
no_pin = record { x = 0; y = 0; id = 0; sink = 0 }

-- the pin whose place is in the key
abbrev pub pin_by : List Pin → ℕ → Pin
pin_by pins key = get_or pins (key % 2 ^ 17) no_pin

-- the keys have the places of a list of so many in order
abbrev pub HavePlaces : ℕ → List ℕ → Type 0
HavePlaces count keys = map (λ key. key % 2 ^ 17) keys ≡ range_with_len 0 count

range_more : (n : ℕ) → range_with_len 0 n ++ n ∷ [] ≡ range_with_len 0 (n + 1)
range_more n =
    let same : (k : ℕ) → map (λ j. j) (range_with_len 0 k) ≡ range_with_len 0 k = λ k. map-id (range_with_len 0 k) in
    let from : 0 + n ≡ n = omega arith in
    ap (λ l. l ++ n ∷ []) (sym (same n)) ∙ sym (map-range_with_len_more (λ j. j) 0 n n from) ∙ same (n + 1)

pub places_more : (n : ℕ) (keys : List ℕ) (key : ℕ) → HavePlaces n keys → key % 2 ^ 17 ≡ n → HavePlaces (n + 1) (keys ++ key ∷ [])
places_more n keys key have is =
    map-append (λ k. k % 2 ^ 17) keys (key ∷ []) ∙ ap (λ l. l ++ key % 2 ^ 17 ∷ []) have ∙ ap (λ k. range_with_len 0 n ++ k ∷ []) is ∙ range_more n

module _ (pins : List Pin) (keys : List ℕ) (have : HavePlaces (length pins) keys) where
  long : length keys ≡ length pins
  long = sym (length-map keys (λ key. key % 2 ^ 17)) ∙ ap length have ∙ length-range_with_len 0 (length pins)

  place_is : (k : ℕ) (d : ℕ) → k < length keys → get_or keys k d % 2 ^ 17 ≡ k
  place_is k d lt =
      let from : 0 + k ≡ k = omega arith in
      sym (get_or-map (λ key. key % 2 ^ 17) keys k d 0 lt) ∙ ap (λ l. get_or l k 0) have
      ∙ get_or-range_with_len 0 (length pins) k 0 (omega (arith, lt, long)) ∙ from

  pub places_inside : All (λ key. key % 2 ^ 17 < length pins) keys
  places_inside k d lt = omega (arith, place_is k d lt, lt, long)

  -- listed by the keys as they are, the pins are in their own order
  pub in_own_order : map (pin_by pins) keys ≡ pins
  in_own_order =
      same (map (pin_by pins) keys) pins (length-map keys (pin_by pins) ∙ long) (λ k lt.
      get_or-map (pin_by pins) keys k 0 no_pin (omega (arith, lt, long)) ∙ ap (λ j. get_or pins j no_pin) (place_is k 0 (omega (arith, lt, long))))
    where
      same : (xs ys : List Pin) → length xs ≡ length ys → ((k : ℕ) → k < length ys → get_or xs k no_pin ≡ get_or ys k no_pin) → xs ≡ ys
      same [] [] e h = refl
      same [] (y ∷ ys) e h = absurd (omega arith)
      same (x ∷ xs) [] e h = absurd (omega arith)
      same (x ∷ xs) (y ∷ ys) e h =
          let head : x ≡ y = h 0 (omega arith) in
          let tail = same xs ys (omega (arith, e)) (λ k lt. h (suc k) (omega (arith, lt))) in
          ap₂ (λ z zs. z ∷ zs) head tail

  -- and by sorted keys they are in another one
  pub in_other_order : (sorted : List ℕ) → IsPermutation keys sorted → IsPermutation pins (map (pin_by pins) sorted)
  in_other_order sorted p = subst (λ ps. IsPermutation ps (map (pin_by pins) sorted)) in_own_order (IsPermutation-map (pin_by pins) keys sorted p)

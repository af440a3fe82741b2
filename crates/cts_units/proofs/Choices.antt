-- There is a buffer choice, and one alone.
use Rattle.std.proofs.Common.{◌≡◌, ℕ, zero, suc, ◌<◌, ◌≤◌, ◌⊎◌, List, [], ◌∷◌, Option, Some, None, slice_get, inl, inr, refl, sym, ap, ◌∙◌, arith}
use Rattle.std.proofs.lemmas.Bool.{cases_lt}
use Rattle.std.proofs.lemmas.Option.{none-some}
use Rattle.cts_units.specs.declared.params.Buffer.{Buffer}
use Rattle.cts_units.specs.declared.params.Params.{Params}
use Rattle.cts_units.specs.Delay.{buffer_delay_of}
use Rattle.cts_units.specs.Choice.{IsLeastBuffer, IsBufferChoice}

-- an empty library has no least buffer
no_least : (library : List Buffer) (load index : ℕ) → library ≡ [] → IsLeastBuffer library load index → ⊥
no_least library load index none least =
    none-some least.buffer (sym (ap (λ (buffers : List Buffer). slice_get buffers index) none) ∙ least.found)

least_buffer_unique : (library : List Buffer) (load i j : ℕ) → IsLeastBuffer library load i → IsLeastBuffer library load j → i ≡ j
least_buffer_unique library load i j p q =
    let up : buffer_delay_of p.buffer load ≤ buffer_delay_of q.buffer load = p.least j q.buffer q.found in
    let down : buffer_delay_of q.buffer load ≤ buffer_delay_of p.buffer load = q.least i p.buffer p.found in
    let same : buffer_delay_of q.buffer load ≡ buffer_delay_of p.buffer load = omega arith in
    let low : i ≤ j = p.first j q.buffer q.found same in
    let high : j ≤ i = q.first i p.buffer p.found (sym same) in
    omega arith

not_both : (params : Params) (load index : ℕ) → IsBufferChoice params load None → IsBufferChoice params load (Some index) → ⊥
not_both params load index none some = elim none [
  | inl low ↦ absurd (omega (arith, some.0))
  | inr empty ↦ no_least params.library load index empty some.1
]

pub choice_unique : (params : Params) (load : ℕ) (p q : Option ℕ) → IsBufferChoice params load p → IsBufferChoice params load q → p ≡ q
choice_unique params load None None hp hq = refl
choice_unique params load None (Some j) hp hq = absurd (not_both params load j hp hq)
choice_unique params load (Some i) None hp hq = absurd (not_both params load i hq hp)
choice_unique params load (Some i) (Some j) hp hq = ap Some (least_buffer_unique params.library load i j hp.1 hq.1)

-- the least of a first buffer and those after it
least_first : (b : Buffer) (library : List Buffer) (load : ℕ)
    → ((k : ℕ) (other : Buffer) → slice_get library k ≡ Some other → buffer_delay_of b load ≤ buffer_delay_of other load)
    → IsLeastBuffer (b ∷ library) load 0
least_first b library load low = record {
  buffer = b;
  found = refl;
  least = least;
  first = λ k other found same. omega arith;
}
  where
    least : (k : ℕ) (other : Buffer) → slice_get (b ∷ library) k ≡ Some other → buffer_delay_of b load ≤ buffer_delay_of other load
    least zero other found = let same : b ≡ other = cc in omega (arith, ap (λ (x : Buffer). buffer_delay_of x load) same)
    least (suc k) other found = low k other found

least_later : (b : Buffer) (library : List Buffer) (load i : ℕ) (rest : IsLeastBuffer library load i)
    → buffer_delay_of rest.buffer load < buffer_delay_of b load → IsLeastBuffer (b ∷ library) load (suc i)
least_later b library load i rest high = record {
  buffer = rest.buffer;
  found = rest.found;
  least = least;
  first = first;
}
  where
    least : (k : ℕ) (other : Buffer) → slice_get (b ∷ library) k ≡ Some other
        → buffer_delay_of rest.buffer load ≤ buffer_delay_of other load
    least zero other found = let same : b ≡ other = cc in omega (arith, ap (λ (x : Buffer). buffer_delay_of x load) same)
    least (suc k) other found = rest.least k other found

    first : (k : ℕ) (other : Buffer) → slice_get (b ∷ library) k ≡ Some other
        → buffer_delay_of other load ≡ buffer_delay_of rest.buffer load → suc i ≤ k
    first zero other found equal =
        let same : b ≡ other = cc in absurd (omega (arith, ap (λ (x : Buffer). buffer_delay_of x load) same, equal))
    first (suc k) other found equal = let before : i ≤ k = rest.first k other found equal in omega arith

least_exists : (library : List Buffer) (load : ℕ) → (library ≡ []) ⊎ ((i : ℕ) × IsLeastBuffer library load i)
least_exists [] load = inl refl
least_exists (b ∷ library) load =
    elim (least_exists library load) [
      | inl none ↦
          inr (0, least_first b library load (λ k other found. absurd (none-some other (sym (ap (λ (bs : List Buffer). slice_get bs k) none) ∙ found))))
      | inr some ↦ elim (cases_lt (buffer_delay_of (some.1.buffer) load) (buffer_delay_of b load)) [
        | inl high ↦ inr (suc (some.0), least_later b library load (some.0) (some.1) high)
        | inr low ↦
            inr (0, least_first b library load (λ k other found. let least = some.1.least k other found in omega (arith, least)))
      ]
    ]

pub choice_exists : (params : Params) (load : ℕ) → (choice : Option ℕ) × IsBufferChoice params load choice
choice_exists params load =
    elim (cases_lt params.insert_at load) [
      | inr low ↦ (None, inl low)
      | inl above ↦ elim (least_exists params.library load) [
        | inl none ↦ (None, inr none)
        | inr some ↦ (Some (some.0), (above, some.1))
      ]
    ]

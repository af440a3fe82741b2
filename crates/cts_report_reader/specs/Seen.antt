-- What a report prints, as the types of the code hold it.
use Rattle.std.specs.Prelude.{◌≡◌, ℕ, ◌*◌, ◌++◌, ℤ, pos, ◌≤ℤ◌, unsigned_abs, List, Option, Some, None, Result, Ok, Err}
use Rattle.std.specs.Borrow.{Bor}
use Rattle.cts_geom.specs.declared.points.Half.{Half}
use Rattle.cts_report.specs.Printed.{PrintedPoint}

-- a coordinate in half nm, in 10^-4 µm
abbrev pub seen_half : ℤ → ℕ
seen_half x = 5 * unsigned_abs x

abbrev pub seen_point : Half → PrintedPoint
seen_point p = record { x = seen_half p.x; y = seen_half p.y }

-- neither coordinate is below 0, or above 2·10^8 half nm
pub record IsSeen (p : Half) : Type 0 where
  pub x : (pos 0 ≤ℤ p.x) × (p.x ≤ℤ pos 200000000)
  pub y : (pos 0 ≤ℤ p.y) × (p.y ≤ℤ pos 200000000)

-- what was read after other things
abbrev pub fronted : {A : Type 0} → List A → Option (List A × List ℕ) → Option (List A × List ℕ)
fronted front None = None
fronted front (Some found) = Some (front ++ found.0, found.1)

-- what was read, unless memory ran out
abbrev pub FindsIn : {T A E : Type 0} → (T → A) → Result (Option (T × Bor (List ℕ))) E → Option (A × List ℕ) → Type 0
FindsIn view (Ok None) None = Unit {0}
FindsIn view (Ok None) (Some right) = ⊥
FindsIn view (Ok (Some found)) None = ⊥
FindsIn view (Ok (Some found)) (Some right) = (view found.0 ≡ right.0) × (found.1.now ≡ right.1)
FindsIn view (Err e) right = Unit {0}

-- the same of lines, of which the first that goes wrong is told
abbrev pub FindsLines : {T A E : Type 0} → (T → A) → Result (Result (T × Bor (List ℕ)) ℕ) E → Result (A × List ℕ) ℕ → Type 0
FindsLines view (Ok (Ok found)) (Ok right) = (view found.0 ≡ right.0) × (found.1.now ≡ right.1)
FindsLines view (Ok (Ok found)) (Err line) = ⊥
FindsLines view (Ok (Err line)) (Ok right) = ⊥
FindsLines view (Ok (Err line)) (Err right) = line ≡ right
FindsLines view (Err e) right = Unit {0}

abbrev pub fronted_lines : {A : Type 0} → List A → Result (List A × List ℕ) ℕ → Result (List A × List ℕ) ℕ
fronted_lines front (Ok found) = Ok (front ++ found.0, found.1)
fronted_lines front (Err line) = Err line

-- the same where no memory is taken
abbrev pub FindsLine : {T A : Type 0} → (T → A) → Result (T × Bor (List ℕ)) ℕ → Result (A × List ℕ) ℕ → Type 0
FindsLine view (Ok found) (Ok right) = (view found.0 ≡ right.0) × (found.1.now ≡ right.1)
FindsLine view (Ok found) (Err line) = ⊥
FindsLine view (Err line) (Ok right) = ⊥
FindsLine view (Err line) (Err right) = line ≡ right

-- Points read one after another.
use Rattle.std.proofs.Common.{◌≡◌, ℕ, suc, ◌+◌, ◌-◌, ◌<◌, List, [], ◌∷◌, ◌++◌, map, Option, Some, None, Ok, refl, sym, ap, ap₂, ◌∙◌, arith, append_assoc, append-nil}
use Rattle.std.specs.Borrow.{Bor}
use Rattle.std.proofs.lemmas.List.{map-append}
use Rattle.cts_geom.specs.declared.points.Half.{Half}
use Rattle.cts_num.specs.declared.error.NoMemory.{NoMemory}
use Rattle.cts_report.specs.Printed.{PrintedPoint}
use Rattle.cts_report_reader.specs.Seen.{fronted, seen_point, FindsIn}
use Rattle.cts_report_reader.specs.Words.{◌>>=◌, both_at, mapped_at, Finds, point_at, points_at}

one_fewer : (count k : ℕ) → k < count → count - k ≡ suc (count - (k + 1))
one_fewer count k h = omega arith

again_fronted : (front : List PrintedPoint) (p : PrintedPoint) (o : Option (List PrintedPoint × List ℕ))
    → fronted front (o >>= λ ps. Some (p ∷ ps.0, ps.1)) ≡ fronted (front ++ p ∷ []) o
again_fronted front p None = refl
again_fronted front p (Some x) = ap (λ ps. Some (ps, x.1)) (sym (append_assoc front (p ∷ []) x.0))

joined : (p : PrintedPoint) (o : Option (List PrintedPoint × List ℕ)) → Option (List PrintedPoint × List ℕ)
joined p o = o >>= λ ps. Some (p ∷ ps.0, ps.1)

front_joined : (front : List PrintedPoint) (p : PrintedPoint) (o : Option (List PrintedPoint × List ℕ))
    → fronted front (joined p o) ≡ fronted (front ++ p ∷ []) o
unfolding joined
front_joined front p o = again_fronted front p o

after_point : (p : PrintedPoint) (o : Option (List PrintedPoint × List ℕ))
    → mapped_at (λ (found : PrintedPoint × List PrintedPoint). found.0 ∷ found.1) (both_at (λ bytes. Some (p, bytes)) (λ _. o)) [] ≡ joined p o
unfolding joined
after_point p None = refl
after_point p (Some x) = refl

pair_is : {A B : Type 0} (x : A × B) (a : A) (b : B) → a ≡ x.0 → b ≡ x.1 → x ≡ (a, b)
pair_is x a b e f = ap₂ (λ p q. (p, q)) (sym e) (sym f)

nothing_fronted : (o : Option (List PrintedPoint × List ℕ)) → fronted [] o ≡ o
nothing_fronted None = refl
nothing_fronted (Some x) = refl

points_suc : (n : ℕ) (bytes : List ℕ) (p : PrintedPoint) (rest : List ℕ) → point_at bytes ≡ Some (p, rest)
    → points_at (suc n) bytes ≡ joined p (points_at n rest)
unfolding points_at joined
points_suc n bytes p rest e =
    ap (λ (o : Option (PrintedPoint × List ℕ)). mapped_at (λ (found : PrintedPoint × List PrintedPoint). found.0 ∷ found.1) (both_at (λ (_ : List ℕ). o) (points_at n)) bytes) e
    ∙ after_point p (points_at n rest)

points_missed : (n : ℕ) (bytes : List ℕ) → point_at bytes ≡ None → points_at (suc n) bytes ≡ None
unfolding points_at
points_missed n bytes e =
    ap (λ (o : Option (PrintedPoint × List ℕ)). mapped_at (λ (found : PrintedPoint × List PrintedPoint). found.0 ∷ found.1) (both_at (λ (_ : List ℕ). o) (points_at n)) bytes) e

-- the next point
pub points_step : (count k : ℕ) (front : List Half) (whole : Option (List PrintedPoint × List ℕ)) (bytes : List ℕ) (p : Half) (right : Option (PrintedPoint × List ℕ)) (rest : Bor (List ℕ))
    → k < count → fronted (map seen_point front) (points_at (count - k) bytes) ≡ whole → right ≡ point_at bytes → Finds seen_point (Some (p, rest)) right
    → fronted (map seen_point (front ++ p ∷ [])) (points_at (count - (k + 1)) rest.now) ≡ whole
points_step count k front whole bytes p None rest lt h e found = absurd found
points_step count k front whole bytes p (Some x) rest lt h e found =
    let one : point_at bytes ≡ Some (seen_point p, rest.now) = sym e ∙ ap Some (pair_is x (seen_point p) rest.now found.0 found.1) in
    let more = ap (λ n. points_at n bytes) (one_fewer count k lt) ∙ points_suc (count - (k + 1)) bytes (seen_point p) rest.now one in
    ap (λ qs. fronted qs (points_at (count - (k + 1)) rest.now)) (map-append seen_point front (p ∷ []))
    ∙ sym (front_joined (map seen_point front) (seen_point p) (points_at (count - (k + 1)) rest.now)) ∙ ap (fronted (map seen_point front)) (sym more) ∙ h

-- a point that is not there
pub points_none : (count k : ℕ) (front : List PrintedPoint) (whole : Option (List PrintedPoint × List ℕ)) (bytes : List ℕ) (right : Option (PrintedPoint × List ℕ))
    → k < count → fronted front (points_at (count - k) bytes) ≡ whole → right ≡ point_at bytes → Finds {T = Half} seen_point None right → whole ≡ None
points_none count k front whole bytes (Some x) lt h e found = absurd found
points_none count k front whole bytes None lt h e found =
    sym h ∙ ap (λ n. fronted front (points_at n bytes)) (one_fewer count k lt) ∙ ap (fronted front) (points_missed (count - (k + 1)) bytes (sym e))

-- all points
pub points_done : (count k : ℕ) (front : List PrintedPoint) (whole : Option (List PrintedPoint × List ℕ)) (bytes : List ℕ)
    → k ≡ count → fronted front (points_at (count - k) bytes) ≡ whole → whole ≡ Some (front, bytes)
unfolding points_at
points_done count k front whole bytes e h =
    let none : count - k ≡ 0 = omega arith in
    sym h ∙ ap (λ n. fronted front (points_at n bytes)) none ∙ ap (λ ps. Some (ps, bytes)) (append-nil front)

pub points_begin : (count : ℕ) (bytes : List ℕ) → fronted [] (points_at (count - 0) bytes) ≡ points_at count bytes
points_begin count bytes = let e : count - 0 ≡ count = omega arith in ap (λ n. fronted [] (points_at n bytes)) e ∙ nothing_fronted (points_at count bytes)

-- what the code found, by an equation
pub finds_in_none : {T A : Type 0} (view : T → A) (right : Option (A × List ℕ)) → right ≡ None → FindsIn {E = NoMemory} view (Ok None) right
finds_in_none view right e = rw e tt

pub finds_in_some : {T A : Type 0} (view : T → A) (value : T) (left : Bor (List ℕ)) (right : Option (A × List ℕ))
    → right ≡ Some (view value, left.now) → FindsIn {E = NoMemory} view (Ok (Some (value, left))) right
finds_in_some view value left right e = rw e (refl, refl)

found_point : (p : Half) (left : Bor (List ℕ)) (right : Option (PrintedPoint × List ℕ)) → Finds seen_point (Some (p, left)) right → right ≡ Some (seen_point p, left.now)
found_point p left None h = absurd h
found_point p left (Some x) h = ap Some (ap₂ (λ a b. (a, b)) (sym h.0) (sym h.1))

missed_point : (right : Option (PrintedPoint × List ℕ)) → Finds {T = Half} seen_point None right → right ≡ None
missed_point None h = refl
missed_point (Some x) h = absurd h

-- one point alone
no_more : (rest : List ℕ) → points_at 0 rest ≡ Some ([], rest)
unfolding points_at
no_more rest = refl

pub one_found : (bytes : List ℕ) (p : PrintedPoint) (rest : List ℕ) → point_at bytes ≡ Some (p, rest) → points_at 1 bytes ≡ Some (p ∷ [], rest)
unfolding joined
one_found bytes p rest e = points_suc 0 bytes p rest e ∙ ap (joined p) (no_more rest)

pub one_missed : (bytes : List ℕ) → point_at bytes ≡ None → points_at 1 bytes ≡ None
one_missed bytes e = points_missed 0 bytes e

pub one_corner_found : (bytes : List ℕ) (p : Half) (left : Bor (List ℕ)) (cs : List Half) → cs ≡ p ∷ [] → Finds seen_point (Some (p, left)) (point_at bytes)
    → Finds (λ qs. map seen_point qs) (Some (cs, left)) (points_at 1 bytes)
one_corner_found bytes p left cs is found =
    let e = one_found bytes (seen_point p) left.now (found_point p left (point_at bytes) found) in
    rw e (ap (map seen_point) is, refl)

pub one_corner_missed : (bytes : List ℕ) → Finds {T = Half} seen_point None (point_at bytes) → Finds {T = List Half} (λ qs. map seen_point qs) None (points_at 1 bytes)
one_corner_missed bytes found = rw (one_missed bytes (missed_point (point_at bytes) found)) tt

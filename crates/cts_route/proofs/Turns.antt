-- Where a way turns: nowhere on one straight line, and between a line along x and one along y.
use Rattle.std.proofs.Common.{◌≡◌, ◌≢◌, Bool, true, false, ◌&&◌, cond, ℤ, ◌≤ℤ◌, ◌<ℤ◌, List, [], ◌∷◌, refl, ap, arith}
use Rattle.std.specs.Bool.{beq}
use Rattle.std.specs.Prelude.{int_lt}
use Rattle.std.proofs.lemmas.Int.{ints}
use Rattle.cts_geom.specs.declared.points.Half.{Half}
use Rattle.cts_tree.specs.Path.{keeps_on, goes_on, turns_of}
use Rattle.cts_route.specs.declared.direction.Direction.{Direction}
use Rattle.cts_route.specs.declared.direction.Direction.TheVariants.{East, West, North, South}
use Rattle.cts_route.specs.Grid.{IsAhead}

pub int_lt-true : (a b : ℤ) → a <ℤ b → int_lt a b ≡ true
int_lt-true a b h = grind (arith, ints)

pub int_lt-false : (a b : ℤ) → b ≤ℤ a → int_lt a b ≡ false
int_lt-false a b h = grind (arith, ints)

pub keeps_on-is : (a b c : ℤ) (ab ba bc cb : Bool) → int_lt a b ≡ ab → int_lt b a ≡ ba → int_lt b c ≡ bc → int_lt c b ≡ cb
    → keeps_on a b c ≡ (beq ab bc && beq ba cb)
unfolding keeps_on
keeps_on-is a b c ab ba bc cb e f g h = cc

rises : (a b c : ℤ) → a <ℤ b → b <ℤ c → keeps_on a b c ≡ true
rises a b c h k =
    keeps_on-is a b c true false true false (int_lt-true a b h) (int_lt-false b a (omega (arith, ints))) (int_lt-true b c k) (int_lt-false c b (omega (arith, ints)))

falls : (a b c : ℤ) → b <ℤ a → c <ℤ b → keeps_on a b c ≡ true
falls a b c h k =
    keeps_on-is a b c false true false true (int_lt-false a b (omega (arith, ints))) (int_lt-true b a h) (int_lt-false b c (omega (arith, ints))) (int_lt-true c b k)

stays : (a b c : ℤ) → a ≡ b → b ≡ c → keeps_on a b c ≡ true
stays a b c h k =
    keeps_on-is a b c false false false false (int_lt-false a b (omega (arith, ints))) (int_lt-false b a (omega (arith, ints))) (int_lt-false b c (omega (arith, ints))) (int_lt-false c b (omega (arith, ints)))

stops_rising : (a b c : ℤ) → a <ℤ b → b ≡ c → keeps_on a b c ≡ false
stops_rising a b c h k =
    keeps_on-is a b c true false false false (int_lt-true a b h) (int_lt-false b a (omega (arith, ints))) (int_lt-false b c (omega (arith, ints))) (int_lt-false c b (omega (arith, ints)))

stops_falling : (a b c : ℤ) → b <ℤ a → b ≡ c → keeps_on a b c ≡ false
stops_falling a b c h k =
    keeps_on-is a b c false true false false (int_lt-false a b (omega (arith, ints))) (int_lt-true b a h) (int_lt-false b c (omega (arith, ints))) (int_lt-false c b (omega (arith, ints)))

starts_rising : (a b c : ℤ) → a ≡ b → b <ℤ c → keeps_on a b c ≡ false
starts_rising a b c h k =
    keeps_on-is a b c false false true false (int_lt-false a b (omega (arith, ints))) (int_lt-false b a (omega (arith, ints))) (int_lt-true b c k) (int_lt-false c b (omega (arith, ints)))

starts_falling : (a b c : ℤ) → a ≡ b → c <ℤ b → keeps_on a b c ≡ false
starts_falling a b c h k =
    keeps_on-is a b c false false false true (int_lt-false a b (omega (arith, ints))) (int_lt-false b a (omega (arith, ints))) (int_lt-false b c (omega (arith, ints))) (int_lt-true c b k)

rises_then_falls : (a b c : ℤ) → a <ℤ b → c <ℤ b → keeps_on a b c ≡ false
rises_then_falls a b c h k =
    keeps_on-is a b c true false false true (int_lt-true a b h) (int_lt-false b a (omega (arith, ints))) (int_lt-false b c (omega (arith, ints))) (int_lt-true c b k)

falls_then_rises : (a b c : ℤ) → b <ℤ a → b <ℤ c → keeps_on a b c ≡ false
falls_then_rises a b c h k =
    keeps_on-is a b c false true true false (int_lt-false a b (omega (arith, ints))) (int_lt-true b a h) (int_lt-true b c k) (int_lt-false c b (omega (arith, ints)))

pub goes_on-is : (p q r : Half) (x y : Bool) → keeps_on p.x q.x r.x ≡ x → keeps_on p.y q.y r.y ≡ y → goes_on p q r ≡ (x && y)
unfolding goes_on
goes_on-is p q r x y e f = cc

pub goes_straight : (d : Direction) (p q r : Half) → IsAhead d p q → IsAhead d q r → goes_on p q r ≡ true
goes_straight East p q r h k = goes_on-is p q r true true (rises p.x q.x r.x h.0 k.0) (stays p.y q.y r.y h.1 k.1)
goes_straight West p q r h k = goes_on-is p q r true true (falls p.x q.x r.x h.0 k.0) (stays p.y q.y r.y h.1 k.1)
goes_straight North p q r h k = goes_on-is p q r true true (stays p.x q.x r.x h.0 k.0) (rises p.y q.y r.y h.1 k.1)
goes_straight South p q r h k = goes_on-is p q r true true (stays p.x q.x r.x h.0 k.0) (falls p.y q.y r.y h.1 k.1)

turns_in_x : (p q r : Half) → keeps_on p.x q.x r.x ≡ false → goes_on p q r ≡ false
turns_in_x p q r e = goes_on-is p q r false (keeps_on p.y q.y r.y) e refl

turns_in_y : (p q r : Half) → keeps_on p.x q.x r.x ≡ true → keeps_on p.y q.y r.y ≡ false → goes_on p q r ≡ false
turns_in_y p q r e f = goes_on-is p q r true false e f

pub goes_round : (d e : Direction) (p q r : Half) → d ≢ e → IsAhead d p q → IsAhead e q r → goes_on p q r ≡ false
goes_round East East p q r apart h k = absurd (apart refl)
goes_round West West p q r apart h k = absurd (apart refl)
goes_round North North p q r apart h k = absurd (apart refl)
goes_round South South p q r apart h k = absurd (apart refl)
goes_round East West p q r apart h k = turns_in_x p q r (rises_then_falls p.x q.x r.x h.0 k.0)
goes_round West East p q r apart h k = turns_in_x p q r (falls_then_rises p.x q.x r.x h.0 k.0)
goes_round East North p q r apart h k = turns_in_x p q r (stops_rising p.x q.x r.x h.0 k.0)
goes_round East South p q r apart h k = turns_in_x p q r (stops_rising p.x q.x r.x h.0 k.0)
goes_round West North p q r apart h k = turns_in_x p q r (stops_falling p.x q.x r.x h.0 k.0)
goes_round West South p q r apart h k = turns_in_x p q r (stops_falling p.x q.x r.x h.0 k.0)
goes_round North East p q r apart h k = turns_in_x p q r (starts_rising p.x q.x r.x h.0 k.0)
goes_round North West p q r apart h k = turns_in_x p q r (starts_falling p.x q.x r.x h.0 k.0)
goes_round South East p q r apart h k = turns_in_x p q r (starts_rising p.x q.x r.x h.0 k.0)
goes_round South West p q r apart h k = turns_in_x p q r (starts_falling p.x q.x r.x h.0 k.0)
goes_round North South p q r apart h k = turns_in_y p q r (stays p.x q.x r.x h.0 k.0) (rises_then_falls p.y q.y r.y h.1 k.1)
goes_round South North p q r apart h k = turns_in_y p q r (stays p.x q.x r.x h.0 k.0) (falls_then_rises p.y q.y r.y h.1 k.1)

pub turns_on : (p q r : Half) (points : List Half) → goes_on p q r ≡ true → turns_of (p ∷ q ∷ r ∷ points) ≡ turns_of (q ∷ r ∷ points)
unfolding turns_of
turns_on p q r points e = ap (λ (b : Bool). cond b (turns_of (q ∷ r ∷ points)) (q ∷ turns_of (q ∷ r ∷ points))) e

pub turns_at : (p q r : Half) (points : List Half) → goes_on p q r ≡ false → turns_of (p ∷ q ∷ r ∷ points) ≡ q ∷ turns_of (q ∷ r ∷ points)
unfolding turns_of
turns_at p q r points e = ap (λ (b : Bool). cond b (turns_of (q ∷ r ∷ points)) (q ∷ turns_of (q ∷ r ∷ points))) e

pub turns_of-none : (p : Half) → turns_of (p ∷ []) ≡ []
unfolding turns_of
turns_of-none p = refl

pub turns_of-one : (p q : Half) → turns_of (p ∷ q ∷ []) ≡ []
unfolding turns_of
turns_of-one p q = refl

-- What calls do to told bytes, one after the other.
use Rattle.std.proofs.Common.{◌≡◌, ℕ, List, [], None, Some, IfSome, ◌+◌, ◌<◌, length, take, Option, refl, sym, append-nil, length-append, arith}
use Rattle.std.specs.Io.KnownBytes.{Consumes}
use Rattle.std.proofs.KnownBytes.{Consumes-trans}
use Rattle.std.proofs.Math.Seq.{drop-append_seam}
use Rattle.cts_io.specs.Taken.{TakesFirst}

pub none_taken : (a : Option (List ℕ)) (bs : List ℕ) → bs ≡ [] → Consumes a a bs
none_taken None bs e = tt
none_taken (Some xs) bs e = rw e refl

-- a read that gave no byte
pub none_more : (a b c : Option (List ℕ)) (bs buf : List ℕ) (n : ℕ) → n ≡ 0 → Consumes a b bs → Consumes b c (take n buf) → Consumes a c bs
none_more a b c bs buf n e p q =
    let front : take n buf ≡ [] = rw e refl in
    let both = Consumes-trans a b c bs (take n buf) p q in
    rw (front, append-nil) at both

pub takes_first : (a b : Option (List ℕ)) (bs : List ℕ) (n : ℕ) → n ≡ length bs → Consumes a b bs → TakesFirst a b n
takes_first None b bs n e p = tt
takes_first (Some xs) None bs n e p = absurd p
takes_first (Some xs) (Some ys) bs n e p = (rw (p, e, length-append) (omega arith), sym (rw (p, e) (drop-append_seam bs ys)))

-- more was left than this number
pub longer_than : (a b : Option (List ℕ)) (n : ℕ) → TakesFirst a b (n + 1) → IfSome a (λ xs. n < length xs)
longer_than None b n p = tt
longer_than (Some xs) None n p = absurd p
longer_than (Some xs) (Some ys) n p = omega (arith, p.0)

-- A list that is announced without a fault is short.
use Rattle.std.proofs.Common.{◌≡◌, ℕ, ◌<◌, ◌^◌, Bool, true, false, Option, None, nat_le, nat_lt, arith, refl}
use Rattle.std.proofs.lemmas.Bool.Decides.{nat_tests}
use Rattle.cts_instance.specs.FirstFault.{unless, buffer_count_fault, sink_count_fault, block_count_fault}
use Rattle.cts_instance.specs.declared.fault.Fault.{Fault}
use Rattle.cts_instance.specs.declared.fault.Fault.TheVariants.{NoSink, TooMany}
use Rattle.cts_instance.specs.declared.fault.Item.TheVariants as item

unless_none : (b : Bool) (f : Fault) (o : Option Fault) → unless b f o ≡ None → (b ≡ true) × (o ≡ None)
unless_none true f o e = (refl, e)
unless_none false f o e = cc

pub buffer_count_small : (n : ℕ) → buffer_count_fault n ≡ None → n < 2 ^ 32
unfolding buffer_count_fault
buffer_count_small n e = let h = unless_none _ _ _ e in let t : nat_le n 16 ≡ true = h.0 in grind (arith, nat_tests)

pub sink_count_small : (n : ℕ) → sink_count_fault n ≡ None → n < 2 ^ 32
unfolding sink_count_fault
sink_count_small n e =
    let few : unless (nat_le n 65536) (TooMany item.Sinks) None ≡ None = (unless_none (nat_lt 0 n) NoSink _ e).1 in
    let t : nat_le n 65536 ≡ true = (unless_none (nat_le n 65536) (TooMany item.Sinks) None few).0 in
    grind (arith, nat_tests)

pub block_count_small : (n : ℕ) → block_count_fault n ≡ None → n < 2 ^ 32
unfolding block_count_fault
block_count_small n e = let h = unless_none _ _ _ e in let t : nat_le n 4160 ≡ true = h.0 in grind (arith, nat_tests)

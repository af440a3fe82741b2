-- What holds of each result that is no error, and of what is not refused.
use Rattle.std.proofs.Common.{◌≡◌, Bool, true, false, Option, None, Some, Result, Ok, Err, IfOk, IsErr, refl}
use Rattle.cts_instance.specs.declared.fault.Fault.{Fault}
use Rattle.cts_read.specs.Grammar.{refuse}

not_false : ◌≡◌ {A = Bool} false true → ⊥
not_false e = cc

pub err_passes : {T E : Type 0} (P : T → Type 0) (result : Result T E) → IsErr result → IfOk result P
err_passes P (Ok x) h = absurd (not_false h)
err_passes P (Err e) h = tt

pub not_refused : (fault : Option Fault) → Ok tt ≡ refuse fault → fault ≡ None
not_refused None e = refl
not_refused (Some fault) e = cc

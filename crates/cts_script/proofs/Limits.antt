-- The limits of callers and of what they ask for.
use Rattle.std.proofs.Common.{◌≡◌, ℕ, ◌<◌, ◌&&◌, Bool, true, false, cond, Option, None, Result, Ok, Err, nat_le, nat_eq, List, arith, refl}
use Rattle.std.proofs.lemmas.Bool.{leb-false}
use Rattle.std.specs.List.{filter}
use Rattle.std.proofs.lemmas.Bool.Decides.{nat_tests}
use Rattle.std.proofs.lemmas.List.Elements.{All-filter, All-map}
use Rattle.cts_instance.specs.FirstFault.{unless}
use Rattle.cts_instance.specs.declared.fault.Fault.{Fault as InstanceFault}
use Rattle.cts_instance.specs.declared.fault.Fault.TheVariants.{TooMany}
use Rattle.cts_instance.specs.declared.fault.Item.TheVariants as item
use Rattle.cts_read.specs.declared.stop.Cause.{Cause}
use Rattle.cts_read.specs.declared.stop.Cause.TheVariants.{Fault}
use Rattle.cts_script.specs.declared.script.Act.{Act}
use Rattle.cts_script.specs.declared.step.ScriptLine.{ScriptLine}
use Rattle.cts_script.specs.declared.script.ScriptStep.{ScriptStep}
use Rattle.cts_script.specs.declared.step.Asked.{Asked}
use Rattle.cts_script.specs.Steps.{IsAct, IsCallerCount, callers_fault, limited}
use Rattle.cts_script.specs.Scripts.{AreAsked, AreWithin, steps_of}

unless_none : (b : Bool) (f : InstanceFault) (o : Option InstanceFault) → unless b f o ≡ None → b ≡ true
unless_none true f o e = refl
unless_none false f o e = cc

-- callers that are announced without a fault are from 1 to 16
pub few_callers : (callers : ℕ) → callers_fault callers ≡ None → IsCallerCount callers
unfolding callers_fault
few_callers callers e =
    let t : (nat_le 1 callers && nat_le callers 16) ≡ true = unless_none _ _ _ e in
    record { some = grind (arith, nat_tests); few = grind (arith, nat_tests) }

-- the steps of one caller are within the limits where all are
pub steps_within : (caller : ℕ) (asked : List Asked) → AreAsked asked → AreWithin (steps_of caller asked)
steps_within caller asked within =
    let kept = filter (λ (a : Asked). nat_eq a.caller caller) asked in
    All-map (λ (s : ScriptStep). IsAct s.act) (λ (a : Asked). a.step) kept
    (All-filter (λ (a : Asked). nat_eq a.caller caller) (λ a. IsAct a.step.act) asked within)

-- where a step is within the limits there was room for it
pub room_left : (callers before caller : ℕ) (act : Option Act) (said : ScriptLine) → limited callers before caller act ≡ Ok said → before < 65536
unfolding limited
room_left callers before caller act said e = by_room (nat_le 65536 before) refl _ e
  where
    by_room : (b : Bool) → nat_le 65536 before ≡ b → (other : Result ScriptLine Cause) → cond b (Err (Fault (TooMany (item.Step 65536)))) other ≡ Ok said → before < 65536
    by_room true full other e = absurd (cc)
    by_room false room other e = leb-false 65536 before room

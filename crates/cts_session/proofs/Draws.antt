-- What is made of a version's instance, as what is drawn.
use Rattle.std.proofs.Common.{◌≡◌, ◌⊎◌, ℕ, inr, List, length, Option, Some, None, Result, Ok, Err, IfErr, OnOk, subst, sym, ap, ◌∙◌}
use Rattle.std.specs.Option.{unwrap_or}
use Rattle.cts_instance.specs.declared.parts.Parts.{Parts}
use Rattle.cts_instance.specs.Validity.{with_sinks}
use Rattle.cts_units.specs.declared.params.Sink.{Sink}
use Rattle.cts_topo.specs.declared.shape.ShapeNode.{ShapeNode}
use Rattle.cts_topo.specs.Topology.{shape_of}
use Rattle.cts_plain.specs.declared.end.NoTree.{NoTree}
use Rattle.cts_plain.specs.declared.end.NoTree.TheVariants.{Beyond, Cut, NoMemory}
use Rattle.cts_plain.specs.Ends.{Ends, EndsWithPlan}
use Rattle.cts_plain.specs.Synthesis.{IsSynthesis, beyond, cut}
use Rattle.cts_memo.specs.declared.entry.MemoEntry.{MemoEntry}
use Rattle.cts_memo.specs.Numbers.{AreKnown}
use Rattle.cts_memo.specs.Sound.{max_entries}
use Rattle.cts_work.specs.declared.past.Past.{Past}
use Rattle.cts_work.specs.Last.{IsPast, MayKnow}
use Rattle.cts_edit.specs.declared.edit.Entry.{Entry}
use Rattle.cts_design.specs.Edits.{after}
use Rattle.cts_session.specs.Desks.{version_of}
use Rattle.cts_session.specs.Draws.{EndsDraw, KnowsAtEnd, KnowsTree, KnowsUntil, end_at}

-- what is made of a version's instance is made of the version
pub made_of_version : {X : Type 0} (P : Parts → ℕ → X → Type 0) (v w : ℕ) (i j : Parts) (x : X) → v ≡ w → i ≡ j → P i v x → P j w x
made_of_version P v w i j x same is made_of = subst (λ n. P j n x) same (subst (λ k. P k v x) is made_of)

-- why a version has no tree, as the end of a draw
pub ends_draw : (base : Parts) (edits : List Entry) (version : ℕ) (i : Parts) (why : NoTree) → version ≡ length edits
    → i ≡ version_of base edits → Ends i why → EndsDraw base edits (end_at version why)
ends_draw base edits version i (Beyond node) v is end = (v, subst (λ j. IsSynthesis j (beyond node)) is end)
ends_draw base edits version i (Cut node) v is end = (v, subst (λ j. IsSynthesis j (cut node)) is end)
ends_draw base edits version i NoMemory v is end = tt

-- and what the memo then knows
pub known_at_end : (i j : Parts) (entries : List MemoEntry) (version : ℕ) (why : NoTree) → i ≡ j → KnowsUntil i entries why
    → KnowsAtEnd j entries (end_at version why)
known_at_end i j entries version (Beyond node) is known = subst (λ k. KnowsUntil k entries (Beyond node)) is known
known_at_end i j entries version (Cut node) is known = subst (λ k. KnowsTree k entries) is known
known_at_end i j entries version NoMemory is known = tt

-- the instance of a version, from the sinks that the design lists
pub version_made : (base of_design : Parts) (edits : List Entry) (sinks : List Sink) (i : Parts) → i ≡ with_sinks base sinks
    → sinks ≡ after of_design.sinks edits → of_design ≡ base → i ≡ version_of base edits
version_made base of_design edits sinks i e f g =
    e ∙ ap (with_sinks base) (f ∙ ap (λ (j : Parts). after j.sinks edits) g)

-- why there is no tree over the shape of the sinks
pub end_of_plan : (i : Parts) (shape : List ShapeNode) (why : NoTree) → shape ≡ shape_of i.sinks → EndsWithPlan i shape why → Ends i why
end_of_plan i shape (Beyond node) e h = inr (subst (λ s. EndsWithPlan i s (Beyond node)) e h)
end_of_plan i shape (Cut node) e h = subst (λ s. EndsWithPlan i s (Cut node)) e h
end_of_plan i shape NoMemory e h = tt

-- what the memo knows once the plan is made
pub known_of_plan : (i : Parts) (sinks : List Sink) (shape : List ShapeNode) (entries : List MemoEntry) → sinks ≡ i.sinks → shape ≡ shape_of sinks
    → (length entries ≡ max_entries) ⊎ AreKnown entries sinks shape → KnowsTree i entries
known_of_plan i sinks shape entries e f known =
    subst (λ (l : List Sink). (length entries ≡ max_entries) ⊎ AreKnown entries l (shape_of l)) e
    (subst (λ s. (length entries ≡ max_entries) ⊎ AreKnown entries sinks s) f known)

pub known_where_made : {X : Type 0} (i : Parts) (entries : List MemoEntry) (result : Result X NoTree) → KnowsTree i entries
    → OnOk result (KnowsTree i entries)
known_where_made i entries (Ok r) known = known
known_where_made i entries (Err end) known = tt

pub known_until_end : {X : Type 0} (i : Parts) (entries : List MemoEntry) (result : Result X NoTree) → KnowsTree i entries
    → IfErr result (KnowsUntil i entries)
known_until_end i entries (Ok r) known = tt
known_until_end i entries (Err (Beyond node)) known = inr known
known_until_end i entries (Err (Cut node)) known = known
known_until_end i entries (Err NoMemory) known = tt

-- the sinks of a desk that is closed
pub closed_sinks : (base of_design : Parts) (edits seen : List Entry) (sinks : List Sink) → of_design ≡ base → edits ≡ seen
    → sinks ≡ after of_design.sinks seen → sinks ≡ after base.sinks edits
closed_sinks base of_design edits seen sinks e f g =
    g ∙ (ap (λ (i : Parts). after i.sinks seen) e ∙ ap (after base.sinks) (sym f))

-- what a session keeps of its trees, or nothing
pub past_or : (seen : List MemoEntry) (kept : Option Past) (nothing : Past) → MayKnow seen kept → IsPast seen nothing
    → IsPast seen (unwrap_or kept nothing)
past_or seen None nothing may none = none
past_or seen (Some past) nothing may none = may

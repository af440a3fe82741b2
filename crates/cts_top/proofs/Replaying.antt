-- An input read as an instance and a replay, and the text for the replay.
use Rattle.std.proofs.Common.{◌≡◌, ◌≢◌, ℕ, List, ◌++◌, Option, Result, Ok, Err, IfErr, refl, subst}
use Rattle.cts_instance.specs.declared.parts.Parts.{Parts}
use Rattle.cts_instance.specs.Validity.{IsValid}
use Rattle.cts_read.specs.declared.stop.ReadStop.{ReadStop}
use Rattle.cts_read.specs.declared.stop.ReadStop.TheVariants.{Refused, NoMemory}
use Rattle.cts_read.specs.Grammar.{Left, Refuses}
use Rattle.cts_read.specs.Whole.{instance_of}
use Rattle.cts_tree.specs.declared.nodes.TreeNode.{TreeNode}
use Rattle.cts_elmore.specs.declared.figures.Figures.{Figures}
use Rattle.cts_plain.specs.declared.end.NoTree.{NoTree}
use Rattle.cts_plain.specs.declared.end.NoTree.TheVariants as end
use Rattle.cts_edit.specs.declared.edit.Entry.{Entry}
use Rattle.cts_undo.specs.Replay.{opening}
use Rattle.cts_report.specs.Report.{report_text}
use Rattle.cts_script.specs.declared.replay.ReplayStep.{ReplayStep}
use Rattle.cts_script.specs.Replays.{replay_at}
use Rattle.cts_undo.specs.declared.reply.ReplayReply.{ReplayReply}
use Rattle.cts_undo.specs.Answers.{AreReplies}
use Rattle.cts_undo.specs.ReplayText.{replay_text}
use Rattle.cts_top.specs.declared.stop.Answer.{Answer}
use Rattle.cts_top.specs.declared.stop.Stop.{Stop}
use Rattle.cts_top.specs.Replay.{TellsReplay, TellsReplayed, done_at_end, replayed_of, version_at_end}
use Rattle.cts_top.specs.Synthesised.{IsSynthesised}
use Rattle.cts_top.specs.Text.{TellsSynthesis}
use Rattle.cts_top.specs.Written.{Answers}
use Rattle.cts_top.proofs.Editing.{some_text}

pub replay_read : (bytes : List ℕ) (x : Parts × ℕ) (left : Left) (asked : List ReplayStep) → instance_of bytes ≡ Ok (x, left)
    → replay_at left ≡ Ok asked → replayed_of bytes ≡ Ok (x.0, asked)
unfolding replayed_of
replay_read bytes x left asked e f = rw (e, f) refl

pub front_of_replay_refused : (bytes : List ℕ) (stop : ReadStop) → Refuses stop (instance_of bytes) → Refuses stop (replayed_of bytes)
unfolding replayed_of
front_of_replay_refused bytes (Refused line cause) e = rw e refl
front_of_replay_refused bytes NoMemory e = tt

pub replay_refused : (bytes : List ℕ) (x : Parts × ℕ) (left : Left) (stop : ReadStop) → instance_of bytes ≡ Ok (x, left)
    → Refuses stop (replay_at left) → Refuses stop (replayed_of bytes)
unfolding replayed_of
replay_refused bytes x left (Refused line cause) e f = rw (e, f) refl
replay_refused bytes x left NoMemory e f = tt

-- the text for changes and replies, once they stand before the text for the synthesis
pub replayed_told : (version : Parts) (done : List Entry) (replies : List ReplayReply) (kind : Answer) (text : List ℕ)
    → TellsSynthesis report_text version kind text → TellsReplayed version done replies kind (replay_text done replies ++ text)
replayed_told version done replies kind text tells = record { report = text; tells = tells; told = refl }

-- whatever the sink took of the changes and replies, there is a text that begins with it
pub some_replayed : (version : Parts) → IsValid version → (done : List Entry) (replies : List ReplayReply)
    (result : Result (List TreeNode × Figures) NoTree) → IsSynthesised version result → IfErr result (λ why. why ≢ end.NoMemory)
    → (kind : Answer) × (text : List ℕ) × TellsReplayed version done replies kind (replay_text done replies ++ text)
some_replayed version valid done replies result s told =
    let some = some_text version valid result s told in
    (some.0, some.1, replayed_told version done replies some.0 some.1 some.2)

-- the text of a replay, with what makes its replies right
pub replay_told : {K : Type 0} {held : K → Option (List ℕ)} {faults : K → ℕ} (old new : K) (i : Parts) (asked : List ReplayStep)
    (version : Parts) (done : List Entry) (replies : List ReplayReply) → version ≡ version_at_end i asked → done ≡ done_at_end i asked
    → AreReplies (opening i) asked replies → (result : Result Answer Stop)
    → Answers (TellsReplayed version done replies) held faults old new result → Answers (TellsReplay i asked) held faults old new result
replay_told old new i asked version done replies is_version is_done right (Ok kind) a = record {
  done = (
    a.done.0,
    record {
      replies = replies;
      right = right;
      told = subst (λ v. TellsReplayed v (done_at_end i asked) replies kind a.done.0) is_version
          (subst (λ d. TellsReplayed version d replies kind a.done.0) is_done a.done.1);
    },
    a.done.2,
  );
  in_part = λ e. cc;
  rose = λ e. cc;
  kept = tt;
  counted = a.counted;
}
replay_told old new i asked version done replies is_version is_done right (Err end) a = record {
  done = tt;
  in_part = λ e.
      let p = a.in_part e in (
        p.0,
        p.1,
        p.2,
        record {
          replies = replies;
          right = right;
          told = subst (λ v. TellsReplayed v (done_at_end i asked) replies p.0 p.1) is_version
              (subst (λ d. TellsReplayed version d replies p.0 p.1) is_done p.3);
        },
        p.4,
      );
  rose = a.rose;
  kept = a.kept;
  counted = a.counted;
}

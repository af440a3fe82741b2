-- What `edit` writes comes to the instance of its report.
use Rattle.std.proofs.Common.{List, refl}
use Rattle.cts_instance.specs.declared.parts.Parts.{Parts}
use Rattle.cts_instance.specs.Validity.{IsValid}
use Rattle.cts_topo.specs.Topology.{shape_of}
use Rattle.cts_tree.specs.declared.nodes.TreeNode.{TreeNode}
use Rattle.cts_elmore.specs.declared.figures.Figures.{Figures}
use Rattle.cts_elmore.specs.Figures.{AreFigures}
use Rattle.cts_plain.specs.Synthesis.{IsSynthesis, made}
use Rattle.cts_plain.proofs.Sound.{tree_ok, trees_sound}
use Rattle.cts_plain.proofs.FewCorners.{trees_few_corners}
use Rattle.cts_plain.proofs.Valid.{shape_over}
use Rattle.cts_edit.proofs.Validities.{sound_valid}
use Rattle.cts_report.specs.Report.{report_text}
use Rattle.cts_check.specs.declared.verdict.Verdict.TheVariants.{Yes}
use Rattle.cts_check.specs.Verdict.{IsVerdict}
use Rattle.cts_check.proofs.Accepted.{accepted}
use Rattle.cts_history.proofs.Openings.{history_texts_open_lem}
use Rattle.cts_after.specs.Outcomes.{instance_after}
use Rattle.cts_after.specs.Laws.{EditsGoOn}

-- the report of a synthesis has the verdict Yes
right_report : (i : Parts) (tree : List TreeNode) (figures : Figures) → IsValid i → IsSynthesis i (made tree) → AreFigures i tree figures
    → IsVerdict i (report_text i.version tree figures) Yes
right_report i tree figures valid is are =
    let over = shape_over i valid in
    let sound = trees_sound i (shape_of i.sinks) tree valid over is in
    accepted i tree figures valid (tree_ok i (shape_of i.sinks) tree valid over is) (sound.2) (sound.0)
    (trees_few_corners i (shape_of i.sinks) tree valid over is) are

pub edits_go_on_lem : EditsGoOn
edits_go_on_lem bytes i history replies tree figures valid sound fits is are front =
    let version = instance_after i history in (
      record {
        instance = i;
        history = history;
        spells = record {
          rest = _;
          front = front;
          opens = history_texts_open_lem history replies (report_text version.version tree figures) fits;
        };
        is_outcome = (sound, refl);
      },
      right_report version tree figures (sound_valid i history valid sound) is are,
    )

use Rattle.std.proofs.Common.{◌≡◌, None, sym, ap, ◌∙◌}
use Rattle.cts_edit.specs.Edits.{has_id}
use Rattle.cts_edit.specs.Decide.{id_of, is_known, decide}
use Rattle.cts_edit.specs.Journals.{base_of, told_by}
use Rattle.cts_edit.proofs.Histories.{accepted_passes, keeps_on}
use Rattle.cts_edit.proofs.journal.Journal.change.Goals as goal

pub append-requires-clause-new : goal.append-requires-clause-new
append-requires-clause-new c =
    let none : decide (base_of c.args.self.now) (told_by c.args.self.now) c.args.entry.edit ≡ None = sym c.in_default.ensures in
    ap (λ s. is_known (has_id (id_of c.args.entry.edit) s) c.args.entry.edit) c.args.self.now.kept
    ∙ (accepted_passes (base_of c.args.self.now) (told_by c.args.self.now) c.args.entry.edit none).known

pub invariant_of-self : goal.invariant_of-self
invariant_of-self c =
    let journal = c.args.self.now in
    let none : decide (base_of journal) (told_by journal) c.args.entry.edit ≡ None = sym c.in_default.ensures in
    let e = c.append.ensures in
    let keeps = keeps_on (base_of journal) (told_by journal) c.append.new.history.items journal.sinks c.append.new.sinks c.args.entry c.append.result
    (record { kept = journal.kept; sound = journal.sound; short = journal.short }) (record { within = c.requires; accepted = none })
    e.history e.sinks e.same_history e.same_sinks in
    record {
      valid = journal.valid;
      same_die = journal.same_die;
      same_walls = journal.same_walls;
      kept = keeps.kept;
      sound = keeps.sound;
      short = keeps.short;
    }

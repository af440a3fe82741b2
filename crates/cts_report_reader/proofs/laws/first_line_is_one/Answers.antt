use Rattle.cts_report.specs.Lines.{report_lines}
use Rattle.cts_report_reader.specs.Bounds.{IsReport}
use Rattle.cts_report_reader.proofs.Wholes.{first_line_is_one}
use Rattle.cts_report_reader.proofs.laws.first_line_is_one.Goals as goal

pub returns : goal.returns
returns c = λ form bytes line other. first_line_is_one (IsReport form) (report_lines form.version) bytes line other

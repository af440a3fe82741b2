use Rattle.cts_report.specs.Lines.{report_lines}
use Rattle.cts_report_reader.specs.Bounds.{IsReport}
use Rattle.cts_report_reader.specs.Whole.{report_at}
use Rattle.cts_report_reader.proofs.ReportPieces.{report_piece}
use Rattle.cts_report_reader.proofs.Wholes.{pieces_are_unique}
use Rattle.cts_report_reader.proofs.laws.report_is_unique.Goals as goal

pub returns : goal.returns
returns c = λ form bytes printed other few.
    pieces_are_unique (IsReport form) (report_lines form.version) (report_at form) (report_piece form few) bytes printed other

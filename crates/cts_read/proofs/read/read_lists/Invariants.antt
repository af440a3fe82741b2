use Rattle.cts_read.specs.Items.{block_count_of, buffer_count_of, sink_count_of}
use Rattle.cts_read.proofs.read.read_lists.Given as goal

-- how many lines each list has
abbrev pub ghost-read_line : goal.ghost-read_line
ghost-read_line a = buffer_count_of

abbrev pub ghost-read_line-2 : goal.ghost-read_line-2
ghost-read_line-2 a = sink_count_of

abbrev pub ghost-read_line-3 : goal.ghost-read_line-3
ghost-read_line-3 a = block_count_of

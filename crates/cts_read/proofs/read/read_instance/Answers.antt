use Rattle.cts_read.proofs.Errors.{err_passes}
use Rattle.cts_read.proofs.read.read_instance.Goals as goal

pub returns-in_err-head-clause-read : goal.returns-in_err-head-clause-read
returns-in_err-head-clause-read c = err_passes _ c.from_residual.result c.from_residual.ensures.0

pub returns-in_err-head-clause-within : goal.returns-in_err-head-clause-within
returns-in_err-head-clause-within c = err_passes _ c.from_residual.result c.from_residual.ensures.0

pub returns-in_err-head-clause-lines : goal.returns-in_err-head-clause-lines
returns-in_err-head-clause-lines c = err_passes _ c.from_residual.result c.from_residual.ensures.0

pub returns-in_err-head-clause-ends : goal.returns-in_err-head-clause-ends
returns-in_err-head-clause-ends c = err_passes _ c.from_residual.result c.from_residual.ensures.0

pub returns-in_err-head-clause-used : goal.returns-in_err-head-clause-used
returns-in_err-head-clause-used c = err_passes _ c.from_residual.result c.from_residual.ensures.0

pub returns-in_err-lists-clause-read : goal.returns-in_err-lists-clause-read
returns-in_err-lists-clause-read c = err_passes _ c.from_residual-in_err-lists.result c.from_residual-in_err-lists.ensures.0

pub returns-in_err-lists-clause-within : goal.returns-in_err-lists-clause-within
returns-in_err-lists-clause-within c = err_passes _ c.from_residual-in_err-lists.result c.from_residual-in_err-lists.ensures.0

pub returns-in_err-lists-clause-lines : goal.returns-in_err-lists-clause-lines
returns-in_err-lists-clause-lines c = err_passes _ c.from_residual-in_err-lists.result c.from_residual-in_err-lists.ensures.0

pub returns-in_err-lists-clause-ends : goal.returns-in_err-lists-clause-ends
returns-in_err-lists-clause-ends c = err_passes _ c.from_residual-in_err-lists.result c.from_residual-in_err-lists.ensures.0

pub returns-in_err-lists-clause-used : goal.returns-in_err-lists-clause-used
returns-in_err-lists-clause-used c = err_passes _ c.from_residual-in_err-lists.result c.from_residual-in_err-lists.ensures.0

pub returns-in_err-end-clause-read : goal.returns-in_err-end-clause-read
returns-in_err-end-clause-read c = err_passes _ c.from_residual-in_err-end.result c.from_residual-in_err-end.ensures.0

pub returns-in_err-end-clause-within : goal.returns-in_err-end-clause-within
returns-in_err-end-clause-within c = err_passes _ c.from_residual-in_err-end.result c.from_residual-in_err-end.ensures.0

pub returns-in_err-end-clause-lines : goal.returns-in_err-end-clause-lines
returns-in_err-end-clause-lines c = err_passes _ c.from_residual-in_err-end.result c.from_residual-in_err-end.ensures.0

pub returns-in_err-end-clause-ends : goal.returns-in_err-end-clause-ends
returns-in_err-end-clause-ends c = err_passes _ c.from_residual-in_err-end.result c.from_residual-in_err-end.ensures.0

pub returns-in_err-end-clause-used : goal.returns-in_err-end-clause-used
returns-in_err-end-clause-used c = err_passes _ c.from_residual-in_err-end.result c.from_residual-in_err-end.ensures.0

pub assembled-requires-clause-head : goal.assembled-requires-clause-head
assembled-requires-clause-head c = c.in_ok-head.ensures.sound

pub assembled-requires-clause-lists : goal.assembled-requires-clause-lists
assembled-requires-clause-lists c = c.in_ok-lists.ensures.sound

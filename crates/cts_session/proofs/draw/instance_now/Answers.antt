use Rattle.std.proofs.Common.{subst}
use Rattle.cts_instance.specs.Validity.{IsValid, with_sinks}
use Rattle.cts_design.specs.Passes.{instance_of}
use Rattle.cts_session.proofs.Draws.{version_made}
use Rattle.cts_session.proofs.draw.instance_now.Goals as goal

pub with_sinks-requires : goal.with_sinks-requires
with_sinks-requires g c =
    subst (λ i. IsValid (with_sinks i c.in_ok-version.sinks.items)) c.requires.base c.in_ok-version.ensures.valid

pub returns-clause-version : goal.returns-clause-version
returns-clause-version g c = c.in_ok-version.ensures.version

pub returns-clause-instance : goal.returns-clause-instance
returns-clause-instance g c =
    version_made c.args.instance.now (instance_of c.args.design.now) c.snapshot.new.pass.seat.me.0.seen c.in_ok-version.sinks.items
    c.in_ok-instance.instance c.in_ok-instance.ensures.same c.in_ok-version.ensures.sinks c.requires.base

pub returns-clause-valid : goal.returns-clause-valid
returns-clause-valid g c = c.in_ok-instance.ensures.valid

use Rattle.cts_callers.proofs.Serving.{served_one}
use Rattle.cts_callers.proofs.callers.run_one.Goals as goal

pub returns : goal.returns
returns g c =
    served_one c.args.desk.now c.args.hands c.args.caller c.args.script.now c.of-session.result c.go_alone-replies.new.session _ c.go_alone-replies.result
    c.of-session.ensures c.hands.ensures.same c.hands.ensures.own c.go_alone-replies.ensures.desk c.go_alone-replies.ensures.keeps
    c.go_alone-replies.ensures.answered c.only.ensures

use Rattle.std.proofs.Common.{codes}
use Rattle.body_infer.proofs.Telling.{no_param}
use Rattle.body_infer.proofs.text.param_name.Goals as goal

pub returns-in-None-get : goal.returns-in-None-get
returns-in-None-get c =
    no_param c.args.of_class.now c.args.own.now c.args.number (codes "?") (c.in-None.ensures.lookup).3 (c.in-None-get.ensures.lookup).3

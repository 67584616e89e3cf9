use Rattle.std.proofs.Common.{◌≡◌, false, length, get_or, replicate, ap, ◌∙◌, arith}
use Rattle.std.proofs.lemmas.Grind.{common_steps}
use Rattle.decl_headers.specs.Rounds.{all_rounds}
use Rattle.decl_headers.proofs.Cycles.{rounds_tell}
use Rattle.decl_headers.proofs.rounds.going_round.Goals as goal

pub returns : goal.returns
returns c =
    let parents = c.args.parents.now in
    let jumps = c.in_ok-jumps.jumps in
    let far = c.in_ok-jumps.ensures in
    let made : c.from_vec.result ≡ all_rounds (replicate (length parents) false) jumps = grind (arith, common_steps) in
    λ at. ap (λ rounds. get_or rounds at false) made ∙ rounds_tell parents jumps far.0 far.1 far.2 at

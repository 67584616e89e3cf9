use Rattle.std.proofs.Common.{IsTrue, subst}
use Rattle.lang_base.specs.Branches.{lists_clash}
use Rattle.lang_base.specs.Pairs.{FirstPair}
use Rattle.region_interfere.specs.Nd.{plain_nd}
use Rattle.region_interfere.proofs.Transport.{first_pair-thinned}
use Rattle.region_interfere.proofs.meeting.first_meeting.Goals as goal

pub returns : goal.returns
returns c =
    let given = c.args.given.now in
    let nd = plain_nd c.args.nd in
    let pair = c.first_pair-2.result in
    first_pair-thinned given nd c.args.branches.now c.in_ok-left.left c.in_ok-left.ensures pair
    (subst (λ left. FirstPair (λ es fs. IsTrue (lists_clash given nd es fs)) left pair) c.as_slice-2.ensures c.first_pair-2.ensures)

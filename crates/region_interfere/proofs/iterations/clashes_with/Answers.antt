use Rattle.lang_base.specs.Branches.{some_clashes}
use Rattle.region_interfere.specs.Groups.{key_of}
use Rattle.region_interfere.specs.InGroups.{in_group, in_no_group}
use Rattle.region_interfere.specs.Nd.{plain_nd}
use Rattle.region_interfere.proofs.InGroups.{clashes-by_group, one-tells, other-tells}
use Rattle.region_interfere.proofs.iterations.clashes_with.Goals as goal

pub returns-then-some_clashes : goal.returns-then-some_clashes
returns-then-some_clashes c =
    let given = c.args.given.now in
    let nd = plain_nd c.args.nd in
    let e = c.args.e.now in
    let key = c.args.others.now.0 in
    let fs = c.args.others.now.1 in
    one-tells (some_clashes given nd e) fs (in_group key (key_of key e) fs) (in_no_group key (key_of key e) fs) c.in_group.result.now c.some_clashes.result
    (clashes-by_group given nd key e fs) c.some_clashes.ensures c.in_group.ensures c.if-some_clashes.true

pub returns-else-some_clashes : goal.returns-else-some_clashes
returns-else-some_clashes c =
    let given = c.args.given.now in
    let nd = plain_nd c.args.nd in
    let e = c.args.e.now in
    let key = c.args.others.now.0 in
    let fs = c.args.others.now.1 in
    other-tells (some_clashes given nd e) fs (in_group key (key_of key e) fs) (in_no_group key (key_of key e) fs) c.in_group.result.now c.in_no_group.result.now c.some_clashes.result c.some_clashes-else-some_clashes.result
    (clashes-by_group given nd key e fs) c.some_clashes.ensures c.in_group.ensures c.if-some_clashes.false c.some_clashes-else-some_clashes.ensures c.in_no_group.ensures

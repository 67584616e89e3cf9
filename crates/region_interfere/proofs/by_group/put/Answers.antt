use Rattle.std.proofs.Common.{◌∙◌, ◌++◌, ◌∷◌, [], Some, cond, is_some, ap, sym}
use Rattle.std.specs.Prelude.{unwrap_or}
use Rattle.indexmap.specs.IndexMap.{get_by}
use Rattle.lang_base.specs.Keys.{elems_eq}
use Rattle.region_interfere.proofs.InGroups.{put-there}
use Rattle.region_interfere.proofs.by_group.put.Goals as goal

pub returns-in-Some : goal.returns-in-Some
returns-in-Some c = λ q.
    let found = c.in-Some.ensures.value in
    let written = (c.get_mut.follows.holds c.push.new.self).3 (sym (ap is_some found)) in
    put-there c.args.keyed.now (c.get_mut.follows.lender c.push.new.self) c.args.common.now q c.in-Some.group.now c.push.new.self c.args.e
    (written.0 (record c.args.common { now = q }))
    c.in_ok-push.ensures.ok
    (ap (λ o. unwrap_or o []) (sym found))

pub returns : goal.returns
returns c = λ q.
    let common = c.args.common.now in
    let w = c.push-2.new.self in
    put-there c.args.keyed.now c.insert.new.self common q [] w c.args.e
    (c.in_ok-insert.ensures.updates.0 (record c.args.common { now = q })
    ∙ ap (λ m. cond (elems_eq common q) (Some w) (get_by (λ k. elems_eq q k.now) m)) c.get_mut.follows.holds-at-none)
    (c.in_ok-push-2.ensures.ok ∙ ap (λ z. z ++ c.args.e ∷ []) c.new-group.ensures)
    (ap (λ o. unwrap_or o []) (sym c.in_default.ensures.value))

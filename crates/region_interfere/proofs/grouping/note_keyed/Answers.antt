use Rattle.std.proofs.Common.{◌∙◌, ap, cond}
use Rattle.std.specs.Prelude.{unwrap_or}
use Rattle.lang_base.specs.Keys.{elems_eq}
use Rattle.region_interfere.specs.Groups.{no_group, group_with, keyed_group}
use Rattle.region_interfere.proofs.Noted.{unwrapped, cond_at}
use Rattle.region_interfere.proofs.grouping.note_keyed.Goals as goal

pub returns : goal.returns
returns c = λ q.
    let common = c.args.common.now in
    let old = keyed_group c.args.keyed.now in
    ap (λ o. unwrap_or o no_group) (c.in_ok-insert.ensures.updates.0 (record c.args.common { now = q }))
    ∙ unwrapped (elems_eq common q) c.with-group.result no_group _
    ∙ ap (λ g. cond (elems_eq common q) g (old q)) (c.with-group.ensures ∙ ap (λ g. group_with g c.args.branch c.args.access) c.keyed_group.ensures)
    ∙ cond_at common q (λ p. group_with (old p) c.args.branch c.args.access) (old q)

use Rattle.std.proofs.Common.{◌∙◌, cond, ap, refl}
use Rattle.region_interfere.specs.Groups.{is_key, group_with, keyed_group, with_unkeyed}
use Rattle.region_interfere.proofs.grouping.note.Goals as goal

pub returns-in_ok-note_keyed-in-Some : goal.returns-in_ok-note_keyed-in-Some
returns-in_ok-note_keyed-in-Some c =
    let old = c.args.groups.now in
    record {
      key = refl;
      all = c.with-groups.ensures;
      unkeyed = ap (λ o. with_unkeyed o old.unkeyed c.args.branch c.args.e.now.access) c.in-Some.ensures;
      keyed = λ q.
          c.in_ok-note_keyed-in-Some.ensures q
          ∙ ap (λ o. cond (is_key o q) (group_with (keyed_group old.keyed q) c.args.branch c.args.e.now.access) (keyed_group old.keyed q)) c.in-Some.ensures;
    }

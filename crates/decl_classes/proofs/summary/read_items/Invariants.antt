use Rattle.std.proofs.Common.{◌≡◌, drop}
use Rattle.lang_base.specs.Effects.{gathered}
use Rattle.decl_headers.specs.Faults.{all_noted}
use Rattle.decl_resolve.specs.Scopes.{plain_scope}
use Rattle.decl_classes.specs.Signatures.{effects_meant, item_faults}
use Rattle.decl_classes.proofs.summary.read_items.Given as goal

abbrev pub invariant-loop-item : goal.invariant-loop-item
invariant-loop-item l =
    let scope = plain_scope l.scope in
    record {
      summary : gathered l.summary (effects_meant scope l.access (drop l.item-index l.items)) ≡ gathered l.initial.summary (effects_meant scope l.access l.items);
      noted : all_noted l.faults (item_faults scope (drop l.item-index l.items)) ≡ all_noted l.initial.faults (item_faults scope l.items);
    }

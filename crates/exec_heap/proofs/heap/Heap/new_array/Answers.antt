-- The vectors have grown by the array.
use Rattle.std.proofs.Common.{◌+◌, length, replicate, sym, ap, ◌∙◌}
use Rattle.std.proofs.lemmas.List.{length-replicate}
use Rattle.exec_heap.specs.Heap.{Contents, array, with_object}
use Rattle.exec_heap.proofs.Flat.{length-objects_in}
use Rattle.exec_heap.proofs.Made.{object_grown, flat_grown, filled, array_counted}
use Rattle.exec_heap.proofs.heap.Heap.new_array.Goals as goal

pub invariant_of-self-2 : goal.invariant_of-self-2
invariant_of-self-2 c =
    flat_grown _ (replicate c.args.len c.args.first) c.prepare.new.cells.items _ _ _ _ _ _ _ c.in_ok-regions.regions _ _ _
    (record {
      roomy_cells = c.in_ok-prepare.ensures.cells.0;
      new_cells_are = c.in_ok-resize.ensures.items
          ∙ filled c.prepare.new.cells.items c.args.len c.len-start.result _ c.args.first (c.len-start.ensures ∙ sym c.in_ok-prepare.ensures.cells.1
          ∙ c.prepare.new.cells.ok.0) c.prepare.new.cells.ok.0;
      roomy_hs = c.in_ok-prepare.ensures.headers.0;
      new_hs_are = c.in_ok-push.ensures.items;
      start = c.len-start.ensures ∙ c.self.inside.cells.ok.0;
      len = sym (length-replicate c.args.len c.args.first);
    })
    c.self.invariant c.in_ok-prepare.ensures.ok (ap length c.in_ok-regions.ensures)
    (ap (λ n. 1 + n) (c.from-asked.ensures ∙ sym (length-replicate c.args.len c.args.first))) c.if-self-asked.false

pub returns-clause-number : goal.returns-clause-number
returns-clause-number c = c.len-object.ensures ∙ c.self.inside.headers.ok.0 ∙ sym (length-objects_in _ _ _) ∙ ap (λ heap. length heap.objects) c.self.view_is

pub returns-clause-made : goal.returns-clause-made
returns-clause-made c =
    array_counted _ _ c.self.inside.used _ _ c.self.inside.limit c.args.first c.in_ok-regions.regions c.args.pattern
    (object_grown _ (replicate c.args.len c.args.first) c.prepare.new.cells.items _ _ _ _ _ _ _ c.in_ok-regions.regions _ _
    (record {
      roomy_cells = c.in_ok-prepare.ensures.cells.0;
      new_cells_are = c.in_ok-resize.ensures.items
          ∙ filled c.prepare.new.cells.items c.args.len c.len-start.result _ c.args.first (c.len-start.ensures ∙ sym c.in_ok-prepare.ensures.cells.1
          ∙ c.prepare.new.cells.ok.0) c.prepare.new.cells.ok.0;
      roomy_hs = c.in_ok-prepare.ensures.headers.0;
      new_hs_are = c.in_ok-push.ensures.items;
      start = c.len-start.ensures
          ∙ c.self.inside.cells.ok.0;
      len = sym (length-replicate c.args.len c.args.first);
    })
    c.self.invariant c.in_ok-prepare.ensures.ok)
    c.from-asked.ensures c.in_ok-regions.ensures
    ∙ ap (λ (heap : Contents). with_object heap (array c.args.pattern (replicate c.args.len c.args.first))) c.self.view_is

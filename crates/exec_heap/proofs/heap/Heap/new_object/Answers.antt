-- The vectors have grown by the object.
use Rattle.std.proofs.Common.{sym, ap, ap₂, ◌∙◌, length, map, ◌+◌}
use Rattle.std.proofs.lemmas.List.{length-map}
use Rattle.lang_base.specs.FirstValues.{constant_of}
use Rattle.exec_heap.specs.Heap.{Contents, instance, with_object}
use Rattle.exec_heap.proofs.Flat.{length-objects_in}
use Rattle.exec_heap.proofs.Made.{object_grown, flat_grown}
use Rattle.exec_heap.proofs.heap.Heap.new_object.Goals as goal

pub invariant_of-self-2 : goal.invariant_of-self-2
invariant_of-self-2 c =
    flat_grown _ (map constant_of c.args.fields.now) _ _ _ _ _ _ _ _ c.args.regions _ _ _
    (record {
      roomy_cells = c.in_ok-prepare.ensures.cells.0;
      new_cells_are = c.hold_first.ensures;
      roomy_hs = c.in_ok-prepare.ensures.headers.0;
      new_hs_are = c.in_ok-push.ensures.items;
      start = c.len.ensures ∙ c.self.inside.cells.ok.0;
      len = sym (length-map c.args.fields.now constant_of);
    })
    c.self.invariant c.in_ok-prepare.ensures.ok tt (ap (λ n. 1 + n) (sym (length-map c.args.fields.now constant_of))) c.if-self-asked.false

pub returns-clause-number : goal.returns-clause-number
returns-clause-number c = c.len-object.ensures ∙ c.self.inside.headers.ok.0 ∙ sym (length-objects_in _ _ _) ∙ ap (λ heap. length heap.objects) c.self.view_is

pub returns-clause-made : goal.returns-clause-made
returns-clause-made c =
    ap₂ (λ os n. record { objects = os; used = c.self.inside.used + (1 + n); limit = c.self.inside.limit })
    (object_grown _ (map constant_of c.args.fields.now) _ _ _ _ _ _ _ _ c.args.regions _ _
    (record {
      roomy_cells = c.in_ok-prepare.ensures.cells.0;
      new_cells_are = c.hold_first.ensures;
      roomy_hs = c.in_ok-prepare.ensures.headers.0;
      new_hs_are = c.in_ok-push.ensures.items;
      start = c.len.ensures ∙ c.self.inside.cells.ok.0;
      len = sym (length-map c.args.fields.now constant_of);
    })
    c.self.invariant c.in_ok-prepare.ensures.ok)
    (sym (length-map c.args.fields.now constant_of))
    ∙ ap (λ (heap : Contents). with_object heap (instance c.args.class c.args.regions (map constant_of c.args.fields.now))) c.self.view_is

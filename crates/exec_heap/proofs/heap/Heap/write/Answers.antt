-- A write within a header's values, and past them.
use Rattle.std.proofs.Common.{◌≡◌, length, sym, ap, ◌∙◌, arith, refl}
use Rattle.exec_heap.specs.Heap.{Contents, object_at, values_of, no_object, written}
use Rattle.exec_heap.proofs.Flat.{number_of_header, header_at, count_of_values, written_at}
use Rattle.exec_heap.proofs.heap.Heap.write.Goals as goal

pub index-header-requires : goal.index-header-requires
index-header-requires c = (number_of_header _ _ _ _ _ _ (ap (λ heap. heap.objects) c.self.view_is) c.self.inside.headers.ok.0 c.requires).0

pub returns-then-index-header-clause-within : goal.returns-then-index-header-clause-within
returns-then-index-header-clause-within c =
    let there = number_of_header _ _ _ _ _ _ (ap (λ heap. heap.objects) c.self.view_is) c.self.inside.headers.ok.0 c.requires in
    let count = count_of_values _ _ _ _ c.index-header.result.now no_object c.self.invariant.follow there.1 c.index-header.ensures in
    let now : length (values_of (object_at c.args.self.now c.args.object)) ≡ c.index-header.result.now.len
    = ap (λ (heap : Contents). length (values_of (object_at heap c.args.object))) (sym c.self.view_is) ∙ count in
    ((λ h. cc), (λ h. absurd (omega arith)))

pub index_mut-requires : goal.index_mut-requires
index_mut-requires c =
    let there = number_of_header _ _ _ _ _ _ (ap (λ heap. heap.objects) c.self.view_is) c.self.inside.headers.ok.0 c.requires in
    let fits = header_at _ _ _ c.index-header.result.now c.self.invariant.follow there.1 c.index-header.ensures in
    omega (arith, c.self.inside.cells.ok.0)

pub returns-clause-within : goal.returns-clause-within
returns-clause-within c =
    let there = number_of_header _ _ _ _ _ _ (ap (λ heap. heap.objects) c.self.view_is) c.self.inside.headers.ok.0 c.requires in
    let count = count_of_values _ _ _ _ c.index-header.result.now no_object c.self.invariant.follow there.1 c.index-header.ensures in
    let now : length (values_of (object_at c.args.self.now c.args.object)) ≡ c.index-header.result.now.len
    = ap (λ (heap : Contents). length (values_of (object_at heap c.args.object))) (sym c.self.view_is) ∙ count in
    ((λ h. omega arith), (λ h. refl))

pub returns-clause-done : goal.returns-clause-done
returns-clause-done c =
    let there = number_of_header _ _ _ _ _ _ (ap (λ heap. heap.objects) c.self.view_is) c.self.inside.headers.ok.0 c.requires in
    let done = written_at _ _ _ _ _ c.index-header.result.now no_object c.args.value c.self.invariant.follow there.1 c.index-header.ensures
    c.if-index-header.false in
    λ h. ap (λ os. record { objects = os; used = c.self.inside.used; limit = c.self.inside.limit }) done
    ∙ ap (λ (heap : Contents). written heap c.args.object c.args.index c.args.value) c.self.view_is

use Rattle.std.proofs.Common.{◌≡◌, ◌-◌, ◌∙◌, ◌++◌, ap, ap₂, sym, map, [], slice_index_or, subst, ◌<◌, arith}
use Rattle.std.proofs.lemmas.List.{append-nil}
use Rattle.std.specs.List.{range_with_len}
use Rattle.decl_headers.specs.Headers.{class_count}
use Rattle.decl_headers.specs.Numbers.{as_number}
use Rattle.lang_typed.specs.Names.{named_class}
use Rattle.lang_typed.specs.Plain.{plain_field as typed_field}
use Rattle.decl_table.specs.Inherited.{members_in}
use Rattle.body_assembly.specs.Assembled.{field_of, own_class, own_class_of, class_from}
use Rattle.body_assembly.specs.Named.{class_named}
use Rattle.body_assembly.proofs.Lists.{each_at, one_made}
use Rattle.body_assembly.proofs.Inheriting.{inherit_all}
use Rattle.body_assembly.proofs.classes.classes.Goals as goal

pub loop-at-preserved : goal.loop-at-preserved
loop-at-preserved c =
    let below = subst (λ n. c.loop-at.at < n) (c.len-at-end.ensures ∙ ap class_count c.headers.ensures) c.loop-at-test.true in
    let fields = c.in_ok-fields-2.ensures ∙ ap (map field_of) (c.in_ok-fields.ensures.declared c.loop-at.at (omega (arith, below, c.in_ok-fields.ensures.as_many))) in
    let rows = c.in_ok-rows-2.ensures ∙ ap (λ all. slice_index_or all c.loop-at.at []) c.in_ok-rows.ensures.made ∙ each_at (members_in c.args.table.now) 0 _ c.loop-at.at c.loop-at.at [] below (omega arith) in
    record {
      made = one_made own_class (own_class_of c.args.table.now) c.loop-at.made c.push.new.self c.in_ok-class.field-0 c.loop-at.at c.len-at-end.result c.loop-at-test.true c.in_ok-push.ensures.ok
          (c.in_ok-class.ensures.made ∙ ap (λ n. class_from c.args.table.now n (map typed_field c.in_ok-fields-2.fields) (map (λ row. row.number) c.in_ok-rows-2.rows)) c.number_at.ensures
          ∙ ap₂ (λ f r. class_from c.args.table.now (as_number c.loop-at.at) f r) fields rows)
          ∙ c.loop-at.invariant.made;
      named = one_made named_class (λ at. class_named c.args.table.now c.args.names.now (as_number at)) c.loop-at.made c.push.new.self c.in_ok-class.field-0 c.loop-at.at c.len-at-end.result
          c.loop-at-test.true c.in_ok-push.ensures.ok (c.in_ok-class.ensures.named ∙ ap (class_named c.args.table.now c.args.names.now) c.number_at.ensures)
          ∙ c.loop-at.invariant.named;
    }

pub returns-clause-made : goal.returns-clause-made
returns-clause-made c =
    let table = c.args.table.now in
    let end = c.len-at-end.ensures ∙ ap class_count c.headers.ensures in
    let none : 0 ≡ c.len-at-end.result - c.loop-at.at = omega (arith, c.loop-at-test.false) in
    inherit_all table c.in_ok-rows.ensures.forest c.loop-at.made
    (sym (append-nil (map own_class c.loop-at.made))
    ∙ ap (λ n. map own_class c.loop-at.made ++ map (own_class_of table) (range_with_len c.loop-at.at n)) none
    ∙ c.loop-at.invariant.made ∙ ap (λ n. map (own_class_of table) (range_with_len 0 n)) end)

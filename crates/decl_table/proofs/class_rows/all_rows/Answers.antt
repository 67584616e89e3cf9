use Rattle.std.proofs.Common.{◌≡◌, ◌∙◌, [], replicate, ap, subst}
use Rattle.std.proofs.lemmas.Result.{IfOk-weaker}
use Rattle.decl_headers.specs.declared.header.Headers.{Headers}
use Rattle.decl_headers.specs.Headers.{class_count, parents_of}
use Rattle.decl_headers.specs.Inheriting.{made_at}
use Rattle.decl_headers.specs.Way.{IsForest, way_of, entered_on}
use Rattle.decl_headers.proofs.Inheriting.{all_made}
use Rattle.decl_table.specs.Inherited.{members_after}
use Rattle.decl_table.specs.Table.{headers_of}
use Rattle.decl_table.specs.Visible.{all_own}
use Rattle.decl_table.proofs.Declared.{declared_listed}
use Rattle.decl_table.proofs.class_rows.all_rows.Goals as goal

pub on_way-requires-clause-as_many : goal.on_way-requires-clause-as_many
on_way-requires-clause-as_many c =
    (declared_listed c.args.table.now c.as_slice.result.now
    (c.as_slice.ensures.value ∙ c.in_ok-own.ensures ∙ ap (λ n. all_own (replicate n []) 0 c.methods.result.now) (c.len.ensures ∙ ap class_count c.headers.ensures)
    ∙ ap (all_own (replicate (class_count (headers_of c.args.table.now)) []) 0) c.methods.ensures)).0

pub on_way-requires-clause-filed : goal.on_way-requires-clause-filed
on_way-requires-clause-filed c =
    (declared_listed c.args.table.now c.as_slice.result.now
    (c.as_slice.ensures.value ∙ c.in_ok-own.ensures ∙ ap (λ n. all_own (replicate n []) 0 c.methods.result.now) (c.len.ensures ∙ ap class_count c.headers.ensures)
    ∙ ap (all_own (replicate (class_count (headers_of c.args.table.now)) []) 0) c.methods.ensures)).1

pub returns-clause-forest : goal.returns-clause-forest
returns-clause-forest c =
    IfOk-weaker c.on_way.result _ _ (λ all h. subst (λ (h : Headers). IsForest (parents_of h)) c.headers-2.ensures c.in_ok-way.ensures.forest) c.on_way.ensures

pub returns-clause-made : goal.returns-clause-made
returns-clause-made c =
    let table = c.args.table.now in
    let headers = headers_of table in
    let steps : c.as_slice-2.result.now ≡ way_of (parents_of headers) = c.as_slice-2.ensures ∙ c.in_ok-way.ensures.steps ∙ ap (λ (h : Headers). way_of (parents_of h)) c.headers-2.ensures in
    let forest : IsForest (parents_of headers) = subst (λ (h : Headers). IsForest (parents_of h)) c.headers-2.ensures c.in_ok-way.ensures.forest in
    IfOk-weaker c.on_way.result _ _
    (λ all h. h ∙ ap (entered_on (made_at headers [] (members_after table)) (replicate (class_count headers) [])) steps ∙ all_made headers [] (members_after table) forest)
    c.on_way.ensures

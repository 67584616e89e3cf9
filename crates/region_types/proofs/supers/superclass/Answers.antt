use Rattle.std.proofs.Common.{rules, sym}
use Rattle.std.proofs.lemmas.List.Sorted.{answers_always}
use Rattle.region_types.proofs.Rows.{row_found, row_missing}
use Rattle.region_types.proofs.supers.superclass.Goals as goal

pub returns-in-Ok : goal.returns-in-Ok
returns-in-Ok c =
    let found = c.in-Ok.ensures.position (λ row. row.class) (answers_always _ _ _ (λ f a r g called. search rules)) in
    sym (row_found c.args.supers.now c.requires c.args.class c.in-Ok.at c.index-supers-at.result c.in-Ok.ensures.bound found)

pub returns-in-Err : goal.returns-in-Err
returns-in-Err c =
    let parted = c.in-Err.ensures.position (λ row. row.class) (answers_always _ _ _ (λ f a r g called. search rules)) in
    sym (row_missing c.args.supers.now c.requires c.args.class c.in-Err.field-0 c.in-Err.ensures.bound parted)

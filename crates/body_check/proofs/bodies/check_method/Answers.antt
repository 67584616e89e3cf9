use Rattle.std.proofs.Common.{◌≡◌, ◌∙◌, map, ap, sym}
use Rattle.std.specs.Option.{option_copied}
use Rattle.decl_table.specs.Table.{numbered}
use Rattle.lang_typed.specs.Plain.{plain_stmt as typed_stmt}
use Rattle.body_check.specs.Checking.{check_block}
use Rattle.body_check.specs.Methods.{atomic_params, check_method, formals_declared, method_judged}
use Rattle.body_check.specs.Walks.{passes, refused, walk_of}
use Rattle.body_check.proofs.Methodic.{around_of, body_from, method_passes, method_stmts, method_stops, stopped_at, Begun, BodyMet}
use Rattle.body_check.proofs.bodies.check_method.Goals as goal

pub returns-in_err-checked-clause-checks : goal.returns-in_err-checked-clause-checks
returns-in_err-checked-clause-checks c around is =
    let begun : Begun around c.args.number c.args.method.now (option_copied c.numbered-row.result) c.types_of.result.now c.args.env.now
    c.declare_formals.new.env = record {
      env_is = is;
      row_is = c.numbered-row.ensures ∙ ap (λ t. numbered t c.args.number) c.table.ensures;
      types_are = c.types_of.ensures;
      body_is =
          c.in_ok-declare_formals.ensures.whole
          ∙ ap (λ fs. formals_declared c.args.env.now fs c.types_of.result.now) c.as_slice.ensures;
      home = c.in_ok-declare_formals.ensures.home;
    } in
    stopped_at
    (λ q. check_block (atomic_params c.declare_formals.new.env) (around_of c.args.method.now) (method_stmts c.args.method.now)
    (walk_of c.declare_formals.new.env c.new-done.result) ≡ refused q)
    (λ v. check_method around (atomic_params c.args.env.now) c.args.number c.args.method.now ≡ v)
    c.from_residual-in_err-checked.result _ c.in_err-checked.field-0.0 c.from_residual-in_err-checked.ensures.1
    (λ q d.
    ap (method_judged around c.args.number c.args.method.now)
    (body_from around c.args.number c.args.method.now (option_copied c.numbered-row.result) c.types_of.result.now c.args.env.now c.declare_formals.new.env
    c.new-done.result (refused q) begun c.new-done.ensures d))
    c.in_err-checked.ensures.checks

pub returns-in_err-settle_method-clause-checks : goal.returns-in_err-settle_method-clause-checks
returns-in_err-settle_method-clause-checks c around is =
    let begun : Begun around c.args.number c.args.method.now (option_copied c.numbered-row.result) c.types_of.result.now c.args.env.now
    c.declare_formals.new.env = record {
      env_is = is;
      row_is = c.numbered-row.ensures ∙ ap (λ t. numbered t c.args.number) c.table.ensures;
      types_are = c.types_of.ensures;
      body_is =
          c.in_ok-declare_formals.ensures.whole
          ∙ ap (λ fs. formals_declared c.args.env.now fs c.types_of.result.now) c.as_slice.ensures;
      home = c.in_ok-declare_formals.ensures.home;
    } in
    let met : BodyMet around c.args.number c.args.method.now (option_copied c.numbered-row.result) c.types_of.result.now c.summary_of.result.now
    c.args.env.now c.declare_formals.new.env c.check_body.new.env c.check_body.new.done c.in_ok-checked.checked.completes c.set_covers-covered.result
    c.has_room-has_slots.result (map typed_stmt c.in_ok-checked.checked.stmts) = record {
      begun = begun;
      summary_is = c.summary_of.ensures c.new-nothing.ensures;
      completes_is = c.in_ok-checked.ensures.completes;
      covered_is = c.set_covers-covered.ensures;
      room_is = c.has_room-has_slots.ensures.result;
      in_block =
          body_from around c.args.number c.args.method.now (option_copied c.numbered-row.result) c.types_of.result.now c.args.env.now
          c.declare_formals.new.env c.new-done.result
          (passes (map typed_stmt c.in_ok-checked.checked.stmts) (walk_of c.check_body.new.env c.check_body.new.done)) begun c.new-done.ensures
          c.in_ok-checked.ensures.checks;
    } in
    method_stops around c.args.number c.args.method.now (option_copied c.numbered-row.result) c.types_of.result.now c.summary_of.result.now
    c.args.env.now c.declare_formals.new.env c.check_body.new.env c.check_body.new.done c.in_ok-checked.checked.completes c.set_covers-covered.result
    c.has_room-has_slots.result (map typed_stmt c.in_ok-checked.checked.stmts)
    c.from_residual-in_err-settle_method.result _ c.in_err-settle_method.field-0.0 c.from_residual-in_err-settle_method.ensures.1 met
    c.in_err-settle_method.ensures

pub returns-clause-checks : goal.returns-clause-checks
returns-clause-checks c around is =
    let begun : Begun around c.args.number c.args.method.now (option_copied c.numbered-row.result) c.types_of.result.now c.args.env.now
    c.declare_formals.new.env = record {
      env_is = is;
      row_is = c.numbered-row.ensures ∙ ap (λ t. numbered t c.args.number) c.table.ensures;
      types_are = c.types_of.ensures;
      body_is =
          c.in_ok-declare_formals.ensures.whole
          ∙ ap (λ fs. formals_declared c.args.env.now fs c.types_of.result.now) c.as_slice.ensures;
      home = c.in_ok-declare_formals.ensures.home;
    } in
    let met : BodyMet around c.args.number c.args.method.now (option_copied c.numbered-row.result) c.types_of.result.now c.summary_of.result.now
    c.args.env.now c.declare_formals.new.env c.check_body.new.env c.check_body.new.done c.in_ok-checked.checked.completes c.set_covers-covered.result
    c.has_room-has_slots.result (map typed_stmt c.in_ok-checked.checked.stmts) = record {
      begun = begun;
      summary_is = c.summary_of.ensures c.new-nothing.ensures;
      completes_is = c.in_ok-checked.ensures.completes;
      covered_is = c.set_covers-covered.ensures;
      room_is = c.has_room-has_slots.ensures.result;
      in_block =
          body_from around c.args.number c.args.method.now (option_copied c.numbered-row.result) c.types_of.result.now c.args.env.now
          c.declare_formals.new.env c.new-done.result
          (passes (map typed_stmt c.in_ok-checked.checked.stmts) (walk_of c.check_body.new.env c.check_body.new.done)) begun c.new-done.ensures
          c.in_ok-checked.ensures.checks;
    } in
    method_passes around c.args.number c.args.method.now (option_copied c.numbered-row.result) c.types_of.result.now c.summary_of.result.now
    c.args.env.now c.declare_formals.new.env c.check_body.new.env c.check_body.new.done c.in_ok-checked.checked.completes c.set_covers-covered.result
    c.has_room-has_slots.result (map typed_stmt c.in_ok-checked.checked.stmts)
    c.slots.result c.regions_declared.result met (sym c.in_ok-settle_method.ensures) c.slots.ensures c.regions_declared.ensures

use Rattle.std.proofs.Common.{◌≡◌, ◌∙◌, ◌≤◌, ◌<◌, ◌++◌, [], length, refl, sym, ap, arith}
use Rattle.std.specs.Prelude.{slice_index_or}
use Rattle.std.proofs.lemmas.List.{get_or-append_right, get_or_append_left}
use Rattle.std.proofs.lemmas.Result.{on_ok_weaker}
use Rattle.tool_trace.specs.events.Names.{field_name, names_along, spelling_of}
use Rattle.tool_trace.proofs.events.Along.{along_last}
use Rattle.tool_trace.proofs.events.naming.field.Goals as goal

pub loop-at-preserved : goal.loop-at-preserved
loop-at-preserved c =
    let own = c.own_names-own.result.now in
    let rest = names_along c.args.fields.now c.pop.new.self in
    let past : length own ≤ c.loop-at.slot = omega (arith, c.if-slot-own.false) in
    record {
      named =
          sym (get_or-append_right own rest (length own) c.loop-at.slot [] refl past)
          ∙ ap (λ names. slice_index_or (names ++ rest) c.loop-at.slot []) c.own_names-own.ensures
          ∙ ap (λ names. slice_index_or names c.loop-at.slot []) (sym (along_last c.args.fields.now c.pop.new.self c.in-Some.at))
          ∙ ap (λ left. slice_index_or (names_along c.args.fields.now left) c.loop-at.slot []) (sym c.in-Some.ensures) ∙ c.loop-at.invariant.named;
      out = c.loop-at.invariant.out;
    }

pub returns-then-slot-own : goal.returns-then-slot-own
returns-then-slot-own c =
    let own = c.own_names-own.result.now in
    let rest = names_along c.args.fields.now c.pop.new.self in
    let within : c.loop-at.slot < length own = omega (arith, c.if-slot-own.true) in
    let name : c.name_at.result.now ≡ field_name (spelling_of c.args.program.now c.args.fields.now) c.args.class c.args.slot =
    c.name_at.ensures
    ∙ sym (get_or_append_left own rest [] c.loop-at.slot within)
    ∙ ap (λ names. slice_index_or (names ++ rest) c.loop-at.slot []) c.own_names-own.ensures
    ∙ ap (λ names. slice_index_or names c.loop-at.slot []) (sym (along_last c.args.fields.now c.pop.new.self c.in-Some.at))
    ∙ ap (λ left. slice_index_or (names_along c.args.fields.now left) c.loop-at.slot []) (sym c.in-Some.ensures) ∙ c.loop-at.invariant.named in
    on_ok_weaker c.extend.result (λ put. put ∙ ap (λ out. out ++ c.name_at.result.now) c.loop-at.invariant.out ∙ ap (λ more. c.args.out.now ++ more) name) c.extend.ensures.ok

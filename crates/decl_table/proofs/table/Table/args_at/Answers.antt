use Rattle.std.proofs.Common.{◌≡◌, ◌+◌, ◌-◌, Option, Some, option_map, List, map, length, sym, ap, ◌∙◌, arith}
use Rattle.std.specs.Option.{option_and_then}
use Rattle.lang_base.specs.declared.region.Rpl.{Rpl}
use Rattle.lang_base.specs.Regions.{substituted}
use Rattle.lang_base.specs.Types.{plain_type}
use Rattle.decl_table.specs.Table.{class_number, class_paths, parent_type_of, args_above}
use Rattle.decl_table.proofs.Above.{above_here, above_next}
use Rattle.decl_table.proofs.table.Table.args_at.Goals as goal

pub returns-then-at-owner : goal.returns-then-at-owner
returns-then-at-owner c =
    sym (above_here c.args.self.now (length c.args.self.now.headers.rows + 1) c.loop-step._step c.loop-step.at c.loop-step.current c.args.owner (omega arith) c.if-at-owner.true)
    ∙ c.loop-step.invariant

pub loop-step-preserved : goal.loop-step-preserved
loop-step-preserved c =
    let self = c.args.self.now in
    let n = length self.headers.rows + 1 in
    let i = c.loop-step._step in
    let before = c.loop-step.current in
    let owner = c.args.owner in
    let parent = plain_type c.in-Some.parent.now in
    let up : option_map plain_type (parent_type_of self c.loop-step.at) ≡ Some parent = ap (option_map plain_type) (sym c.in-Some.ensures) in
    let numbered : class_number parent ≡ Some c.in-Some-class_number.above = sym c.class_number.ensures ∙ c.in-Some-class_number.is in
    let next = above_next self n i c.loop-step.at before owner (Some parent) (omega arith) c.if-at-owner.false up in
    let go : Option _ → Option (List Rpl) = λ o. option_and_then (λ number. args_above self (n - (i + 1)) number (map (substituted before) (class_paths parent)) owner) o in
    let made : c.in_ok-current-2.current ≡ map (substituted before) (class_paths parent) =
    c.in_ok-current-2.ensures
    ∙ ap (λ z. map (substituted z) c.class_paths.result.now) c.as_slice.ensures
    ∙ ap (λ z. map (substituted before) z) c.class_paths.ensures in
    ap (λ z. args_above self (n - (i + 1)) c.in-Some-class_number.above z owner) made ∙ sym (next ∙ ap go numbered) ∙ c.loop-step.invariant

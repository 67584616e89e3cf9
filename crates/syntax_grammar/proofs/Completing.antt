-- Whatever is expected can be completed: each part derives something.
use Rattle.std.proofs.Common.{pos, List, [], ◌∷◌, false, inl, None, refl, subst}
use Rattle.syntax_tokens.specs.declared.token.Symbol.{Symbol}
use Rattle.syntax_tokens.specs.declared.token.Keyword.{Keyword}
use Rattle.syntax_tokens.specs.declared.terminal.Placed.{Placed}
use Rattle.syntax_tokens.specs.declared.terminal.Terminal.{Terminal}
use Rattle.syntax_tokens.specs.declared.terminal.Terminal.TheVariants as terminal
use Rattle.syntax_tree.specs.declared.region.Named.{Named}
use Rattle.syntax_tree.specs.Plain.{no_exprs, no_stmts}
use Rattle.syntax_grammar.specs.Taking.{Takes, TakesName, last, Many, none}
use Rattle.syntax_grammar.specs.Paths.{one_name, DerivesHead, DerivesWithin, star, within, DerivesRpl, path, no_args}
use Rattle.syntax_grammar.specs.Types.{DerivesBase, region, index, following, type_of}
use Rattle.syntax_grammar.specs.Expressions.{as_value, as_name, as_field, as_element, as_call, as_creation, operand, postfix, new_array, primary, after_dot, indexed, DerivesPrimary, number, array, no_actuals, end}
use Rattle.syntax_grammar.specs.Statements.{condition, value, range, braces, DerivesStmts, at_first, declaration, local_assignment, field_assignment, element_assignment, blocked, if_else, bare_return, printed_text}
use Rattle.syntax_grammar.specs.Classes.{DerivesAtomic, DerivesKind, DerivesKindOr, DerivesParamsAfter, DerivesConstr, DerivesGiven, DerivesParams, DerivesFormal, DerivesFormalList, DerivesFormals, DerivesItem, DerivesSummary, DerivesIn, DerivesResult, DerivesField, DerivesMethod, DerivesMember, DerivesParent, DerivesMembers, DerivesClass, DerivesProgram}
use Rattle.syntax_grammar.specs.Expecting.{Part, Expected, one, part}
use Rattle.syntax_grammar.specs.Expecting.{Part as p}
use Rattle.syntax_grammar.proofs.meant.Meant.{Meant, All, no_item, joined}
use Rattle.syntax_grammar.proofs.meant.MeantPaths.{stands, nowhere}
use Rattle.syntax_grammar.proofs.Satisfied.{Good, nothing_next, passed, part_next}

-- some terminals in front
pub record Front (Makes : List Placed → Type 0) : Type 0 where
  pub before : List Placed
  pub holds : Makes before

put : Terminal → List Placed → List Placed
put t after = record { terminal = t; place = nowhere } ∷ after

takes : {t : Terminal} {after : List Placed} → Takes t (record { terminal = t; place = nowhere } ∷ after) after nowhere
takes = record { first = refl }

abbrev some_name : Named
some_name = record { name = 0; place = nowhere }

front : {Makes : List Placed → Type 0} (before : List Placed) → Makes before → Front Makes
front before holds = record { before = before; holds = holds }

takes_name : {after : List Placed} → TakesName (record { terminal = terminal.Name 0; place = nowhere } ∷ after) after some_name
takes_name = record { first = refl }

pub made : (n : Part) (after : List Placed) → Front (λ before. Meant n before after)
made p.names after = front (record { terminal = terminal.Name 0; place = nowhere } ∷ after) (_, last (takes_name))
made p.more_names after = front (after) (no_item TakesName after after refl)
made p.more_paths after = front (after) (no_item DerivesRpl after after refl)
made p.more_constraints after = front (after) (no_item DerivesConstr after after refl)
made p.more_formals after = front (after) (no_item DerivesFormal after after refl)
made p.more_items after = front (after) (no_item DerivesItem after after refl)
made p.region_name after = front (record { terminal = terminal.Name 0; place = nowhere } ∷ after) (_, one_name (takes_name))
made p.second_name after = front (after) (λ s first t. (_, one_name t))
made p.path after = front (record { terminal = terminal.Keyword Keyword.Root; place = nowhere } ∷ after) (_, (path (stands nowhere _) (DerivesHead.root takes) none))
made p.head after = front (record { terminal = terminal.Keyword Keyword.Root; place = nowhere } ∷ after) (_, DerivesHead.root takes)
made p.elems after = front (after) ([], none)
made p.elem after = front (record { terminal = terminal.Symbol Symbol.Star; place = nowhere } ∷ after) (_, star takes)
made p.index after = front (record { terminal = terminal.Symbol Symbol.OpenBracket; place = nowhere } ∷ record { terminal = terminal.Name 0; place = nowhere } ∷ record { terminal = terminal.Symbol Symbol.CloseBracket; place = nowhere } ∷ after) (_, within takes (DerivesWithin.index (takes_name)) takes)
made p.within after = front (record { terminal = terminal.Name 0; place = nowhere } ∷ after) (_, DerivesWithin.index (takes_name))
made p.args_if after = front (after) ([], no_args)
made p.args after = front (after) ([], no_args)
made p.params_if after = front (after) (_, DerivesParams.no_params)
made p.params after = front (after) (_, DerivesParams.no_params)
made p.more_declared after = front (after) (λ earlier. ([], DerivesParamsAfter.no_more))
made p.kind after = front (record { terminal = terminal.Keyword Keyword.Region; place = nowhere } ∷ after) (false, DerivesKind.kind DerivesAtomic.plain takes)
made p.atomic_if after = front (after) (false, DerivesAtomic.plain)
made p.kind_if after = front (after) (λ earlier. (earlier, DerivesKindOr.same))
made p.given after = front (after) ([], DerivesGiven.nothing_given)
made p.constraint after = front (record { terminal = terminal.Keyword Keyword.Root; place = nowhere } ∷ record { terminal = terminal.Symbol Symbol.Hash; place = nowhere } ∷ record { terminal = terminal.Keyword Keyword.Root; place = nowhere } ∷ after) (_, DerivesConstr.constraint (path (stands nowhere _) (DerivesHead.root takes) none) takes (path (stands nowhere _) (DerivesHead.root takes) none))
made p.type after = front (record { terminal = terminal.Keyword Keyword.Int; place = nowhere } ∷ after) (_, (type_of (stands nowhere _) (DerivesBase.int takes) none))
made p.base after = front (record { terminal = terminal.Keyword Keyword.Int; place = nowhere } ∷ after) (_, DerivesBase.int takes)
made p.suffixes after = front (after) ([], none)
made p.brackets_after after = front (record { terminal = terminal.Symbol Symbol.Less; place = nowhere } ∷ record { terminal = terminal.Keyword Keyword.Root; place = nowhere } ∷ record { terminal = terminal.Symbol Symbol.Greater; place = nowhere } ∷ record { terminal = terminal.Symbol Symbol.Hash; place = nowhere } ∷ record { terminal = terminal.Name 0; place = nowhere } ∷ after) (_, following (region takes (path (stands nowhere _) (DerivesHead.root takes) none) takes) (index takes (takes_name)))
made p.region_if after = front (record { terminal = terminal.Symbol Symbol.Less; place = nowhere } ∷ record { terminal = terminal.Keyword Keyword.Root; place = nowhere } ∷ record { terminal = terminal.Symbol Symbol.Greater; place = nowhere } ∷ after) (_, (region takes (path (stands nowhere _) (DerivesHead.root takes) none) takes))
made p.index_if after = front (record { terminal = terminal.Symbol Symbol.Hash; place = nowhere } ∷ record { terminal = terminal.Name 0; place = nowhere } ∷ after) (_, (index takes (takes_name)))
made (p.expr level) after = front (record { terminal = terminal.Int (pos 0); place = nowhere } ∷ after) (_, (operand (postfix (primary (number takes)))))
made (p.climb level top) after = front (after) (λ s e d left. (e, d))
made p.unary after = front (record { terminal = terminal.Int (pos 0); place = nowhere } ∷ after) (_, postfix (primary (number takes)))
made p.created after = front (record { terminal = terminal.Name 0; place = nowhere } ∷ record { terminal = terminal.Symbol Symbol.OpenParen; place = nowhere } ∷ record { terminal = terminal.Symbol Symbol.CloseParen; place = nowhere } ∷ after) (λ s place t. (_, postfix (primary (DerivesPrimary.creation t (takes_name) no_args (no_actuals takes takes)))))
made p.created_rest after = front (record { terminal = terminal.Symbol Symbol.OpenParen; place = nowhere } ∷ record { terminal = terminal.Symbol Symbol.CloseParen; place = nowhere } ∷ after) (λ s i j place name paths t n d. (_, postfix (primary (DerivesPrimary.creation t n d (no_actuals takes takes)))))
made p.array after = front (record { terminal = terminal.Symbol Symbol.OpenBracket; place = nowhere } ∷ record { terminal = terminal.Int (pos 0); place = nowhere } ∷ record { terminal = terminal.Symbol Symbol.CloseBracket; place = nowhere } ∷ record { terminal = terminal.Symbol Symbol.Less; place = nowhere } ∷ record { terminal = terminal.Keyword Keyword.Root; place = nowhere } ∷ record { terminal = terminal.Symbol Symbol.Greater; place = nowhere } ∷ record { terminal = terminal.Symbol Symbol.Hash; place = nowhere } ∷ record { terminal = terminal.Name 0; place = nowhere } ∷ after) (λ s i j place start suffixes t d ss. (_, new_array (array t d ss takes (operand (postfix (primary (number takes)))) takes (following (region takes (path (stands nowhere _) (DerivesHead.root takes) none) takes) (index takes (takes_name))))))
made p.array_open after = front (record { terminal = terminal.Int (pos 0); place = nowhere } ∷ record { terminal = terminal.Symbol Symbol.CloseBracket; place = nowhere } ∷ record { terminal = terminal.Symbol Symbol.Less; place = nowhere } ∷ record { terminal = terminal.Keyword Keyword.Root; place = nowhere } ∷ record { terminal = terminal.Symbol Symbol.Greater; place = nowhere } ∷ record { terminal = terminal.Symbol Symbol.Hash; place = nowhere } ∷ record { terminal = terminal.Name 0; place = nowhere } ∷ after) (λ s i j k place at start suffixes t d ss o. (_, new_array (array t d ss o (operand (postfix (primary (number takes)))) takes (following (region takes (path (stands nowhere _) (DerivesHead.root takes) none) takes) (index takes (takes_name))))))
made p.inner after = front (record { terminal = terminal.Symbol Symbol.OpenParen; place = nowhere } ∷ record { terminal = terminal.Int (pos 0); place = nowhere } ∷ record { terminal = terminal.Symbol Symbol.CloseParen; place = nowhere } ∷ after) (_, DerivesPrimary.parenthesised takes (operand (postfix (primary (number takes)))) takes)
made p.literal after = front (record { terminal = terminal.Int (pos 0); place = nowhere } ∷ after) (_, _, number takes)
made p.selected after = front (after) (λ s ending e d. (ending, e, d))
made p.selection after = front (record { terminal = terminal.Symbol Symbol.Dot; place = nowhere } ∷ record { terminal = terminal.Name 0; place = nowhere } ∷ after) (λ s ending e d. (as_field, _, after_dot d takes (takes_name)))
made p.element after = front (record { terminal = terminal.Symbol Symbol.OpenBracket; place = nowhere } ∷ record { terminal = terminal.Int (pos 0); place = nowhere } ∷ record { terminal = terminal.Symbol Symbol.CloseBracket; place = nowhere } ∷ after) (λ s ending e d. (_, indexed d takes (operand (postfix (primary (number takes)))) takes))
made p.dotted_rest after = front (record { terminal = terminal.Name 0; place = nowhere } ∷ after) (λ s i ending e dot d t. (as_field, _, after_dot d t (takes_name)))
made p.actuals_if after = front (after) (λ s i j ending e dot name d t n. (as_field, _, after_dot d t n))
made p.actuals after = front (record { terminal = terminal.Symbol Symbol.OpenParen; place = nowhere } ∷ record { terminal = terminal.Symbol Symbol.CloseParen; place = nowhere } ∷ after) (_, (no_actuals takes takes))
made p.actuals_rest after = front (record { terminal = terminal.Symbol Symbol.CloseParen; place = nowhere } ∷ after) (λ s place o. (_, no_actuals o takes))
made p.listed after = front (record { terminal = terminal.Int (pos 0); place = nowhere } ∷ after) (record { mid = _; first = _; others = no_exprs; level = (operand (postfix (primary (number takes)))); further = end })
made p.more_listed after = front (after) (no_exprs, end)
made p.stmt after = front (record { terminal = terminal.Symbol Symbol.OpenBrace; place = nowhere } ∷ record { terminal = terminal.Symbol Symbol.CloseBrace; place = nowhere } ∷ after) (_, (at_first (stands nowhere _) (blocked (braces takes DerivesStmts.none takes))))
made p.body after = front (record { terminal = terminal.Symbol Symbol.OpenBrace; place = nowhere } ∷ record { terminal = terminal.Symbol Symbol.CloseBrace; place = nowhere } ∷ after) (_, (at_first (stands nowhere _) (blocked (braces takes DerivesStmts.none takes))))
made p.block after = front (record { terminal = terminal.Symbol Symbol.OpenBrace; place = nowhere } ∷ record { terminal = terminal.Symbol Symbol.CloseBrace; place = nowhere } ∷ after) (_, (braces takes DerivesStmts.none takes))
made p.stmts after = front (after) (no_stmts, DerivesStmts.none)
made p.condition after = front (record { terminal = terminal.Symbol Symbol.OpenParen; place = nowhere } ∷ record { terminal = terminal.Int (pos 0); place = nowhere } ∷ record { terminal = terminal.Symbol Symbol.CloseParen; place = nowhere } ∷ after) (_, condition takes (operand (postfix (primary (number takes)))) takes)
made p.else_if after = front (record { terminal = terminal.Keyword Keyword.Else; place = nowhere } ∷ record { terminal = terminal.Symbol Symbol.OpenBrace; place = nowhere } ∷ record { terminal = terminal.Symbol Symbol.CloseBrace; place = nowhere } ∷ after) (λ s i j place test body t c d. (_, if_else t c d takes (at_first (stands nowhere _) (blocked (braces takes DerivesStmts.none takes)))))
made p.range after = front (record { terminal = terminal.Keyword Keyword.Int; place = nowhere } ∷ record { terminal = terminal.Name 0; place = nowhere } ∷ record { terminal = terminal.Keyword Keyword.In; place = nowhere } ∷ record { terminal = terminal.Int (pos 0); place = nowhere } ∷ record { terminal = terminal.Symbol Symbol.Comma; place = nowhere } ∷ record { terminal = terminal.Int (pos 0); place = nowhere } ∷ record { terminal = terminal.Symbol Symbol.CloseParen; place = nowhere } ∷ after) (record { var = some_name; first = _; second = _; derived = range takes (takes_name) takes (operand (postfix (primary (number takes)))) takes (operand (postfix (primary (number takes)))) takes })
made p.return_rest after = front (record { terminal = terminal.Symbol Symbol.Semicolon; place = nowhere } ∷ after) (λ s place t. (_, bare_return t takes))
made p.value after = front (record { terminal = terminal.Int (pos 0); place = nowhere } ∷ record { terminal = terminal.Symbol Symbol.Semicolon; place = nowhere } ∷ after) (_, (value (operand (postfix (primary (number takes)))) takes))
made p.shown after = front (record { terminal = terminal.Text []; place = nowhere } ∷ after) (λ s i j k place open_at close_at ends_at t o c e. (_, printed_text {text = []} t o takes c e))
made p.after_name after = front (record { terminal = terminal.Symbol Symbol.Assign; place = nowhere } ∷ record { terminal = terminal.Int (pos 0); place = nowhere } ∷ record { terminal = terminal.Symbol Symbol.Semicolon; place = nowhere } ∷ after) (λ s name n. (_, local_assignment n takes (value (operand (postfix (primary (number takes)))) takes)))
made p.after_bracket after = front (record { terminal = terminal.Int (pos 0); place = nowhere } ∷ record { terminal = terminal.Symbol Symbol.CloseBracket; place = nowhere } ∷ record { terminal = terminal.Symbol Symbol.Assign; place = nowhere } ∷ record { terminal = terminal.Int (pos 0); place = nowhere } ∷ record { terminal = terminal.Symbol Symbol.Semicolon; place = nowhere } ∷ after) (λ s i name at n o. (_, element_assignment (indexed (primary (DerivesPrimary.name n)) o (operand (postfix (primary (number takes)))) takes) takes (value (operand (postfix (primary (number takes)))) takes)))
made p.declared_name after = front (record { terminal = terminal.Name 0; place = nowhere } ∷ record { terminal = terminal.Symbol Symbol.Assign; place = nowhere } ∷ record { terminal = terminal.Int (pos 0); place = nowhere } ∷ record { terminal = terminal.Symbol Symbol.Semicolon; place = nowhere } ∷ after) (λ s i is_final ty f d. (_, declaration f d (takes_name) takes (value (operand (postfix (primary (number takes)))) takes)))
made (p.selected_then as_value) after = front (record { terminal = terminal.Symbol Symbol.Dot; place = nowhere } ∷ record { terminal = terminal.Name 0; place = nowhere } ∷ record { terminal = terminal.Symbol Symbol.Assign; place = nowhere } ∷ record { terminal = terminal.Int (pos 0); place = nowhere } ∷ record { terminal = terminal.Symbol Symbol.Semicolon; place = nowhere } ∷ after) (λ s ending e d. (_, field_assignment (after_dot d takes (takes_name)) takes (value (operand (postfix (primary (number takes)))) takes)))
made (p.selected_then as_name) after = front (record { terminal = terminal.Symbol Symbol.Dot; place = nowhere } ∷ record { terminal = terminal.Name 0; place = nowhere } ∷ record { terminal = terminal.Symbol Symbol.Assign; place = nowhere } ∷ record { terminal = terminal.Int (pos 0); place = nowhere } ∷ record { terminal = terminal.Symbol Symbol.Semicolon; place = nowhere } ∷ after) (λ s e d. (_, field_assignment (after_dot d takes (takes_name)) takes (value (operand (postfix (primary (number takes)))) takes)))
made (p.selected_then as_field) after = front (record { terminal = terminal.Symbol Symbol.Dot; place = nowhere } ∷ record { terminal = terminal.Name 0; place = nowhere } ∷ record { terminal = terminal.Symbol Symbol.Assign; place = nowhere } ∷ record { terminal = terminal.Int (pos 0); place = nowhere } ∷ record { terminal = terminal.Symbol Symbol.Semicolon; place = nowhere } ∷ after) (λ s e d. (_, field_assignment (after_dot d takes (takes_name)) takes (value (operand (postfix (primary (number takes)))) takes)))
made (p.selected_then as_element) after = front (record { terminal = terminal.Symbol Symbol.Dot; place = nowhere } ∷ record { terminal = terminal.Name 0; place = nowhere } ∷ record { terminal = terminal.Symbol Symbol.Assign; place = nowhere } ∷ record { terminal = terminal.Int (pos 0); place = nowhere } ∷ record { terminal = terminal.Symbol Symbol.Semicolon; place = nowhere } ∷ after) (λ s e d. (_, field_assignment (after_dot d takes (takes_name)) takes (value (operand (postfix (primary (number takes)))) takes)))
made (p.selected_then as_call) after = front (record { terminal = terminal.Symbol Symbol.Dot; place = nowhere } ∷ record { terminal = terminal.Name 0; place = nowhere } ∷ record { terminal = terminal.Symbol Symbol.Assign; place = nowhere } ∷ record { terminal = terminal.Int (pos 0); place = nowhere } ∷ record { terminal = terminal.Symbol Symbol.Semicolon; place = nowhere } ∷ after) (λ s e d. (_, field_assignment (after_dot d takes (takes_name)) takes (value (operand (postfix (primary (number takes)))) takes)))
made (p.selected_then as_creation) after = front (record { terminal = terminal.Symbol Symbol.Dot; place = nowhere } ∷ record { terminal = terminal.Name 0; place = nowhere } ∷ record { terminal = terminal.Symbol Symbol.Assign; place = nowhere } ∷ record { terminal = terminal.Int (pos 0); place = nowhere } ∷ record { terminal = terminal.Symbol Symbol.Semicolon; place = nowhere } ∷ after) (λ s e d. (_, field_assignment (after_dot d takes (takes_name)) takes (value (operand (postfix (primary (number takes)))) takes)))
made p.selection_then after = front (record { terminal = terminal.Symbol Symbol.Dot; place = nowhere } ∷ record { terminal = terminal.Name 0; place = nowhere } ∷ record { terminal = terminal.Symbol Symbol.Assign; place = nowhere } ∷ record { terminal = terminal.Int (pos 0); place = nowhere } ∷ record { terminal = terminal.Symbol Symbol.Semicolon; place = nowhere } ∷ after) (λ s ending e d. (_, field_assignment (after_dot d takes (takes_name)) takes (value (operand (postfix (primary (number takes)))) takes)))
made p.dotted_then after = front (record { terminal = terminal.Name 0; place = nowhere } ∷ record { terminal = terminal.Symbol Symbol.Assign; place = nowhere } ∷ record { terminal = terminal.Int (pos 0); place = nowhere } ∷ record { terminal = terminal.Symbol Symbol.Semicolon; place = nowhere } ∷ after) (λ s i ending e dot d t. (_, field_assignment (after_dot d t (takes_name)) takes (value (operand (postfix (primary (number takes)))) takes)))
made p.dotted_rest_then after = front (record { terminal = terminal.Symbol Symbol.Assign; place = nowhere } ∷ record { terminal = terminal.Int (pos 0); place = nowhere } ∷ record { terminal = terminal.Symbol Symbol.Semicolon; place = nowhere } ∷ after) (λ s i j ending e dot name d t n. (_, field_assignment (after_dot d t n) takes (value (operand (postfix (primary (number takes)))) takes)))
made p.performed after = front (record { terminal = terminal.Int (pos 0); place = nowhere } ∷ record { terminal = terminal.Symbol Symbol.Dot; place = nowhere } ∷ record { terminal = terminal.Name 0; place = nowhere } ∷ record { terminal = terminal.Symbol Symbol.Assign; place = nowhere } ∷ record { terminal = terminal.Int (pos 0); place = nowhere } ∷ record { terminal = terminal.Symbol Symbol.Semicolon; place = nowhere } ∷ after) (_, field_assignment (after_dot (primary (number takes)) takes (takes_name)) takes (value (operand (postfix (primary (number takes)))) takes))
made p.member after = front (record { terminal = terminal.Keyword Keyword.Int; place = nowhere } ∷ record { terminal = terminal.Name 0; place = nowhere } ∷ record { terminal = terminal.Symbol Symbol.Semicolon; place = nowhere } ∷ after) (_, DerivesMember.field (type_of (stands nowhere _) (DerivesBase.int takes) none) (takes_name) (DerivesField.field DerivesIn.nowhere takes))
made p.after_member_name after = front (record { terminal = terminal.Name 0; place = nowhere } ∷ record { terminal = terminal.Symbol Symbol.Semicolon; place = nowhere } ∷ after) (λ s name n. (_, DerivesMember.field (type_of (stands nowhere s) (DerivesBase.class n no_args) none) (takes_name) (DerivesField.field DerivesIn.nowhere takes)))
made p.field_or_method after = front (record { terminal = terminal.Symbol Symbol.Semicolon; place = nowhere } ∷ after) (λ s i ty name d n. (_, DerivesMember.field d n (DerivesField.field DerivesIn.nowhere takes)))
made p.in_if after = front (after) (None, DerivesIn.nowhere)
made p.result after = front (record { terminal = terminal.Keyword Keyword.Void; place = nowhere } ∷ after) (_, DerivesResult.void takes)
made p.method_rest after = front (record { terminal = terminal.Symbol Symbol.OpenParen; place = nowhere } ∷ record { terminal = terminal.Symbol Symbol.CloseParen; place = nowhere } ∷ record { terminal = terminal.Symbol Symbol.OpenBrace; place = nowhere } ∷ record { terminal = terminal.Symbol Symbol.CloseBrace; place = nowhere } ∷ after) (λ params answer name. (_, DerivesMethod.method {body = []} (DerivesFormals.parenthesised takes DerivesFormalList.no_formals takes) DerivesSummary.no_summary (braces takes DerivesStmts.none takes)))
made p.formals after = front (record { terminal = terminal.Symbol Symbol.OpenParen; place = nowhere } ∷ record { terminal = terminal.Symbol Symbol.CloseParen; place = nowhere } ∷ after) (_, DerivesFormals.parenthesised takes DerivesFormalList.no_formals takes)
made p.formal_list after = front (after) ([], DerivesFormalList.no_formals)
made p.formal after = front (record { terminal = terminal.Keyword Keyword.Int; place = nowhere } ∷ record { terminal = terminal.Name 0; place = nowhere } ∷ after) (_, DerivesFormal.formal (type_of (stands nowhere _) (DerivesBase.int takes) none) (takes_name))
made p.summary after = front (after) (None, DerivesSummary.no_summary)
made p.reads_if after = front (after) (inl refl)
made p.writes_if after = front (after) (inl refl)
made p.items after = front (record { terminal = terminal.Keyword Keyword.Root; place = nowhere } ∷ after) (_, last (DerivesItem.item DerivesAtomic.plain (path (stands nowhere _) (DerivesHead.root takes) none)))
made p.item after = front (record { terminal = terminal.Keyword Keyword.Root; place = nowhere } ∷ after) (_, (DerivesItem.item DerivesAtomic.plain (path (stands nowhere _) (DerivesHead.root takes) none)))
made p.class after = front (record { terminal = terminal.Keyword Keyword.Class; place = nowhere } ∷ record { terminal = terminal.Name 0; place = nowhere } ∷ record { terminal = terminal.Symbol Symbol.OpenBrace; place = nowhere } ∷ record { terminal = terminal.Symbol Symbol.CloseBrace; place = nowhere } ∷ after) (_, (DerivesClass.class takes (takes_name) DerivesParams.no_params DerivesParent.no_parent (DerivesMembers.members takes none takes)))
made p.parent_if after = front (after) (None, DerivesParent.no_parent)
made p.members after = front (record { terminal = terminal.Symbol Symbol.OpenBrace; place = nowhere } ∷ record { terminal = terminal.Symbol Symbol.CloseBrace; place = nowhere } ∷ after) (_, DerivesMembers.members takes none takes)
made p.member_list after = front (after) ([], none)
made p.program after = front (record { terminal = terminal.Keyword Keyword.Class; place = nowhere } ∷ record { terminal = terminal.Name 0; place = nowhere } ∷ record { terminal = terminal.Symbol Symbol.OpenBrace; place = nowhere } ∷ record { terminal = terminal.Symbol Symbol.CloseBrace; place = nowhere } ∷ after) (λ is. (_, DerivesProgram.program (DerivesClass.class takes (takes_name) DerivesParams.no_params DerivesParent.no_parent (DerivesMembers.members takes none takes)) (subst (λ (l : List Placed). Many DerivesClass after l []) is none)))
made p.more_classes after = front (after) ([], none)

-- what is expected can come
pub completed : {xs : List Expected} → Good xs → (after : List Placed) → Front (λ before. All xs before after)
completed nothing_next after = front after refl
completed (passed {test = test} {xs = xs} t e g) after =
    let others = completed g after in
    let next : Placed = record { terminal = t; place = nowhere } in
    front (next ∷ others.before) (joined (one test) xs (next ∷ others.before) others.before after (record { next = next; is = refl; passes = e }) others.holds)
completed (part_next {n = n} {xs = xs} g) after =
    let others = completed g after in
    let first = made n others.before in
    front first.before (joined (part n) xs first.before others.before after first.holds others.holds)

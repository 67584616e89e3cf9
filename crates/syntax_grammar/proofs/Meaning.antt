-- What follows what is expected derives it.
use Rattle.std.proofs.Common.{List}
use Rattle.syntax_tokens.specs.declared.terminal.Placed.{Placed}
use Rattle.syntax_grammar.specs.Expecting.{Part, next_of, choose}
use Rattle.syntax_grammar.specs.Expecting.{Part as p}
use Rattle.syntax_grammar.proofs.meant.Meant.{Meant, AllOf}
use Rattle.syntax_grammar.proofs.meant.MeantPaths.{names_of, more_names_of, region_name_of, second_name_of, path_of, head_of, elems_of, elem_of, index_of, within_of, args_if_of, args_of, more_paths_of, params_if_of, params_of, more_declared_of, kind_of, atomic_if_of, kind_if_of, given_of, constraint_of, more_constraints_of, type_means, base_of, suffixes_of, brackets_after_of, region_if_of, index_if_of}
use Rattle.syntax_grammar.proofs.meant.MeantExprs.{expr_of, climb_of, unary_of, created_of, created_rest_of, array_of, array_open_of, inner_of, literal_of, selected_of, selection_of, element_of, dotted_rest_of, actuals_if_of, actuals_of, actuals_rest_of, listed_of, more_listed_of}
use Rattle.syntax_grammar.proofs.meant.MeantStmts.{stmt_means, block_of, stmts_of, condition_of, else_if_of, range_of, return_rest_of, value_of, shown_of, after_name_of, after_bracket_of, declared_name_of, selected_then_of, selection_then_of, dotted_then_of, dotted_rest_then_of, performed_of}
use Rattle.syntax_grammar.proofs.meant.MeantClasses.{member_of, after_member_name_of, field_or_method_of, in_if_of, result_of, method_rest_of, formals_of, formal_list_of, formal_of, more_formals_of, summary_of, reads_if_of, writes_if_of, items_of, item_of, more_items_of, class_means, parent_if_of, members_of, member_list_of, program_of, more_classes_of}

pub meant : (n : Part) (before after : List Placed) → AllOf (choose n (next_of before)) before after → Meant n before after
meant p.names before after h = names_of {before = before} {after = after} h
meant p.more_names before after h = more_names_of {before = before} {after = after} h
meant p.region_name before after h = region_name_of {before = before} {after = after} h
meant p.second_name before after h = second_name_of {before = before} {after = after} h
meant p.path before after h = path_of {before = before} {after = after} h
meant p.head before after h = head_of {before = before} {after = after} h
meant p.elems before after h = elems_of {before = before} {after = after} h
meant p.elem before after h = elem_of {before = before} {after = after} h
meant p.index before after h = index_of {before = before} {after = after} h
meant p.within before after h = within_of {before = before} {after = after} h
meant p.args_if before after h = args_if_of {before = before} {after = after} h
meant p.args before after h = args_of {before = before} {after = after} h
meant p.more_paths before after h = more_paths_of {before = before} {after = after} h
meant p.params_if before after h = params_if_of {before = before} {after = after} h
meant p.params before after h = params_of {before = before} {after = after} h
meant p.more_declared before after h = more_declared_of {before = before} {after = after} h
meant p.kind before after h = kind_of {before = before} {after = after} h
meant p.atomic_if before after h = atomic_if_of {before = before} {after = after} h
meant p.kind_if before after h = kind_if_of {before = before} {after = after} h
meant p.given before after h = given_of {before = before} {after = after} h
meant p.constraint before after h = constraint_of {before = before} {after = after} h
meant p.more_constraints before after h = more_constraints_of {before = before} {after = after} h
meant p.type before after h = type_means {before = before} {after = after} h
meant p.base before after h = base_of {before = before} {after = after} h
meant p.suffixes before after h = suffixes_of {before = before} {after = after} h
meant p.brackets_after before after h = brackets_after_of {before = before} {after = after} h
meant p.region_if before after h = region_if_of {before = before} {after = after} h
meant p.index_if before after h = index_if_of {before = before} {after = after} h
meant (p.expr level) before after h = expr_of level {before = before} {after = after} h
meant (p.climb level top) before after h = climb_of level top {before = before} {after = after} h
meant p.unary before after h = unary_of {before = before} {after = after} h
meant p.created before after h = created_of {before = before} {after = after} h
meant p.created_rest before after h = created_rest_of {before = before} {after = after} h
meant p.array before after h = array_of {before = before} {after = after} h
meant p.array_open before after h = array_open_of {before = before} {after = after} h
meant p.inner before after h = inner_of {before = before} {after = after} h
meant p.literal before after h = literal_of {before = before} {after = after} h
meant p.selected before after h = selected_of {before = before} {after = after} h
meant p.selection before after h = selection_of {before = before} {after = after} h
meant p.element before after h = element_of {before = before} {after = after} h
meant p.dotted_rest before after h = dotted_rest_of {before = before} {after = after} h
meant p.actuals_if before after h = actuals_if_of {before = before} {after = after} h
meant p.actuals before after h = actuals_of {before = before} {after = after} h
meant p.actuals_rest before after h = actuals_rest_of {before = before} {after = after} h
meant p.listed before after h = listed_of {before = before} {after = after} h
meant p.more_listed before after h = more_listed_of {before = before} {after = after} h
meant p.stmt before after h = stmt_means {before = before} {after = after} h
meant p.body before after h = h
meant p.block before after h = block_of {before = before} {after = after} h
meant p.stmts before after h = stmts_of {before = before} {after = after} h
meant p.condition before after h = condition_of {before = before} {after = after} h
meant p.else_if before after h = else_if_of {before = before} {after = after} h
meant p.range before after h = range_of {before = before} {after = after} h
meant p.return_rest before after h = return_rest_of {before = before} {after = after} h
meant p.value before after h = value_of {before = before} {after = after} h
meant p.shown before after h = shown_of {before = before} {after = after} h
meant p.after_name before after h = after_name_of {before = before} {after = after} h
meant p.after_bracket before after h = after_bracket_of {before = before} {after = after} h
meant p.declared_name before after h = declared_name_of {before = before} {after = after} h
meant (p.selected_then ending) before after h = selected_then_of ending before after h
meant p.selection_then before after h = selection_then_of {before = before} {after = after} h
meant p.dotted_then before after h = dotted_then_of {before = before} {after = after} h
meant p.dotted_rest_then before after h = dotted_rest_then_of {before = before} {after = after} h
meant p.performed before after h = performed_of {before = before} {after = after} h
meant p.member before after h = member_of {before = before} {after = after} h
meant p.after_member_name before after h = after_member_name_of {before = before} {after = after} h
meant p.field_or_method before after h = field_or_method_of {before = before} {after = after} h
meant p.in_if before after h = in_if_of {before = before} {after = after} h
meant p.result before after h = result_of {before = before} {after = after} h
meant p.method_rest before after h = method_rest_of {before = before} {after = after} h
meant p.formals before after h = formals_of {before = before} {after = after} h
meant p.formal_list before after h = formal_list_of {before = before} {after = after} h
meant p.formal before after h = formal_of {before = before} {after = after} h
meant p.more_formals before after h = more_formals_of {before = before} {after = after} h
meant p.summary before after h = summary_of {before = before} {after = after} h
meant p.reads_if before after h = reads_if_of {before = before} {after = after} h
meant p.writes_if before after h = writes_if_of {before = before} {after = after} h
meant p.items before after h = items_of {before = before} {after = after} h
meant p.item before after h = item_of {before = before} {after = after} h
meant p.more_items before after h = more_items_of {before = before} {after = after} h
meant p.class before after h = class_means {before = before} {after = after} h
meant p.parent_if before after h = parent_if_of {before = before} {after = after} h
meant p.members before after h = members_of {before = before} {after = after} h
meant p.member_list before after h = member_list_of {before = before} {after = after} h
meant p.program before after h = program_of {before = before} {after = after} h
meant p.more_classes before after h = more_classes_of {before = before} {after = after} h

-- Each terminal that is expected can come.
use Rattle.std.proofs.Common.{◌≡◌, ℕ, pos, List, [], ◌∷◌, ◌++◌, Bool, true, false, cond, ◌&&◌, ◌||◌, nat_le, Option, Some, None, refl}
use Rattle.syntax_tokens.specs.declared.token.Symbol.{Symbol}
use Rattle.syntax_tokens.specs.declared.token.Keyword.{Keyword}
use Rattle.syntax_tokens.specs.declared.terminal.Placed.{Placed}
use Rattle.syntax_tokens.specs.declared.terminal.Terminal.{Terminal}
use Rattle.syntax_tokens.specs.declared.terminal.Terminal.TheVariants as terminal
use Rattle.syntax_tree.specs.declared.expr.InfixOp.{InfixOp}
use Rattle.syntax_grammar.specs.Words.{is_assign, is_atomic, is_bar, is_close_brace, is_close_bracket, is_close_paren, is_colon, is_comma, is_dot, is_else, is_extends, is_hash, is_in, is_less, is_name, is_number, is_open_bracket, is_open_paren, is_pure, is_question, is_reads, is_region, is_root, is_semicolon, is_star, is_text, is_void, is_writes}
use Rattle.syntax_grammar.specs.Expressions.{level_of, left_level, Ending, as_value, as_name, as_field, as_element, as_call, as_creation}
use Rattle.syntax_grammar.specs.Expecting.{Part, Expected, one, part, next_is, with_next, op_of, choose, climb_parts, base_parts, created_parts, literal_parts, unary_parts, stmt_parts, after_name_parts, ending_parts, selection_parts, performed_parts, member_parts}
use Rattle.syntax_grammar.specs.Expecting.{Part as p}

-- each test in a list is passed by some terminal
pub data Good : List Expected → Type 0 where
  nothing_next : Good []
  passed : {test : Terminal → Bool} {xs : List Expected} (t : Terminal) → test t ≡ true → Good xs → Good (one test ∷ xs)
  part_next : {n : Part} {xs : List Expected} → Good xs → Good (part n ∷ xs)

pub data GoodOf : Option (List Expected) → Type 0 where
  none_next : GoodOf None
  some_next : {xs : List Expected} → Good xs → GoodOf (Some xs)

pub of_some : {xs : List Expected} → GoodOf (Some xs) → Good xs
of_some (some_next g) = g

pub after_part : {n : Part} {xs : List Expected} → Good (part n ∷ xs) → Good xs
after_part (part_next g) = g

pub after_one : {test : Terminal → Bool} {xs : List Expected} → Good (one test ∷ xs) → Good xs
after_one (passed t e g) = g

pub good_append : {xs : List Expected} (ys : List Expected) → Good xs → Good ys → Good (xs ++ ys)
good_append ys nothing_next h = h
good_append ys (passed t e g) h = passed t e (good_append ys g h)
good_append ys (part_next g) h = part_next (good_append ys g h)

decided : (found : Bool) {xs ys : List Expected} → Good xs → Good ys → Good (cond found xs ys)
decided true g h = g
decided false g h = h

by_next : (next : Option Placed) (at_end : List Expected) (by : Terminal → List Expected) → Good at_end → ((t : Terminal) → Good (by t)) → Good (with_next at_end by next)
by_next None at_end by g h = g
by_next (Some next) at_end by g h = h next.terminal

by_next_or : (next : Option Placed) (at_end : Option (List Expected)) (by : Terminal → Option (List Expected)) → GoodOf at_end → ((t : Terminal) → GoodOf (by t)) → GoodOf (with_next at_end by next)
by_next_or None at_end by g h = g
by_next_or (Some next) at_end by g h = h next.terminal

good_climb : (level top : ℕ) (o : Option InfixOp) → Good (climb_parts level top o)
good_climb level top None = nothing_next
good_climb level top (Some op) = decided (nat_le level (level_of op) && nat_le (left_level op) top) (passed (terminal.Symbol Symbol.Comma) refl (part_next (part_next nothing_next))) nothing_next

good_selection_parts : (others : Option (List Expected)) → GoodOf others → (t : Terminal) → GoodOf (selection_parts others t)
good_selection_parts others g (terminal.Symbol Symbol.Dot) = some_next (passed (terminal.Symbol Symbol.Dot) refl (part_next nothing_next))
good_selection_parts others g (terminal.Symbol Symbol.OpenBracket) = some_next (part_next (part_next nothing_next))
good_selection_parts others g _ = g

good_base_parts : (t : Terminal) → Good (base_parts t)
good_base_parts (terminal.Keyword Keyword.Int) = passed (terminal.Keyword Keyword.Int) refl nothing_next
good_base_parts (terminal.Keyword Keyword.Boolean) = passed (terminal.Keyword Keyword.Boolean) refl nothing_next
good_base_parts _ = passed (terminal.Name 0) refl (part_next nothing_next)

good_created_parts : (t : Terminal) → Good (created_parts t)
good_created_parts (terminal.Keyword Keyword.Int) = part_next (part_next nothing_next)
good_created_parts (terminal.Keyword Keyword.Boolean) = part_next (part_next nothing_next)
good_created_parts _ = passed (terminal.Name 0) refl (part_next (part_next nothing_next))

good_literal_parts : (t : Terminal) → GoodOf (literal_parts t)
good_literal_parts (terminal.Int n) = some_next (passed (terminal.Symbol Symbol.Comma) refl nothing_next)
good_literal_parts (terminal.Name n) = some_next (passed (terminal.Symbol Symbol.Comma) refl nothing_next)
good_literal_parts (terminal.Keyword Keyword.True) = some_next (passed (terminal.Symbol Symbol.Comma) refl nothing_next)
good_literal_parts (terminal.Keyword Keyword.False) = some_next (passed (terminal.Symbol Symbol.Comma) refl nothing_next)
good_literal_parts (terminal.Keyword Keyword.Null) = some_next (passed (terminal.Symbol Symbol.Comma) refl nothing_next)
good_literal_parts (terminal.Keyword Keyword.This) = some_next (passed (terminal.Symbol Symbol.Comma) refl nothing_next)
good_literal_parts _ = none_next

good_unary_parts : (t : Terminal) → Good (unary_parts t)
good_unary_parts (terminal.Symbol Symbol.Minus) = passed (terminal.Symbol Symbol.Comma) refl (part_next nothing_next)
good_unary_parts (terminal.Symbol Symbol.Not) = passed (terminal.Symbol Symbol.Comma) refl (part_next nothing_next)
good_unary_parts (terminal.Keyword Keyword.New) = passed (terminal.Keyword Keyword.New) refl (part_next nothing_next)
good_unary_parts (terminal.Symbol Symbol.OpenParen) = part_next (part_next nothing_next)
good_unary_parts _ = part_next (part_next nothing_next)

good_stmt_parts : (t : Terminal) → Good (stmt_parts t)
good_stmt_parts (terminal.Symbol Symbol.OpenBrace) = part_next nothing_next
good_stmt_parts (terminal.Keyword Keyword.If) = passed (terminal.Keyword Keyword.If) refl (part_next (part_next (part_next nothing_next)))
good_stmt_parts (terminal.Keyword Keyword.While) = passed (terminal.Keyword Keyword.While) refl (part_next (part_next nothing_next))
good_stmt_parts (terminal.Keyword Keyword.Cobegin) = passed (terminal.Symbol Symbol.Comma) refl (part_next nothing_next)
good_stmt_parts (terminal.Keyword Keyword.CobeginNd) = passed (terminal.Symbol Symbol.Comma) refl (part_next nothing_next)
good_stmt_parts (terminal.Keyword Keyword.Foreach) = passed (terminal.Symbol Symbol.Comma) refl (passed (terminal.Symbol Symbol.OpenParen) refl (part_next (part_next nothing_next)))
good_stmt_parts (terminal.Keyword Keyword.ForeachNd) = passed (terminal.Symbol Symbol.Comma) refl (passed (terminal.Symbol Symbol.OpenParen) refl (part_next (part_next nothing_next)))
good_stmt_parts (terminal.Keyword Keyword.ForeachParts) = passed (terminal.Keyword Keyword.ForeachParts) refl (passed (terminal.Symbol Symbol.OpenParen) refl (passed (terminal.Name 0) refl (passed (terminal.Symbol Symbol.Comma) refl (part_next (part_next nothing_next)))))
good_stmt_parts (terminal.Keyword Keyword.Atomic) = passed (terminal.Keyword Keyword.Atomic) refl (part_next nothing_next)
good_stmt_parts (terminal.Keyword Keyword.Return) = passed (terminal.Keyword Keyword.Return) refl (part_next nothing_next)
good_stmt_parts (terminal.Keyword Keyword.Print) = passed (terminal.Keyword Keyword.Print) refl (passed (terminal.Symbol Symbol.OpenParen) refl (part_next (passed (terminal.Symbol Symbol.CloseParen) refl (passed (terminal.Symbol Symbol.Semicolon) refl nothing_next))))
good_stmt_parts (terminal.Keyword Keyword.Region) = passed (terminal.Keyword Keyword.Region) refl (part_next (passed (terminal.Symbol Symbol.Semicolon) refl nothing_next))
good_stmt_parts (terminal.Keyword Keyword.Int) = part_next (part_next nothing_next)
good_stmt_parts (terminal.Keyword Keyword.Boolean) = part_next (part_next nothing_next)
good_stmt_parts (terminal.Keyword Keyword.Final) = passed (terminal.Keyword Keyword.Final) refl (part_next (part_next nothing_next))
good_stmt_parts (terminal.Name n) = passed (terminal.Name 0) refl (part_next nothing_next)
good_stmt_parts _ = part_next nothing_next

good_after_name_parts : (t : Terminal) → GoodOf (after_name_parts t)
good_after_name_parts (terminal.Name n) = some_next (part_next (part_next (part_next nothing_next)))
good_after_name_parts (terminal.Symbol Symbol.Less) = some_next (part_next (part_next (part_next nothing_next)))
good_after_name_parts (terminal.Symbol Symbol.OpenBracket) = some_next (passed (terminal.Symbol Symbol.OpenBracket) refl (part_next nothing_next))
good_after_name_parts (terminal.Symbol Symbol.Dot) = some_next (passed (terminal.Symbol Symbol.Dot) refl (part_next nothing_next))
good_after_name_parts _ = some_next (passed (terminal.Symbol Symbol.Assign) refl (part_next nothing_next))

good_ending_parts : (t : Ending) → GoodOf (ending_parts t)
good_ending_parts as_value = none_next
good_ending_parts as_name = some_next (passed (terminal.Symbol Symbol.Assign) refl (part_next nothing_next))
good_ending_parts as_field = some_next (passed (terminal.Symbol Symbol.Assign) refl (part_next nothing_next))
good_ending_parts as_element = some_next (passed (terminal.Symbol Symbol.Assign) refl (part_next nothing_next))
good_ending_parts as_call = some_next (passed (terminal.Symbol Symbol.Semicolon) refl nothing_next)
good_ending_parts as_creation = some_next (passed (terminal.Symbol Symbol.Semicolon) refl nothing_next)

good_performed_parts : (t : Terminal) → Good (performed_parts t)
good_performed_parts (terminal.Keyword Keyword.New) = passed (terminal.Keyword Keyword.New) refl (passed (terminal.Name 0) refl (part_next (part_next (part_next nothing_next))))
good_performed_parts (terminal.Symbol Symbol.OpenParen) = part_next (part_next nothing_next)
good_performed_parts _ = part_next (part_next nothing_next)

good_member_parts : (t : Terminal) → Good (member_parts t)
good_member_parts (terminal.Keyword Keyword.Atomic) = part_next (part_next (passed (terminal.Symbol Symbol.Semicolon) refl nothing_next))
good_member_parts (terminal.Keyword Keyword.Region) = part_next (part_next (passed (terminal.Symbol Symbol.Semicolon) refl nothing_next))
good_member_parts (terminal.Symbol Symbol.Less) = part_next (part_next (passed (terminal.Name 0) refl (part_next nothing_next)))
good_member_parts (terminal.Keyword Keyword.Void) = part_next (part_next (passed (terminal.Name 0) refl (part_next nothing_next)))
good_member_parts (terminal.Name n) = passed (terminal.Name 0) refl (part_next nothing_next)
good_member_parts _ = part_next (passed (terminal.Name 0) refl (part_next nothing_next))

pub good : (n : Part) (next : Option Placed) → GoodOf (choose n next)
good p.names next = some_next (passed (terminal.Name 0) refl (part_next nothing_next))
good p.more_names next = some_next (decided (next_is is_comma next) (passed (terminal.Symbol Symbol.Comma) refl (passed (terminal.Name 0) refl (part_next nothing_next))) (nothing_next))
good p.region_name next = some_next (passed (terminal.Name 0) refl (part_next nothing_next))
good p.second_name next = some_next (decided (next_is is_dot next) (passed (terminal.Symbol Symbol.Dot) refl (passed (terminal.Name 0) refl nothing_next)) (nothing_next))
good p.path next = some_next (part_next (part_next nothing_next))
good p.head next = some_next (decided (next_is is_root next) (passed (terminal.Keyword Keyword.Root) refl nothing_next) (part_next nothing_next))
good p.elems next = some_next (decided (next_is is_colon next) (passed (terminal.Symbol Symbol.Colon) refl (part_next (part_next nothing_next))) (nothing_next))
good p.elem next = some_next (decided (next_is is_star next) (passed (terminal.Symbol Symbol.Star) refl nothing_next) (decided (next_is is_open_bracket next) (part_next nothing_next) (part_next nothing_next)))
good p.index next = some_next (passed (terminal.Symbol Symbol.OpenBracket) refl (part_next (passed (terminal.Symbol Symbol.CloseBracket) refl nothing_next)))
good p.within next = some_next (decided (next_is is_number next) (passed (terminal.Int (pos 0)) refl nothing_next) (decided (next_is is_question next) (passed (terminal.Symbol Symbol.Question) refl nothing_next) (passed (terminal.Name 0) refl nothing_next)))
good p.args_if next = some_next (decided (next_is is_less next) (part_next nothing_next) (nothing_next))
good p.args next = some_next (passed (terminal.Symbol Symbol.Less) refl (part_next (part_next (passed (terminal.Symbol Symbol.Greater) refl nothing_next))))
good p.more_paths next = some_next (decided (next_is is_comma next) (passed (terminal.Symbol Symbol.Comma) refl (part_next (part_next nothing_next))) (nothing_next))
good p.params_if next = some_next (decided (next_is is_less next) (part_next nothing_next) (nothing_next))
good p.params next = some_next (passed (terminal.Symbol Symbol.Less) refl (part_next (passed (terminal.Name 0) refl (part_next (part_next (passed (terminal.Symbol Symbol.Greater) refl nothing_next))))))
good p.more_declared next = some_next (decided (next_is is_comma next) (passed (terminal.Symbol Symbol.Comma) refl (part_next (passed (terminal.Name 0) refl (part_next nothing_next)))) (nothing_next))
good p.kind next = some_next (part_next (passed (terminal.Keyword Keyword.Region) refl nothing_next))
good p.atomic_if next = some_next (decided (next_is is_atomic next) (passed (terminal.Keyword Keyword.Atomic) refl nothing_next) (nothing_next))
good p.kind_if next = some_next (decided (next_is is_atomic next || next_is is_region next) (part_next nothing_next) (nothing_next))
good p.given next = some_next (decided (next_is is_bar next) (passed (terminal.Symbol Symbol.Bar) refl (part_next (part_next nothing_next))) (nothing_next))
good p.constraint next = some_next (part_next (passed (terminal.Symbol Symbol.Hash) refl (part_next nothing_next)))
good p.more_constraints next = some_next (decided (next_is is_comma next) (passed (terminal.Symbol Symbol.Comma) refl (part_next (part_next nothing_next))) (nothing_next))
good p.type next = some_next (part_next (part_next nothing_next))
good p.base next = some_next (by_next next (one is_name ∷ part p.args_if ∷ []) base_parts (passed (terminal.Name 0) refl (part_next nothing_next)) good_base_parts)
good p.suffixes next = some_next (decided (next_is is_open_bracket next) (passed (terminal.Symbol Symbol.OpenBracket) refl (passed (terminal.Symbol Symbol.CloseBracket) refl (part_next (part_next nothing_next)))) (nothing_next))
good p.brackets_after next = some_next (part_next (part_next nothing_next))
good p.region_if next = some_next (decided (next_is is_less next) (passed (terminal.Symbol Symbol.Less) refl (part_next (passed (terminal.Symbol Symbol.Greater) refl nothing_next))) (nothing_next))
good p.index_if next = some_next (decided (next_is is_hash next) (passed (terminal.Symbol Symbol.Hash) refl (passed (terminal.Name 0) refl nothing_next)) (nothing_next))
good (p.expr level) next = some_next (part_next (part_next nothing_next))
good (p.climb level top) next = some_next (good_climb level top (op_of next))
good p.unary next = some_next (by_next next (part p.literal ∷ part p.selected ∷ []) unary_parts (part_next (part_next nothing_next)) good_unary_parts)
good p.created next = some_next (by_next next (one is_name ∷ part p.args_if ∷ part p.created_rest ∷ []) created_parts (passed (terminal.Name 0) refl (part_next (part_next nothing_next))) good_created_parts)
good p.created_rest next = some_next (decided (next_is is_open_paren next) (part_next (part_next nothing_next)) (part_next nothing_next))
good p.array next = some_next (passed (terminal.Symbol Symbol.OpenBracket) refl (part_next nothing_next))
good p.array_open next = some_next (decided (next_is is_close_bracket next) (passed (terminal.Symbol Symbol.CloseBracket) refl (part_next (part_next nothing_next))) (part_next (passed (terminal.Symbol Symbol.CloseBracket) refl (part_next nothing_next))))
good p.inner next = some_next (passed (terminal.Symbol Symbol.OpenParen) refl (part_next (passed (terminal.Symbol Symbol.CloseParen) refl nothing_next)))
good p.literal next = by_next_or next None literal_parts none_next good_literal_parts
good p.selected next = some_next (decided (next_is is_dot next || next_is is_open_bracket next) (part_next (part_next nothing_next)) (nothing_next))
good p.selection next = some_next (decided (next_is is_dot next) (passed (terminal.Symbol Symbol.Dot) refl (part_next nothing_next)) (part_next nothing_next))
good p.element next = some_next (passed (terminal.Symbol Symbol.OpenBracket) refl (part_next (passed (terminal.Symbol Symbol.CloseBracket) refl nothing_next)))
good p.dotted_rest next = some_next (decided (next_is is_less next) (part_next (passed (terminal.Name 0) refl (part_next nothing_next))) (passed (terminal.Name 0) refl (part_next nothing_next)))
good p.actuals_if next = some_next (decided (next_is is_open_paren next) (part_next nothing_next) (nothing_next))
good p.actuals next = some_next (passed (terminal.Symbol Symbol.OpenParen) refl (part_next nothing_next))
good p.actuals_rest next = some_next (decided (next_is is_close_paren next) (passed (terminal.Symbol Symbol.CloseParen) refl nothing_next) (part_next (passed (terminal.Symbol Symbol.CloseParen) refl nothing_next)))
good p.listed next = some_next (part_next (part_next nothing_next))
good p.more_listed next = some_next (decided (next_is is_comma next) (passed (terminal.Symbol Symbol.Comma) refl (part_next (part_next nothing_next))) (nothing_next))
good p.stmt next = some_next (by_next next (part p.performed ∷ []) stmt_parts (part_next nothing_next) good_stmt_parts)
good p.body next = some_next (part_next nothing_next)
good p.block next = some_next (passed (terminal.Symbol Symbol.OpenBrace) refl (part_next (passed (terminal.Symbol Symbol.CloseBrace) refl nothing_next)))
good p.stmts next = some_next (decided (next_is is_close_brace next) (nothing_next) (part_next (part_next nothing_next)))
good p.condition next = some_next (passed (terminal.Symbol Symbol.OpenParen) refl (part_next (passed (terminal.Symbol Symbol.CloseParen) refl nothing_next)))
good p.else_if next = some_next (decided (next_is is_else next) (passed (terminal.Keyword Keyword.Else) refl (part_next nothing_next)) (nothing_next))
good p.range next = some_next (passed (terminal.Keyword Keyword.Int) refl (passed (terminal.Name 0) refl (passed (terminal.Keyword Keyword.In) refl (part_next (passed (terminal.Symbol Symbol.Comma) refl (part_next (passed (terminal.Symbol Symbol.CloseParen) refl nothing_next)))))))
good p.return_rest next = some_next (decided (next_is is_semicolon next) (passed (terminal.Symbol Symbol.Semicolon) refl nothing_next) (part_next nothing_next))
good p.value next = some_next (part_next (passed (terminal.Symbol Symbol.Semicolon) refl nothing_next))
good p.shown next = some_next (decided (next_is is_text next) (passed (terminal.Text []) refl nothing_next) (part_next nothing_next))
good p.after_name next = by_next_or next (Some (one is_assign ∷ part p.value ∷ [])) after_name_parts (some_next (passed (terminal.Symbol Symbol.Assign) refl (part_next nothing_next))) good_after_name_parts
good p.after_bracket next = some_next (decided (next_is is_close_bracket next) (passed (terminal.Symbol Symbol.CloseBracket) refl (part_next (part_next (part_next nothing_next)))) (part_next (passed (terminal.Symbol Symbol.CloseBracket) refl (part_next nothing_next))))
good p.declared_name next = some_next (passed (terminal.Name 0) refl (passed (terminal.Symbol Symbol.Assign) refl (part_next nothing_next)))
good (p.selected_then ending) next = by_next_or next (ending_parts ending) (selection_parts (ending_parts ending)) (good_ending_parts ending) (good_selection_parts (ending_parts ending) (good_ending_parts ending))
good p.selection_then next = by_next_or next None (selection_parts None) none_next (good_selection_parts None none_next)
good p.dotted_then next = some_next (decided (next_is is_less next) (part_next (passed (terminal.Name 0) refl (part_next (part_next nothing_next)))) (passed (terminal.Name 0) refl (part_next nothing_next)))
good p.dotted_rest_then next = some_next (decided (next_is is_open_paren next) (part_next (part_next nothing_next)) (part_next nothing_next))
good p.performed next = some_next (by_next next (part p.literal ∷ part (p.selected_then as_value) ∷ []) performed_parts (part_next (part_next nothing_next)) good_performed_parts)
good p.member next = some_next (by_next next (part p.type ∷ one is_name ∷ part p.field_or_method ∷ []) member_parts (part_next (passed (terminal.Name 0) refl (part_next nothing_next))) good_member_parts)
good p.after_member_name next = some_next (decided (next_is is_open_paren next) (part_next nothing_next) (part_next (part_next (passed (terminal.Name 0) refl (part_next nothing_next)))))
good p.field_or_method next = some_next (decided (next_is is_open_paren next) (part_next nothing_next) (part_next (passed (terminal.Symbol Symbol.Semicolon) refl nothing_next)))
good p.in_if next = some_next (decided (next_is is_in next) (passed (terminal.Keyword Keyword.In) refl (part_next nothing_next)) (nothing_next))
good p.result next = some_next (decided (next_is is_void next) (passed (terminal.Keyword Keyword.Void) refl nothing_next) (part_next nothing_next))
good p.method_rest next = some_next (part_next (part_next (part_next nothing_next)))
good p.formals next = some_next (passed (terminal.Symbol Symbol.OpenParen) refl (part_next (passed (terminal.Symbol Symbol.CloseParen) refl nothing_next)))
good p.formal_list next = some_next (decided (next_is is_close_paren next) (nothing_next) (part_next (part_next nothing_next)))
good p.formal next = some_next (part_next (passed (terminal.Name 0) refl nothing_next))
good p.more_formals next = some_next (decided (next_is is_comma next) (passed (terminal.Symbol Symbol.Comma) refl (part_next (part_next nothing_next))) (nothing_next))
good p.summary next = some_next (decided (next_is is_reads next || next_is is_writes next) (part_next (part_next nothing_next)) (decided (next_is is_pure next) (passed (terminal.Keyword Keyword.Pure) refl nothing_next) (nothing_next)))
good p.reads_if next = some_next (decided (next_is is_reads next) (passed (terminal.Keyword Keyword.Reads) refl (part_next nothing_next)) (nothing_next))
good p.writes_if next = some_next (decided (next_is is_writes next) (passed (terminal.Keyword Keyword.Writes) refl (part_next nothing_next)) (nothing_next))
good p.items next = some_next (part_next (part_next nothing_next))
good p.item next = some_next (part_next (part_next nothing_next))
good p.more_items next = some_next (decided (next_is is_comma next) (passed (terminal.Symbol Symbol.Comma) refl (part_next (part_next nothing_next))) (nothing_next))
good p.class next = some_next (passed (terminal.Keyword Keyword.Class) refl (passed (terminal.Name 0) refl (part_next (part_next (part_next nothing_next)))))
good p.parent_if next = some_next (decided (next_is is_extends next) (passed (terminal.Keyword Keyword.Extends) refl (passed (terminal.Name 0) refl (part_next nothing_next))) (nothing_next))
good p.members next = some_next (passed (terminal.Symbol Symbol.OpenBrace) refl (part_next (passed (terminal.Symbol Symbol.CloseBrace) refl nothing_next)))
good p.member_list next = some_next (decided (next_is is_close_brace next) (nothing_next) (part_next (part_next nothing_next)))
good p.program next = some_next (part_next (part_next nothing_next))
good p.more_classes None = some_next (nothing_next)
good p.more_classes (Some next) = some_next (part_next (part_next nothing_next))

-- Whatever is expected of a text comes to its end or is lost: before a terminal is passed, what is expected first gets smaller.
use Rattle.std.proofs.Common.{◌≡◌, ℕ, zero, suc, List, [], ◌∷◌, ◌++◌, Bool, true, false, cond, ◌&&◌, ◌||◌, nat_le, ◌<◌, ◌≤◌, ◌+◌, length, ◌⊎◌, inl, inr, subst, arith, Option, Some, None, refl}
use Rattle.syntax_tokens.specs.declared.token.Symbol.{Symbol}
use Rattle.syntax_tokens.specs.declared.token.Keyword.{Keyword}
use Rattle.syntax_tokens.specs.declared.terminal.Placed.{Placed}
use Rattle.syntax_tokens.specs.declared.terminal.Terminal.{Terminal}
use Rattle.syntax_tokens.specs.declared.terminal.Terminal.TheVariants as terminal
use Rattle.syntax_tree.specs.declared.expr.InfixOp.{InfixOp}
use Rattle.syntax_grammar.specs.Words.{is_assign, is_atomic, is_bar, is_close_brace, is_close_bracket, is_close_paren, is_colon, is_comma, is_dot, is_else, is_extends, is_hash, is_in, is_less, is_name, is_number, is_open_bracket, is_open_paren, is_pure, is_question, is_reads, is_region, is_root, is_semicolon, is_star, is_text, is_void, is_writes}
use Rattle.syntax_grammar.specs.Expressions.{level_of, left_level, Ending, as_value, as_name, as_field, as_element, as_call, as_creation}
use Rattle.syntax_grammar.specs.Expecting.{Part, Expected, one, part, next_of, Steps, stay, pick, pass, IsLost, no_part, no_terminal, too_many, next_is, with_next, op_of, choose, climb_parts, base_parts, created_parts, literal_parts, unary_parts, stmt_parts, after_name_parts, ending_parts, selection_parts, performed_parts, member_parts}
use Rattle.syntax_grammar.specs.Expecting.{Part as p}

-- a part that may be nothing
abbrev vanishes : Part → Bool
vanishes p.more_names = true
vanishes p.second_name = true
vanishes p.elems = true
vanishes p.args_if = true
vanishes p.more_paths = true
vanishes p.params_if = true
vanishes p.more_declared = true
vanishes p.atomic_if = true
vanishes p.kind_if = true
vanishes p.given = true
vanishes p.more_constraints = true
vanishes p.suffixes = true
vanishes p.brackets_after = true
vanishes p.region_if = true
vanishes p.index_if = true
vanishes (p.climb level top) = true
vanishes p.selected = true
vanishes p.actuals_if = true
vanishes p.more_listed = true
vanishes p.stmts = true
vanishes p.else_if = true
vanishes p.in_if = true
vanishes p.formal_list = true
vanishes p.more_formals = true
vanishes p.summary = true
vanishes p.reads_if = true
vanishes p.writes_if = true
vanishes p.more_items = true
vanishes p.parent_if = true
vanishes p.member_list = true
vanishes p.more_classes = true
vanishes _ = false

-- how often a part is replaced at most before a terminal is passed
abbrev weight : Part → ℕ
weight p.names = 1
weight p.more_names = 1
weight p.region_name = 1
weight p.second_name = 1
weight p.path = 3
weight p.head = 2
weight p.elems = 1
weight p.elem = 2
weight p.index = 1
weight p.within = 1
weight p.args_if = 2
weight p.args = 1
weight p.more_paths = 1
weight p.params_if = 2
weight p.params = 1
weight p.more_declared = 1
weight p.kind = 2
weight p.atomic_if = 1
weight p.kind_if = 3
weight p.given = 1
weight p.constraint = 4
weight p.more_constraints = 1
weight p.type = 2
weight p.base = 1
weight p.suffixes = 1
weight p.brackets_after = 3
weight p.region_if = 1
weight p.index_if = 1
weight (p.expr level) = 3
weight (p.climb level top) = 1
weight p.unary = 2
weight p.created = 2
weight p.created_rest = 2
weight p.array = 1
weight p.array_open = 4
weight p.inner = 1
weight p.literal = 1
weight p.selected = 3
weight p.selection = 2
weight p.element = 1
weight p.dotted_rest = 2
weight p.actuals_if = 2
weight p.actuals = 1
weight p.actuals_rest = 5
weight p.listed = 4
weight p.more_listed = 1
weight p.stmt = 3
weight p.body = 4
weight p.block = 1
weight p.stmts = 4
weight p.condition = 1
weight p.else_if = 1
weight p.range = 1
weight p.return_rest = 5
weight p.value = 4
weight p.shown = 4
weight p.after_name = 5
weight p.after_bracket = 4
weight p.declared_name = 1
weight (p.selected_then ending) = 2
weight p.selection_then = 2
weight p.dotted_then = 2
weight p.dotted_rest_then = 3
weight p.performed = 2
weight p.member = 6
weight p.after_member_name = 4
weight p.field_or_method = 3
weight p.in_if = 1
weight p.result = 3
weight p.method_rest = 2
weight p.formals = 1
weight p.formal_list = 4
weight p.formal = 3
weight p.more_formals = 1
weight p.summary = 3
weight p.reads_if = 1
weight p.writes_if = 1
weight p.items = 6
weight p.item = 5
weight p.more_items = 1
weight p.class = 1
weight p.parent_if = 1
weight p.members = 1
weight p.member_list = 7
weight p.program = 2
weight p.more_classes = 2

abbrev pub height : List Expected → ℕ
height [] = 0
height (one test ∷ xs) = 0
height (part n ∷ xs) = cond (vanishes n) (weight n + height xs) (weight n)

data Drops (n : Part) : List Expected → Type 0 where
  drops : {xs : List Expected} → ((others : List Expected) → height (xs ++ others) < height (part n ∷ others)) → Drops n xs

data DropsOf (n : Part) : Option (List Expected) → Type 0 where
  none_drops : DropsOf n None
  some_drops : {xs : List Expected} → Drops n xs → DropsOf n (Some xs)

decided : {n : Part} (found : Bool) {xs ys : List Expected} → Drops n xs → Drops n ys → Drops n (cond found xs ys)
decided true g h = g
decided false g h = h

by_next : {n : Part} (next : Option Placed) (at_end : List Expected) (by : Terminal → List Expected) → Drops n at_end → ((t : Terminal) → Drops n (by t)) → Drops n (with_next at_end by next)
by_next None at_end by g h = g
by_next (Some next) at_end by g h = h next.terminal

by_next_or : {n : Part} (next : Option Placed) (at_end : Option (List Expected)) (by : Terminal → Option (List Expected)) → DropsOf n at_end → ((t : Terminal) → DropsOf n (by t)) →
    DropsOf n (with_next at_end by next)
by_next_or None at_end by g h = g
by_next_or (Some next) at_end by g h = h next.terminal

drop_climb : (level top : ℕ) (o : Option InfixOp) → Drops (p.climb level top) (climb_parts level top o)
drop_climb level top None = drops (λ others. omega arith)
drop_climb level top (Some op) = decided (nat_le level (level_of op) && nat_le (left_level op) top) (drops (λ others. omega arith)) (drops (λ others. omega arith))

drop_selection : (t : Terminal) → DropsOf p.selection_then (selection_parts None t)
drop_selection (terminal.Symbol Symbol.Dot) = some_drops (drops (λ others. omega arith))
drop_selection (terminal.Symbol Symbol.OpenBracket) = some_drops (drops (λ others. omega arith))
drop_selection _ = none_drops

drop_selected : (ending : Ending) (others : Option (List Expected)) → DropsOf (p.selected_then ending) others → (t : Terminal) → DropsOf (p.selected_then ending) (selection_parts others t)
drop_selected ending others g (terminal.Symbol Symbol.Dot) = some_drops (drops (λ others. omega arith))
drop_selected ending others g (terminal.Symbol Symbol.OpenBracket) = some_drops (drops (λ others. omega arith))
drop_selected ending others g _ = g

drop_ending : (ending : Ending) → DropsOf (p.selected_then ending) (ending_parts ending)
drop_ending as_value = none_drops
drop_ending as_name = some_drops (drops (λ others. omega arith))
drop_ending as_field = some_drops (drops (λ others. omega arith))
drop_ending as_element = some_drops (drops (λ others. omega arith))
drop_ending as_call = some_drops (drops (λ others. omega arith))
drop_ending as_creation = some_drops (drops (λ others. omega arith))

drop_base_parts : (t : Terminal) → Drops p.base (base_parts t)
drop_base_parts (terminal.Keyword Keyword.Int) = drops (λ others. omega arith)
drop_base_parts (terminal.Keyword Keyword.Boolean) = drops (λ others. omega arith)
drop_base_parts _ = drops (λ others. omega arith)

drop_created_parts : (t : Terminal) → Drops p.created (created_parts t)
drop_created_parts (terminal.Keyword Keyword.Int) = drops (λ others. omega arith)
drop_created_parts (terminal.Keyword Keyword.Boolean) = drops (λ others. omega arith)
drop_created_parts _ = drops (λ others. omega arith)

drop_literal_parts : (t : Terminal) → DropsOf p.literal (literal_parts t)
drop_literal_parts (terminal.Int n) = some_drops (drops (λ others. omega arith))
drop_literal_parts (terminal.Name n) = some_drops (drops (λ others. omega arith))
drop_literal_parts (terminal.Keyword Keyword.True) = some_drops (drops (λ others. omega arith))
drop_literal_parts (terminal.Keyword Keyword.False) = some_drops (drops (λ others. omega arith))
drop_literal_parts (terminal.Keyword Keyword.Null) = some_drops (drops (λ others. omega arith))
drop_literal_parts (terminal.Keyword Keyword.This) = some_drops (drops (λ others. omega arith))
drop_literal_parts _ = none_drops

drop_unary_parts : (t : Terminal) → Drops p.unary (unary_parts t)
drop_unary_parts (terminal.Symbol Symbol.Minus) = drops (λ others. omega arith)
drop_unary_parts (terminal.Symbol Symbol.Not) = drops (λ others. omega arith)
drop_unary_parts (terminal.Keyword Keyword.New) = drops (λ others. omega arith)
drop_unary_parts (terminal.Symbol Symbol.OpenParen) = drops (λ others. omega arith)
drop_unary_parts _ = drops (λ others. omega arith)

drop_stmt_parts : (t : Terminal) → Drops p.stmt (stmt_parts t)
drop_stmt_parts (terminal.Symbol Symbol.OpenBrace) = drops (λ others. omega arith)
drop_stmt_parts (terminal.Keyword Keyword.If) = drops (λ others. omega arith)
drop_stmt_parts (terminal.Keyword Keyword.While) = drops (λ others. omega arith)
drop_stmt_parts (terminal.Keyword Keyword.Cobegin) = drops (λ others. omega arith)
drop_stmt_parts (terminal.Keyword Keyword.CobeginNd) = drops (λ others. omega arith)
drop_stmt_parts (terminal.Keyword Keyword.Foreach) = drops (λ others. omega arith)
drop_stmt_parts (terminal.Keyword Keyword.ForeachNd) = drops (λ others. omega arith)
drop_stmt_parts (terminal.Keyword Keyword.ForeachParts) = drops (λ others. omega arith)
drop_stmt_parts (terminal.Keyword Keyword.Atomic) = drops (λ others. omega arith)
drop_stmt_parts (terminal.Keyword Keyword.Return) = drops (λ others. omega arith)
drop_stmt_parts (terminal.Keyword Keyword.Print) = drops (λ others. omega arith)
drop_stmt_parts (terminal.Keyword Keyword.Region) = drops (λ others. omega arith)
drop_stmt_parts (terminal.Keyword Keyword.Int) = drops (λ others. omega arith)
drop_stmt_parts (terminal.Keyword Keyword.Boolean) = drops (λ others. omega arith)
drop_stmt_parts (terminal.Keyword Keyword.Final) = drops (λ others. omega arith)
drop_stmt_parts (terminal.Name n) = drops (λ others. omega arith)
drop_stmt_parts _ = drops (λ others. omega arith)

drop_after_name_parts : (t : Terminal) → DropsOf p.after_name (after_name_parts t)
drop_after_name_parts (terminal.Name n) = some_drops (drops (λ others. omega arith))
drop_after_name_parts (terminal.Symbol Symbol.Less) = some_drops (drops (λ others. omega arith))
drop_after_name_parts (terminal.Symbol Symbol.OpenBracket) = some_drops (drops (λ others. omega arith))
drop_after_name_parts (terminal.Symbol Symbol.Dot) = some_drops (drops (λ others. omega arith))
drop_after_name_parts _ = some_drops (drops (λ others. omega arith))

drop_performed_parts : (t : Terminal) → Drops p.performed (performed_parts t)
drop_performed_parts (terminal.Keyword Keyword.New) = drops (λ others. omega arith)
drop_performed_parts (terminal.Symbol Symbol.OpenParen) = drops (λ others. omega arith)
drop_performed_parts _ = drops (λ others. omega arith)

drop_member_parts : (t : Terminal) → Drops p.member (member_parts t)
drop_member_parts (terminal.Keyword Keyword.Atomic) = drops (λ others. omega arith)
drop_member_parts (terminal.Keyword Keyword.Region) = drops (λ others. omega arith)
drop_member_parts (terminal.Symbol Symbol.Less) = drops (λ others. omega arith)
drop_member_parts (terminal.Keyword Keyword.Void) = drops (λ others. omega arith)
drop_member_parts (terminal.Name n) = drops (λ others. omega arith)
drop_member_parts _ = drops (λ others. omega arith)

dropped_by : (n : Part) (next : Option Placed) → DropsOf n (choose n next)
dropped_by p.names next = some_drops (drops (λ others. omega arith))
dropped_by p.more_names next = some_drops (decided (next_is is_comma next) (drops (λ others. omega arith)) (drops (λ others. omega arith)))
dropped_by p.region_name next = some_drops (drops (λ others. omega arith))
dropped_by p.second_name next = some_drops (decided (next_is is_dot next) (drops (λ others. omega arith)) (drops (λ others. omega arith)))
dropped_by p.path next = some_drops (drops (λ others. omega arith))
dropped_by p.head next = some_drops (decided (next_is is_root next) (drops (λ others. omega arith)) (drops (λ others. omega arith)))
dropped_by p.elems next = some_drops (decided (next_is is_colon next) (drops (λ others. omega arith)) (drops (λ others. omega arith)))
dropped_by p.elem next = some_drops (decided (next_is is_star next) (drops (λ others. omega arith)) (decided (next_is is_open_bracket next) (drops (λ others. omega arith)) (drops (λ others. omega arith))))
dropped_by p.index next = some_drops (drops (λ others. omega arith))
dropped_by p.within next = some_drops (decided (next_is is_number next) (drops (λ others. omega arith)) (decided (next_is is_question next) (drops (λ others. omega arith)) (drops (λ others. omega arith))))
dropped_by p.args_if next = some_drops (decided (next_is is_less next) (drops (λ others. omega arith)) (drops (λ others. omega arith)))
dropped_by p.args next = some_drops (drops (λ others. omega arith))
dropped_by p.more_paths next = some_drops (decided (next_is is_comma next) (drops (λ others. omega arith)) (drops (λ others. omega arith)))
dropped_by p.params_if next = some_drops (decided (next_is is_less next) (drops (λ others. omega arith)) (drops (λ others. omega arith)))
dropped_by p.params next = some_drops (drops (λ others. omega arith))
dropped_by p.more_declared next = some_drops (decided (next_is is_comma next) (drops (λ others. omega arith)) (drops (λ others. omega arith)))
dropped_by p.kind next = some_drops (drops (λ others. omega arith))
dropped_by p.atomic_if next = some_drops (decided (next_is is_atomic next) (drops (λ others. omega arith)) (drops (λ others. omega arith)))
dropped_by p.kind_if next = some_drops (decided (next_is is_atomic next || next_is is_region next) (drops (λ others. omega arith)) (drops (λ others. omega arith)))
dropped_by p.given next = some_drops (decided (next_is is_bar next) (drops (λ others. omega arith)) (drops (λ others. omega arith)))
dropped_by p.constraint next = some_drops (drops (λ others. omega arith))
dropped_by p.more_constraints next = some_drops (decided (next_is is_comma next) (drops (λ others. omega arith)) (drops (λ others. omega arith)))
dropped_by p.type next = some_drops (drops (λ others. omega arith))
dropped_by p.base next = some_drops (by_next next (one is_name ∷ part p.args_if ∷ []) base_parts (drops (λ others. omega arith)) drop_base_parts)
dropped_by p.suffixes next = some_drops (decided (next_is is_open_bracket next) (drops (λ others. omega arith)) (drops (λ others. omega arith)))
dropped_by p.brackets_after next = some_drops (drops (λ others. omega arith))
dropped_by p.region_if next = some_drops (decided (next_is is_less next) (drops (λ others. omega arith)) (drops (λ others. omega arith)))
dropped_by p.index_if next = some_drops (decided (next_is is_hash next) (drops (λ others. omega arith)) (drops (λ others. omega arith)))
dropped_by (p.expr level) next = some_drops (drops (λ others. omega arith))
dropped_by (p.climb level top) next = some_drops (drop_climb level top (op_of next))
dropped_by p.unary next = some_drops (by_next next (part p.literal ∷ part p.selected ∷ []) unary_parts (drops (λ others. omega arith)) drop_unary_parts)
dropped_by p.created next = some_drops (by_next next (one is_name ∷ part p.args_if ∷ part p.created_rest ∷ []) created_parts (drops (λ others. omega arith)) drop_created_parts)
dropped_by p.created_rest next = some_drops (decided (next_is is_open_paren next) (drops (λ others. omega arith)) (drops (λ others. omega arith)))
dropped_by p.array next = some_drops (drops (λ others. omega arith))
dropped_by p.array_open next = some_drops (decided (next_is is_close_bracket next) (drops (λ others. omega arith)) (drops (λ others. omega arith)))
dropped_by p.inner next = some_drops (drops (λ others. omega arith))
dropped_by p.literal next = by_next_or next None literal_parts none_drops drop_literal_parts
dropped_by p.selected next = some_drops (decided (next_is is_dot next || next_is is_open_bracket next) (drops (λ others. omega arith)) (drops (λ others. omega arith)))
dropped_by p.selection next = some_drops (decided (next_is is_dot next) (drops (λ others. omega arith)) (drops (λ others. omega arith)))
dropped_by p.element next = some_drops (drops (λ others. omega arith))
dropped_by p.dotted_rest next = some_drops (decided (next_is is_less next) (drops (λ others. omega arith)) (drops (λ others. omega arith)))
dropped_by p.actuals_if next = some_drops (decided (next_is is_open_paren next) (drops (λ others. omega arith)) (drops (λ others. omega arith)))
dropped_by p.actuals next = some_drops (drops (λ others. omega arith))
dropped_by p.actuals_rest next = some_drops (decided (next_is is_close_paren next) (drops (λ others. omega arith)) (drops (λ others. omega arith)))
dropped_by p.listed next = some_drops (drops (λ others. omega arith))
dropped_by p.more_listed next = some_drops (decided (next_is is_comma next) (drops (λ others. omega arith)) (drops (λ others. omega arith)))
dropped_by p.stmt next = some_drops (by_next next (part p.performed ∷ []) stmt_parts (drops (λ others. omega arith)) drop_stmt_parts)
dropped_by p.body next = some_drops (drops (λ others. omega arith))
dropped_by p.block next = some_drops (drops (λ others. omega arith))
dropped_by p.stmts next = some_drops (decided (next_is is_close_brace next) (drops (λ others. omega arith)) (drops (λ others. omega arith)))
dropped_by p.condition next = some_drops (drops (λ others. omega arith))
dropped_by p.else_if next = some_drops (decided (next_is is_else next) (drops (λ others. omega arith)) (drops (λ others. omega arith)))
dropped_by p.range next = some_drops (drops (λ others. omega arith))
dropped_by p.return_rest next = some_drops (decided (next_is is_semicolon next) (drops (λ others. omega arith)) (drops (λ others. omega arith)))
dropped_by p.value next = some_drops (drops (λ others. omega arith))
dropped_by p.shown next = some_drops (decided (next_is is_text next) (drops (λ others. omega arith)) (drops (λ others. omega arith)))
dropped_by p.after_name next = by_next_or next (Some (one is_assign ∷ part p.value ∷ [])) after_name_parts (some_drops (drops (λ others. omega arith))) drop_after_name_parts
dropped_by p.after_bracket next = some_drops (decided (next_is is_close_bracket next) (drops (λ others. omega arith)) (drops (λ others. omega arith)))
dropped_by p.declared_name next = some_drops (drops (λ others. omega arith))
dropped_by (p.selected_then ending) next = by_next_or next (ending_parts ending) (selection_parts (ending_parts ending)) (drop_ending ending) (drop_selected ending (ending_parts ending) (drop_ending ending))
dropped_by p.selection_then next = by_next_or next None (selection_parts None) none_drops drop_selection
dropped_by p.dotted_then next = some_drops (decided (next_is is_less next) (drops (λ others. omega arith)) (drops (λ others. omega arith)))
dropped_by p.dotted_rest_then next = some_drops (decided (next_is is_open_paren next) (drops (λ others. omega arith)) (drops (λ others. omega arith)))
dropped_by p.performed next = some_drops (by_next next (part p.literal ∷ part (p.selected_then as_value) ∷ []) performed_parts (drops (λ others. omega arith)) drop_performed_parts)
dropped_by p.member next = some_drops (by_next next (part p.type ∷ one is_name ∷ part p.field_or_method ∷ []) member_parts (drops (λ others. omega arith)) drop_member_parts)
dropped_by p.after_member_name next = some_drops (decided (next_is is_open_paren next) (drops (λ others. omega arith)) (drops (λ others. omega arith)))
dropped_by p.field_or_method next = some_drops (decided (next_is is_open_paren next) (drops (λ others. omega arith)) (drops (λ others. omega arith)))
dropped_by p.in_if next = some_drops (decided (next_is is_in next) (drops (λ others. omega arith)) (drops (λ others. omega arith)))
dropped_by p.result next = some_drops (decided (next_is is_void next) (drops (λ others. omega arith)) (drops (λ others. omega arith)))
dropped_by p.method_rest next = some_drops (drops (λ others. omega arith))
dropped_by p.formals next = some_drops (drops (λ others. omega arith))
dropped_by p.formal_list next = some_drops (decided (next_is is_close_paren next) (drops (λ others. omega arith)) (drops (λ others. omega arith)))
dropped_by p.formal next = some_drops (drops (λ others. omega arith))
dropped_by p.more_formals next = some_drops (decided (next_is is_comma next) (drops (λ others. omega arith)) (drops (λ others. omega arith)))
dropped_by p.summary next = some_drops (decided (next_is is_reads next || next_is is_writes next) (drops (λ others. omega arith)) (decided (next_is is_pure next) (drops (λ others. omega arith)) (drops (λ others. omega arith))))
dropped_by p.reads_if next = some_drops (decided (next_is is_reads next) (drops (λ others. omega arith)) (drops (λ others. omega arith)))
dropped_by p.writes_if next = some_drops (decided (next_is is_writes next) (drops (λ others. omega arith)) (drops (λ others. omega arith)))
dropped_by p.items next = some_drops (drops (λ others. omega arith))
dropped_by p.item next = some_drops (drops (λ others. omega arith))
dropped_by p.more_items next = some_drops (decided (next_is is_comma next) (drops (λ others. omega arith)) (drops (λ others. omega arith)))
dropped_by p.class next = some_drops (drops (λ others. omega arith))
dropped_by p.parent_if next = some_drops (decided (next_is is_extends next) (drops (λ others. omega arith)) (drops (λ others. omega arith)))
dropped_by p.members next = some_drops (drops (λ others. omega arith))
dropped_by p.member_list next = some_drops (decided (next_is is_close_brace next) (drops (λ others. omega arith)) (drops (λ others. omega arith)))
dropped_by p.program next = some_drops (drops (λ others. omega arith))
dropped_by p.more_classes None = some_drops (drops (λ others. omega arith))
dropped_by p.more_classes (Some next) = some_drops (drops (λ others. omega arith))

of_some : {n : Part} {xs : List Expected} → DropsOf n (Some xs) → (others : List Expected) → height (xs ++ others) < height (part n ∷ others)
of_some (some_drops (drops d)) = d

pub dropped : (n : Part) (xs others : List Expected) (here : List Placed) → choose n (next_of here) ≡ Some xs → height (xs ++ others) < height (part n ∷ others)
dropped n xs others here e = of_some (subst (DropsOf n) e (dropped_by n (next_of here))) others

-- where what is expected ends, or is lost
pub record Settled (expected : List Expected) (before : List Placed) : Type 0 where
  pub to : List Expected
  pub left : List Placed
  pub steps : Steps to left expected before
  pub ends : IsLost to left ⊎ ((to ≡ []) × (left ≡ []))

picks : (n : Part) (others : List Expected) (here : List Placed) (o : Option (List Expected)) → choose n (next_of here) ≡ o →
    ((xs : List Expected) → choose n (next_of here) ≡ Some xs → Settled (xs ++ others) here) → Settled (part n ∷ others) here
picks n others here None e on = record { to = part n ∷ others; left = here; steps = stay; ends = inl (no_part e) }
picks n others here (Some xs) e on = let r = on xs e in record { to = r.to; left = r.left; steps = pick e r.steps; ends = r.ends }

passes : (test : Terminal → Bool) (others : List Expected) (next : Placed) (after : List Placed) (found : Bool) → test next.terminal ≡ found → Settled others after → Settled (one test ∷ others) (next ∷ after)
passes test others next after true e r = record { to = r.to; left = r.left; steps = pass e r.steps; ends = r.ends }
passes test others next after false e r = record { to = one test ∷ others; left = next ∷ after; steps = stay; ends = inl (no_terminal e) }

settle : (n : ℕ) → ((expected : List Expected) (here : List Placed) → length here < n → Settled expected here) → (most : ℕ) (expected : List Expected) (here : List Placed) →
    length here ≤ n → height expected ≤ most → Settled expected here
settle n shorter most [] [] h k = record { to = []; left = []; steps = stay; ends = inr (refl, refl) }
settle n shorter most [] (next ∷ after) h k = record { to = []; left = next ∷ after; steps = stay; ends = inl too_many }
settle n shorter most (one test ∷ others) [] h k = record { to = one test ∷ others; left = []; steps = stay; ends = inl (no_terminal refl) }
settle n shorter most (one test ∷ others) (next ∷ after) h k = passes test others next after (test next.terminal) refl (shorter others after (omega arith))
settle n shorter zero (part m ∷ others) here h k =
    picks m others here (choose m (next_of here)) refl (λ xs e. absurd (let d = dropped m xs others here e in omega arith))
settle n shorter (suc most) (part m ∷ others) here h k =
    picks m others here (choose m (next_of here)) refl (λ xs e. settle n shorter most (xs ++ others) here h (let d = dropped m xs others here e in omega arith))

pub settled : (n : ℕ) (expected : List Expected) (here : List Placed) → length here < n → Settled expected here
settled zero expected here h = absurd (omega arith)
settled (suc n) expected here h = settle n (settled n) (height expected) expected here (omega arith) (omega arith)

-- What is expected of a text, as a list of what is still to come: terminals and parts of the grammar. The next terminal
-- alone says what becomes of the first of them: a part is replaced by what it begins with, a terminal is passed. Where neither
-- can be, the text is lost.
use Rattle.std.specs.Prelude.{◌≡◌, ℕ, suc, List, [], ◌∷◌, ◌++◌, Bool, true, false, cond, ◌&&◌, ◌||◌, nat_le, Option, Some, None}
use Rattle.syntax_tokens.specs.declared.token.Symbol.{Symbol}
use Rattle.syntax_tokens.specs.declared.token.Keyword.{Keyword}
use Rattle.syntax_tokens.specs.declared.terminal.Placed.{Placed}
use Rattle.syntax_tokens.specs.declared.terminal.Terminal.{Terminal}
use Rattle.syntax_tokens.specs.declared.terminal.Terminal.TheVariants as terminal
use Rattle.syntax_tree.specs.declared.expr.InfixOp.{InfixOp}
use Rattle.syntax_grammar.specs.Words.{op_at, is_any, is_assign, is_atomic, is_bar, is_boolean, is_class, is_close_brace, is_close_bracket, is_close_paren, is_colon, is_comma, is_dot, is_else, is_extends, is_final, is_foreach_parts, is_greater, is_hash, is_if, is_in, is_int, is_less, is_name, is_new, is_number, is_open_brace, is_open_bracket, is_open_paren, is_print, is_pure, is_question, is_reads, is_region, is_return, is_root, is_semicolon, is_star, is_text, is_void, is_while, is_writes}
use Rattle.syntax_grammar.specs.Expressions.{level_of, left_level, Ending, as_value, as_name, as_field, as_element, as_call, as_creation}

-- the parts of the grammar, as they are read; where one is named for what follows, it may be nothing
pub data Part : Type 0 where
  -- region paths
  names : Part
  more_names : Part
  region_name : Part
  second_name : Part
  path : Part
  head : Part
  elems : Part
  elem : Part
  index : Part
  within : Part
  args_if : Part
  args : Part
  more_paths : Part
  -- region parameters
  params_if : Part
  params : Part
  more_declared : Part
  kind : Part
  atomic_if : Part
  kind_if : Part
  given : Part
  constraint : Part
  more_constraints : Part
  -- types
  type : Part
  base : Part
  suffixes : Part
  brackets_after : Part
  region_if : Part
  index_if : Part
  -- expressions
  expr : ℕ → Part
  climb : ℕ → ℕ → Part
  unary : Part
  created : Part
  created_rest : Part
  array : Part
  array_open : Part
  inner : Part
  literal : Part
  selected : Part
  selection : Part
  element : Part
  dotted_rest : Part
  actuals_if : Part
  actuals : Part
  actuals_rest : Part
  listed : Part
  more_listed : Part
  -- statements
  stmt : Part
  body : Part
  block : Part
  stmts : Part
  condition : Part
  else_if : Part
  range : Part
  return_rest : Part
  value : Part
  shown : Part
  after_name : Part
  after_bracket : Part
  declared_name : Part
  selected_then : Ending → Part
  selection_then : Part
  dotted_then : Part
  dotted_rest_then : Part
  performed : Part
  -- members and classes
  member : Part
  after_member_name : Part
  field_or_method : Part
  in_if : Part
  result : Part
  method_rest : Part
  formals : Part
  formal_list : Part
  formal : Part
  more_formals : Part
  summary : Part
  reads_if : Part
  writes_if : Part
  items : Part
  item : Part
  more_items : Part
  class : Part
  parent_if : Part
  members : Part
  member_list : Part
  program : Part
  more_classes : Part

-- what is still to come
pub data Expected : Type 0 where
  one : (Terminal → Bool) → Expected
  part : Part → Expected

abbrev pub next_of : List Placed → Option Placed
next_of [] = None
next_of (next ∷ after) = Some next

abbrev pub next_is : (Terminal → Bool) → Option Placed → Bool
next_is test None = false
next_is test (Some next) = test next.terminal

abbrev pub op_of : Option Placed → Option InfixOp
op_of None = None
op_of (Some next) = op_at next.terminal

abbrev pub climb_parts : ℕ → ℕ → Option InfixOp → List Expected
climb_parts level top None = []
climb_parts level top (Some op) =
    cond (nat_le level (level_of op) && nat_le (left_level op) top) (one is_any ∷ part (expr (suc (level_of op))) ∷ part (climb level (level_of op)) ∷ []) []

abbrev pub base_parts : Terminal → List Expected
base_parts (terminal.Keyword Keyword.Int) = one is_int ∷ []
base_parts (terminal.Keyword Keyword.Boolean) = one is_boolean ∷ []
base_parts _ = one is_name ∷ part args_if ∷ []

abbrev pub created_parts : Terminal → List Expected
created_parts (terminal.Keyword Keyword.Int) = part base ∷ part array ∷ []
created_parts (terminal.Keyword Keyword.Boolean) = part base ∷ part array ∷ []
created_parts _ = one is_name ∷ part args_if ∷ part created_rest ∷ []

abbrev pub literal_parts : Terminal → Option (List Expected)
literal_parts (terminal.Int n) = Some (one is_any ∷ [])
literal_parts (terminal.Name n) = Some (one is_any ∷ [])
literal_parts (terminal.Keyword Keyword.True) = Some (one is_any ∷ [])
literal_parts (terminal.Keyword Keyword.False) = Some (one is_any ∷ [])
literal_parts (terminal.Keyword Keyword.Null) = Some (one is_any ∷ [])
literal_parts (terminal.Keyword Keyword.This) = Some (one is_any ∷ [])
literal_parts _ = None

abbrev pub unary_parts : Terminal → List Expected
unary_parts (terminal.Symbol Symbol.Minus) = one is_any ∷ part unary ∷ []
unary_parts (terminal.Symbol Symbol.Not) = one is_any ∷ part unary ∷ []
unary_parts (terminal.Keyword Keyword.New) = one is_new ∷ part created ∷ []
unary_parts (terminal.Symbol Symbol.OpenParen) = part inner ∷ part selected ∷ []
unary_parts _ = part literal ∷ part selected ∷ []

abbrev pub stmt_parts : Terminal → List Expected
stmt_parts (terminal.Symbol Symbol.OpenBrace) = part block ∷ []
stmt_parts (terminal.Keyword Keyword.If) = one is_if ∷ part condition ∷ part body ∷ part else_if ∷ []
stmt_parts (terminal.Keyword Keyword.While) = one is_while ∷ part condition ∷ part body ∷ []
stmt_parts (terminal.Keyword Keyword.Cobegin) = one is_any ∷ part block ∷ []
stmt_parts (terminal.Keyword Keyword.CobeginNd) = one is_any ∷ part block ∷ []
stmt_parts (terminal.Keyword Keyword.Foreach) = one is_any ∷ one is_open_paren ∷ part range ∷ part body ∷ []
stmt_parts (terminal.Keyword Keyword.ForeachNd) = one is_any ∷ one is_open_paren ∷ part range ∷ part body ∷ []
stmt_parts (terminal.Keyword Keyword.ForeachParts) = one is_foreach_parts ∷ one is_open_paren ∷ one is_name ∷ one is_comma ∷ part range ∷ part body ∷ []
stmt_parts (terminal.Keyword Keyword.Atomic) = one is_atomic ∷ part block ∷ []
stmt_parts (terminal.Keyword Keyword.Return) = one is_return ∷ part return_rest ∷ []
stmt_parts (terminal.Keyword Keyword.Print) = one is_print ∷ one is_open_paren ∷ part shown ∷ one is_close_paren ∷ one is_semicolon ∷ []
stmt_parts (terminal.Keyword Keyword.Region) = one is_region ∷ part names ∷ one is_semicolon ∷ []
stmt_parts (terminal.Keyword Keyword.Int) = part type ∷ part declared_name ∷ []
stmt_parts (terminal.Keyword Keyword.Boolean) = part type ∷ part declared_name ∷ []
stmt_parts (terminal.Keyword Keyword.Final) = one is_final ∷ part type ∷ part declared_name ∷ []
stmt_parts (terminal.Name n) = one is_name ∷ part after_name ∷ []
stmt_parts _ = part performed ∷ []

abbrev pub after_name_parts : Terminal → Option (List Expected)
after_name_parts (terminal.Name n) = Some (part args_if ∷ part suffixes ∷ part declared_name ∷ [])
after_name_parts (terminal.Symbol Symbol.Less) = Some (part args_if ∷ part suffixes ∷ part declared_name ∷ [])
after_name_parts (terminal.Symbol Symbol.OpenBracket) = Some (one is_open_bracket ∷ part after_bracket ∷ [])
after_name_parts (terminal.Symbol Symbol.Dot) = Some (one is_dot ∷ part dotted_then ∷ [])
after_name_parts _ = Some (one is_assign ∷ part value ∷ [])

-- what ends a statement that begins with an expression
abbrev pub ending_parts : Ending → Option (List Expected)
ending_parts as_value = None
ending_parts as_name = Some (one is_assign ∷ part value ∷ [])
ending_parts as_field = Some (one is_assign ∷ part value ∷ [])
ending_parts as_element = Some (one is_assign ∷ part value ∷ [])
ending_parts as_call = Some (one is_semicolon ∷ [])
ending_parts as_creation = Some (one is_semicolon ∷ [])

abbrev pub selection_parts : Option (List Expected) → Terminal → Option (List Expected)
selection_parts others (terminal.Symbol Symbol.Dot) = Some (one is_dot ∷ part dotted_then ∷ [])
selection_parts others (terminal.Symbol Symbol.OpenBracket) = Some (part element ∷ part (selected_then as_element) ∷ [])
selection_parts others _ = others

abbrev pub performed_parts : Terminal → List Expected
performed_parts (terminal.Keyword Keyword.New) = one is_new ∷ one is_name ∷ part args_if ∷ part actuals ∷ part (selected_then as_creation) ∷ []
performed_parts (terminal.Symbol Symbol.OpenParen) = part inner ∷ part selection_then ∷ []
performed_parts _ = part literal ∷ part (selected_then as_value) ∷ []

abbrev pub member_parts : Terminal → List Expected
member_parts (terminal.Keyword Keyword.Atomic) = part kind ∷ part names ∷ one is_semicolon ∷ []
member_parts (terminal.Keyword Keyword.Region) = part kind ∷ part names ∷ one is_semicolon ∷ []
member_parts (terminal.Symbol Symbol.Less) = part params_if ∷ part result ∷ one is_name ∷ part method_rest ∷ []
member_parts (terminal.Keyword Keyword.Void) = part params_if ∷ part result ∷ one is_name ∷ part method_rest ∷ []
member_parts (terminal.Name n) = one is_name ∷ part after_member_name ∷ []
member_parts _ = part type ∷ one is_name ∷ part field_or_method ∷ []

abbrev pub with_next : {A : Type 0} → A → (Terminal → A) → Option Placed → A
with_next at_end by None = at_end
with_next at_end by (Some next) = by next.terminal

abbrev pub if_next : (Terminal → Bool) → Option Placed → List Expected → List Expected → Option (List Expected)
if_next test next this that = Some (cond (next_is test next) this that)

-- what a part begins with, in front of the next terminal
abbrev pub choose : Part → Option Placed → Option (List Expected)
choose names next = Some (one is_name ∷ part more_names ∷ [])
choose more_names next = if_next is_comma next (one is_comma ∷ one is_name ∷ part more_names ∷ []) []
choose region_name next = Some (one is_name ∷ part second_name ∷ [])
choose second_name next = if_next is_dot next (one is_dot ∷ one is_name ∷ []) []
choose path next = Some (part head ∷ part elems ∷ [])
choose head next = if_next is_root next (one is_root ∷ []) (part region_name ∷ [])
choose elems next = if_next is_colon next (one is_colon ∷ part elem ∷ part elems ∷ []) []
choose elem next = Some (cond (next_is is_star next) (one is_star ∷ []) (cond (next_is is_open_bracket next) (part index ∷ []) (part region_name ∷ [])))
choose index next = Some (one is_open_bracket ∷ part within ∷ one is_close_bracket ∷ [])
choose within next = Some (cond (next_is is_number next) (one is_number ∷ []) (cond (next_is is_question next) (one is_question ∷ []) (one is_name ∷ [])))
choose args_if next = if_next is_less next (part args ∷ []) []
choose args next = Some (one is_less ∷ part path ∷ part more_paths ∷ one is_greater ∷ [])
choose more_paths next = if_next is_comma next (one is_comma ∷ part path ∷ part more_paths ∷ []) []
choose params_if next = if_next is_less next (part params ∷ []) []
choose params next = Some (one is_less ∷ part kind ∷ one is_name ∷ part more_declared ∷ part given ∷ one is_greater ∷ [])
choose more_declared next = if_next is_comma next (one is_comma ∷ part kind_if ∷ one is_name ∷ part more_declared ∷ []) []
choose kind next = Some (part atomic_if ∷ one is_region ∷ [])
choose atomic_if next = if_next is_atomic next (one is_atomic ∷ []) []
choose kind_if next = Some (cond (next_is is_atomic next || next_is is_region next) (part kind ∷ []) [])
choose given next = if_next is_bar next (one is_bar ∷ part constraint ∷ part more_constraints ∷ []) []
choose constraint next = Some (part path ∷ one is_hash ∷ part path ∷ [])
choose more_constraints next = if_next is_comma next (one is_comma ∷ part constraint ∷ part more_constraints ∷ []) []
choose type next = Some (part base ∷ part suffixes ∷ [])
choose base next = Some (with_next (one is_name ∷ part args_if ∷ []) base_parts next)
choose suffixes next = if_next is_open_bracket next (one is_open_bracket ∷ one is_close_bracket ∷ part brackets_after ∷ part suffixes ∷ []) []
choose brackets_after next = Some (part region_if ∷ part index_if ∷ [])
choose region_if next = if_next is_less next (one is_less ∷ part path ∷ one is_greater ∷ []) []
choose index_if next = if_next is_hash next (one is_hash ∷ one is_name ∷ []) []
choose (expr level) next = Some (part unary ∷ part (climb level 6) ∷ [])
choose (climb level top) next = Some (climb_parts level top (op_of next))
choose unary next = Some (with_next (part literal ∷ part selected ∷ []) unary_parts next)
choose created next = Some (with_next (one is_name ∷ part args_if ∷ part created_rest ∷ []) created_parts next)
choose created_rest next = if_next is_open_paren next (part actuals ∷ part selected ∷ []) (part array ∷ [])
choose array next = Some (one is_open_bracket ∷ part array_open ∷ [])
choose array_open next =
    if_next is_close_bracket next (one is_close_bracket ∷ part brackets_after ∷ part array ∷ []) (part
    (expr 0) ∷ one is_close_bracket ∷ part brackets_after ∷ [])
choose inner next = Some (one is_open_paren ∷ part (expr 0) ∷ one is_close_paren ∷ [])
choose literal next = with_next None literal_parts next
choose selected next = Some (cond (next_is is_dot next || next_is is_open_bracket next) (part selection ∷ part selected ∷ []) [])
choose selection next = if_next is_dot next (one is_dot ∷ part dotted_rest ∷ []) (part element ∷ [])
choose element next = Some (one is_open_bracket ∷ part (expr 0) ∷ one is_close_bracket ∷ [])
choose dotted_rest next = if_next is_less next (part args ∷ one is_name ∷ part actuals ∷ []) (one is_name ∷ part actuals_if ∷ [])
choose actuals_if next = if_next is_open_paren next (part actuals ∷ []) []
choose actuals next = Some (one is_open_paren ∷ part actuals_rest ∷ [])
choose actuals_rest next = if_next is_close_paren next (one is_close_paren ∷ []) (part listed ∷ one is_close_paren ∷ [])
choose listed next = Some (part (expr 0) ∷ part more_listed ∷ [])
choose more_listed next = if_next is_comma next (one is_comma ∷ part (expr 0) ∷ part more_listed ∷ []) []
choose stmt next = Some (with_next (part performed ∷ []) stmt_parts next)
-- the body of another statement
choose body next = Some (part stmt ∷ [])
choose block next = Some (one is_open_brace ∷ part stmts ∷ one is_close_brace ∷ [])
choose stmts next = if_next is_close_brace next [] (part stmt ∷ part stmts ∷ [])
choose condition next = Some (one is_open_paren ∷ part (expr 0) ∷ one is_close_paren ∷ [])
choose else_if next = if_next is_else next (one is_else ∷ part body ∷ []) []
choose range next = Some (one is_int ∷ one is_name ∷ one is_in ∷ part (expr 0) ∷ one is_comma ∷ part (expr 0) ∷ one is_close_paren ∷ [])
choose return_rest next = if_next is_semicolon next (one is_semicolon ∷ []) (part value ∷ [])
choose value next = Some (part (expr 0) ∷ one is_semicolon ∷ [])
choose shown next = if_next is_text next (one is_text ∷ []) (part (expr 0) ∷ [])
choose after_name next = with_next (Some (one is_assign ∷ part value ∷ [])) after_name_parts next
choose after_bracket next =
    if_next is_close_bracket next (one is_close_bracket ∷ part brackets_after ∷ part suffixes ∷ part declared_name ∷ [])
    (part (expr 0) ∷ one is_close_bracket ∷ part (selected_then as_element) ∷ [])
choose declared_name next = Some (one is_name ∷ one is_assign ∷ part value ∷ [])
choose (selected_then ending) next = with_next (ending_parts ending) (selection_parts (ending_parts ending)) next
choose selection_then next = with_next None (selection_parts None) next
choose dotted_then next =
    if_next is_less next (part args ∷ one is_name ∷ part actuals ∷ part (selected_then as_call) ∷ []) (one is_name ∷ part dotted_rest_then ∷ [])
choose dotted_rest_then next = if_next is_open_paren next (part actuals ∷ part (selected_then as_call) ∷ []) (part (selected_then as_field) ∷ [])
choose performed next = Some (with_next (part literal ∷ part (selected_then as_value) ∷ []) performed_parts next)
choose member next = Some (with_next (part type ∷ one is_name ∷ part field_or_method ∷ []) member_parts next)
choose after_member_name next = if_next is_open_paren next (part method_rest ∷ []) (part args_if ∷ part suffixes ∷ one is_name ∷ part field_or_method ∷ [])
choose field_or_method next = if_next is_open_paren next (part method_rest ∷ []) (part in_if ∷ one is_semicolon ∷ [])
choose in_if next = if_next is_in next (one is_in ∷ part path ∷ []) []
choose result next = if_next is_void next (one is_void ∷ []) (part type ∷ [])
choose method_rest next = Some (part formals ∷ part summary ∷ part block ∷ [])
choose formals next = Some (one is_open_paren ∷ part formal_list ∷ one is_close_paren ∷ [])
choose formal_list next = if_next is_close_paren next [] (part formal ∷ part more_formals ∷ [])
choose formal next = Some (part type ∷ one is_name ∷ [])
choose more_formals next = if_next is_comma next (one is_comma ∷ part formal ∷ part more_formals ∷ []) []
choose summary next =
    Some (cond (next_is is_reads next || next_is is_writes next) (part reads_if ∷ part writes_if ∷ []) (cond (next_is is_pure next) (one is_pure ∷ []) []))
choose reads_if next = if_next is_reads next (one is_reads ∷ part items ∷ []) []
choose writes_if next = if_next is_writes next (one is_writes ∷ part items ∷ []) []
choose items next = Some (part item ∷ part more_items ∷ [])
choose item next = Some (part atomic_if ∷ part path ∷ [])
choose more_items next = if_next is_comma next (one is_comma ∷ part item ∷ part more_items ∷ []) []
choose class next = Some (one is_class ∷ one is_name ∷ part params_if ∷ part parent_if ∷ part members ∷ [])
choose parent_if next = if_next is_extends next (one is_extends ∷ one is_name ∷ part args_if ∷ []) []
choose members next = Some (one is_open_brace ∷ part member_list ∷ one is_close_brace ∷ [])
choose member_list next = if_next is_close_brace next [] (part member ∷ part member_list ∷ [])
choose program next = Some (part class ∷ part more_classes ∷ [])
choose more_classes None = Some []
choose more_classes (Some next) = Some (part class ∷ part more_classes ∷ [])

-- from an expectation and the terminals that are to come, others are reached
pub data Steps (to : List Expected) (left : List Placed) : List Expected → List Placed → Type 0 where
  stay : Steps to left to left
  pick : {n : Part} {xs others : List Expected} {here : List Placed} → choose n (next_of here) ≡ Some xs → Steps to left (xs ++ others) here →
      Steps to left (part n ∷ others) here
  pass : {test : Terminal → Bool} {others : List Expected} {next : Placed} {after : List Placed} →
      test next.terminal ≡ true → Steps to left others after → Steps to left (one test ∷ others) (next ∷ after)

-- nothing is reached from here
pub data IsLost : List Expected → List Placed → Type 0 where
  no_part : {n : Part} {others : List Expected} {here : List Placed} → choose n (next_of here) ≡ None → IsLost (part n ∷ others) here
  no_terminal : {test : Terminal → Bool} {others : List Expected} {here : List Placed} → next_is test (next_of here) ≡ false → IsLost (one test ∷ others) here
  too_many : {next : Placed} {after : List Placed} → IsLost [] (next ∷ after)

-- between two places of a text, all that is expected first is read, whatever is expected after it
pub record Passes (xs : List Expected) (before after : List Placed) : Type 0 where
  pub goes : {to : List Expected} {left : List Placed} {others : List Expected} → Steps to left others after → Steps to left (xs ++ others) before

-- Statements that are derived are read as they are expected.
use Rattle.std.proofs.Common.{◌≡◌, List, [], ◌∷◌, ◌⊎◌, inl, inr, Bool, true, false, Some, refl}
use Rattle.lang_base.specs.declared.place.Place.{Place}
use Rattle.syntax_tokens.specs.declared.token.Symbol.{Symbol}
use Rattle.syntax_tokens.specs.declared.terminal.Placed.{Placed}
use Rattle.syntax_tokens.specs.declared.terminal.Terminal.TheVariants as terminal
use Rattle.syntax_tree.specs.declared.region.Named.{Named}
use Rattle.syntax_tree.specs.declared.region.RplTree.{RplTree}
use Rattle.syntax_tree.specs.declared.region.Suffix.{Suffix}
use Rattle.syntax_tree.specs.declared.region.TypeTree.{TypeTree}
use Rattle.syntax_tree.specs.Plain.{PlainExpr, PlainStmt, StmtForm, PlainStmts}
use Rattle.syntax_grammar.specs.Taking.{TakesSymbol, TakesName, Listed, last, more, Many}
use Rattle.syntax_grammar.specs.Paths.{DerivesArgs, no_args, args}
use Rattle.syntax_grammar.specs.Types.{DerivesBase, DerivesSuffix, suffix, DerivesType, type_of}
use Rattle.syntax_grammar.specs.Expressions.{Ending, as_value, as_field, as_element, as_call, as_creation, DerivesPostfix, primary, after_dot, called, indexed, DerivesPrimary, number, yes, no, receiver, parenthesised, creation}
use Rattle.syntax_grammar.specs.Statements.{IsPerformed, DerivesFinal, not_final, final, DerivesCondition, condition, DerivesValue, value, DerivesRange, range, DerivesBlock, braces, DerivesStmts, DerivesStmt, at_first, declaration, local_assignment, field_assignment, element_assignment, performed, DerivesForm, blocked, if_alone, if_else, turning, bare_return, return_with, printed, printed_text, branching, spreading, parting, in_one, new_regions}
use Rattle.syntax_grammar.proofs.once.OnceReader.{starts, not_next}
use Rattle.syntax_grammar.proofs.once.OnceExprs.{ends_at}
use Rattle.syntax_grammar.proofs.once.OnceLevels.{level_begins, expr_begins_not, no_close_bracket, actuals_start}
use Rattle.syntax_grammar.proofs.once.OnceStmts.{expr_no_text, value_no_semicolon, else_or_not, stmt_not_brace, primary_no_target}
use Rattle.syntax_grammar.specs.Words.{is_name, is_text, is_dot, is_close_bracket, is_less, is_comma, is_semicolon, is_assign, is_open_paren, is_close_brace, is_else}
use Rattle.syntax_grammar.specs.Expecting.{Part, Expected, one, part, choose, Steps, pick, pass, Passes}
use Rattle.syntax_grammar.proofs.expected.Expected.{picked, step_next, taken, nothing, rule, on_next, took, link, two, is_next}
use Rattle.syntax_grammar.specs.Expecting.{Part as p}
use Rattle.syntax_grammar.proofs.expected.ExpectedPaths.{unless, where_next, class_after, type_passes, suffixes_pass, after_passes, args_pass}
use Rattle.syntax_grammar.proofs.expected.ExpectedExprs.{args_alone, actuals_pass, expr_passes}

-- what stands in more than one statement
condition_passes : {before after : List Placed} {test : PlainExpr} → DerivesCondition before after test → Passes (part p.condition ∷ []) before after
condition_passes (condition o d c) = rule refl (link (took o refl) (link (expr_passes d (ends_at c refl refl)) (took c refl)))

value_passes : {before after : List Placed} {e : PlainExpr} → DerivesValue before after e → Passes (part p.value ∷ []) before after
value_passes (value d c) = rule refl (link (expr_passes d (ends_at c refl refl)) (took c refl))

range_passes : {before after : List Placed} {var : Named} {first second : PlainExpr} → DerivesRange before after var first second →
    Passes (part p.range ∷ []) before after
range_passes (range int n is_in d comma e c) =
    rule refl (link (took int refl) (link (took n refl) (link (took is_in refl) (link (expr_passes d (ends_at comma refl refl)) (link (took comma refl) (link
    (expr_passes e (ends_at c refl refl)) (took c refl)))))))

names_listed : {before after : List Placed} {names : List Named} → Listed TakesName before after names → starts is_comma after ≡ false →
    Passes (one is_name ∷ part p.more_names ∷ []) before after
names_listed (last t) closed = link (took t refl) (unless _ is_comma refl closed nothing)
names_listed (more t comma ds) closed = link (took t refl) (where_next _ is_comma refl (rw comma.first refl) (link (took comma refl) (names_listed ds closed)))

pub names_pass : {before after : List Placed} {names : List Named} → Listed TakesName before after names → starts is_comma after ≡ false →
    Passes (part p.names ∷ []) before after
names_pass ds closed = rule refl (names_listed ds closed)

-- declarations
after_type : {before between after three rest : List Placed} {paths : List RplTree} {trees : List Suffix} {named : Named} →
    DerivesArgs before between paths → Many DerivesSuffix between after trees → TakesName after three named →
    Passes (part p.declared_name ∷ []) after rest → Passes (part p.after_name ∷ []) before rest
after_type no_args Many.none n q = on_next n refl (two (class_after no_args Many.none n) q)
after_type (args o ps c) ss n q = on_next o refl (two (class_after (args o ps c) ss n) q)
after_type no_args (Many.some (suffix o c d) ds) n q =
    on_next o refl (link (took o refl) (where_next _ is_close_bracket refl (rw c.first refl) (link (took c refl) (link (after_passes d) (link
    (suffixes_pass ds (rw n.first refl)) q)))))

declared_passes : {before first between after rest : List Placed} {is_final : Bool} {ty : TypeTree} {named : Named} →
    DerivesFinal before first is_final → DerivesType first between ty → TakesName between after named → Passes (part p.declared_name ∷ []) between rest →
    Passes (part p.stmt ∷ []) before rest
declared_passes (final t) d n q = on_next t refl (link (took t refl) (link (type_passes d n) q))
declared_passes not_final (type_of s (DerivesBase.int t) ss) n q = on_next t refl (link (type_passes (type_of s (DerivesBase.int t) ss) n) q)
declared_passes not_final (type_of s (DerivesBase.boolean t) ss) n q = on_next t refl (link (type_passes (type_of s (DerivesBase.boolean t) ss) n) q)
declared_passes not_final (type_of s (DerivesBase.class t d) ss) n q = on_next t refl (link (took t refl) (after_type d ss n q))

-- what is expected after an expression that a statement begins with
abbrev rest_of_first : {ending : Ending} {before after : List Placed} {e : PlainExpr} → DerivesPrimary ending before after e → Part
rest_of_first (DerivesPrimary.name t) = p.after_name
rest_of_first (parenthesised o l c) = p.selection_then
rest_of_first (creation t n r a) = p.selected_then as_creation
rest_of_first _ = p.selected_then as_value

abbrev rest_of : {ending : Ending} {before after : List Placed} {e : PlainExpr} → DerivesPostfix ending before after e → Part
rest_of (primary d) = rest_of_first d
rest_of (after_dot d dot n) = p.selected_then as_field
rest_of (called d dot r n a) = p.selected_then as_call
rest_of (indexed d o l c) = p.selected_then as_element

first_steps : {ending : Ending} {before after : List Placed} {e : PlainExpr} {to others : List Expected} {left : List Placed} (d : DerivesPrimary ending before after e) →
    Steps to left (part (rest_of_first d) ∷ others) after → Steps to left (part p.stmt ∷ others) before
first_steps (number t) s = rw t.first (pick refl (pick refl (pick refl (pass refl s))))
first_steps (yes t) s = rw t.first (pick refl (pick refl (pick refl (pass refl s))))
first_steps (no t) s = rw t.first (pick refl (pick refl (pick refl (pass refl s))))
first_steps (DerivesPrimary.nothing t) s = rw t.first (pick refl (pick refl (pick refl (pass refl s))))
first_steps (receiver t) s = rw t.first (pick refl (pick refl (pick refl (pass refl s))))
first_steps (DerivesPrimary.name t) s = rw t.first (pick refl (pass refl s))
first_steps (parenthesised o l c) s =
    step_next o refl (step_next o refl (step_next o refl (taken o refl ((expr_passes l (ends_at c refl refl)).goes (taken c refl s)))))
first_steps (creation t n r a) s =
    step_next t refl (step_next t refl (taken t refl (taken n refl ((args_pass r (actuals_start a is_less)).goes ((actuals_pass a).goes s)))))

-- a dot goes on with each of them
dot_goes_on : {ending : Ending} {before after : List Placed} {e : PlainExpr} (place : Place) (d : DerivesPostfix ending before after e) →
    choose (rest_of d) (Some (record { terminal = terminal.Symbol Symbol.Dot; place = place })) ≡ Some (one is_dot ∷ part p.dotted_then ∷ [])
dot_goes_on place (primary (number t)) = refl
dot_goes_on place (primary (yes t)) = refl
dot_goes_on place (primary (no t)) = refl
dot_goes_on place (primary (DerivesPrimary.nothing t)) = refl
dot_goes_on place (primary (receiver t)) = refl
dot_goes_on place (primary (DerivesPrimary.name t)) = refl
dot_goes_on place (primary (parenthesised o l c)) = refl
dot_goes_on place (primary (creation t n r a)) = refl
dot_goes_on place (after_dot d dot n) = refl
dot_goes_on place (called d dot r n a) = refl
dot_goes_on place (indexed d o l c) = refl

abbrev index_rest : List Expected
index_rest = part (p.expr 0) ∷ one is_close_bracket ∷ part (p.selected_then as_element) ∷ []

bracket_goes_on : {to others : List Expected} {left : List Placed} {ending : Ending} {before at after : List Placed} {e : PlainExpr} {place : Place} (d : DerivesPostfix ending before at e) →
    TakesSymbol Symbol.OpenBracket at after place → starts is_close_bracket after ≡ false →
    Steps to left (part (p.expr 0) ∷ one is_close_bracket ∷ part (p.selected_then as_element) ∷ others) after →
    Steps to left (part (rest_of d) ∷ others) at
bracket_goes_on (primary (number t)) o closed s = rw o.first (pick refl (pick refl (pass refl s)))
bracket_goes_on (primary (yes t)) o closed s = rw o.first (pick refl (pick refl (pass refl s)))
bracket_goes_on (primary (DerivesPrimary.no t)) o closed s = rw o.first (pick refl (pick refl (pass refl s)))
bracket_goes_on (primary (DerivesPrimary.nothing t)) o closed s = rw o.first (pick refl (pick refl (pass refl s)))
bracket_goes_on (primary (receiver t)) o closed s = rw o.first (pick refl (pick refl (pass refl s)))
bracket_goes_on {after =
    after} (primary (DerivesPrimary.name t)) o closed s =
    step_next o refl (taken o refl (picked {n = p.after_bracket} {xs = index_rest} (rw (is_next is_close_bracket after closed) refl) s))
bracket_goes_on (primary (parenthesised a l c)) o closed s = rw o.first (pick refl (pick refl (pass refl s)))
bracket_goes_on (primary (creation t n r a)) o closed s = rw o.first (pick refl (pick refl (pass refl s)))
bracket_goes_on (after_dot d dot n) o closed s = rw o.first (pick refl (pick refl (pass refl s)))
bracket_goes_on (called d dot r n a) o closed s = rw o.first (pick refl (pick refl (pass refl s)))
bracket_goes_on (indexed d a l c) o closed s = rw o.first (pick refl (pick refl (pass refl s)))

field_then : {to others : List Expected} {left two after : List Placed} {named : Named} →
    TakesName two after named → starts is_open_paren after ≡ false → Steps to left (part (p.selected_then as_field) ∷ others) after →
    Steps to left (part p.dotted_then ∷ others) two
field_then {after =
    after} n closed s =
    step_next n refl (taken n refl (picked {n =
    p.dotted_rest_then} {xs = part (p.selected_then as_field) ∷ []} (rw (is_next is_open_paren after closed) refl) s))

call_then : {to others : List Expected} {left two three four after : List Placed} {regions : List RplTree} {named : Named} →
    DerivesArgs two three regions → TakesName three four named → starts is_open_paren four ≡ true → Passes (part p.actuals ∷ []) four after →
    Steps to left (part (p.selected_then as_call) ∷ others) after → Steps to left (part p.dotted_then ∷ others) two
call_then {four =
    four} no_args n paren a s =
    step_next n refl (taken n refl (picked {n =
    p.dotted_rest_then} {xs = part p.actuals ∷ part (p.selected_then as_call) ∷ []} (rw (is_next is_open_paren four paren) refl) (a.goes s)))
call_then (args o ps c) n paren a s =
    picked {xs =
    part p.args ∷ one is_name ∷ part p.actuals ∷ part (p.selected_then as_call) ∷ []} (rw o.first refl) ((args_alone o ps c).goes (taken n refl (a.goes s)))

target_steps : {to others : List Expected} {left : List Placed} {ending : Ending} {before after : List Placed} {e : PlainExpr} (d : DerivesPostfix ending before after e) →
    starts is_open_paren after ≡ false → Steps to left (part (rest_of d) ∷ others) after → Steps to left (part p.stmt ∷ others) before
target_steps (primary d) closed s = first_steps d s
target_steps (after_dot {dot =
    place} d dot n) closed s = target_steps d (rw dot.first refl) (step_next dot (dot_goes_on place d) (taken dot refl (field_then n closed s)))
target_steps (called {dot = place} d dot r n a) closed s =
    target_steps d (rw dot.first refl) (step_next dot (dot_goes_on place d) (taken dot refl (call_then r n (actuals_start a is_open_paren) (actuals_pass a) s)))
target_steps (indexed {two = between} d o l c) closed s =
    target_steps d (rw o.first refl) (bracket_goes_on d o (expr_begins_not is_close_bracket no_close_bracket between (level_begins l)) ((expr_passes l
    (ends_at c refl refl)).goes (taken c refl s)))

-- after what is assigned to, and what is performed
assign_goes_on : {ending : Ending} {before after : List Placed} {e : PlainExpr} (place : Place) (d : DerivesPostfix ending before after e) →
    (ending ≡ as_field) ⊎ (ending ≡ as_element) →
    choose (rest_of d) (Some (record { terminal = terminal.Symbol Symbol.Assign; place = place })) ≡ Some (one is_assign ∷ part p.value ∷ [])
assign_goes_on place (primary d) is = absurd (primary_no_target d is)
assign_goes_on place (after_dot d dot n) is = refl
assign_goes_on place (called d dot r n a) is = elim is [ inl e ↦ cc | inr e ↦ cc ]
assign_goes_on place (indexed d o l c) is = refl

first_performed : {ending : Ending} {before after : List Placed} {e : PlainExpr} (place : Place) (d : DerivesPrimary ending before after e) →
    IsPerformed ending →
    choose (rest_of_first d) (Some (record { terminal = terminal.Symbol Symbol.Semicolon; place = place })) ≡ Some (one is_semicolon ∷ [])
first_performed place (number t) is = elim is [ inl e ↦ cc | inr e ↦ cc ]
first_performed place (yes t) is = elim is [ inl e ↦ cc | inr e ↦ cc ]
first_performed place (no t) is = elim is [ inl e ↦ cc | inr e ↦ cc ]
first_performed place (DerivesPrimary.nothing t) is = elim is [ inl e ↦ cc | inr e ↦ cc ]
first_performed place (receiver t) is = elim is [ inl e ↦ cc | inr e ↦ cc ]
first_performed place (DerivesPrimary.name t) is = elim is [ inl e ↦ cc | inr e ↦ cc ]
first_performed place (parenthesised o l c) is = elim is [ inl e ↦ cc | inr e ↦ cc ]
first_performed place (creation t n r a) is = refl

semicolon_goes_on : {ending : Ending} {before after : List Placed} {e : PlainExpr} (place : Place) (d : DerivesPostfix ending before after e) →
    IsPerformed ending →
    choose (rest_of d) (Some (record { terminal = terminal.Symbol Symbol.Semicolon; place = place })) ≡ Some (one is_semicolon ∷ [])
semicolon_goes_on place (primary d) is = first_performed place d is
semicolon_goes_on place (after_dot d dot n) is = elim is [ inl e ↦ cc | inr e ↦ cc ]
semicolon_goes_on place (called d dot r n a) is = refl
semicolon_goes_on place (indexed d o l c) is = elim is [ inl e ↦ cc | inr e ↦ cc ]

assigned_passes : {ending : Ending} {before after two rest : List Placed} {e given : PlainExpr} {place : Place} → DerivesPostfix ending before after e →
    (ending ≡ as_field) ⊎ (ending ≡ as_element) →
    TakesSymbol Symbol.Assign after two place → DerivesValue two rest given → Passes (part p.stmt ∷ []) before rest
assigned_passes {place = place} d is t v =
    record { goes = λ s. target_steps d (rw t.first refl) (step_next t (assign_goes_on place d is) (taken t refl ((value_passes v).goes s))) }

as_body : {before after : List Placed} → Passes (part p.stmt ∷ []) before after → Passes (part p.body ∷ []) before after
as_body s = rule refl s

mutual
  pub block_passes : {before after : List Placed} {all : PlainStmts} → DerivesBlock before after all → Passes (part p.block ∷ []) before after
  block_passes (braces o ss c) = rule refl (link (took o refl) (link (stmts_pass ss (rw c.first refl)) (took c refl)))

  stmts_pass : {before after : List Placed} {all : PlainStmts} → DerivesStmts before after all → starts is_close_brace after ≡ true →
      Passes (part p.stmts ∷ []) before after
  stmts_pass DerivesStmts.none closed = where_next _ is_close_brace refl closed nothing
  stmts_pass (DerivesStmts.some d ds) closed = unless _ is_close_brace refl (stmt_not_brace d) (link (stmt_passes d) (stmts_pass ds closed))

  stmt_passes : {before after : List Placed} {s : PlainStmt} → DerivesStmt before after s → Passes (part p.stmt ∷ []) before after
  stmt_passes (at_first s f) = form_passes f
  stmt_passes (declaration f d n t v) = declared_passes f d n (rule refl (link (took n refl) (link (took t refl) (value_passes v))))
  stmt_passes (local_assignment n t v) = on_next n refl (link (took n refl) (on_next t refl (link (took t refl) (value_passes v))))
  stmt_passes (field_assignment d t v) = assigned_passes d (inl refl) t v
  stmt_passes (element_assignment d t v) = assigned_passes d (inr refl) t v
  stmt_passes (performed {ends_at = place} is d t) =
      record { goes = λ s. target_steps d (rw t.first refl) (step_next t (semicolon_goes_on place d is) (taken t refl s)) }

  form_passes : {before after : List Placed} {form : StmtForm} → DerivesForm before after form → Passes (part p.stmt ∷ []) before after
  form_passes (blocked (braces o ss c)) = on_next o refl (block_passes (braces o ss c))
  form_passes {after = after} (if_alone t c s n) =
      on_next t refl (link (took t refl) (link (condition_passes c) (link (as_body (stmt_passes s)) (unless _ is_else refl
      (not_next after is_else n else_or_not) nothing))))
  form_passes (if_else t c s e r) =
      on_next t refl (link (took t refl) (link (condition_passes c) (link (as_body (stmt_passes s)) (where_next _ is_else refl (rw e.first refl) (link (took e refl)
      (as_body (stmt_passes r)))))))
  form_passes (turning t c s) = on_next t refl (link (took t refl) (link (condition_passes c) (as_body (stmt_passes s))))
  form_passes (bare_return t c) = on_next t refl (link (took t refl) (where_next _ is_semicolon refl (rw c.first refl) (took c refl)))
  form_passes (return_with t v) = on_next t refl (link (took t refl) (unless _ is_semicolon refl (value_no_semicolon v) (value_passes v)))
  form_passes (printed t (condition {one = here} o d c) e) =
      on_next t refl (link (took t refl) (link (took o refl)
      (link (unless _ is_text refl (expr_begins_not is_text expr_no_text here (level_begins d)) (expr_passes d (ends_at c refl refl))) (link (took c refl) (took e refl)))))
  form_passes (printed_text t o s c e) =
      on_next t refl (link (took t refl) (link (took o refl) (link (where_next _ is_text refl (rw s.first refl) (took s refl)) (link (took c refl)
      (took e refl)))))
  form_passes (branching {nd = false} t b) = on_next t refl (link (took t refl) (block_passes b))
  form_passes (branching {nd = true} t b) = on_next t refl (link (took t refl) (block_passes b))
  form_passes (spreading {nd = false} t o r s) = on_next t refl (link (took t refl) (link (took o refl) (link (range_passes r) (as_body (stmt_passes s)))))
  form_passes (spreading {nd = true} t o r s) = on_next t refl (link (took t refl) (link (took o refl) (link (range_passes r) (as_body (stmt_passes s)))))
  form_passes (parting t o v c r s) =
      on_next t refl (link (took t refl) (link (took o refl) (link (took v refl) (link (took c refl) (link (range_passes r) (as_body (stmt_passes s)))))))
  form_passes (in_one t b) = on_next t refl (link (took t refl) (block_passes b))
  form_passes (new_regions t n c) = on_next t refl (link (took t refl) (link (names_pass n (rw c.first refl)) (took c refl)))

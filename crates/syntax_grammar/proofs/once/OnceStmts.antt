-- Statements are read in one way.
use Rattle.std.proofs.Common.{◌≡◌, ℕ, zero, suc, List, [], ◌∷◌, ◌⊎◌, inl, inr, Bool, true, false, cond, ◌&&◌, ◌||◌, Some, None, refl, ap}
use Rattle.lang_base.specs.declared.place.Place.{Place}
use Rattle.syntax_tokens.specs.declared.token.Symbol.{Symbol}
use Rattle.syntax_tokens.specs.declared.token.Keyword.{Keyword}
use Rattle.syntax_tokens.specs.declared.terminal.Placed.{Placed}
use Rattle.syntax_tokens.specs.declared.terminal.Terminal.{Terminal}
use Rattle.syntax_tokens.specs.declared.terminal.Terminal.TheVariants as terminal
use Rattle.syntax_tree.specs.declared.region.Named.{Named}
use Rattle.syntax_tree.specs.declared.region.Suffix.{Suffix}
use Rattle.syntax_tree.specs.declared.region.TypeTree.{TypeTree}
use Rattle.syntax_tree.specs.Plain.{PlainExpr, expression, ExprForm, local, field, PlainStmt, statement, StmtForm, block, declare, assign_local, assign_field, assign_element, perform, choice, choice_else, while_loop, return_nothing, return_value, print, print_text, cobegin, foreach, foreach_parts, atomic, local_regions, PlainStmts, no_stmts, more_stmts}
use Rattle.syntax_grammar.specs.Taking.{Takes, TakesName, Listed, Many, none, some}
use Rattle.syntax_grammar.specs.Paths.{no_args, args}
use Rattle.syntax_grammar.specs.Types.{DerivesBase, DerivesSuffix, suffix, DerivesType, type_of}
use Rattle.syntax_grammar.specs.Expressions.{Ending, as_field, as_element, DerivesPostfix, primary, after_dot, called, indexed, DerivesPrimary, number, yes, no, nothing, receiver, name, parenthesised, creation}
use Rattle.syntax_grammar.specs.Statements.{DerivesFinal, not_final, final, DerivesCondition, condition, DerivesValue, value, DerivesRange, range, DerivesBlock, braces, DerivesStmts, DerivesStmt, at_first, declaration, local_assignment, field_assignment, element_assignment, performed, DerivesForm, blocked, if_alone, if_else, turning, bare_return, return_with, printed, printed_text, branching, spreading, parting, in_one, new_regions}
use Rattle.syntax_grammar.proofs.once.OnceReader.{Out, into, Comes, at_once, then_reads, later, on, off, starts, tail, not_next, place_at, stands, named, is_comma, listed, listed_read}
use Rattle.syntax_grammar.proofs.once.OncePaths.{is_less, is_close_bracket, begins_suffix, nothing_goes_on, type_read, type_once}
use Rattle.syntax_grammar.proofs.once.OnceExprs.{readers, ends_at}
use Rattle.syntax_grammar.proofs.once.OnceLevels.{begins_expr, level_begins, postfix_begins, expr_begins_not, no_close_bracket, expr_once, selected_once}

-- the terminals that decide
abbrev pub is_name : Terminal → Bool
is_name (terminal.Name n) = true
is_name _ = false

abbrev is_text : Terminal → Bool
is_text (terminal.Text text) = true
is_text _ = false

abbrev is_final : Terminal → Bool
is_final (terminal.Keyword Keyword.Final) = true
is_final _ = false

abbrev is_else : Terminal → Bool
is_else (terminal.Keyword Keyword.Else) = true
is_else _ = false

abbrev is_assign : Terminal → Bool
is_assign (terminal.Symbol Symbol.Assign) = true
is_assign _ = false

abbrev is_semicolon : Terminal → Bool
is_semicolon (terminal.Symbol Symbol.Semicolon) = true
is_semicolon _ = false

abbrev pub is_close_brace : Terminal → Bool
is_close_brace (terminal.Symbol Symbol.CloseBrace) = true
is_close_brace _ = false

abbrev is_type_word : Terminal → Bool
is_type_word (terminal.Keyword Keyword.Int) = true
is_type_word (terminal.Keyword Keyword.Boolean) = true
is_type_word (terminal.Keyword Keyword.Final) = true
is_type_word _ = false

-- the terminals of which each begins one production
abbrev is_form : Terminal → Bool
is_form (terminal.Symbol Symbol.OpenBrace) = true
is_form (terminal.Keyword Keyword.If) = true
is_form (terminal.Keyword Keyword.While) = true
is_form (terminal.Keyword Keyword.Return) = true
is_form (terminal.Keyword Keyword.Print) = true
is_form (terminal.Keyword Keyword.Cobegin) = true
is_form (terminal.Keyword Keyword.CobeginNd) = true
is_form (terminal.Keyword Keyword.Foreach) = true
is_form (terminal.Keyword Keyword.ForeachNd) = true
is_form (terminal.Keyword Keyword.ForeachParts) = true
is_form (terminal.Keyword Keyword.Atomic) = true
is_form (terminal.Keyword Keyword.Region) = true
is_form _ = false

-- a declaration stands here
abbrev names_after : List Placed → Bool
names_after after = starts is_name after || (starts is_less after || begins_suffix after)

abbrev declares : List Placed → Bool
declares before = starts is_type_word before || (starts is_name before && names_after (tail before))

-- what stands in more than one statement
condition_read : ℕ → List Placed → Out PlainExpr
condition_read m before = into ((readers m).level 0 (tail before)) (λ test two. Some (test, tail two))

condition_once : {before after : List Placed} {test : PlainExpr} → DerivesCondition before after test → Comes (λ m. condition_read m before) test after
unfolding condition_read
condition_once (condition o d c) = rw o.first (then_reads _ (expr_once d (ends_at c refl refl)) (rw c.first (at_once refl)))

value_read : ℕ → List Placed → Out PlainExpr
value_read m before = into ((readers m).level 0 before) (λ e one. Some (e, tail one))

value_once : {before after : List Placed} {e : PlainExpr} → DerivesValue before after e → Comes (λ m. value_read m before) e after
unfolding value_read
value_once (value d c) = then_reads _ (expr_once d (ends_at c refl refl)) (rw c.first (at_once refl))

range_read : ℕ → List Placed → Out (Named × PlainExpr × PlainExpr)
range_read m before =
    into (named (tail before)) (λ var two. into ((readers m).level 0 (tail two)) (λ first four. into ((readers m).level 0 (tail four)) (λ second six. Some ((var, first, second), tail six))))

range_once : {before after : List Placed} {var : Named} {first second : PlainExpr} → DerivesRange before after var first second → Comes (λ m. range_read m before) (var, first, second) after
unfolding range_read
range_once (range int n is_in d comma e c) =
    rw int.first (rw n.first (rw is_in.first (then_reads _ (expr_once d (ends_at comma refl refl)) (rw comma.first (then_reads _ (expr_once e (ends_at c refl refl)) (rw c.first (at_once refl)))))))

pub names_once : {before after : List Placed} {names : List Named} → Listed TakesName before after names → starts is_comma after ≡ false → Comes (λ m. listed (λ k. named) m before) names after
names_once d closed = listed_read nothing_goes_on (λ k. named) (λ b a n t h. at_once (rw t.first refl)) (λ place rest. refl) d closed refl

abbrev final_read : List Placed → Out Bool
final_read before = cond (starts is_final before) (Some (true, tail before)) (Some (false, before))

declared_read : ℕ → List Placed → Out PlainStmt
declared_read m before =
    into (final_read before) (λ is_final one. into (type_read m one) (λ ty two. into (named two) (λ name three. into (value_read m (tail three)) (λ value left.
    Some (statement name.place (declare is_final ty name.name value), left)))))

-- what is assigned to, or performed
abbrev assigned : Place → PlainExpr → PlainExpr → PlainStmt
assigned place (expression at (local id)) given = statement place (assign_local (record { name = id; place = at }) given)
assigned place (expression at (field of id)) given = statement place (assign_field (expression at (field of id)) given)
assigned place target given = statement place (assign_element target given)

abbrev does : PlainExpr → PlainStmt
does (expression place form) = statement place (perform (expression place form))

assigned_read : ℕ → List Placed → Out PlainStmt
assigned_read m before =
    into ((readers m).postfix before) (λ target one. cond (starts is_assign one)
    (into (value_read m (tail one)) (λ value left. Some (assigned (place_at one) target value, left)))
    (Some (does target, tail one)))

-- the reader
record Readers : Type 0 where
  stmts : List Placed → Out PlainStmts
  stmt : List Placed → Out PlainStmt

abbrev block_by : Readers → List Placed → Out PlainStmts
block_by r before = into (r.stmts (tail before)) (λ all two. Some (all, tail two))

abbrev text_at : Terminal → List Placed → Out StmtForm
text_at (terminal.Text text) after = Some (print_text text, tail (tail after))
text_at _ after = None

abbrev text_by : List Placed → Out StmtForm
text_by [] = None
text_by (here ∷ after) = text_at here.terminal after

abbrev keyword_by : ℕ → Readers → Keyword → List Placed → Out StmtForm
keyword_by m r Keyword.If after =
    into (condition_read m after) (λ test two. into (r.stmt two) (λ then_part three. cond (starts is_else three)
    (into (r.stmt (tail three)) (λ else_part left. Some (choice_else test then_part else_part, left)))
    (Some (choice test then_part, three))))
keyword_by m r Keyword.While after = into (condition_read m after) (λ test two. into (r.stmt two) (λ body left. Some (while_loop test body, left)))
keyword_by m r Keyword.Return after = cond (starts is_semicolon after) (Some (return_nothing, tail after)) (into (value_read m after) (λ value left. Some (return_value value, left)))
keyword_by m r Keyword.Print after = cond (starts is_text (tail after)) (text_by (tail after)) (into (condition_read m after) (λ value two. Some (print value, tail two)))
keyword_by m r Keyword.Cobegin after = into (block_by r after) (λ all left. Some (cobegin false all, left))
keyword_by m r Keyword.CobeginNd after = into (block_by r after) (λ all left. Some (cobegin true all, left))
keyword_by m r Keyword.Foreach after = into (range_read m (tail after)) (λ got three. into (r.stmt three) (λ body left. Some (foreach false got.0 got.1 got.2 body, left)))
keyword_by m r Keyword.ForeachNd after = into (range_read m (tail after)) (λ got three. into (r.stmt three) (λ body left. Some (foreach true got.0 got.1 got.2 body, left)))
keyword_by m r Keyword.ForeachParts after =
    into (named (tail after)) (λ view three. into (range_read m (tail three)) (λ got five. into (r.stmt five) (λ body left. Some (foreach_parts view got.0 got.1 got.2 body, left))))
keyword_by m r Keyword.Atomic after = into (block_by r after) (λ all left. Some (atomic all, left))
keyword_by m r Keyword.Region after = into (listed (λ k. named) m after) (λ names two. Some (local_regions names, tail two))
keyword_by m r _ after = None

abbrev form_at : ℕ → Readers → Terminal → List Placed → Out StmtForm
form_at m r (terminal.Keyword k) after = keyword_by m r k after
form_at m r _ after = into (r.stmts after) (λ all two. Some (block all, tail two))

abbrev form_by : ℕ → Readers → List Placed → Out StmtForm
form_by m r [] = None
form_by m r (here ∷ after) = form_at m r here.terminal after

readers_of : ℕ → Readers
readers_of zero = record { stmts = λ before. None; stmt = λ before. None }
readers_of (suc m) = record {
  stmts = λ before. cond (starts is_close_brace before) (Some (no_stmts, before)) (into ((readers_of m).stmt before) (λ s one. into ((readers_of m).stmts one) (λ ss left. Some (more_stmts s ss, left))));
  stmt = λ before.
      cond (starts is_form before) (into (form_by m (readers_of m) before) (λ form left. Some (statement (place_at before) form, left)))
      (cond (declares before) (declared_read m before) (assigned_read m before));
}

-- which production a statement is of
pub starts_here : (test : Terminal → Bool) (before : List Placed) → starts test before ≡ true → before ≡ [] → ⊥
starts_here test [] s e = cc
starts_here test (here ∷ after) s e = cc

form_starts : {before after : List Placed} {form : StmtForm} → DerivesForm before after form → starts is_form before ≡ true
form_starts (blocked (braces o ss c)) = rw o.first refl
form_starts (if_alone t c s n) = rw t.first refl
form_starts (if_else t c s e r) = rw t.first refl
form_starts (turning t c s) = rw t.first refl
form_starts (bare_return t c) = rw t.first refl
form_starts (return_with t v) = rw t.first refl
form_starts (printed t c e) = rw t.first refl
form_starts (printed_text t o s c e) = rw t.first refl
form_starts (branching {nd = false} t b) = rw t.first refl
form_starts (branching {nd = true} t b) = rw t.first refl
form_starts (spreading {nd = false} t o r s) = rw t.first refl
form_starts (spreading {nd = true} t o r s) = rw t.first refl
form_starts (parting t o v c r s) = rw t.first refl
form_starts (in_one t b) = rw t.first refl
form_starts (new_regions t n c) = rw t.first refl

suffix_or_name : {before two three : List Placed} {named : Named} {suffixes : List Suffix} → Many DerivesSuffix before two suffixes → TakesName two three named → names_after before ≡ true
suffix_or_name none n = rw n.first refl
suffix_or_name (some (suffix o c d) ds) n = rw (o.first, c.first) refl

type_declares : {before after three : List Placed} {ty : TypeTree} {named : Named} → DerivesType before after ty → TakesName after three named → (starts is_form before ≡ false) × (declares before ≡ true)
type_declares (type_of s (DerivesBase.int t) ss) n = rw t.first (refl, refl)
type_declares (type_of s (DerivesBase.boolean t) ss) n = rw t.first (refl, refl)
type_declares (type_of s (DerivesBase.class t no_args) ss) n = rw t.first (refl, suffix_or_name ss n)
type_declares (type_of s (DerivesBase.class t (args o ps c)) ss) n = rw (t.first, o.first) (refl, refl)

declaration_starts : {before one two three : List Placed} {is_final : Bool} {ty : TypeTree} {named : Named} → DerivesFinal before one is_final → DerivesType one two ty → TakesName two three named →
    (starts is_form before ≡ false) × (declares before ≡ true)
declaration_starts not_final d n = type_declares d n
declaration_starts (final t) d n = rw t.first (refl, refl)

primary_declares : {ending : Ending} {before after : List Placed} {e : PlainExpr} → DerivesPrimary ending before after e → names_after after ≡ false → declares before ≡ false
primary_declares (number t) h = rw t.first refl
primary_declares (yes t) h = rw t.first refl
primary_declares (no t) h = rw t.first refl
primary_declares (nothing t) h = rw t.first refl
primary_declares (receiver t) h = rw t.first refl
primary_declares (name t) h = rw t.first h
primary_declares (parenthesised o l c) h = rw o.first refl
primary_declares (creation t n r a) h = rw t.first refl

postfix_declares : {ending : Ending} {before after : List Placed} {e : PlainExpr} → DerivesPostfix ending before after e → names_after after ≡ false → declares before ≡ false
postfix_declares (primary d) h = primary_declares d h
postfix_declares (after_dot d dot n) h = postfix_declares d (rw dot.first refl)
postfix_declares (called d dot r n a) h = postfix_declares d (rw dot.first refl)
postfix_declares (indexed {two = two} d o l c) h = postfix_declares d (rw o.first (expr_begins_not is_close_bracket no_close_bracket two (level_begins l)))

expr_no_form : (t : Terminal) → begins_expr t ≡ true → is_form t ≡ false
expr_no_form (terminal.Symbol Symbol.OpenBrace) e = cc
expr_no_form (terminal.Keyword Keyword.If) e = cc
expr_no_form _ e = cc

pub expr_no_text : (t : Terminal) → begins_expr t ≡ true → is_text t ≡ false
expr_no_text (terminal.Text text) e = cc
expr_no_text _ e = refl

expr_no_semicolon : (t : Terminal) → begins_expr t ≡ true → is_semicolon t ≡ false
expr_no_semicolon (terminal.Symbol Symbol.Semicolon) e = cc
expr_no_semicolon _ e = refl

expr_no_brace : (t : Terminal) → begins_expr t ≡ true → is_close_brace t ≡ false
expr_no_brace (terminal.Symbol Symbol.CloseBrace) e = cc
expr_no_brace _ e = refl

form_no_brace : (t : Terminal) → is_form t ≡ true → is_close_brace t ≡ false
form_no_brace (terminal.Symbol Symbol.CloseBrace) e = cc
form_no_brace _ e = refl

declared_no_brace : (t : Terminal) (after : List Placed) → (is_type_word t || (is_name t && names_after after)) ≡ true → is_close_brace t ≡ false
declared_no_brace (terminal.Symbol Symbol.CloseBrace) after e = cc
declared_no_brace _ after e = refl

form_not_brace : (before : List Placed) → starts is_form before ≡ true → starts is_close_brace before ≡ false
form_not_brace [] e = refl
form_not_brace (here ∷ after) e = form_no_brace here.terminal e

declared_not_brace : (before : List Placed) → declares before ≡ true → starts is_close_brace before ≡ false
declared_not_brace [] e = refl
declared_not_brace (here ∷ after) e = declared_no_brace here.terminal after e

pub stmt_not_brace : {before after : List Placed} {s : PlainStmt} → DerivesStmt before after s → starts is_close_brace before ≡ false
stmt_not_brace {before} (at_first s f) = form_not_brace before (form_starts f)
stmt_not_brace {before} (declaration f ty n t v) = declared_not_brace before (declaration_starts f ty n).1
stmt_not_brace (local_assignment n t v) = rw n.first refl
stmt_not_brace {before} (field_assignment d t v) = expr_begins_not is_close_brace expr_no_brace before (postfix_begins d)
stmt_not_brace {before} (element_assignment d t v) = expr_begins_not is_close_brace expr_no_brace before (postfix_begins d)
stmt_not_brace {before} (performed p d t) = expr_begins_not is_close_brace expr_no_brace before (postfix_begins d)

pub value_no_semicolon : {before after : List Placed} {e : PlainExpr} → DerivesValue before after e → starts is_semicolon before ≡ false
value_no_semicolon {before} (value d c) = expr_begins_not is_semicolon expr_no_semicolon before (level_begins d)

condition_no_text : {before after : List Placed} {e : PlainExpr} → DerivesCondition before after e → starts is_text (tail before) ≡ false
condition_no_text (condition {one = one} o d c) = rw o.first (expr_begins_not is_text expr_no_text one (level_begins d))

pub else_or_not : (t : Terminal) → (t ≡ terminal.Keyword Keyword.Else) ⊎ (is_else t ≡ false)
else_or_not (terminal.Keyword Keyword.Else) = inl refl
else_or_not _ = inr refl

type_no_final : {before after : List Placed} {ty : TypeTree} → DerivesType before after ty → starts is_final before ≡ false
type_no_final (type_of s (DerivesBase.int t) ss) = rw t.first refl
type_no_final (type_of s (DerivesBase.boolean t) ss) = rw t.first refl
type_no_final (type_of s (DerivesBase.class t d) ss) = rw t.first refl

final_once : {before after two : List Placed} {is_final_one : Bool} {ty : TypeTree} → DerivesFinal before after is_final_one → DerivesType after two ty → final_read before ≡ Some (is_final_one, after)
final_once not_final d = rw (type_no_final d) refl
final_once (final t) d = rw t.first refl

declared_once : {before one two three four after : List Placed} {is_final_one : Bool} {ty : TypeTree} {named : Named} {given : PlainExpr} {equals_at : Place} →
    DerivesFinal before one is_final_one → DerivesType one two ty → TakesName two three named → Takes (terminal.Symbol Symbol.Assign) three four equals_at → DerivesValue four after given →
    Comes (λ m. declared_read m before) (statement named.place (declare is_final_one ty named.name given)) after
unfolding declared_read
declared_once f d n t v =
    then_reads _ (at_once (final_once f d)) (then_reads _ (type_once d (rw n.first refl) (rw n.first refl)) (rw n.first (rw t.first (then_reads _ (value_once v) (at_once refl)))))

-- which form an assignment has
pub primary_no_target : {ending : Ending} {before after : List Placed} {e : PlainExpr} → DerivesPrimary ending before after e → (ending ≡ as_field) ⊎ (ending ≡ as_element) → ⊥
primary_no_target (number t) = elim [ inl e ↦ cc | inr e ↦ cc ]
primary_no_target (yes t) = elim [ inl e ↦ cc | inr e ↦ cc ]
primary_no_target (no t) = elim [ inl e ↦ cc | inr e ↦ cc ]
primary_no_target (nothing t) = elim [ inl e ↦ cc | inr e ↦ cc ]
primary_no_target (receiver t) = elim [ inl e ↦ cc | inr e ↦ cc ]
primary_no_target (name t) = elim [ inl e ↦ cc | inr e ↦ cc ]
primary_no_target (parenthesised o l c) = elim [ inl e ↦ cc | inr e ↦ cc ]
primary_no_target (creation t n r a) = elim [ inl e ↦ cc | inr e ↦ cc ]

field_target : {ending : Ending} {before after : List Placed} {e : PlainExpr} (place : Place) (given : PlainExpr) → DerivesPostfix ending before after e → ending ≡ as_field →
    assigned place e given ≡ statement place (assign_field e given)
field_target place given (primary d) e = absurd (primary_no_target d (inl e))
field_target place given (after_dot d dot n) e = refl
field_target place given (called d dot r n a) e = cc
field_target place given (indexed d o l c) e = cc

element_target : {ending : Ending} {before after : List Placed} {e : PlainExpr} (place : Place) (given : PlainExpr) → DerivesPostfix ending before after e → ending ≡ as_element →
    assigned place e given ≡ statement place (assign_element e given)
element_target place given (primary d) e = absurd (primary_no_target d (inr e))
element_target place given (after_dot d dot n) e = cc
element_target place given (called d dot r n a) e = cc
element_target place given (indexed d o l c) e = refl

assigned_once : {ending : Ending} {before one two after : List Placed} {target given : PlainExpr} {place : Place} {s : PlainStmt} →
    DerivesPostfix ending before one target → Takes (terminal.Symbol Symbol.Assign) one two place → DerivesValue two after given → assigned place target given ≡ s →
    Comes (λ m. (readers_of m).stmt before) s after
unfolding readers_of assigned_read
assigned_once {before = before} {after = after} d t v is =
    later (λ m. (readers_of m).stmt before)
    (off _ (expr_begins_not is_form expr_no_form before (postfix_begins d)) (off _ (postfix_declares d (rw t.first refl))
    (then_reads _ (selected_once d (rw t.first refl)) (rw t.first (then_reads _ (value_once v) (at_once (ap (λ (x : PlainStmt). Some (x, after)) is)))))))

performed_once : {ending : Ending} {before one after : List Placed} {form : ExprForm} {place ends_at : Place} →
    DerivesPostfix ending before one (expression place form) → Takes (terminal.Symbol Symbol.Semicolon) one after ends_at →
    Comes (λ m. (readers_of m).stmt before) (statement place (perform (expression place form))) after
unfolding readers_of assigned_read
performed_once {before = before} d t =
    later (λ m. (readers_of m).stmt before)
    (off _ (expr_begins_not is_form expr_no_form before (postfix_begins d)) (off _ (postfix_declares d (rw t.first refl))
    (then_reads _ (selected_once d (rw t.first refl)) (rw t.first (at_once refl)))))

mutual
  unfolding readers_of

  braces_once : {before after : List Placed} {all : PlainStmts} → DerivesBlock before after all → Comes (λ m. block_by (readers_of m) before) all after
  braces_once (braces o ss c) = rw o.first (then_reads _ (stmts_once ss (rw c.first refl)) (rw c.first (at_once refl)))

  stmts_once : {before after : List Placed} {all : PlainStmts} → DerivesStmts before after all → starts is_close_brace after ≡ true → Comes (λ m. (readers_of m).stmts before) all after
  stmts_once {before} DerivesStmts.none closed = later (λ m. (readers_of m).stmts before) (on _ closed (at_once refl))
  stmts_once {before} (DerivesStmts.some d ds) closed =
      later (λ m. (readers_of m).stmts before) (off _ (stmt_not_brace d) (then_reads _ (stmt_once d) (then_reads _ (stmts_once ds closed) (at_once refl))))

  stmt_once : {before after : List Placed} {s : PlainStmt} → DerivesStmt before after s → Comes (λ m. (readers_of m).stmt before) s after
  stmt_once {before} (at_first s f) =
      later (λ m. (readers_of m).stmt before) (on _ (form_starts f) (rw (stands before (starts_here is_form before (form_starts f)) s) (then_reads _ (form_once f) (at_once refl))))
  stmt_once {before} (declaration f d n t v) =
      later (λ m. (readers_of m).stmt before) (off _ (declaration_starts f d n).0 (on _ (declaration_starts f d n).1 (declared_once f d n t v)))
  stmt_once (local_assignment n t v) = assigned_once (primary (name n)) t v refl
  stmt_once (field_assignment {value = given} {place = place} d t v) = assigned_once d t v (field_target place given d refl)
  stmt_once (element_assignment {value = given} {place = place} d t v) = assigned_once d t v (element_target place given d refl)
  stmt_once (performed p d t) = performed_once d t

  form_once : {before after : List Placed} {form : StmtForm} → DerivesForm before after form → Comes (λ m. form_by m (readers_of m) before) form after
  form_once (blocked (braces o ss c)) = rw o.first (then_reads _ (stmts_once ss (rw c.first refl)) (rw c.first (at_once refl)))
  form_once {after = after} (if_alone t c s n) =
      rw t.first (then_reads _ (condition_once c) (then_reads _ (stmt_once s) (off _ (not_next after is_else n else_or_not) (at_once refl))))
  form_once (if_else t c s e r) = rw t.first (then_reads _ (condition_once c) (then_reads _ (stmt_once s) (rw e.first (then_reads _ (stmt_once r) (at_once refl)))))
  form_once (turning t c s) = rw t.first (then_reads _ (condition_once c) (then_reads _ (stmt_once s) (at_once refl)))
  form_once (bare_return t c) = rw t.first (rw c.first (at_once refl))
  form_once (return_with t v) = rw t.first (off _ (value_no_semicolon v) (then_reads _ (value_once v) (at_once refl)))
  form_once (printed t c e) = rw t.first (off _ (condition_no_text c) (then_reads _ (condition_once c) (rw e.first (at_once refl))))
  form_once (printed_text t o s c e) = rw t.first (rw o.first (rw s.first (rw c.first (rw e.first (at_once refl)))))
  form_once (branching {nd = false} t b) = rw t.first (then_reads _ (braces_once b) (at_once refl))
  form_once (branching {nd = true} t b) = rw t.first (then_reads _ (braces_once b) (at_once refl))
  form_once (spreading {nd = false} t o r s) = rw t.first (rw o.first (then_reads _ (range_once r) (then_reads _ (stmt_once s) (at_once refl))))
  form_once (spreading {nd = true} t o r s) = rw t.first (rw o.first (then_reads _ (range_once r) (then_reads _ (stmt_once s) (at_once refl))))
  form_once (parting t o v c r s) = rw t.first (rw o.first (rw v.first (rw c.first (then_reads _ (range_once r) (then_reads _ (stmt_once s) (at_once refl))))))
  form_once (in_one t b) = rw t.first (then_reads _ (braces_once b) (at_once refl))
  form_once (new_regions t n c) = rw t.first (then_reads _ (names_once n (rw c.first refl)) (rw c.first (at_once refl)))

-- "{" { Stmt } "}"
pub block_read : ℕ → List Placed → Out PlainStmts
block_read m before = block_by (readers_of m) before

pub block_once : {before after : List Placed} {all : PlainStmts} → DerivesBlock before after all → Comes (λ m. block_read m before) all after
unfolding block_read
block_once d = braces_once d

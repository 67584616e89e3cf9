-- Statements derive what their parts derive.
use Rattle.std.proofs.Common.{◌≡◌, List, [], ◌∷◌, true, false, inl, inr, Option, None, refl, subst}
use Rattle.syntax_tokens.specs.declared.token.Symbol.{Symbol}
use Rattle.syntax_tokens.specs.declared.token.Keyword.{Keyword}
use Rattle.syntax_tokens.specs.declared.terminal.Placed.{Placed}
use Rattle.syntax_tokens.specs.declared.terminal.Terminal.{Terminal}
use Rattle.syntax_tokens.specs.declared.terminal.Terminal.TheVariants as terminal
use Rattle.syntax_tree.specs.declared.region.Named.{Named}
use Rattle.syntax_tree.specs.Plain.{PlainExpr, expression, no_stmts}
use Rattle.syntax_grammar.specs.Taking.{TakesName, some}
use Rattle.syntax_grammar.specs.Words.{is_name, is_text, is_dot, is_close_bracket, is_less, is_semicolon, is_assign, is_open_paren, is_close_brace, is_else, is_final}
use Rattle.syntax_grammar.specs.Paths.{no_args}
use Rattle.syntax_grammar.specs.Types.{DerivesBase, suffix, type_of}
use Rattle.syntax_grammar.specs.Expressions.{Ending, as_value, as_name, as_field, as_element, as_call, as_creation, DerivesPostfix, primary, after_dot, called, indexed, DerivesPrimary}
use Rattle.syntax_grammar.specs.Statements.{not_final, final, condition, value, range, braces, DerivesStmts, at_first, declaration, local_assignment, field_assignment, element_assignment, performed, blocked, if_alone, if_else, turning, bare_return, return_with, printed, printed_text, branching, spreading, parting, in_one, new_regions}
use Rattle.syntax_grammar.specs.Expecting.{Expected, one, part, next_of, next_is, choose, stmt_parts, after_name_parts, ending_parts, selection_parts, performed_parts}
use Rattle.syntax_grammar.specs.Expecting.{Part as p}
use Rattle.syntax_grammar.proofs.meant.Meant.{Meant, All, AllOf, Stated, Formed, signed, worded, named, texted, anyhow, no_word, either}
use Rattle.syntax_grammar.proofs.meant.MeantPaths.{stands, nowhere}

formed : (before : List Placed) {after : List Placed} → Formed before after → Stated before after
formed before f = (_, at_first (stands nowhere before) f.1)

stmt_by : (t : Terminal) (first : Placed) (rest : List Placed) {after : List Placed} → first.terminal ≡ t → All (stmt_parts t) (first ∷ rest) after → Stated (first ∷ rest) after
stmt_by (terminal.Symbol Symbol.OpenBrace) first rest e h = formed (first ∷ rest) (_, blocked h.1)
stmt_by (terminal.Keyword Keyword.If) first rest e h =
    formed (first ∷ rest) (h.others.others.others (first ∷ rest) h.mid h.others.mid _ h.others.first.0 h.others.others.first.0 (worded Keyword.If h.first) h.others.first.1 h.others.others.first.1)
stmt_by (terminal.Keyword Keyword.While) first rest e h = formed (first ∷ rest) (_, turning (worded Keyword.While h.first) h.others.first.1 h.others.others.1)
stmt_by (terminal.Keyword Keyword.Cobegin) first rest e h = formed (first ∷ rest) (_, branching {nd = false} (anyhow first rest (terminal.Keyword Keyword.Cobegin) e h.first) h.others.1)
stmt_by (terminal.Keyword Keyword.CobeginNd) first rest e h = formed (first ∷ rest) (_, branching {nd = true} (anyhow first rest (terminal.Keyword Keyword.CobeginNd) e h.first) h.others.1)
stmt_by (terminal.Keyword Keyword.Foreach) first rest e h =
    formed (first ∷ rest) (_, spreading {nd = false} (anyhow first rest (terminal.Keyword Keyword.Foreach) e h.first) (signed Symbol.OpenParen h.others.first) h.others.others.first.derived h.others.others.others.1)
stmt_by (terminal.Keyword Keyword.ForeachNd) first rest e h =
    formed (first ∷ rest) (_, spreading {nd = true} (anyhow first rest (terminal.Keyword Keyword.ForeachNd) e h.first) (signed Symbol.OpenParen h.others.first) h.others.others.first.derived h.others.others.others.1)
stmt_by (terminal.Keyword Keyword.ForeachParts) first rest e h =
    let view = named h.others.others.first in
    formed (first ∷ rest) (
      _,
      parting (worded Keyword.ForeachParts h.first) (signed Symbol.OpenParen h.others.first) view.1 (signed Symbol.Comma h.others.others.others.first)
          h.others.others.others.others.first.derived h.others.others.others.others.others.1,
    )
stmt_by (terminal.Keyword Keyword.Atomic) first rest e h = formed (first ∷ rest) (_, in_one (worded Keyword.Atomic h.first) h.others.1)
stmt_by (terminal.Keyword Keyword.Return) first rest e h = formed (first ∷ rest) (h.others (first ∷ rest) _ (worded Keyword.Return h.first))
stmt_by (terminal.Keyword Keyword.Print) first rest {after} e h =
    formed (first ∷ rest) (h.others.others.first (first ∷ rest) h.mid h.others.others.others.mid after _ _ _ _ (worded Keyword.Print h.first) (signed Symbol.OpenParen h.others.first)
    (signed Symbol.CloseParen h.others.others.others.first) (signed Symbol.Semicolon h.others.others.others.others))
stmt_by (terminal.Keyword Keyword.Region) first rest e h = formed (first ∷ rest) (_, new_regions (worded Keyword.Region h.first) h.others.first.1 (signed Symbol.Semicolon h.others.others))
stmt_by (terminal.Keyword Keyword.Int) first rest e h = h.others (first ∷ rest) (first ∷ rest) false h.first.0 not_final h.first.1
stmt_by (terminal.Keyword Keyword.Boolean) first rest e h = h.others (first ∷ rest) (first ∷ rest) false h.first.0 not_final h.first.1
stmt_by (terminal.Keyword Keyword.Final) first rest e h = h.others.others (first ∷ rest) h.mid true h.others.first.0 (final (worded Keyword.Final h.first)) h.others.first.1
stmt_by (terminal.Name n) first rest e h = let name = named h.first in h.others (first ∷ rest) name.0 name.1
stmt_by _ first rest e h = h

pub stmt_means : {before after : List Placed} → AllOf (choose p.stmt (next_of before)) before after → Meant p.stmt before after
stmt_means {before = []} h = h
stmt_means {before = first ∷ rest} h = stmt_by first.terminal first rest refl h

pub block_of : {before after : List Placed} → AllOf (choose p.block (next_of before)) before after → Meant p.block before after
block_of h = (_, braces (signed Symbol.OpenBrace h.first) h.others.first.1 (signed Symbol.CloseBrace h.others.others))

pub stmts_of : {before after : List Placed} → AllOf (choose p.stmts (next_of before)) before after → Meant p.stmts before after
stmts_of {before} {after} h =
    either (next_is is_close_brace (next_of before)) [] (part p.stmt ∷ part p.stmts ∷ []) before after (Meant p.stmts before after) h
    (λ is. (no_stmts, subst (λ (l : List Placed). DerivesStmts before l no_stmts) is DerivesStmts.none))
    (λ f h. (_, DerivesStmts.some h.first.1 h.others.1))

pub condition_of : {before after : List Placed} → AllOf (choose p.condition (next_of before)) before after → Meant p.condition before after
condition_of h = (_, condition (signed Symbol.OpenParen h.first) h.others.first.1 (signed Symbol.CloseParen h.others.others))

pub else_if_of : {before after : List Placed} → AllOf (choose p.else_if (next_of before)) before after → Meant p.else_if before after
else_if_of {before} {after} h =
    either (next_is is_else (next_of before)) (one is_else ∷ part p.body ∷ []) [] before after (Meant p.else_if before after) h
    (λ h s i j place test body t c d. (_, if_else t c d (worded Keyword.Else h.first) h.others.1))
    (λ f is s i j place test body t c d. subst (λ (l : List Placed). Formed s l) is (_, if_alone t c d (no_word Keyword.Else f)))

pub range_of : {before after : List Placed} → AllOf (choose p.range (next_of before)) before after → Meant p.range before after
range_of h =
    let var = named h.others.first in
    record {
      var = var.0;
      first = _;
      second = _;
      derived =
          range (worded Keyword.Int h.first) var.1 (worded Keyword.In h.others.others.first) h.others.others.others.first.1 (signed Symbol.Comma h.others.others.others.others.first)
          h.others.others.others.others.others.first.1 (signed Symbol.CloseParen h.others.others.others.others.others.others);
    }

pub return_rest_of : {before after : List Placed} → AllOf (choose p.return_rest (next_of before)) before after → Meant p.return_rest before after
return_rest_of {before} {after} h =
    either (next_is is_semicolon (next_of before)) (one is_semicolon ∷ []) (part p.value ∷ []) before after (Meant p.return_rest before after) h
    (λ h s place t. (_, bare_return t (signed Symbol.Semicolon h)))
    (λ f h s place t. (_, return_with t h.1))

pub value_of : {before after : List Placed} → AllOf (choose p.value (next_of before)) before after → Meant p.value before after
value_of h = (_, value h.first.1 (signed Symbol.Semicolon h.others))

pub shown_of : {before after : List Placed} → AllOf (choose p.shown (next_of before)) before after → Meant p.shown before after
shown_of {before} {after} h =
    either (next_is is_text (next_of before)) (one is_text ∷ []) (part (p.expr 0) ∷ []) before after (Meant p.shown before after) h
    (λ h s i j k place open_at close_at ends_at t o c e. let x = texted h in (_, printed_text t o x.1 c e))
    (λ f h s i j k place open_at close_at ends_at t o c e. (_, printed t (condition o h.1 c) e))

named_declaration : {before after : List Placed} → All (part p.args_if ∷ part p.suffixes ∷ part p.declared_name ∷ []) before after → Meant p.after_name before after
named_declaration h s name n = h.others.others s s false _ not_final (type_of (stands nowhere s) (DerivesBase.class n h.first.1) h.others.first.1)

assigned_name : {before after : List Placed} → All (one is_assign ∷ part p.value ∷ []) before after → Meant p.after_name before after
assigned_name h s name n = (_, local_assignment n (signed Symbol.Assign h.first) h.others.1)

after_name_by : (t : Terminal) {before after : List Placed} → AllOf (after_name_parts t) before after → Meant p.after_name before after
after_name_by (terminal.Name n) h = named_declaration h
after_name_by (terminal.Symbol Symbol.Less) h = named_declaration h
after_name_by (terminal.Symbol Symbol.OpenBracket) {before} h = λ s name n. h.others s before name _ n (signed Symbol.OpenBracket h.first)
after_name_by (terminal.Symbol Symbol.Dot) {before} h = λ s name n. h.others s before as_name _ _ (primary (DerivesPrimary.name n)) (signed Symbol.Dot h.first)
after_name_by _ h = assigned_name h

pub after_name_of : {before after : List Placed} → AllOf (choose p.after_name (next_of before)) before after → Meant p.after_name before after
after_name_of {before = []} h = assigned_name h
after_name_of {before = first ∷ rest} h = after_name_by first.terminal h

pub after_bracket_of : {before after : List Placed} → AllOf (choose p.after_bracket (next_of before)) before after → Meant p.after_bracket before after
after_bracket_of {before} {after} h =
    either (next_is is_close_bracket (next_of before)) (one is_close_bracket ∷ part p.brackets_after ∷ part p.suffixes ∷ part p.declared_name ∷ []) (part (p.expr 0) ∷ one is_close_bracket ∷ part (p.selected_then as_element) ∷ []) before after (Meant p.after_bracket before after) h
    (λ h s i name at n o.
    h.others.others.others s s false _ not_final
    (type_of (stands nowhere s) (DerivesBase.class n no_args) (some (suffix o (signed Symbol.CloseBracket h.first) h.others.first.1) h.others.others.first.1)))
    (λ f h s i name at n o. h.others.others s _ (indexed (primary (DerivesPrimary.name n)) o h.first.1 (signed Symbol.CloseBracket h.others.first)))

pub declared_name_of : {before after : List Placed} → AllOf (choose p.declared_name (next_of before)) before after → Meant p.declared_name before after
declared_name_of h s i is_final ty f d = let n = named h.first in (_, declaration f d n.1 (signed Symbol.Assign h.others.first) h.others.others.1)

-- a field, a call or an element, or what ends the statement
goes_on : (others : Option (List Expected)) (t : Terminal) {before after : List Placed} {P : Type 0} → (All (one is_dot ∷ part p.dotted_then ∷ []) before after → P) →
    (All (part p.element ∷ part (p.selected_then as_element) ∷ []) before after → P) → (AllOf others before after → P) → AllOf (selection_parts others t) before after → P
goes_on others (terminal.Symbol Symbol.Dot) f g k h = f h
goes_on others (terminal.Symbol Symbol.OpenBracket) f g k h = g h
goes_on others _ f g k h = k h

dot_after : {s before after : List Placed} {ending : Ending} {e : PlainExpr} → DerivesPostfix ending s before e → All (one is_dot ∷ part p.dotted_then ∷ []) before after → Stated s after
dot_after {s} {before} {ending = ending} {e = e} d h = h.others s before ending e _ d (signed Symbol.Dot h.first)

element_after : {s before after : List Placed} {ending : Ending} {e : PlainExpr} → DerivesPostfix ending s before e → All (part p.element ∷ part (p.selected_then as_element) ∷ []) before after → Stated s after
element_after {s} {ending = ending} {e = e} d h = let r = h.first s ending e d in h.others s r.0 r.1

name_target : {s before : List Placed} {e : PlainExpr} → DerivesPostfix as_name s before e → (name : Named) × TakesName s before name
name_target (primary (DerivesPrimary.name t)) = (_, t)

ends : (ending : Ending) {s before after : List Placed} (e : PlainExpr) → DerivesPostfix ending s before e → AllOf (ending_parts ending) before after → Stated s after
ends as_value e d h = absurd h
ends as_name e d h = let n = name_target d in (_, local_assignment n.1 (signed Symbol.Assign h.first) h.others.1)
ends as_field e d h = (_, field_assignment d (signed Symbol.Assign h.first) h.others.1)
ends as_element e d h = (_, element_assignment d (signed Symbol.Assign h.first) h.others.1)
ends as_call (expression place form) d h = (_, performed (inl refl) d (signed Symbol.Semicolon h))
ends as_creation (expression place form) d h = (_, performed (inr refl) d (signed Symbol.Semicolon h))

then_at : (ending : Ending) (before : List Placed) {s after : List Placed} (e : PlainExpr) → DerivesPostfix ending s before e → AllOf (choose (p.selected_then ending) (next_of before)) before after → Stated s after
then_at ending [] e d h = ends ending e d h
then_at ending (first ∷ rest) {s} {after} e d h = goes_on (ending_parts ending) first.terminal {P = Stated s after} (dot_after d) (element_after d) (ends ending e d) h

value_then : (before : List Placed) {s after : List Placed} {ending : Ending} {e : PlainExpr} → DerivesPostfix ending s before e → AllOf (choose p.selection_then (next_of before)) before after → Stated s after
value_then [] d h = absurd h
value_then (first ∷ rest) {s} {after} d h = goes_on None first.terminal {P = Stated s after} (dot_after d) (element_after d) (λ f. absurd f) h

value_ends : (before after : List Placed) → AllOf (choose (p.selected_then as_value) (next_of before)) before after → AllOf (choose p.selection_then (next_of before)) before after
value_ends [] after h = h
value_ends (first ∷ rest) after h = h

pub selected_then_of : (ending : Ending) (before after : List Placed) → AllOf (choose (p.selected_then ending) (next_of before)) before after → Meant (p.selected_then ending) before after
selected_then_of as_value before after h = λ s ending e d. value_then before d (value_ends before after h)
selected_then_of as_name before after h = λ s e d. then_at as_name before e d h
selected_then_of as_field before after h = λ s e d. then_at as_field before e d h
selected_then_of as_element before after h = λ s e d. then_at as_element before e d h
selected_then_of as_call before after h = λ s e d. then_at as_call before e d h
selected_then_of as_creation before after h = λ s e d. then_at as_creation before e d h

pub selection_then_of : {before after : List Placed} → AllOf (choose p.selection_then (next_of before)) before after → Meant p.selection_then before after
selection_then_of {before} h s ending e d = value_then before d h

pub dotted_then_of : {before after : List Placed} → AllOf (choose p.dotted_then (next_of before)) before after → Meant p.dotted_then before after
dotted_then_of {before} {after} h =
    either (next_is is_less (next_of before)) (part p.args ∷ one is_name ∷ part p.actuals ∷ part (p.selected_then as_call) ∷ []) (one is_name ∷ part p.dotted_rest_then ∷ []) before after (Meant p.dotted_then before after) h
    (λ h s i ending e dot d t. let n = named h.others.first in h.others.others.others s _ (called d t h.first.1 n.1 h.others.others.first.1))
    (λ f h s i ending e dot d t. let n = named h.first in h.others s i before ending e dot n.0 d t n.1)

pub dotted_rest_then_of : {before after : List Placed} → AllOf (choose p.dotted_rest_then (next_of before)) before after → Meant p.dotted_rest_then before after
dotted_rest_then_of {before} {after} h =
    either (next_is is_open_paren (next_of before)) (part p.actuals ∷ part (p.selected_then as_call) ∷ []) (part (p.selected_then as_field) ∷ []) before after (Meant p.dotted_rest_then before after) h
    (λ h s i j ending e dot name d t n. h.others s _ (called d t no_args n h.first.1))
    (λ f h s i j ending e dot name d t n. h s _ (after_dot d t n))

begun : {before after : List Placed} → All (part p.literal ∷ part (p.selected_then as_value) ∷ []) before after → Stated before after
begun {before} h = h.others before h.first.0 h.first.1 (primary h.first.2)

performed_by : (t : Terminal) {before after : List Placed} → All (performed_parts t) before after → Stated before after
performed_by (terminal.Keyword Keyword.New) {before} h =
    let n = named h.others.first in
    h.others.others.others.others before _ (primary (DerivesPrimary.creation (worded Keyword.New h.first) n.1 h.others.others.first.1 h.others.others.others.first.1))
performed_by (terminal.Symbol Symbol.OpenParen) {before} h = h.others before as_value h.first.0 (primary h.first.1)
performed_by _ h = begun h

pub performed_of : {before after : List Placed} → AllOf (choose p.performed (next_of before)) before after → Meant p.performed before after
performed_of {before = []} h = begun h
performed_of {before = first ∷ rest} h = performed_by first.terminal h

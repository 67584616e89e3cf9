-- A statement that holds no other one, by what it begins with: an assignment to a local, or an expression that something follows.
use Rattle.std.proofs.Common.{◌≡◌, ◌⊎◌, inl, inr, ◌∙◌, ℕ, List, [], ◌∷◌, Bool, true, false, ◌&&◌, Some, refl, ap, subst, sym}
use Rattle.lang_base.specs.declared.place.Place.{Place}
use Rattle.lang_base.specs.declared.refusal.Kind.{Kind}
use Rattle.lang_base.specs.declared.refusal.Kind.TheVariants as kind
use Rattle.lang_base.specs.declared.refusal.Stop.{Stop}
use Rattle.syntax_tokens.specs.declared.token.Symbol.{Symbol}
use Rattle.syntax_tokens.specs.declared.token.Keyword.{Keyword}
use Rattle.syntax_tokens.specs.declared.terminal.Placed.{Placed}
use Rattle.syntax_tokens.specs.declared.terminal.Terminal.{Terminal}
use Rattle.syntax_tokens.specs.declared.terminal.Terminal.TheVariants as terminal
use Rattle.syntax_tree.specs.declared.expr.Expr.{Expr}
use Rattle.syntax_tree.specs.declared.expr.ExprKind.{ExprKind, ExprKind-F, roll-ExprKind, ind-ExprKind}
use Rattle.syntax_tree.specs.declared.expr.ExprKind.TheVariants.{rolls-Int, rolls-Bool, rolls-Null, rolls-This, rolls-Local, rolls-Field, rolls-Element, rolls-Call, rolls-New, rolls-NewArray, rolls-Unary, rolls-Binary}
use Rattle.syntax_tree.specs.declared.expr.ExprKind.TheVariants as expr_kind
use Rattle.syntax_tree.specs.declared.region.RplTree.{RplTree}
use Rattle.syntax_tree.specs.declared.region.Named.{Named}
use Rattle.syntax_tree.specs.Plain.{PlainExpr, ExprForm, plain_expr}
use Rattle.syntax_exprs.specs.declared.cursor.Cursor.{Cursor}
use Rattle.syntax_grammar.specs.Words.{is_assign, is_name}
use Rattle.syntax_grammar.specs.Taking.{Next, place_of}
use Rattle.syntax_exprs.specs.Counted.{counts, Completed}
use Rattle.syntax_grammar.specs.Expressions.{Ending, as_value, as_name, DerivesPostfix, DerivesPrimary}
use Rattle.syntax_grammar.specs.Expecting.{Part, Expected, one, part, choose, next_of, next_is, stmt_parts, ending_parts}
use Rattle.syntax_grammar.specs.Limits.{Counts, past, inside, Within, nothing, begins, passes, Stops, no_terminal, in_part}
use Rattle.syntax_grammar.specs.Reading.{ending_of, form_ending, plain_kind}
use Rattle.syntax_exprs.specs.Targets.{IsTarget, Leads, begins_assignment, begins_declaration, holds_others, opens_declaration, rest_of, stmt_begins}
use Rattle.syntax_exprs.proofs.Composed.{Refused}
use Rattle.syntax_exprs.proofs.Coming.{comes_next}
use Rattle.syntax_parse.proofs.Stating.{ending_is}
use Rattle.syntax_grammar.proofs.Trees.{kind_Int, kind_Bool, kind_Null, kind_This, kind_Local, kind_NewArray, kind_Unary, kind_Binary}
use Rattle.syntax_parse.proofs.Declaring.{assign_only}
use Rattle.syntax_parse.proofs.Declarations.{begins_name, opened_stops}

-- an assignment to a local
and_first : (a b : Bool) → (a && b) ≡ true → a ≡ true
and_first true b is = refl
and_first false b is = cc

and_second : (a b : Bool) → (a && b) ≡ true → b ≡ true
and_second true b is = is
and_second false b is = cc

assign_follows : (after : List Placed) → next_is is_assign (next_of after) ≡ true → choose Part.after_name (next_of after) ≡ Some (one is_assign ∷ part Part.value ∷ [])
assign_follows [] is = cc
assign_follows (next ∷ after) is = rw (assign_only next.terminal is) refl

assign_counts : (after : List Placed) (c : Counts) → next_is is_assign (next_of after) ≡ true → inside Part.after_name (next_of after) c ≡ c
assign_counts [] c is = cc
assign_counts (next ∷ after) c is = rw (assign_only next.terminal is) refl

abbrev pub assigned_parts : List Expected
assigned_parts = one is_name ∷ one is_assign ∷ part Part.value ∷ []

assigned_reads : {c d : Counts} (before : List Placed) {after : List Placed} → begins_assignment before ≡ true → Within c assigned_parts before d after → Within c (stmt_begins before) before d after
assigned_reads [] is w = cc
assigned_reads {c} {d} (next ∷ rest) {after} is (passes test fits w) =
    let then = and_second (is_name next.terminal) _ is in
    let left = subst (λ (b : Counts). Within b (one is_assign ∷ part Part.value ∷ []) rest d after) (sym (assign_counts rest (past next.terminal c) then)) w in
    subst (λ (xs : List Expected). Within c xs (next ∷ rest) d after) (sym (begins_name next.terminal test)) (passes test fits (begins (assign_follows rest then) left nothing))

pub assigned_completed : (old new : Cursor) → begins_assignment old.rest.now ≡ true → Within (counts old) assigned_parts old.rest.now (counts new) new.rest.now → Completed (stmt_begins old.rest.now) old new
assigned_completed old new is w = record { last = counts new; reads = assigned_reads old.rest.now is w }

assigned_stops : {c : Counts} (before : List Placed) {at : List Placed} {k : Kind} → begins_assignment before ≡ true → Stops c assigned_parts before k at → Stops c (stmt_begins before) before k at
assigned_stops [] is s = cc
assigned_stops {c} (next ∷ rest) {at} {k} is s =
    let then = and_second (is_name next.terminal) _ is in
    let left = opened_stops (part Part.after_name ∷ [])
    (λ t. in_part (assign_follows rest then) (subst (λ (b : Counts). Stops b (one is_assign ∷ part Part.value ∷ []) rest k at) (sym (assign_counts rest (past next.terminal c) then)) t)) s in
    subst (λ (xs : List Expected). Stops c xs (next ∷ rest) k at) (sym (begins_name next.terminal (and_first (is_name next.terminal) _ is))) left

pub assigned_refused : (c : Counts) (before : List Placed) (end : Place) (stop : Stop) → begins_assignment before ≡ true → Refused c assigned_parts before end stop → Refused c (stmt_begins before) before end stop
assigned_refused c before end (Stop.Refused refusal) is r = record { here = r.here; stops = assigned_stops before is r.stops; place = r.place }
assigned_refused c before end Stop.NoMemory is r = r

-- any other one begins with an expression, or with a name
others_begin : (t : Terminal) (after : List Placed) → holds_others t ≡ false → (t ≡ terminal.Keyword Keyword.Return → ⊥) → (t ≡ terminal.Keyword Keyword.Print → ⊥) →
    (t ≡ terminal.Keyword Keyword.Region → ⊥) → opens_declaration t after ≡ false → (stmt_parts t ≡ part Part.performed ∷ []) ⊎ (is_name t ≡ true)
others_begin (terminal.Symbol Symbol.OpenBrace) after holds returns prints regions opens = cc
others_begin (terminal.Keyword Keyword.If) after holds returns prints regions opens = cc
others_begin (terminal.Keyword Keyword.While) after holds returns prints regions opens = cc
others_begin (terminal.Keyword Keyword.Cobegin) after holds returns prints regions opens = cc
others_begin (terminal.Keyword Keyword.CobeginNd) after holds returns prints regions opens = cc
others_begin (terminal.Keyword Keyword.Foreach) after holds returns prints regions opens = cc
others_begin (terminal.Keyword Keyword.ForeachNd) after holds returns prints regions opens = cc
others_begin (terminal.Keyword Keyword.ForeachParts) after holds returns prints regions opens = cc
others_begin (terminal.Keyword Keyword.Atomic) after holds returns prints regions opens = cc
others_begin (terminal.Keyword Keyword.Return) after holds returns prints regions opens = absurd (returns refl)
others_begin (terminal.Keyword Keyword.Print) after holds returns prints regions opens = absurd (prints refl)
others_begin (terminal.Keyword Keyword.Region) after holds returns prints regions opens = absurd (regions refl)
others_begin (terminal.Keyword Keyword.Int) after holds returns prints regions opens = cc
others_begin (terminal.Keyword Keyword.Boolean) after holds returns prints regions opens = cc
others_begin (terminal.Keyword Keyword.Final) after holds returns prints regions opens = cc
others_begin (terminal.Name n) after holds returns prints regions opens = inr refl
others_begin _ after holds returns prints regions opens = inl refl

pub is_target : (here : List Placed) → next_is holds_others (next_of here) ≡ false → (Next (terminal.Keyword Keyword.Return) here → ⊥) → (Next (terminal.Keyword Keyword.Print) here → ⊥) →
    (Next (terminal.Keyword Keyword.Region) here → ⊥) → begins_declaration here ≡ false → IsTarget here
is_target [] holds returns prints regions other = record { other = other; begins = inl refl }
is_target (next ∷ after) holds returns prints regions other =
    record { other = other; begins = others_begin next.terminal after holds (λ is. returns (comes_next is)) (λ is. prints (comes_next is)) (λ is. regions (comes_next is)) other }

-- what follows an expression that begins a statement
pub led_reads : {c d e : Counts} {before between after : List Placed} {ending : Ending} (xs : List Expected) → Leads c before ending d between → ending_parts ending ≡ Some xs → Within d xs between e after →
    Within c (stmt_begins before) before e after
led_reads xs l is w = l.reads xs _ _ is w

pub led_refused : {c d : Counts} {before between : List Placed} {ending : Ending} {end end_now : Place} (xs : List Expected) (stop : Stop) → Leads c before ending d between → ending_parts ending ≡ Some xs →
    end_now ≡ end → Refused d xs between end_now stop → Refused c (stmt_begins before) before end stop
led_refused xs (Stop.Refused refusal) l is end r =
    record { here = r.here; stops = l.stops xs _ _ is r.stops; place = subst (λ (p : Place). refusal.place ≡ place_of r.here p) end r.place }
led_refused xs Stop.NoMemory l is end r = r

-- a name alone, or a value that nothing can follow
record NameRead (before after : List Placed) : Type 0 where
  is : next_is is_name (next_of before) ≡ true
  rest : after ≡ rest_of before

primary_name : {ending : Ending} {before after : List Placed} {e : PlainExpr} → DerivesPrimary ending before after e → ending ≡ as_name → NameRead before after
primary_name (DerivesPrimary.name t) is = record { is = rw (t.first) refl; rest = rw (t.first) refl }
primary_name (DerivesPrimary.number t) is = cc
primary_name (DerivesPrimary.yes t) is = cc
primary_name (DerivesPrimary.no t) is = cc
primary_name (DerivesPrimary.nothing t) is = cc
primary_name (DerivesPrimary.receiver t) is = cc
primary_name (DerivesPrimary.parenthesised o d c) is = cc
primary_name (DerivesPrimary.creation t n r a) is = cc

name_read : {ending : Ending} {before after : List Placed} {e : PlainExpr} → DerivesPostfix ending before after e → ending ≡ as_name → NameRead before after
name_read (DerivesPostfix.primary d) is = primary_name d is
name_read (DerivesPostfix.after_dot d dot n) is = cc
name_read (DerivesPostfix.called d dot r n a) is = cc
name_read (DerivesPostfix.indexed d o l c) is = cc

no_assign : (before : List Placed) → begins_assignment before ≡ false → next_is is_name (next_of before) ≡ true → next_is is_assign (next_of (rest_of before)) ≡ false
no_assign before none is = let P : Bool → Type 0 = λ b. (b && next_is is_assign (next_of (rest_of before))) ≡ false in subst P is none

-- an expression of no other kind is a value or a name
pub data IsAlone (ending : Ending) : Type 0 where
  value : ending ≡ as_value → IsAlone ending
  name : ending ≡ as_name → IsAlone ending

alone_stops : {c d : Counts} {before between : List Placed} {ending : Ending} {e : PlainExpr} → IsAlone ending → Leads c before ending d between →
    DerivesPostfix ending before between e → begins_assignment before ≡ false → Stops c (stmt_begins before) before kind.Syntax between
alone_stops (IsAlone.value is) l postfix none = l.lost (ap ending_parts is)
alone_stops {before = before} {between = between} (IsAlone.name is) l postfix none =
    let n = name_read postfix is in
    l.stops (one is_assign ∷ part Part.value ∷ []) kind.Syntax between (ap ending_parts is)
    (no_terminal (subst (λ (at : List Placed). next_is is_assign (next_of at) ≡ false) (sym n.rest) (no_assign before none n.is)))

pub alone_refused : {c d : Counts} {before between : List Placed} {end end_now : Place} {ending : Ending} {e : PlainExpr} (stop : Stop) → IsAlone ending → Leads c before ending d between →
    DerivesPostfix ending before between e → begins_assignment before ≡ false → end_now ≡ end →
    stop ≡ Stop.Refused (record { kind = kind.Syntax; place = place_of between end_now }) → Refused c (stmt_begins before) before end stop
alone_refused {between = between} stop alone l postfix none end is =
    rw (is, end) (record { here = between; stops = alone_stops alone l postfix none; place = refl })

abbrev IsOther : ExprKind → Type 0
IsOther k =
    ((of : Expr) (name : ℕ) → k ≡ expr_kind.Field of name → ⊥) → ((of at : Expr) → k ≡ expr_kind.Element of at → ⊥) →
    ((of : Expr) (regions : List RplTree) (name : ℕ) (all : List Expr) → k ≡ expr_kind.Call of regions name all → ⊥) → ((name : Named) (regions : List RplTree) (all : List Expr) → k ≡ expr_kind.New name regions all → ⊥) →
    IsAlone (form_ending (plain_kind k))

ends : {k l : ExprKind} {form : ExprForm} → k ≡ l → plain_kind l ≡ form → form_ending (plain_kind k) ≡ form_ending form
ends same is = ap (λ k. form_ending (plain_kind k)) same ∙ ap form_ending is

other_layer : (x : ExprKind-F ExprKind Expr) → IsOther (roll-ExprKind x)
other_layer (ExprKind-F.Int n) f e c o = IsAlone.value (ends (rolls-Int n) (kind_Int n))
other_layer (ExprKind-F.Bool b) f e c o = IsAlone.value (ends (rolls-Bool b) (kind_Bool b))
other_layer ExprKind-F.Null f e c o = IsAlone.value (ends rolls-Null kind_Null)
other_layer ExprKind-F.This f e c o = IsAlone.value (ends rolls-This kind_This)
other_layer (ExprKind-F.Local n) f e c o = IsAlone.name (ends (rolls-Local n) (kind_Local n))
other_layer (ExprKind-F.Field of n) f e c o = absurd (f of n (rolls-Field of n))
other_layer (ExprKind-F.Element of at) f e c o = absurd (e of at (rolls-Element of at))
other_layer (ExprKind-F.Call of regions n all) f e c o = absurd (c of regions n all (rolls-Call of regions n all))
other_layer (ExprKind-F.New n regions all) f e c o = absurd (o n regions all (rolls-New n regions all))
other_layer (ExprKind-F.NewArray start suffixes len rpl index) f e c o =
    IsAlone.value (ends (rolls-NewArray start suffixes len rpl index) (kind_NewArray start suffixes len rpl index))
other_layer (ExprKind-F.Unary op arg) f e c o = IsAlone.value (ends (rolls-Unary op arg) (kind_Unary op arg))
other_layer (ExprKind-F.Binary op left right) f e c o = IsAlone.value (ends (rolls-Binary op left right) (kind_Binary op left right))

pub is_alone : (target : Expr) → ((of : Expr) (name : ℕ) → target.kind ≡ expr_kind.Field of name → ⊥) → ((of at : Expr) → target.kind ≡ expr_kind.Element of at → ⊥) →
    ((of : Expr) (regions : List RplTree) (name : ℕ) (all : List Expr) → target.kind ≡ expr_kind.Call of regions name all → ⊥) →
    ((name : Named) (regions : List RplTree) (all : List Expr) → target.kind ≡ expr_kind.New name regions all → ⊥) → IsAlone (ending_of (plain_expr target))
is_alone target f e c o =
    subst IsAlone (sym (ending_is target)) (ind-ExprKind IsOther (λ e. Unit {0}) (λ x y is. other_layer x) (λ x y is. tt) target.kind f e c o)

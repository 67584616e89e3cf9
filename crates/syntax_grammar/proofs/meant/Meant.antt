-- What each part of what is expected derives between two places of a text. A part that stands after something derives, with
-- whatever that was, the whole.
use Rattle.std.proofs.Common.{◌≡◌, ◌∙◌, ℕ, ℤ, ◌≤◌, List, [], ◌∷◌, ◌++◌, ◌⊎◌, inl, inr, Bool, true, false, cond, Option, Some, None, refl, ap, subst}
use Rattle.lang_base.specs.declared.place.Place.{Place}
use Rattle.syntax_tokens.specs.declared.token.Symbol.{Symbol}
use Rattle.syntax_tokens.specs.declared.token.Keyword.{Keyword}
use Rattle.syntax_tokens.specs.declared.terminal.Placed.{Placed}
use Rattle.syntax_tokens.specs.declared.terminal.Terminal.{Terminal}
use Rattle.syntax_tokens.specs.declared.terminal.Terminal.TheVariants as terminal
use Rattle.syntax_tree.specs.declared.class.Class.{Class}
use Rattle.syntax_tree.specs.declared.class.Formal.{Formal}
use Rattle.syntax_tree.specs.declared.class.Item.{Item}
use Rattle.syntax_tree.specs.declared.class.Member.{Member}
use Rattle.syntax_tree.specs.declared.class.MethodResult.{MethodResult}
use Rattle.syntax_tree.specs.declared.class.Parent.{Parent}
use Rattle.syntax_tree.specs.declared.class.SummaryTree.{SummaryTree}
use Rattle.syntax_tree.specs.declared.region.BaseTree.{BaseTree}
use Rattle.syntax_tree.specs.declared.region.ConstrTree.{ConstrTree}
use Rattle.syntax_tree.specs.declared.region.ElemTree.{ElemTree}
use Rattle.syntax_tree.specs.declared.region.Named.{Named}
use Rattle.syntax_tree.specs.declared.region.Params.{Params}
use Rattle.syntax_tree.specs.declared.region.ParamTree.{ParamTree}
use Rattle.syntax_tree.specs.declared.region.RName.{RName}
use Rattle.syntax_tree.specs.declared.region.RplHead.{RplHead}
use Rattle.syntax_tree.specs.declared.region.RplTree.{RplTree}
use Rattle.syntax_tree.specs.declared.region.Suffix.{Suffix}
use Rattle.syntax_tree.specs.declared.region.TypeTree.{TypeTree}
use Rattle.syntax_tree.specs.Plain.{PlainExpr, PlainExprs, PlainStmt, StmtForm, PlainStmts}
use Rattle.syntax_grammar.specs.Taking.{Takes, TakesSymbol, TakesKeyword, TakesName, NoNext, Listed, last, more, Many}
use Rattle.syntax_grammar.specs.Words.{is_name, is_number, is_text, is_any, sign, word}
use Rattle.syntax_grammar.specs.Paths.{DerivesRName, DerivesHead, DerivesWithin, DerivesElem, DerivesNext, DerivesRpl, DerivesArgs}
use Rattle.syntax_grammar.specs.Types.{DerivesBase, DerivesRegion, DerivesIndex, DerivesAfter, DerivesSuffix, DerivesType}
use Rattle.syntax_grammar.specs.Expressions.{Ending, as_value, as_name, as_field, as_element, as_call, as_creation, DerivesLevel, DerivesUnary, DerivesPostfix, DerivesPrimary, DerivesActuals, DerivesFurther}
use Rattle.syntax_grammar.specs.Statements.{DerivesFinal, DerivesCondition, DerivesValue, DerivesRange, DerivesBlock, DerivesStmts, DerivesStmt, DerivesForm}
use Rattle.syntax_grammar.specs.Classes.{DerivesAtomic, DerivesKind, DerivesKindOr, DerivesParamsAfter, DerivesConstr, DerivesGiven, DerivesParams, DerivesFormal, DerivesFormalList, DerivesFormals, DerivesItem, DerivesItems, DerivesSummary, DerivesIn, DerivesResult, DerivesMethod, DerivesMember, DerivesParent, DerivesMembers, DerivesClass, DerivesProgram}
use Rattle.syntax_grammar.specs.Expecting.{Part, Expected, one, part, next_of, next_is}
use Rattle.syntax_grammar.specs.Expecting.{Part as p}
use Rattle.syntax_grammar.proofs.Tested.{sign_own, word_own, sign_or_not, word_or_not}

-- a terminal that passes a test
pub record One (test : Terminal → Bool) (before after : List Placed) : Type 0 where
  pub next : Placed
  pub is : before ≡ next ∷ after
  pub passes : test next.terminal ≡ true

-- items after the first one of a list
abbrev pub MoreOf : {A : Type 0} → (List Placed → List Placed → A → Type 0) → List Placed → List Placed → Type 0
MoreOf {A} Derives before after = (s : List Placed) (item : A) → Derives s before item → (items : List A) × Listed Derives s after items

abbrev pub Posted : List Placed → List Placed → Type 0
Posted before after = (ending : Ending) × (e : PlainExpr) × DerivesPostfix ending before after e

abbrev pub Valued : List Placed → List Placed → Type 0
Valued before after = (e : PlainExpr) × DerivesUnary before after e

abbrev pub Stated : List Placed → List Placed → Type 0
Stated before after = (s : PlainStmt) × DerivesStmt before after s

abbrev pub Formed : List Placed → List Placed → Type 0
Formed before after = (form : StmtForm) × DerivesForm before after form

abbrev pub Declared : List Placed → List Placed → Type 0
Declared before after = (tree : Member) × DerivesMember before after tree

-- Expr { "," Expr }
pub record Args (before after : List Placed) : Type 0 where
  pub mid : List Placed
  pub first : PlainExpr
  pub others : PlainExprs
  pub level : DerivesLevel 0 before mid first
  pub further : DerivesFurther mid after others

pub record Range (before after : List Placed) : Type 0 where
  pub var : Named
  pub first : PlainExpr
  pub second : PlainExpr
  pub derived : DerivesRange before after var first second

-- what ends a statement after an expression; a value is none of those that end one, whatever it ends as
abbrev pub Ends : Ending → List Placed → List Placed → Type 0
Ends as_value before after = (s : List Placed) (ending : Ending) (e : PlainExpr) → DerivesPostfix ending s before e → Stated s after
Ends as_name before after = (s : List Placed) (e : PlainExpr) → DerivesPostfix as_name s before e → Stated s after
Ends as_field before after = (s : List Placed) (e : PlainExpr) → DerivesPostfix as_field s before e → Stated s after
Ends as_element before after = (s : List Placed) (e : PlainExpr) → DerivesPostfix as_element s before e → Stated s after
Ends as_call before after = (s : List Placed) (e : PlainExpr) → DerivesPostfix as_call s before e → Stated s after
Ends as_creation before after = (s : List Placed) (e : PlainExpr) → DerivesPostfix as_creation s before e → Stated s after

abbrev pub Meant : Part → List Placed → List Placed → Type 0
Meant p.names before after = (t : List Named) × Listed TakesName before after t
Meant p.more_names before after = MoreOf TakesName before after
Meant p.region_name before after = (t : RName) × DerivesRName before after t
Meant p.second_name before after = (s : List Placed) (first : Named) → TakesName s before first → (t : RName) × DerivesRName s after t
Meant p.path before after = (t : RplTree) × DerivesRpl before after t
Meant p.head before after = (t : RplHead) × DerivesHead before after t
Meant p.elems before after = (t : List ElemTree) × Many DerivesNext before after t
Meant p.elem before after = (t : ElemTree) × DerivesElem before after t
Meant p.index before after = (t : ElemTree) × DerivesElem before after t
Meant p.within before after = (t : ElemTree) × DerivesWithin before after t
Meant p.args_if before after = (t : List RplTree) × DerivesArgs before after t
Meant p.args before after = (t : List RplTree) × DerivesArgs before after t
Meant p.more_paths before after = MoreOf DerivesRpl before after
Meant p.params_if before after = (t : Params) × DerivesParams before after t
Meant p.params before after = (t : Params) × DerivesParams before after t
Meant p.more_declared before after = (earlier : Bool) → (t : List ParamTree) × DerivesParamsAfter earlier before after t
Meant p.kind before after = (k : Bool) × DerivesKind before after k
Meant p.atomic_if before after = (k : Bool) × DerivesAtomic before after k
Meant p.kind_if before after = (earlier : Bool) → (k : Bool) × DerivesKindOr earlier before after k
Meant p.given before after = (t : List ConstrTree) × DerivesGiven before after t
Meant p.constraint before after = (t : ConstrTree) × DerivesConstr before after t
Meant p.more_constraints before after = MoreOf DerivesConstr before after
Meant p.type before after = (t : TypeTree) × DerivesType before after t
Meant p.base before after = (t : BaseTree) × DerivesBase before after t
Meant p.suffixes before after = (t : List Suffix) × Many DerivesSuffix before after t
Meant p.brackets_after before after = (t : Suffix) × DerivesAfter before after t
Meant p.region_if before after = (t : Option RplTree) × DerivesRegion before after t
Meant p.index_if before after = (t : Option Named) × DerivesIndex before after t
Meant (p.expr level) before after = (e : PlainExpr) × DerivesLevel level before after e
Meant (p.climb level top) before after =
    (s : List Placed) (e : PlainExpr) → DerivesLevel level s before e → ((k : ℕ) → k ≤ top → DerivesLevel k s before e) → (f : PlainExpr) × DerivesLevel level s after f
Meant p.unary before after = Valued before after
Meant p.created before after = (s : List Placed) (place : Place) → TakesKeyword Keyword.New s before place → Valued s after
Meant p.created_rest before after =
    (s i j : List Placed) (place : Place) (named : Named) (paths : List RplTree) → TakesKeyword Keyword.New s i place → TakesName i j named → DerivesArgs j before paths → Valued s after
Meant p.array before after =
    (s i j : List Placed) (place : Place) (start : BaseTree) (suffixes : List Suffix) → TakesKeyword Keyword.New s i place → DerivesBase i j start → Many DerivesSuffix j before suffixes → Valued s after
Meant p.array_open before after =
    (s i j k : List Placed) (place at : Place) (start : BaseTree) (suffixes : List Suffix) → TakesKeyword Keyword.New s i place → DerivesBase i j start → Many DerivesSuffix j k suffixes →
    TakesSymbol Symbol.OpenBracket k before at → Valued s after
Meant p.inner before after = (e : PlainExpr) × DerivesPrimary as_value before after e
Meant p.literal before after = (ending : Ending) × (e : PlainExpr) × DerivesPrimary ending before after e
Meant p.selected before after = (s : List Placed) (ending : Ending) (e : PlainExpr) → DerivesPostfix ending s before e → Posted s after
Meant p.selection before after = (s : List Placed) (ending : Ending) (e : PlainExpr) → DerivesPostfix ending s before e → Posted s after
Meant p.element before after = (s : List Placed) (ending : Ending) (e : PlainExpr) → DerivesPostfix ending s before e → (f : PlainExpr) × DerivesPostfix as_element s after f
Meant p.dotted_rest before after =
    (s i : List Placed) (ending : Ending) (e : PlainExpr) (dot : Place) → DerivesPostfix ending s i e → TakesSymbol Symbol.Dot i before dot → Posted s after
Meant p.actuals_if before after =
    (s i j : List Placed) (ending : Ending) (e : PlainExpr) (dot : Place) (named : Named) → DerivesPostfix ending s i e → TakesSymbol Symbol.Dot i j dot → TakesName j before named → Posted s after
Meant p.actuals before after = (es : PlainExprs) × DerivesActuals before after es
Meant p.actuals_rest before after = (s : List Placed) (place : Place) → TakesSymbol Symbol.OpenParen s before place → (es : PlainExprs) × DerivesActuals s after es
Meant p.listed before after = Args before after
Meant p.more_listed before after = (es : PlainExprs) × DerivesFurther before after es
Meant p.stmt before after = Stated before after
Meant p.body before after = Stated before after
Meant p.block before after = (t : PlainStmts) × DerivesBlock before after t
Meant p.stmts before after = (t : PlainStmts) × DerivesStmts before after t
Meant p.condition before after = (e : PlainExpr) × DerivesCondition before after e
Meant p.else_if before after =
    (s i j : List Placed) (place : Place) (test : PlainExpr) (body : PlainStmt) → TakesKeyword Keyword.If s i place → DerivesCondition i j test → DerivesStmt j before body → Formed s after
Meant p.range before after = Range before after
Meant p.return_rest before after = (s : List Placed) (place : Place) → TakesKeyword Keyword.Return s before place → Formed s after
Meant p.value before after = (e : PlainExpr) × DerivesValue before after e
Meant p.shown before after =
    (s i j k : List Placed) (place open_at close_at ends_at : Place) → TakesKeyword Keyword.Print s i place → TakesSymbol Symbol.OpenParen i before open_at →
    TakesSymbol Symbol.CloseParen after j close_at → TakesSymbol Symbol.Semicolon j k ends_at → Formed s k
Meant p.after_name before after = (s : List Placed) (named : Named) → TakesName s before named → Stated s after
Meant p.after_bracket before after = (s i : List Placed) (named : Named) (at : Place) → TakesName s i named → TakesSymbol Symbol.OpenBracket i before at → Stated s after
Meant p.declared_name before after = (s i : List Placed) (is_final : Bool) (ty : TypeTree) → DerivesFinal s i is_final → DerivesType i before ty → Stated s after
Meant (p.selected_then ending) before after = Ends ending before after
Meant p.selection_then before after = (s : List Placed) (ending : Ending) (e : PlainExpr) → DerivesPostfix ending s before e → Stated s after
Meant p.dotted_then before after = (s i : List Placed) (ending : Ending) (e : PlainExpr) (dot : Place) → DerivesPostfix ending s i e → TakesSymbol Symbol.Dot i before dot → Stated s after
Meant p.dotted_rest_then before after =
    (s i j : List Placed) (ending : Ending) (e : PlainExpr) (dot : Place) (named : Named) → DerivesPostfix ending s i e → TakesSymbol Symbol.Dot i j dot → TakesName j before named → Stated s after
Meant p.performed before after = Stated before after
Meant p.member before after = Declared before after
Meant p.after_member_name before after = (s : List Placed) (named : Named) → TakesName s before named → Declared s after
Meant p.field_or_method before after = (s i : List Placed) (ty : TypeTree) (named : Named) → DerivesType s i ty → TakesName i before named → Declared s after
Meant p.in_if before after = (t : Option RplTree) × DerivesIn before after t
Meant p.result before after = (t : MethodResult) × DerivesResult before after t
Meant p.method_rest before after = (params : Params) (answer : MethodResult) (named : Named) → (t : Member) × DerivesMethod params answer named before after t
Meant p.formals before after = (t : List Formal) × DerivesFormals before after t
Meant p.formal_list before after = (t : List Formal) × DerivesFormalList before after t
Meant p.formal before after = (t : Formal) × DerivesFormal before after t
Meant p.more_formals before after = MoreOf DerivesFormal before after
Meant p.summary before after = (t : Option SummaryTree) × DerivesSummary before after t
Meant p.reads_if before after = (before ≡ after) ⊎ ((t : List Item) × DerivesItems Keyword.Reads before after t)
Meant p.writes_if before after = (before ≡ after) ⊎ ((t : List Item) × DerivesItems Keyword.Writes before after t)
Meant p.items before after = (t : List Item) × Listed DerivesItem before after t
Meant p.item before after = (t : Item) × DerivesItem before after t
Meant p.more_items before after = MoreOf DerivesItem before after
Meant p.class before after = (t : Class) × DerivesClass before after t
Meant p.parent_if before after = (t : Option Parent) × DerivesParent before after t
Meant p.members before after = (t : List Member) × DerivesMembers before after t
Meant p.member_list before after = (t : List Member) × Many DerivesMember before after t
Meant p.program before after = after ≡ [] → (t : List Class) × DerivesProgram before t
Meant p.more_classes before after = (t : List Class) × Many DerivesClass before after t

abbrev pub Means : Expected → List Placed → List Placed → Type 0
Means (one test) before after = One test before after
Means (part n) before after = Meant n before after

-- one after another
pub record Seq (P Q : List Placed → Type 0) : Type 0 where
  pub mid : List Placed
  pub first : P mid
  pub others : Q mid

abbrev pub All : List Expected → List Placed → List Placed → Type 0
All [] before after = before ≡ after
All (x ∷ []) before after = Means x before after
All (x ∷ y ∷ xs) before after = Seq (λ m. Means x before m) (λ m. All (y ∷ xs) m after)

abbrev pub AllOf : Option (List Expected) → List Placed → List Placed → Type 0
AllOf None before after = ⊥
AllOf (Some xs) before after = All xs before after

pub split : (xs ys : List Expected) (before after : List Placed) → All (xs ++ ys) before after → Seq (λ m. All xs before m) (λ m. All ys m after)
split [] ys before after h = record { mid = before; first = refl; others = h }
split (x ∷ []) [] before after h = record { mid = after; first = h; others = refl }
split (x ∷ []) (y ∷ ys) before after h = record { mid = h.mid; first = h.first; others = h.others }
split (x ∷ y ∷ xs) ys before after h =
    let r = split (y ∷ xs) ys h.mid after h.others in
    record { mid = r.mid; first = record { mid = h.mid; first = h.first; others = r.first }; others = r.others }

pub joined : (x : Expected) (xs : List Expected) (before m after : List Placed) → Means x before m → All xs m after → All (x ∷ xs) before after
joined x [] before m after f o = subst (λ (l : List Placed). Means x before l) o f
joined x (y ∷ xs) before m after f o = record { mid = m; first = f; others = o }

-- terminals
abbrev put_at : Place → List Placed → Terminal → List Placed
put_at place after t = record { terminal = t; place = place } ∷ after

reported : {test : Terminal → Bool} {before after : List Placed} (o : One test before after) (wanted : Terminal) → o.next.terminal ≡ wanted → Takes wanted before after o.next.place
reported {after = after} o wanted e = record { first = o.is ∙ ap (put_at o.next.place after) e }

pub signed : (s : Symbol) {before after : List Placed} (o : One (sign s) before after) → TakesSymbol s before after o.next.place
signed s o = reported o (terminal.Symbol s) (elim (sign_or_not s o.next.terminal) [ inl e ↦ e | inr n ↦ let y = o.passes in cc ])

pub worded : (k : Keyword) {before after : List Placed} (o : One (word k) before after) → TakesKeyword k before after o.next.place
worded k o = reported o (terminal.Keyword k) (elim (word_or_not k o.next.terminal) [ inl e ↦ e | inr n ↦ let y = o.passes in cc ])

name_is : (t : Terminal) → is_name t ≡ true → (n : ℕ) × (t ≡ terminal.Name n)
name_is (terminal.Name n) e = (n, refl)
name_is _ e = cc

number_is : (t : Terminal) → is_number t ≡ true → (n : ℤ) × (t ≡ terminal.Int n)
number_is (terminal.Int n) e = (n, refl)
number_is _ e = cc

text_is : (t : Terminal) → is_text t ≡ true → (n : List ℕ) × (t ≡ terminal.Text n)
text_is (terminal.Text n) e = (n, refl)
text_is _ e = cc

pub named : {before after : List Placed} → One is_name before after → (name : Named) × TakesName before after name
named o = let n = name_is o.next.terminal o.passes in (record { name = n.0; place = o.next.place }, reported o (terminal.Name n.0) n.1)

pub numbered : {before after : List Placed} (o : One is_number before after) → (n : ℤ) × Takes (terminal.Int n) before after o.next.place
numbered o = let n = number_is o.next.terminal o.passes in (n.0, reported o (terminal.Int n.0) n.1)

pub texted : {before after : List Placed} (o : One is_text before after) → (n : List ℕ) × Takes (terminal.Text n) before after o.next.place
texted o = let n = text_is o.next.terminal o.passes in (n.0, reported o (terminal.Text n.0) n.1)

pub anyhow : (next : Placed) (rest : List Placed) {after : List Placed} (wanted : Terminal) → next.terminal ≡ wanted → One is_any (next ∷ rest) after → Takes wanted (next ∷ rest) after next.place
anyhow next rest {after} wanted e o =
    let same : rest ≡ after = let i = o.is in cc in
    record { first = ap (λ (l : List Placed). next ∷ l) same ∙ ap (put_at next.place after) e }

pub no_sign : (s : Symbol) {before : List Placed} → next_is (sign s) (next_of before) ≡ false → NoNext (terminal.Symbol s) before
no_sign s {before} e n = let y : next_is (sign s) (next_of before) ≡ true = rw n.takes.takes.first (sign_own s) in cc

pub no_word : (k : Keyword) {before : List Placed} → next_is (word k) (next_of before) ≡ false → NoNext (terminal.Keyword k) before
no_word k {before} e n = let y : next_is (word k) (next_of before) ≡ true = rw n.takes.takes.first (word_own k) in cc

-- a choice by a test
pub either : (found : Bool) (xs ys : List Expected) (before after : List Placed) (P : Type 0) → All (cond found xs ys) before after → (All xs before after → P) → (found ≡ false → All ys before after → P) → P
either true xs ys before after P h f g = f h
either false xs ys before after P h f g = g refl h

-- items of a list
pub item_after : {A : Type 0} (Derives : List Placed → List Placed → A → Type 0) (before i j after : List Placed) {comma : Place} (item : A) →
    TakesSymbol Symbol.Comma before i comma → Derives i j item → MoreOf Derives j after → MoreOf Derives before after
item_after Derives before i j after item comma d rest = λ s first e. let r = rest i item d in (first ∷ r.0, more e comma r.1)

pub no_item : {A : Type 0} (Derives : List Placed → List Placed → A → Type 0) (before after : List Placed) → before ≡ after → MoreOf Derives before after
no_item Derives before after is = λ s item d. (item ∷ [], last (subst (λ (l : List Placed). Derives s l item) is d))

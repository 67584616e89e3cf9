-- Several expressions, of which the first ones are typed.
use Rattle.std.proofs.Common.{◌≡◌, ◌∙◌, ℕ, suc, ◌+◌, ◌<◌, List, [], ◌∷◌, ◌++◌, map, length, get_or, drop, drop-cons, add-one, Option, refl, sym, ap, append_assoc, append-nil}
use Rattle.lang_base.specs.declared.refusal.Refusal.{Refusal}
use Rattle.syntax_tree.specs.declared.expr.Expr.{Expr}
use Rattle.syntax_tree.specs.Plain.{PlainExprs, plain_expr, plain_exprs}
use Rattle.lang_typed.specs.Plain.{TypedExpr}
use Rattle.body_exprs.specs.declared.env.Env.{Env}
use Rattle.body_exprs.specs.declared.found.Found.{Found}
use Rattle.body_exprs.specs.declared.typed.Typed.{Typed}
use Rattle.body_exprs.specs.Answer.{gives, refused}
use Rattle.body_exprs.specs.Typed.{plain_typed}
use Rattle.body_exprs.specs.Typing.{AllAnswer, all_give, one_refused, after_all, type_all, Typing, TypingAll}

-- an answer of the rest, with types in front
abbrev pub following : List (Option TypedExpr) → AllAnswer → AllAnswer
following types (all_give others f) = all_give (types ++ others) f
following types (one_refused refusal) = one_refused refusal

-- the expressions of the tree
abbrev pub several : List Expr → PlainExprs
several all = plain_exprs (map plain_expr all)

-- so many of the expressions give these types, and all give them and what the others give
abbrev pub SoFar : Env → List Expr → Found → ℕ → List Typed → Found → Type 0
SoFar env all f i made g = type_all env (several all) f ≡ following (map plain_typed made) (type_all env (several (drop i all)) g)

after_none : (a : AllAnswer) → following [] a ≡ a
after_none (all_give others f) = refl
after_none (one_refused refusal) = refl

after_one : (t : Option TypedExpr) (a : AllAnswer) → after_all one_refused a (λ types h. all_give (t ∷ types) h) ≡ following (t ∷ []) a
after_one t (all_give others f) = refl
after_one t (one_refused refusal) = refl

after_more : (types : List (Option TypedExpr)) (t : Option TypedExpr) (a : AllAnswer) → following types (following (t ∷ []) a) ≡ following (types ++ t ∷ []) a
after_more types t (all_give others f) = ap (λ all. all_give all f) (sym (append_assoc types (t ∷ []) others))
after_more types t (one_refused refusal) = refl

map_more : (made : List Typed) (x : Typed) → map plain_typed (made ++ x ∷ []) ≡ map plain_typed made ++ plain_typed x ∷ []
map_more [] x = refl
map_more (y ∷ made) x = ap (λ rest. plain_typed y ∷ rest) (map_more made x)

pub none_so_far : (env : Env) (all : List Expr) (f : Found) → SoFar env all f 0 [] f
none_so_far env all f = sym (after_none (type_all env (several all) f))

-- what is left of a list from a place on
pub next_is : {T : Type 0} (all : List T) (i : ℕ) (e : T) → i < length all → e ≡ get_or all i e → drop i all ≡ e ∷ drop (i + 1) all
next_is all i e below is = drop-cons all i e below ∙ ap (λ x. x ∷ drop (suc i) all) (sym is) ∙ ap (λ k. e ∷ drop k all) (sym (add-one i))

-- what the expressions from one on give
from_here : (env : Env) (all : List Expr) (i : ℕ) (g : Found) (e : Expr) → i < length all → e ≡ get_or all i e →
    type_all env (several (drop i all)) g ≡ type_all env (several (e ∷ drop (i + 1) all)) g
from_here env all i g e below is = ap (λ es. type_all env (several es) g) (next_is all i e below is)

pub one_so_far : (env : Env) (all : List Expr) (f : Found) (i : ℕ) (made : List Typed) (g h : Found) (e : Expr) (x : Typed) (others : List Typed) →
    SoFar env all f i made g → i < length all → e ≡ get_or all i e → Typing env (plain_expr e) g (gives (plain_typed x) h) → others ≡ made ++ x ∷ [] → SoFar env all f (i + 1) others h
one_so_far env all f i made g h e x others so_far below is d same =
    let rest : AllAnswer = type_all env (several (drop (i + 1) all)) h in
    let step : type_all env (several (e ∷ drop (i + 1) all)) g ≡ following (plain_typed x ∷ []) rest = rw d (after_one (plain_typed x) rest) in
    so_far ∙ ap (following (map plain_typed made)) (from_here env all i g e below is ∙ step) ∙ after_more (map plain_typed made) (plain_typed x) rest
    ∙ ap (λ types. following types rest) (sym (map_more made x) ∙ ap (map plain_typed) (sym same))

pub one_stopped : (env : Env) (all : List Expr) (f : Found) (i : ℕ) (made : List Typed) (g : Found) (e : Expr) (q : Refusal) →
    SoFar env all f i made g → i < length all → e ≡ get_or all i e → Typing env (plain_expr e) g (refused q) → TypingAll env (several all) f (one_refused q)
one_stopped env all f i made g e q so_far below is d =
    let step : type_all env (several (e ∷ drop (i + 1) all)) g ≡ one_refused q = rw d in
    so_far ∙ ap (following (map plain_typed made)) (from_here env all i g e below is ∙ step)

pub all_so_far : (env : Env) (all : List Expr) (f : Found) (i : ℕ) (made : List Typed) (g : Found) →
    SoFar env all f i made g → drop i all ≡ [] → TypingAll env (several all) f (all_give (map plain_typed made) g)
all_so_far env all f i made g so_far none =
    so_far ∙ ap (λ es. following (map plain_typed made) (type_all env (several es) g)) none ∙ ap (λ types. all_give types g) (append-nil (map plain_typed made))

-- The productions of classes and members, as their functions read them.
use Rattle.std.proofs.Common.{◌≡◌, ◌≤◌, ◌==◌, List, [], ◌∷◌, Option, Some, Bool, length, map, inl, inr, true, refl, subst, arith}
use Rattle.std.proofs.lemmas.Bool.Decides.{nat_tests}
use Rattle.lang_base.specs.declared.place.Place.{Place}
use Rattle.syntax_tokens.specs.declared.token.Symbol.TheVariants as symbol
use Rattle.syntax_tokens.specs.declared.token.Keyword.{Keyword}
use Rattle.syntax_tokens.specs.declared.token.Keyword.TheVariants as keyword
use Rattle.syntax_tokens.specs.declared.terminal.Placed.{Placed}
use Rattle.syntax_tokens.specs.declared.terminal.Terminal.TheVariants as terminal
use Rattle.syntax_tree.specs.declared.class.Class.{Class}
use Rattle.syntax_tree.specs.declared.class.Formal.{Formal}
use Rattle.syntax_tree.specs.declared.class.Item.{Item}
use Rattle.syntax_tree.specs.declared.class.Member.{Member}
use Rattle.syntax_tree.specs.declared.class.Member.TheVariants as member
use Rattle.syntax_tree.specs.declared.class.MethodResult.{MethodResult}
use Rattle.syntax_tree.specs.declared.class.MethodResult.TheVariants as outcome
use Rattle.syntax_tree.specs.declared.class.SummaryTree.{SummaryTree}
use Rattle.syntax_tree.specs.declared.region.Named.{Named}
use Rattle.syntax_tree.specs.declared.region.Params.{Params}
use Rattle.syntax_tree.specs.declared.region.RplTree.{RplTree}
use Rattle.syntax_tree.specs.declared.region.TypeTree.{TypeTree}
use Rattle.syntax_tree.specs.declared.stmt.Stmt.{Stmt}
use Rattle.syntax_tree.specs.Plain.{plain_stmt, plain_stmts}
use Rattle.syntax_grammar.specs.Taking.{TakesOne, TakesIf, TakesName, TakesSymbol, NoNext, Listed, Many, none, some}
use Rattle.syntax_grammar.specs.Paths.{DerivesRpl, DerivesArgs}
use Rattle.syntax_grammar.specs.Types.{DerivesType}
use Rattle.syntax_grammar.specs.Statements.{DerivesBlock}
use Rattle.syntax_grammar.specs.Classes.{DerivesKind, DerivesParams, no_params, DerivesFormalList, DerivesFormals, DerivesItem, item, DerivesItems, DerivesItemsIf, DerivesSummary, DerivesIn, in_region, DerivesResult, DerivesFront, DerivesField, DerivesMethod, DerivesNamed, named, DerivesMember, DerivesParent, extends, DerivesMembers, members, DerivesClass, DerivesProgram, program, BeginsEffects}
use Rattle.syntax_parse.proofs.ParamForms.{atomic_if}

pub method_of : {before one two after : List Placed} {params : Params} {answer : MethodResult} {tree : Member} →
    DerivesParams before one params → DerivesResult one two answer → DerivesNamed params answer two after tree → DerivesMember before after tree
method_of p r n = DerivesMember.method (DerivesFront.answers p r) n

pub constructor_of : {before after : List Placed} {tree : Member} →
    DerivesNamed (record { list = []; given = [] }) outcome.Constructor before after tree → DerivesMember before after tree
constructor_of n = DerivesMember.method DerivesFront.constructs n

pub regions_of : {before one two after : List Placed} {is_atomic : Bool} {names : List Named} {ends_at : Place} →
    DerivesKind before one is_atomic → Listed TakesName one two names → TakesSymbol symbol.Semicolon two after ends_at →
    DerivesMember before after (member.Regions is_atomic names)
regions_of k l s = DerivesMember.regions k l s

pub result_void : {before after : List Placed} → TakesOne (terminal.Keyword keyword.Void) before after → DerivesResult before after outcome.Void
result_void t = DerivesResult.void t.takes

pub result_value : {before after : List Placed} {ty : TypeTree} → DerivesType before after ty → DerivesResult before after (outcome.Value ty)
result_value d = DerivesResult.value d

pub typed_field : {before one two after : List Placed} {ty : TypeTree} {name : Named} {tree : Member} →
    DerivesType before one ty → TakesName one two name → DerivesField ty name two after tree → DerivesMember before after tree
typed_field d n f = DerivesMember.field d n f

pub typed_method : {before one two after : List Placed} {ty : TypeTree} {name : Named} {tree : Member} →
    DerivesType before one ty → TakesName one two name → DerivesMethod (record { list = []; given = [] }) (outcome.Value ty) name two after tree → DerivesMember before after tree
typed_method d n m = DerivesMember.method (DerivesFront.answers no_params (DerivesResult.value d)) (named n m)

pub in_region_of : {before one after : List Placed} {path : RplTree} → TakesOne (terminal.Keyword keyword.In) before one → DerivesRpl one after path → DerivesIn before after (Some path)
in_region_of t d = in_region t.takes d

pub field_of : {ty : TypeTree} {name : Named} {before one after : List Placed} {region : Option RplTree} {ends_at : Place} →
    DerivesIn before one region → TakesSymbol symbol.Semicolon one after ends_at →
    DerivesField ty name before after (member.Field (record { place = name.place; name = name.name; ty = ty; region = region }))
field_of d s = DerivesField.field d s

pub method_after : {params : Params} {answer : MethodResult} {name : Named} {before one two after : List Placed} {formals : List Formal} {summary : Option SummaryTree} {body : List Stmt} →
    DerivesFormals before one formals → DerivesSummary one two summary → DerivesBlock two after (plain_stmts (map plain_stmt body)) →
    DerivesMethod params answer name before after (member.Method (record { place = name.place; name = name.name; params = params; result = answer; formals = formals; summary = summary; body = body }))
method_after f s b = DerivesMethod.method f s b

pub formals_of : {before one two after : List Placed} {all : List Formal} {open_at : Place} →
    TakesSymbol symbol.OpenParen before one open_at → DerivesFormalList one two all → TakesOne (terminal.Symbol symbol.CloseParen) two after → DerivesFormals before after all
formals_of o l c = DerivesFormals.parenthesised o l c.takes

pub item_of : {before one after : List Placed} {is_atomic : Bool} {path : RplTree} →
    TakesIf (terminal.Keyword keyword.Atomic) is_atomic before one → DerivesRpl one after path → DerivesItem before after (record { atomic = is_atomic; rpl = path })
item_of t d = item (atomic_if t) d

pub items_none : {word : Keyword} {here : List Placed} → NoNext (terminal.Keyword word) here → DerivesItemsIf word here here []
items_none n = DerivesItemsIf.no_items n

pub items_some : {word : Keyword} {before one after : List Placed} {all : List Item} →
    TakesOne (terminal.Keyword word) before one → Listed DerivesItem one after all → DerivesItemsIf word before after all
items_some t l = DerivesItemsIf.items (DerivesItems.items t.takes l)

pub summary_pure : {before after : List Placed} → TakesOne (terminal.Keyword keyword.Pure) before after → DerivesSummary before after (Some (record { reads = []; writes = [] }))
summary_pure t = DerivesSummary.pure t.takes

pub summary_effects : {before one after : List Placed} {read written : List Item} →
    BeginsEffects before → DerivesItemsIf keyword.Reads before one read → DerivesItemsIf keyword.Writes one after written →
    DerivesSummary before after (Some (record { reads = read; writes = written }))
summary_effects (inl r) (DerivesItemsIf.no_items not) w = absurd (not r)
summary_effects (inr x) (DerivesItemsIf.no_items not) (DerivesItemsIf.no_items not_writes) = absurd (not_writes x)
summary_effects (inr x) (DerivesItemsIf.no_items not) (DerivesItemsIf.items w) = DerivesSummary.writes w
summary_effects b (DerivesItemsIf.items r) (DerivesItemsIf.no_items not) = DerivesSummary.reads r
summary_effects b (DerivesItemsIf.items r) (DerivesItemsIf.items w) = DerivesSummary.reads_and_writes r w

pub parent_of : {before one two after : List Placed} {name : Named} {paths : List RplTree} →
    TakesOne (terminal.Keyword keyword.Extends) before one → TakesName one two name → DerivesArgs two after paths →
    DerivesParent before after (Some (record { name = name; args = paths }))
parent_of t n a = extends t.takes n a

pub members_of : {before one two after : List Placed} {all : List Member} {open_at : Place} →
    TakesSymbol symbol.OpenBrace before one open_at → Many DerivesMember one two all → TakesOne (terminal.Symbol symbol.CloseBrace) two after → DerivesMembers before after all
members_of o m c = members o m c.takes

whole_program : {before : List Placed} {all : List Class} → Many DerivesClass before [] all → 1 ≤ length all → DerivesProgram before all
whole_program none h = absurd (omega arith)
whole_program (some c m) h = program c m

pub program_of : {before here : List Placed} {all : List Class} → Many DerivesClass before here all → here ≡ [] → 1 ≤ length all → DerivesProgram before all
program_of {before} {all} m e h = whole_program (subst (λ here. Many DerivesClass before here all) e m) h

pub no_rest : (rest : List Placed) → (length rest == 0) ≡ true → rest ≡ []
no_rest [] h = refl
no_rest (next ∷ rest) h = absurd (grind (arith, nat_tests))

-- Members, classes and programs are read in one way.
use Rattle.std.proofs.Common.{◌≡◌, ℕ, List, [], ◌∷◌, Bool, true, false, cond, ◌&&◌, Option, Some, None, refl, ap}
use Rattle.syntax_tokens.specs.declared.token.Symbol.{Symbol}
use Rattle.syntax_tokens.specs.declared.token.Keyword.{Keyword}
use Rattle.syntax_tokens.specs.declared.terminal.Placed.{Placed}
use Rattle.syntax_tokens.specs.declared.terminal.Terminal.{Terminal}
use Rattle.syntax_tokens.specs.declared.terminal.Terminal.TheVariants as terminal
use Rattle.syntax_tree.specs.declared.class.Class.{Class}
use Rattle.syntax_tree.specs.declared.class.Member.{Member}
use Rattle.syntax_tree.specs.declared.class.Member.TheVariants as member
use Rattle.syntax_tree.specs.declared.class.MethodResult.{MethodResult}
use Rattle.syntax_tree.specs.declared.class.MethodResult.TheVariants as outcome
use Rattle.syntax_tree.specs.declared.class.Parent.{Parent}
use Rattle.syntax_tree.specs.declared.region.Named.{Named}
use Rattle.syntax_tree.specs.declared.region.Params.{Params}
use Rattle.syntax_tree.specs.declared.region.RplTree.{RplTree}
use Rattle.syntax_tree.specs.declared.region.Suffix.{Suffix}
use Rattle.syntax_tree.specs.declared.region.TypeTree.{TypeTree}
use Rattle.syntax_tree.specs.declared.stmt.Stmt.{Stmt}
use Rattle.syntax_tree.specs.Plain.{PlainStmts}
use Rattle.syntax_tree.proofs.Coded.{code_stmts, stmts_came_back}
use Rattle.syntax_grammar.specs.Taking.{TakesName, Many}
use Rattle.syntax_grammar.specs.Paths.{DerivesArgs}
use Rattle.syntax_grammar.specs.Types.{DerivesBase, DerivesSuffix, DerivesType, type_of}
use Rattle.syntax_grammar.specs.Statements.{DerivesBlock, braces}
use Rattle.syntax_grammar.specs.Classes.{DerivesKind, DerivesAtomic, DerivesParams, DerivesIn, DerivesResult, DerivesFront, DerivesField, DerivesMethod, DerivesNamed, DerivesMember, DerivesParent, DerivesMembers, DerivesClass, DerivesProgram}
use Rattle.syntax_grammar.proofs.once.OnceReader.{Out, into, Comes, come_once, at_once, then_reads, on, off, starts, tail, named, many, many_read, listed}
use Rattle.syntax_grammar.proofs.once.OncePaths.{is_less, nothing_goes_on, args_read, args_once, type_read, type_once}
use Rattle.syntax_grammar.proofs.once.OnceExprs.{is_open_paren}
use Rattle.syntax_grammar.proofs.once.OnceStmts.{is_name, names_once, block_read, block_once}
use Rattle.syntax_grammar.proofs.once.OnceMembers.{is_kind, type_not, kind_read, kind_once, kind_starts, params_read, params_once, formals_read, formals_once, formals_start, summary_read, summary_once, in_read, in_once}

-- the terminals that decide
abbrev is_void : Terminal → Bool
is_void (terminal.Keyword Keyword.Void) = true
is_void _ = false

abbrev is_extends : Terminal → Bool
is_extends (terminal.Keyword Keyword.Extends) = true
is_extends _ = false

abbrev is_class : Terminal → Bool
is_class (terminal.Keyword Keyword.Class) = true
is_class _ = false

-- the terminals that a member begins with
abbrev is_member : Terminal → Bool
is_member (terminal.Keyword Keyword.Atomic) = true
is_member (terminal.Keyword Keyword.Region) = true
is_member (terminal.Keyword Keyword.Int) = true
is_member (terminal.Keyword Keyword.Boolean) = true
is_member (terminal.Keyword Keyword.Void) = true
is_member (terminal.Name n) = true
is_member (terminal.Symbol Symbol.Less) = true
is_member _ = false

-- Type | "void"
result_read : ℕ → List Placed → Out MethodResult
result_read m before = cond (starts is_void before) (Some (outcome.Void, tail before)) (into (type_read m before) (λ ty left. Some (outcome.Value ty, left)))

result_once : {before after rest : List Placed} {answer : MethodResult} {name : Named} → DerivesResult before after answer → TakesName after rest name → Comes (λ m. result_read m before) answer after
unfolding result_read
result_once (DerivesResult.void t) n = rw t.first (at_once refl)
result_once (DerivesResult.value d) n = off _ (type_not is_void refl refl (λ n. refl) d) (then_reads _ (type_once d (rw n.first refl) (rw n.first refl)) (at_once refl))

-- a constructor stands here
abbrev pub constructs : List Placed → Bool
constructs before = starts is_name before && starts is_open_paren (tail before)

suffix_no_paren : {before two three : List Placed} {name : Named} {suffixes : List Suffix} → Many DerivesSuffix before two suffixes → TakesName two three name → starts is_open_paren before ≡ false
suffix_no_paren Many.none n = rw n.first refl
suffix_no_paren (Many.some (DerivesSuffix.suffix o c d) ds) n = rw o.first refl

type_constructs_no : {before after three : List Placed} {ty : TypeTree} {name : Named} → DerivesType before after ty → TakesName after three name → constructs before ≡ false
type_constructs_no (type_of s (DerivesBase.int t) ss) n = rw t.first refl
type_constructs_no (type_of s (DerivesBase.boolean t) ss) n = rw t.first refl
type_constructs_no (type_of s (DerivesBase.class t DerivesArgs.no_args) ss) n = rw t.first (suffix_no_paren ss n)
type_constructs_no (type_of s (DerivesBase.class t (DerivesArgs.args o ps c)) ss) n = rw (t.first, o.first) refl

-- where a result stands, no other member begins
pub record BeginsResult (before : List Placed) : Type 0 where
  pub kind : starts is_kind before ≡ false
  pub constructor : constructs before ≡ false
  pub less : starts is_less before ≡ false

type_begins : {before after three : List Placed} {ty : TypeTree} {name : Named} → DerivesType before after ty → TakesName after three name → BeginsResult before
type_begins d n = record { kind = type_not is_kind refl refl (λ n. refl) d; constructor = type_constructs_no d n; less = type_not is_less refl refl (λ n. refl) d }

pub result_begins : {before after three : List Placed} {answer : MethodResult} {name : Named} → DerivesResult before after answer → TakesName after three name → BeginsResult before
result_begins (DerivesResult.void t) n = rw t.first (record { kind = refl; constructor = refl; less = refl })
result_begins (DerivesResult.value d) n = type_begins d n

params_kind : {before one after three : List Placed} {params : Params} {answer : MethodResult} {name : Named} → DerivesParams before one params → DerivesResult one after answer → TakesName after three name → starts is_kind before ≡ false
params_kind DerivesParams.no_params r n = (result_begins r n).kind
params_kind (DerivesParams.params o d g c) r n = rw o.first refl

params_construct_no : {before one after three : List Placed} {params : Params} {answer : MethodResult} {name : Named} → DerivesParams before one params → DerivesResult one after answer → TakesName after three name → constructs before ≡ false
params_construct_no DerivesParams.no_params r n = (result_begins r n).constructor
params_construct_no (DerivesParams.params o d g c) r n = rw o.first refl

-- what stands after the name of a method or a field
method_read : ℕ → Params → MethodResult → Named → List Placed → Out Member
method_read m params answer name before =
    into (formals_read m before) (λ formals one. into (summary_read m one) (λ summary two. into (block_read m two) (λ body left.
    Some (member.Method (record { place = name.place; name = name.name; params = params; result = answer; formals = formals; summary = summary; body = code_stmts body }), left))))

pub block_starts : {before after : List Placed} {all : PlainStmts} → DerivesBlock before after all → (test : Terminal → Bool) → starts test before ≡ test (terminal.Symbol Symbol.OpenBrace)
block_starts (braces o ss c) test = rw o.first refl

method_once : {params : Params} {answer : MethodResult} {name : Named} {before after : List Placed} {tree : Member} → DerivesMethod params answer name before after tree →
    Comes (λ m. method_read m params answer name before) tree after
unfolding method_read
method_once {params} {answer} {name} {after = after} (DerivesMethod.method {formals = formals} {summary = summary} {body = body} f s b) =
    let made : List Stmt → Member = λ x. member.Method (record { place = name.place; name = name.name; params = params; result = answer; formals = formals; summary = summary; body = x }) in
    then_reads _ (formals_once f) (then_reads _ (summary_once s (block_starts b)) (then_reads _ (block_once b) (at_once (ap (λ x. Some (made x, after)) (stmts_came_back body)))))

method_paren : {params : Params} {answer : MethodResult} {name : Named} {before after : List Placed} {tree : Member} → DerivesMethod params answer name before after tree → starts is_open_paren before ≡ true
method_paren (DerivesMethod.method f s b) = formals_start f is_open_paren

abbrev field_of : MethodResult → Named → Option RplTree → Member
field_of (outcome.Value ty) name region = member.Field (record { place = name.place; name = name.name; ty = ty; region = region })
field_of _ name region = member.Regions false []

field_read : ℕ → MethodResult → Named → List Placed → Out Member
field_read m answer name before = into (in_read m before) (λ region one. Some (field_of answer name region, tail one))

field_once : {ty : TypeTree} {name : Named} {before after : List Placed} {tree : Member} → DerivesField ty name before after tree → Comes (λ m. field_read m (outcome.Value ty) name before) tree after
unfolding field_read
field_once (DerivesField.field d c) = then_reads _ (in_once d c) (rw c.first (at_once refl))

field_no_paren : {ty : TypeTree} {name : Named} {before after : List Placed} {tree : Member} → DerivesField ty name before after tree → starts is_open_paren before ≡ false
field_no_paren (DerivesField.field DerivesIn.nowhere c) = rw c.first refl
field_no_paren (DerivesField.field (DerivesIn.in_region t d) c) = rw t.first refl

-- a member
member_read : ℕ → List Placed → Out Member
member_read m before =
    cond (starts is_kind before) (into (kind_read before) (λ found one. into (listed (λ k. named) m one) (λ names two. Some (member.Regions found names, tail two))))
    (cond (constructs before) (into (named before) (λ name one. method_read m (record { list = []; given = [] }) outcome.Constructor name one))
    (into (params_read m before) (λ params one. into (result_read m one) (λ answer two. into (named two) (λ name three.
    cond (starts is_open_paren three) (method_read m params answer name three) (field_read m answer name three))))))

member_once : (before after : List Placed) (tree : Member) → DerivesMember before after tree → nothing_goes_on after ≡ false → Comes (λ m. member_read m before) tree after
unfolding member_read
member_once before after tree (DerivesMember.regions k l c) closed =
    on _ (kind_starts k) (then_reads _ (at_once (kind_once k)) (then_reads _ (names_once l (rw c.first refl)) (rw c.first (at_once refl))))
member_once before after tree (DerivesMember.field d n f) closed =
    off _ (type_begins d n).kind (off _ (type_begins d n).constructor (then_reads _ (params_once DerivesParams.no_params (type_begins d n).less)
    (then_reads _ (result_once (DerivesResult.value d) n) (rw n.first (off _ (field_no_paren f) (field_once f))))))
member_once before after tree (DerivesMember.method DerivesFront.constructs (DerivesNamed.named n d)) closed =
    rw n.first (on _ (method_paren d) (method_once d))
member_once before after tree (DerivesMember.method (DerivesFront.answers p r) (DerivesNamed.named n d)) closed =
    off _ (params_kind p r n) (off _ (params_construct_no p r n) (then_reads _ (params_once p (result_begins r n).less)
    (then_reads _ (result_once r n) (rw n.first (on _ (method_paren d) (method_once d))))))

type_starts_member : {before after : List Placed} {ty : TypeTree} → DerivesType before after ty → starts is_member before ≡ true
type_starts_member (type_of s (DerivesBase.int t) ss) = rw t.first refl
type_starts_member (type_of s (DerivesBase.boolean t) ss) = rw t.first refl
type_starts_member (type_of s (DerivesBase.class t d) ss) = rw t.first refl

member_starts : (before after : List Placed) (tree : Member) → DerivesMember before after tree → (starts is_member before ≡ true) × (nothing_goes_on before ≡ false)
member_starts before after tree (DerivesMember.regions (DerivesKind.kind DerivesAtomic.plain t) l c) = rw t.first (refl, refl)
member_starts before after tree (DerivesMember.regions (DerivesKind.kind (DerivesAtomic.atomic a) t) l c) = rw a.first (refl, refl)
member_starts before after tree (DerivesMember.field d n f) = (type_starts_member d, refl)
member_starts before after tree (DerivesMember.method DerivesFront.constructs (DerivesNamed.named n d)) = rw n.first (refl, refl)
member_starts before after tree (DerivesMember.method (DerivesFront.answers (DerivesParams.params o p g c) r) d) = rw o.first (refl, refl)
member_starts before after tree (DerivesMember.method (DerivesFront.answers DerivesParams.no_params (DerivesResult.void t)) d) = rw t.first (refl, refl)
member_starts before after tree (DerivesMember.method (DerivesFront.answers DerivesParams.no_params (DerivesResult.value t)) d) = (type_starts_member t, refl)

-- a class
parent_read : ℕ → List Placed → Out (Option Parent)
parent_read m before = cond (starts is_extends before) (into (named (tail before)) (λ name two. into (args_read m two) (λ paths left. Some (Some (record { name = name; args = paths }), left)))) (Some (None, before))

pub members_start : {before after : List Placed} {all : List Member} → DerivesMembers before after all → (test : Terminal → Bool) → starts test before ≡ test (terminal.Symbol Symbol.OpenBrace)
members_start (DerivesMembers.members o ds c) test = rw o.first refl

parent_once : {before after rest : List Placed} {parent : Option Parent} {all : List Member} → DerivesParent before after parent → DerivesMembers after rest all → Comes (λ m. parent_read m before) parent after
unfolding parent_read
parent_once DerivesParent.no_parent d = off _ (members_start d is_extends) (at_once refl)
parent_once (DerivesParent.extends t n a) d = rw t.first (rw n.first (then_reads _ (args_once a (members_start d is_less)) (at_once refl)))

pub parent_no_less : {before after rest : List Placed} {parent : Option Parent} {all : List Member} → DerivesParent before after parent → DerivesMembers after rest all → starts is_less before ≡ false
parent_no_less DerivesParent.no_parent d = members_start d is_less
parent_no_less (DerivesParent.extends t n a) d = rw t.first refl

members_read : ℕ → List Placed → Out (List Member)
members_read m before = into (many (starts is_member) member_read m (tail before)) (λ all two. Some (all, tail two))

members_once : {before after : List Placed} {all : List Member} → DerivesMembers before after all → Comes (λ m. members_read m before) all after
unfolding members_read
members_once (DerivesMembers.members o ds c) =
    rw o.first (then_reads _ (many_read nothing_goes_on (starts is_member) member_read member_once member_starts ds (rw c.first refl) refl) (rw c.first (at_once refl)))

class_read : ℕ → List Placed → Out Class
class_read m before =
    into (named (tail before)) (λ name two. into (params_read m two) (λ params three. into (parent_read m three) (λ parent four. into (members_read m four) (λ all left.
    Some (record { place = name.place; name = name.name; params = params; parent = parent; members = all }, left)))))

class_once : (before after : List Placed) (tree : Class) → DerivesClass before after tree → nothing_goes_on after ≡ false → Comes (λ m. class_read m before) tree after
unfolding class_read
class_once before after tree (DerivesClass.class t n p e ms) closed =
    rw t.first (rw n.first (then_reads _ (params_once p (parent_no_less e ms)) (then_reads _ (parent_once e ms) (then_reads _ (members_once ms) (at_once refl)))))

class_starts : (before after : List Placed) (tree : Class) → DerivesClass before after tree → (starts is_class before ≡ true) × (nothing_goes_on before ≡ false)
class_starts before after tree (DerivesClass.class t n p e ms) = rw t.first (refl, refl)

program_read : ℕ → List Placed → Out (List Class)
program_read m before = into (class_read m before) (λ first one. into (many (starts is_class) class_read m one) (λ others left. Some (first ∷ others, left)))

program_once : {before : List Placed} {classes : List Class} → DerivesProgram before classes → Comes (λ m. program_read m before) classes []
unfolding program_read
program_once {before} (DerivesProgram.program {one = one} {first = first} d ds) =
    then_reads _ (class_once before one first d refl) (then_reads _ (many_read nothing_goes_on (starts is_class) class_read class_once class_starts ds refl refl) (at_once refl))

-- a list of terminals derives one program at most
pub one_program : (list : List Placed) (left right : List Class) → DerivesProgram list left → DerivesProgram list right → left ≡ right
one_program list left right l r = come_once (program_once l) (program_once r)

-- Members, classes and programs that are derived are read as they are expected.
use Rattle.std.proofs.Common.{◌≡◌, List, [], ◌∷◌, ◌++◌, Bool, true, false, Option, refl, sym, subst}
use Rattle.std.proofs.lemmas.List.{append_cancel_right}
use Rattle.syntax_tokens.specs.declared.token.Symbol.{Symbol}
use Rattle.syntax_tokens.specs.declared.token.Keyword.{Keyword}
use Rattle.syntax_tokens.specs.declared.terminal.Placed.{Placed}
use Rattle.syntax_tokens.specs.declared.terminal.Terminal.{Terminal}
use Rattle.syntax_tokens.specs.declared.terminal.Terminal.TheVariants as terminal
use Rattle.syntax_tree.specs.declared.class.Class.{Class}
use Rattle.syntax_tree.specs.declared.class.Formal.{Formal}
use Rattle.syntax_tree.specs.declared.class.Item.{Item}
use Rattle.syntax_tree.specs.declared.class.Member.{Member}
use Rattle.syntax_tree.specs.declared.class.MethodResult.{MethodResult}
use Rattle.syntax_tree.specs.declared.class.Parent.{Parent}
use Rattle.syntax_tree.specs.declared.class.SummaryTree.{SummaryTree}
use Rattle.syntax_tree.specs.declared.region.Named.{Named}
use Rattle.syntax_tree.specs.declared.region.Params.{Params}
use Rattle.syntax_tree.specs.declared.region.RplTree.{RplTree}
use Rattle.syntax_tree.specs.declared.region.Suffix.{Suffix}
use Rattle.syntax_tree.specs.declared.region.TypeTree.{TypeTree}
use Rattle.lang_base.specs.declared.place.Place.{Place}
use Rattle.syntax_grammar.specs.Taking.{TakesSymbol, TakesName, Listed, Many}
use Rattle.syntax_grammar.specs.Paths.{DerivesArgs, no_args, args}
use Rattle.syntax_grammar.specs.Types.{DerivesBase, DerivesSuffix, suffix, DerivesType, type_of}
use Rattle.syntax_grammar.specs.Classes.{DerivesAtomic, DerivesKind, DerivesParams, DerivesFormal, DerivesFormalList, DerivesFormals, DerivesItem, DerivesItems, DerivesSummary, DerivesIn, DerivesResult, DerivesFront, DerivesField, DerivesMethod, DerivesNamed, DerivesMember, DerivesParent, DerivesMembers, DerivesClass, DerivesProgram}
use Rattle.syntax_grammar.proofs.once.OnceReader.{starts, listed_first}
use Rattle.syntax_grammar.proofs.once.OncePaths.{goes_on_path, nothing_goes_on}
use Rattle.syntax_grammar.proofs.once.OnceMembers.{rpl_not, type_not, formals_start, items_start, path_ends}
use Rattle.syntax_grammar.proofs.once.OnceClasses.{block_starts, members_start, parent_no_less, result_begins}
use Rattle.syntax_grammar.specs.Words.{is_less, is_comma, is_open_paren, is_close_paren, is_close_brace, is_extends, is_atomic, is_in, is_reads, is_writes, is_pure, is_void}
use Rattle.syntax_grammar.specs.Expecting.{Expected, part, next_of, Steps, stay, Passes, IsLost}
use Rattle.syntax_grammar.proofs.expected.Expected.{nothing, rule, on_next, took, link, two, is_next, lost_not_read, alike, lost_alike}
use Rattle.syntax_grammar.specs.Expecting.{Part as p}
use Rattle.syntax_grammar.proofs.expected.ExpectedPaths.{unless, where_next, listed_passes, path_passes, args_pass, kind_passes, params_pass, type_passes, class_after}
use Rattle.syntax_grammar.proofs.expected.ExpectedStmts.{names_pass, block_passes}

-- "(" [ Formals ] ")"
formal_passes : (before after : List Placed) (tree : Formal) → DerivesFormal before after tree → nothing_goes_on after ≡ false →
    Passes (part p.formal ∷ []) before after
formal_passes before after tree (DerivesFormal.formal d n) closed = rule refl (link (type_passes d n) (took n refl))

formal_no_paren : (before after : List Placed) (tree : Formal) → DerivesFormal before after tree → starts is_close_paren before ≡ false
formal_no_paren before after tree (DerivesFormal.formal d n) = type_not is_close_paren refl refl (λ n. refl) d

formals_pass : {before after : List Placed} {all : List Formal} → DerivesFormals before after all → Passes (part p.formals ∷ []) before after
formals_pass (DerivesFormals.parenthesised o DerivesFormalList.no_formals c) =
    rule refl (link (took o refl) (link (where_next _ is_close_paren refl (rw c.first refl) nothing) (took c refl)))
formals_pass (DerivesFormals.parenthesised o (DerivesFormalList.formals l) c) =
    rule refl (link (took o refl) (link (unless _ is_close_paren refl (listed_first (λ here. starts is_close_paren here ≡ false) formal_no_paren l)
    (listed_passes nothing_goes_on p.formal p.more_formals (λ n. refl) formal_passes (λ place rest. refl) l (rw c.first refl) refl)) (took c refl)))

-- Summary, in front of a block
item_passes : (before after : List Placed) (tree : Item) → DerivesItem before after tree → goes_on_path after ≡ false → Passes (part p.item ∷ []) before after
item_passes before after tree (DerivesItem.item {path = found} DerivesAtomic.plain d) closed =
    rule refl (link (unless _ is_atomic refl (rpl_not is_atomic refl (λ n. refl) d) nothing) (path_passes before after found d closed))
item_passes before after tree (DerivesItem.item {one = here} {path = found} (DerivesAtomic.atomic t) d) closed =
    rule refl (link (where_next _ is_atomic refl (rw t.first refl) (took t refl)) (path_passes here after found d closed))

items_pass : {before after : List Placed} {all : List Item} → Listed DerivesItem before after all → starts is_comma after ≡ false →
    goes_on_path after ≡ false → Passes (part p.items ∷ []) before after
items_pass l no_comma closed = rule refl (listed_passes goes_on_path p.item p.more_items (λ n. refl) item_passes (λ place rest. refl) l no_comma closed)

reads_pass : {before after : List Placed} {all : List Item} → DerivesItems Keyword.Reads before after all → starts is_comma after ≡ false →
    goes_on_path after ≡ false → Passes (part p.reads_if ∷ []) before after
reads_pass (DerivesItems.items t l) no_comma closed = where_next _ is_reads refl (rw t.first refl) (link (took t refl) (items_pass l no_comma closed))

writes_pass : {before after : List Placed} {all : List Item} → DerivesItems Keyword.Writes before after all → starts is_comma after ≡ false →
    goes_on_path after ≡ false → Passes (part p.writes_if ∷ []) before after
writes_pass (DerivesItems.items t l) no_comma closed = where_next _ is_writes refl (rw t.first refl) (link (took t refl) (items_pass l no_comma closed))

summary_passes : {before after : List Placed} {summary : Option SummaryTree} → DerivesSummary before after summary →
    ((test : Terminal → Bool) → starts test after ≡ test (terminal.Symbol Symbol.OpenBrace)) → Passes (part p.summary ∷ []) before after
summary_passes {after = after} DerivesSummary.no_summary block =
    rule {xs = []} (rw (is_next is_reads after (block is_reads), is_next is_writes after (block is_writes), is_next is_pure after (block is_pure)) refl) nothing
summary_passes (DerivesSummary.pure t) block = on_next t refl (took t refl)
summary_passes {after = after} (DerivesSummary.reads (DerivesItems.items t l)) block =
    on_next t refl (link (reads_pass (DerivesItems.items t l) (block is_comma) (path_ends _ (terminal.Symbol Symbol.OpenBrace) block refl))
    (unless _ is_writes refl (block is_writes) nothing))
summary_passes (DerivesSummary.reads_and_writes (DerivesItems.items t l) w) block =
    on_next t refl (link (reads_pass (DerivesItems.items t l) (items_start w is_comma) (path_ends _ (terminal.Keyword Keyword.Writes) (items_start w) refl))
    (writes_pass w (block is_comma) (path_ends _ (terminal.Symbol Symbol.OpenBrace) block refl)))
summary_passes (DerivesSummary.writes (DerivesItems.items t l)) block =
    on_next t refl (link (unless _ is_reads refl (rw t.first refl) nothing) (writes_pass (DerivesItems.items t l) (block is_comma) (path_ends _
    (terminal.Symbol Symbol.OpenBrace) block refl)))

-- members
in_passes : {before after rest : List Placed} {region : Option RplTree} {ends_at : Place} → DerivesIn before after region →
    TakesSymbol Symbol.Semicolon after rest ends_at → Passes (part p.in_if ∷ []) before after
in_passes DerivesIn.nowhere c = unless _ is_in refl (rw c.first refl) nothing
in_passes {after = after} (DerivesIn.in_region {one = here} {path = found} t d) c =
    where_next _ is_in refl (rw t.first refl) (link (took t refl) (path_passes here after found d (rw c.first refl)))

in_no_paren : {before after rest : List Placed} {region : Option RplTree} {ends_at : Place} → DerivesIn before after region →
    TakesSymbol Symbol.Semicolon after rest ends_at → starts is_open_paren before ≡ false
in_no_paren DerivesIn.nowhere c = rw c.first refl
in_no_paren (DerivesIn.in_region t d) c = rw t.first refl

field_rest : {ty : TypeTree} {name : Named} {before after : List Placed} {tree : Member} → DerivesField ty name before after tree →
    Passes (part p.field_or_method ∷ []) before after
field_rest (DerivesField.field d c) = unless _ is_open_paren refl (in_no_paren d c) (link (in_passes d c) (took c refl))

method_rest : {params : Params} {answer : MethodResult} {name : Named} {before after : List Placed} {tree : Member} →
    DerivesMethod params answer name before after tree → Passes (part p.method_rest ∷ []) before after
method_rest (DerivesMethod.method f s b) = rule refl (link (formals_pass f) (link (summary_passes s (block_starts b)) (block_passes b)))

method_paren : {params : Params} {answer : MethodResult} {name : Named} {before after : List Placed} {tree : Member} →
    DerivesMethod params answer name before after tree → starts is_open_paren before ≡ true
method_paren (DerivesMethod.method f s b) = formals_start f is_open_paren

suffix_no_paren : {before two three : List Placed} {name : Named} {suffixes : List Suffix} → Many DerivesSuffix before two suffixes →
    TakesName two three name → starts is_open_paren before ≡ false
suffix_no_paren Many.none n = rw n.first refl
suffix_no_paren (Many.some (suffix o c d) ds) n = rw o.first refl

after_no_paren : {before between after rest : List Placed} {paths : List RplTree} {trees : List Suffix} {name : Named} →
    DerivesArgs before between paths → Many DerivesSuffix between after trees → TakesName after rest name → starts is_open_paren before ≡ false
after_no_paren no_args ss n = suffix_no_paren ss n
after_no_paren (args o ps c) ss n = rw o.first refl

-- a type, a name, and what goes on after them
typed_passes : {before after between rest : List Placed} {ty : TypeTree} {name : Named} →
    DerivesType before after ty → TakesName after between name → Passes (part p.field_or_method ∷ []) between rest → Passes (part p.member ∷ []) before rest
typed_passes (type_of s (DerivesBase.int t) ss) n q = on_next t refl (link (type_passes (type_of s (DerivesBase.int t) ss) n) (link (took n refl) q))
typed_passes (type_of s (DerivesBase.boolean t) ss) n q = on_next t refl (link (type_passes (type_of s (DerivesBase.boolean t) ss) n) (link (took n refl) q))
typed_passes (type_of s (DerivesBase.class t d) ss) n q =
    on_next t refl (link (took t refl) (unless _ is_open_paren refl (after_no_paren d ss n) (two (class_after d ss n) (link (took n refl) q))))

result_passes : {before after rest : List Placed} {answer : MethodResult} {name : Named} → DerivesResult before after answer → TakesName after rest name →
    Passes (part p.result ∷ []) before after
result_passes (DerivesResult.void t) n = where_next _ is_void refl (rw t.first refl) (took t refl)
result_passes (DerivesResult.value d) n = unless _ is_void refl (type_not is_void refl refl (λ n. refl) d) (type_passes d n)

member_passes : (before after : List Placed) (tree : Member) → DerivesMember before after tree → Passes (part p.member ∷ []) before after
member_passes before after tree (DerivesMember.regions (DerivesKind.kind DerivesAtomic.plain t) l c) =
    on_next t refl (link (kind_passes (DerivesKind.kind DerivesAtomic.plain t)) (link (names_pass l (rw c.first refl)) (took c refl)))
member_passes before after tree (DerivesMember.regions (DerivesKind.kind (DerivesAtomic.atomic a) t) l c) =
    on_next a refl (link (kind_passes (DerivesKind.kind (DerivesAtomic.atomic a) t)) (link (names_pass l (rw c.first refl)) (took c refl)))
member_passes before after tree (DerivesMember.field d n f) = typed_passes d n (field_rest f)
member_passes before after tree (DerivesMember.method DerivesFront.constructs (DerivesNamed.named n d)) =
    on_next n refl (link (took n refl) (where_next _ is_open_paren refl (method_paren d) (method_rest d)))
member_passes before after tree (DerivesMember.method (DerivesFront.answers DerivesParams.no_params (DerivesResult.value t)) (DerivesNamed.named n d)) =
    typed_passes t n (where_next _ is_open_paren refl (method_paren d) (method_rest d))
member_passes before after tree (DerivesMember.method (DerivesFront.answers DerivesParams.no_params (DerivesResult.void t)) (DerivesNamed.named n d)) =
    on_next t refl (link (params_pass DerivesParams.no_params (rw t.first refl)) (link (result_passes (DerivesResult.void t) n) (link (took n refl)
    (method_rest d))))
member_passes before after tree (DerivesMember.method (DerivesFront.answers (DerivesParams.params o g e c) r) (DerivesNamed.named n d)) =
    on_next o refl (link (params_pass (DerivesParams.params o g e c) (result_begins r n).less) (link (result_passes r n) (link (took n refl) (method_rest d))))

type_no_brace : {before after : List Placed} {ty : TypeTree} → DerivesType before after ty → starts is_close_brace before ≡ false
type_no_brace d = type_not is_close_brace refl refl (λ n. refl) d

member_no_brace : (before after : List Placed) (tree : Member) → DerivesMember before after tree → starts is_close_brace before ≡ false
member_no_brace before after tree (DerivesMember.regions (DerivesKind.kind DerivesAtomic.plain t) l c) = rw t.first refl
member_no_brace before after tree (DerivesMember.regions (DerivesKind.kind (DerivesAtomic.atomic a) t) l c) = rw a.first refl
member_no_brace before after tree (DerivesMember.field d n f) = type_no_brace d
member_no_brace before after tree (DerivesMember.method DerivesFront.constructs (DerivesNamed.named n d)) = rw n.first refl
member_no_brace before after tree (DerivesMember.method (DerivesFront.answers (DerivesParams.params o g e c) r) d) = rw o.first refl
member_no_brace before after tree (DerivesMember.method (DerivesFront.answers DerivesParams.no_params (DerivesResult.void t)) d) = rw t.first refl
member_no_brace before after tree (DerivesMember.method (DerivesFront.answers DerivesParams.no_params (DerivesResult.value t)) d) = type_no_brace t

member_list_passes : {before after : List Placed} {all : List Member} → Many DerivesMember before after all → starts is_close_brace after ≡ true →
    Passes (part p.member_list ∷ []) before after
member_list_passes Many.none closed = where_next _ is_close_brace refl closed nothing
member_list_passes {before} (Many.some {one = here} {item = tree} d ds) closed =
    unless _ is_close_brace refl (member_no_brace before here tree d) (link (member_passes before here tree d) (member_list_passes ds closed))

-- classes
members_pass : {before after : List Placed} {all : List Member} → DerivesMembers before after all → Passes (part p.members ∷ []) before after
members_pass (DerivesMembers.members o ds c) = rule refl (link (took o refl) (link (member_list_passes ds (rw c.first refl)) (took c refl)))

parent_passes : {before after rest : List Placed} {parent : Option Parent} {all : List Member} → DerivesParent before after parent →
    DerivesMembers after rest all → Passes (part p.parent_if ∷ []) before after
parent_passes DerivesParent.no_parent d = unless _ is_extends refl (members_start d is_extends) nothing
parent_passes (DerivesParent.extends t n a) d =
    where_next _ is_extends refl (rw t.first refl) (link (took t refl) (link (took n refl) (args_pass a (members_start d is_less))))

class_passes : (before after : List Placed) (tree : Class) → DerivesClass before after tree → Passes (part p.class ∷ []) before after
class_passes before after tree (DerivesClass.class t n g e ms) =
    rule refl (link (took t refl) (link (took n refl) (link (params_pass g (parent_no_less e ms)) (link (parent_passes e ms) (members_pass ms)))))

more_pass : {before : List Placed} {all : List Class} → Many DerivesClass before [] all → Passes (part p.more_classes ∷ []) before []
more_pass Many.none = rule refl nothing
more_pass {before} (Many.some {one = here} {item = tree} (DerivesClass.class t n g e ms) ds) =
    on_next t refl (link (class_passes before here tree (DerivesClass.class t n g e ms)) (more_pass ds))

-- what derives a program is read to its end
pub program_read : {list : List Placed} {classes : List Class} → DerivesProgram list classes → Steps [] [] (part p.program ∷ []) list
program_read {list} (DerivesProgram.program {one = here} {first = first} d ds) = (rule refl (link (class_passes list here first d) (more_pass ds))).goes stay

-- where a text is lost, no program begins with the terminals up to there and the next one
pub lost_is_no_program : (read here other : List Placed) {to : List Expected} {classes : List Class} →
    Steps to here (part p.program ∷ []) (read ++ here) → IsLost to here → next_of other ≡ next_of here → DerivesProgram (read ++ other) classes → ⊥
lost_is_no_program read here other {to} s lost next d =
    let a = alike s in
    let same : a.read ≡ read = append_cancel_right a.read read here (sym a.is) in
    lost_not_read (subst (λ (r : List Placed). Steps to other (part p.program ∷ []) (r ++ other)) same (a.same other next)) (lost_alike lost next)
    (program_read d)

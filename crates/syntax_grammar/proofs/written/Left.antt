-- Each part of a text that is no statement and no expression leaves terminals after it.
use Rattle.std.proofs.Common.{suc, ◌+◌, ◌≤◌, List, length, Bool, Option, ap, arith}
use Rattle.syntax_tokens.specs.declared.token.Keyword.{Keyword}
use Rattle.syntax_tokens.specs.declared.terminal.Placed.{Placed}
use Rattle.syntax_tree.specs.declared.class.Formal.{Formal}
use Rattle.syntax_tree.specs.declared.class.Item.{Item}
use Rattle.syntax_tree.specs.declared.class.MethodResult.{MethodResult}
use Rattle.syntax_tree.specs.declared.class.Parent.{Parent}
use Rattle.syntax_tree.specs.declared.class.SummaryTree.{SummaryTree}
use Rattle.syntax_tree.specs.declared.region.BaseTree.{BaseTree}
use Rattle.syntax_tree.specs.declared.region.ConstrTree.{ConstrTree}
use Rattle.syntax_tree.specs.declared.region.ElemTree.{ElemTree}
use Rattle.syntax_tree.specs.declared.region.Named.{Named}
use Rattle.syntax_tree.specs.declared.region.Params.{Params}
use Rattle.syntax_tree.specs.declared.region.ParamTree.{ParamTree}
use Rattle.syntax_tree.specs.declared.region.RName.{RName}
use Rattle.syntax_tree.specs.declared.region.RplHead.{RplHead}
use Rattle.syntax_tree.specs.declared.region.RplTree.{RplTree}
use Rattle.syntax_tree.specs.declared.region.Suffix.{Suffix}
use Rattle.syntax_tree.specs.declared.region.TypeTree.{TypeTree}
use Rattle.syntax_grammar.specs.Taking.{TakesName, Listed, last, more, Many, none, some}
use Rattle.syntax_grammar.specs.Paths.{DerivesRName, one_name, two_names, DerivesHead, root, DerivesWithin, DerivesElem, star, within, DerivesNext, next, DerivesRpl, path, DerivesArgs, no_args, args}
use Rattle.syntax_grammar.specs.Types.{DerivesBase, DerivesRegion, no_region, region, DerivesIndex, no_index, index, DerivesAfter, following, DerivesSuffix, suffix, DerivesType, type_of}
use Rattle.syntax_grammar.specs.Statements.{DerivesFinal, not_final, final}
use Rattle.syntax_grammar.specs.Classes.{DerivesAtomic, plain, atomic, DerivesKind, kind, DerivesParam, param, DerivesKindOr, same, other, DerivesParamsAfter, no_more, DerivesDeclared, declared, DerivesConstr, constraint, DerivesGiven, nothing_given, given, DerivesParams, no_params, params, DerivesFormal, formal, DerivesFormalList, no_formals, formals, DerivesFormals, DerivesItem, item, DerivesItems, DerivesSummary, no_summary, pure, reads, reads_and_writes, writes, DerivesIn, nowhere, in_region, DerivesResult, void, DerivesFront, constructs, answers, DerivesParent, no_parent, extends}
use Rattle.syntax_grammar.proofs.written.Numbers.{Leaves, takes, here, join, fewer}

many : {A : Type 0} (Derives : List Placed → List Placed → A → Type 0) → ((before after : List Placed) (one : A) → Derives before after one → Leaves before after) →
    {before after : List Placed} {all : List A} → Many Derives before after all → Leaves before after
many Derives each none = here
many Derives each (some d m) = join (each _ _ _ d) (many Derives each m)

listed : {A : Type 0} (Derives : List Placed → List Placed → A → Type 0) → ((before after : List Placed) (one : A) → Derives before after one → Leaves before after) →
    {before after : List Placed} {all : List A} → Listed Derives before after all → Leaves before after
listed Derives each (last d) = each _ _ _ d
listed Derives each (more d comma l) = join (each _ _ _ d) (join (takes comma) (listed Derives each l))

pub names_left : {before after : List Placed} {all : List Named} → Listed TakesName before after all → Leaves before after
names_left l = listed TakesName (λ b a one t. takes t) l

region_left : {before after : List Placed} {tree : RName} → DerivesRName before after tree → Leaves before after
region_left (one_name t) = takes t
region_left (two_names t dot u) = join (takes t) (join (takes dot) (takes u))

head_left : {before after : List Placed} {tree : RplHead} → DerivesHead before after tree → Leaves before after
head_left (root t) = takes t
head_left (DerivesHead.name d) = region_left d

within_left : {before after : List Placed} {tree : ElemTree} → DerivesWithin before after tree → Leaves before after
within_left (DerivesWithin.number t) = takes t
within_left (DerivesWithin.index t) = takes t
within_left (DerivesWithin.any t) = takes t

elem_left : {before after : List Placed} {tree : ElemTree} → DerivesElem before after tree → Leaves before after
elem_left (DerivesElem.name d) = region_left d
elem_left (star t) = takes t
elem_left (within open_at d close_at) = join (takes open_at) (join (within_left d) (takes close_at))

next_left : {before after : List Placed} {tree : ElemTree} → DerivesNext before after tree → Leaves before after
next_left (next colon d) = join (takes colon) (elem_left d)

rpl_left : {before after : List Placed} {tree : RplTree} → DerivesRpl before after tree → Leaves before after
rpl_left (path stands d m) = join (head_left d) (many DerivesNext (λ b a one each. next_left each) m)

pub args_left : {before after : List Placed} {trees : List RplTree} → DerivesArgs before after trees → Leaves before after
args_left no_args = here
args_left (args open_at l close_at) = join (takes open_at) (join (listed DerivesRpl (λ b a one each. rpl_left each) l) (takes close_at))

pub base_left : {before after : List Placed} {tree : BaseTree} → DerivesBase before after tree → Leaves before after
base_left (DerivesBase.int t) = takes t
base_left (DerivesBase.boolean t) = takes t
base_left (DerivesBase.class t d) = join (takes t) (args_left d)

optional_rpl_left : {before after : List Placed} {tree : Option RplTree} → DerivesRegion before after tree → Leaves before after
optional_rpl_left (no_region absent) = here
optional_rpl_left (region open_at d close_at) = join (takes open_at) (join (rpl_left d) (takes close_at))

index_left : {before after : List Placed} {tree : Option Named} → DerivesIndex before after tree → Leaves before after
index_left (no_index absent) = here
index_left (index hash t) = join (takes hash) (takes t)

pub after_left : {before after : List Placed} {tree : Suffix} → DerivesAfter before after tree → Leaves before after
after_left (following d i) = join (optional_rpl_left d) (index_left i)

suffix_left : {before after : List Placed} {tree : Suffix} → DerivesSuffix before after tree → Leaves before after
suffix_left (suffix open_at close_at d) = join (takes open_at) (join (takes close_at) (after_left d))

pub suffixes_left : {before after : List Placed} {trees : List Suffix} → Many DerivesSuffix before after trees → Leaves before after
suffixes_left m = many DerivesSuffix (λ b a one each. suffix_left each) m

suffix_fewer : {before after : List Placed} {tree : Suffix} → DerivesSuffix before after tree → suc (length after) ≤ length before
suffix_fewer (suffix open_at close_at d) = omega (arith, ap length open_at.first, fewer (takes close_at), fewer (after_left d))

-- each suffix takes a terminal
pub suffixes_fewer : {before after : List Placed} {trees : List Suffix} → Many DerivesSuffix before after trees → length trees + length after ≤ length before
suffixes_fewer none = omega arith
suffixes_fewer (some d m) = omega (arith, suffix_fewer d, suffixes_fewer m)

pub type_left : {before after : List Placed} {tree : TypeTree} → DerivesType before after tree → Leaves before after
type_left (type_of stands d m) = join (base_left d) (suffixes_left m)

pub type_fewer : {before after : List Placed} {tree : TypeTree} → DerivesType before after tree → length tree.suffixes + length after ≤ length before
type_fewer (type_of stands d m) = omega (arith, fewer (base_left d), suffixes_fewer m)

pub final_left : {before after : List Placed} {is_final : Bool} → DerivesFinal before after is_final → Leaves before after
final_left not_final = here
final_left (final t) = takes t

atomic_left : {before after : List Placed} {is_atomic : Bool} → DerivesAtomic before after is_atomic → Leaves before after
atomic_left plain = here
atomic_left (atomic t) = takes t

pub kind_left : {before after : List Placed} {is_atomic : Bool} → DerivesKind before after is_atomic → Leaves before after
kind_left (kind d t) = join (atomic_left d) (takes t)

kind_or_left : {earlier is_atomic : Bool} {before after : List Placed} → DerivesKindOr earlier before after is_atomic → Leaves before after
kind_or_left same = here
kind_or_left (other d) = kind_left d

param_left : {is_atomic : Bool} {before after : List Placed} {tree : ParamTree} → DerivesParam is_atomic before after tree → Leaves before after
param_left (param t) = takes t

params_after_left : {earlier : Bool} {before after : List Placed} {trees : List ParamTree} → DerivesParamsAfter earlier before after trees → Leaves before after
params_after_left no_more = here
params_after_left (DerivesParamsAfter.following comma d one others) = join (takes comma) (join (kind_or_left d) (join (param_left one) (params_after_left others)))

declared_left : {before after : List Placed} {trees : List ParamTree} → DerivesDeclared before after trees → Leaves before after
declared_left (declared d one others) = join (kind_left d) (join (param_left one) (params_after_left others))

constraint_left : {before after : List Placed} {tree : ConstrTree} → DerivesConstr before after tree → Leaves before after
constraint_left (constraint first hash second) = join (rpl_left first) (join (takes hash) (rpl_left second))

given_left : {before after : List Placed} {trees : List ConstrTree} → DerivesGiven before after trees → Leaves before after
given_left nothing_given = here
given_left (given bar l) = join (takes bar) (listed DerivesConstr (λ b a one each. constraint_left each) l)

pub params_left : {before after : List Placed} {tree : Params} → DerivesParams before after tree → Leaves before after
params_left no_params = here
params_left (params open_at d g close_at) = join (takes open_at) (join (declared_left d) (join (given_left g) (takes close_at)))

formal_left : {before after : List Placed} {tree : Formal} → DerivesFormal before after tree → Leaves before after
formal_left (formal d t) = join (type_left d) (takes t)

formal_list_left : {before after : List Placed} {trees : List Formal} → DerivesFormalList before after trees → Leaves before after
formal_list_left no_formals = here
formal_list_left (formals l) = listed DerivesFormal (λ b a one each. formal_left each) l

pub formals_left : {before after : List Placed} {trees : List Formal} → DerivesFormals before after trees → Leaves before after
formals_left (DerivesFormals.parenthesised open_at d close_at) = join (takes open_at) (join (formal_list_left d) (takes close_at))

item_left : {before after : List Placed} {tree : Item} → DerivesItem before after tree → Leaves before after
item_left (item d e) = join (atomic_left d) (rpl_left e)

items_left : {keyword : Keyword} {before after : List Placed} {trees : List Item} → DerivesItems keyword before after trees → Leaves before after
items_left (DerivesItems.items t l) = join (takes t) (listed DerivesItem (λ b a one each. item_left each) l)

pub summary_left : {before after : List Placed} {tree : Option SummaryTree} → DerivesSummary before after tree → Leaves before after
summary_left no_summary = here
summary_left (pure t) = takes t
summary_left (reads d) = items_left d
summary_left (reads_and_writes d e) = join (items_left d) (items_left e)
summary_left (writes d) = items_left d

pub in_left : {before after : List Placed} {tree : Option RplTree} → DerivesIn before after tree → Leaves before after
in_left nowhere = here
in_left (in_region t d) = join (takes t) (rpl_left d)

result_left : {before after : List Placed} {tree : MethodResult} → DerivesResult before after tree → Leaves before after
result_left (void t) = takes t
result_left (DerivesResult.value d) = type_left d

pub front_left : {before after : List Placed} {own : Params} {answer : MethodResult} → DerivesFront before after own answer → Leaves before after
front_left constructs = here
front_left (answers d e) = join (params_left d) (result_left e)

pub parent_left : {before after : List Placed} {tree : Option Parent} → DerivesParent before after tree → Leaves before after
parent_left no_parent = here
parent_left (extends t u d) = join (takes t) (join (takes u) (args_left d))

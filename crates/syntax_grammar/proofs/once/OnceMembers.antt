-- The parts of members are read in one way.
use Rattle.std.proofs.Common.{◌≡◌, ℕ, zero, suc, List, [], ◌∷◌, Bool, true, false, cond, ◌||◌, Option, Some, None, refl}
use Rattle.lang_base.specs.declared.place.Place.{Place}
use Rattle.syntax_tokens.specs.declared.token.Symbol.{Symbol}
use Rattle.syntax_tokens.specs.declared.token.Keyword.{Keyword}
use Rattle.syntax_tokens.specs.declared.terminal.Placed.{Placed}
use Rattle.syntax_tokens.specs.declared.terminal.Terminal.{Terminal}
use Rattle.syntax_tokens.specs.declared.terminal.Terminal.TheVariants as terminal
use Rattle.syntax_tree.specs.declared.class.Formal.{Formal}
use Rattle.syntax_tree.specs.declared.class.Item.{Item}
use Rattle.syntax_tree.specs.declared.class.SummaryTree.{SummaryTree}
use Rattle.syntax_tree.specs.declared.region.ConstrTree.{ConstrTree}
use Rattle.syntax_tree.specs.declared.region.Params.{Params}
use Rattle.syntax_tree.specs.declared.region.ParamTree.{ParamTree}
use Rattle.syntax_tree.specs.declared.region.RplTree.{RplTree}
use Rattle.syntax_tree.specs.declared.region.TypeTree.{TypeTree}
use Rattle.syntax_grammar.specs.Taking.{TakesSymbol}
use Rattle.syntax_grammar.specs.Paths.{DerivesRpl, DerivesHead, one_name, two_names}
use Rattle.syntax_grammar.specs.Types.{DerivesBase, DerivesType, type_of}
use Rattle.syntax_grammar.specs.Classes.{DerivesAtomic, DerivesKind, DerivesParam, DerivesKindOr, DerivesParamsAfter, DerivesDeclared, DerivesConstr, DerivesGiven, DerivesParams, DerivesFormal, DerivesFormalList, DerivesFormals, DerivesItem, DerivesItems, DerivesSummary, DerivesIn}
use Rattle.syntax_grammar.proofs.once.OnceReader.{Out, into, Comes, at_once, then_reads, later, on, off, starts, tail, named, is_comma, listed, listed_read, listed_first}
use Rattle.syntax_grammar.proofs.once.OncePaths.{is_dot, is_colon, is_less, rpl_read, rpl_once, goes_on_path, nothing_goes_on, type_read, type_once}
use Rattle.syntax_grammar.proofs.once.OnceExprs.{is_close_paren}

-- the terminals that decide
abbrev pub is_atomic : Terminal → Bool
is_atomic (terminal.Keyword Keyword.Atomic) = true
is_atomic _ = false

abbrev pub is_kind : Terminal → Bool
is_kind (terminal.Keyword Keyword.Atomic) = true
is_kind (terminal.Keyword Keyword.Region) = true
is_kind _ = false

abbrev is_bar : Terminal → Bool
is_bar (terminal.Symbol Symbol.Bar) = true
is_bar _ = false

abbrev is_pure : Terminal → Bool
is_pure (terminal.Keyword Keyword.Pure) = true
is_pure _ = false

abbrev is_reads : Terminal → Bool
is_reads (terminal.Keyword Keyword.Reads) = true
is_reads _ = false

abbrev is_writes : Terminal → Bool
is_writes (terminal.Keyword Keyword.Writes) = true
is_writes _ = false

abbrev is_in : Terminal → Bool
is_in (terminal.Keyword Keyword.In) = true
is_in _ = false

-- what paths and types don't begin with
pub rpl_not : (test : Terminal → Bool) → test (terminal.Keyword Keyword.Root) ≡ false → ((n : ℕ) → test (terminal.Name n) ≡ false) →
    {before after : List Placed} {tree : RplTree} → DerivesRpl before after tree → starts test before ≡ false
rpl_not test root name (DerivesRpl.path s (DerivesHead.root t) es) = rw t.first root
rpl_not test root name (DerivesRpl.path s (DerivesHead.name (one_name {first = first} t)) es) = rw t.first (name first.name)
rpl_not test root name (DerivesRpl.path s (DerivesHead.name (two_names {first = first} t d n)) es) = rw t.first (name first.name)

pub type_not : (test : Terminal → Bool) → test (terminal.Keyword Keyword.Int) ≡ false → test (terminal.Keyword Keyword.Boolean) ≡ false → ((n : ℕ) → test (terminal.Name n) ≡ false) →
    {before after : List Placed} {tree : TypeTree} → DerivesType before after tree → starts test before ≡ false
type_not test int boolean name (type_of s (DerivesBase.int t) ss) = rw t.first int
type_not test int boolean name (type_of s (DerivesBase.boolean t) ss) = rw t.first boolean
type_not test int boolean name (type_of s (DerivesBase.class {named = class} t d) ss) = rw t.first (name class.name)

-- [ "atomic" ] "region"
abbrev pub atomic_read : List Placed → Out Bool
atomic_read before = cond (starts is_atomic before) (Some (true, tail before)) (Some (false, before))

abbrev pub kind_read : List Placed → Out Bool
kind_read before = into (atomic_read before) (λ found one. Some (found, tail one))

pub kind_once : {before after : List Placed} {found : Bool} → DerivesKind before after found → kind_read before ≡ Some (found, after)
kind_once (DerivesKind.kind DerivesAtomic.plain t) = rw t.first refl
kind_once (DerivesKind.kind (DerivesAtomic.atomic a) t) = rw (a.first, t.first) refl

pub kind_starts : {before after : List Placed} {found : Bool} → DerivesKind before after found → starts is_kind before ≡ true
kind_starts (DerivesKind.kind DerivesAtomic.plain t) = rw t.first refl
kind_starts (DerivesKind.kind (DerivesAtomic.atomic a) t) = rw a.first refl

-- Kind Name { "," [ Kind ] Name }
abbrev param_read : Bool → List Placed → Out ParamTree
param_read found before = into (named before) (λ name left. Some (record { place = name.place; name = name.name; atomic = found }, left))

param_once : {found : Bool} {before after : List Placed} {tree : ParamTree} → DerivesParam found before after tree → param_read found before ≡ Some (tree, after)
param_once (DerivesParam.param t) = rw t.first refl

abbrev kind_or_read : Bool → List Placed → Out Bool
kind_or_read earlier before = cond (starts is_kind before) (kind_read before) (Some (earlier, before))

kind_or_once : {earlier found : Bool} {before after three : List Placed} {tree : ParamTree} → DerivesKindOr earlier before after found → DerivesParam found after three tree → kind_or_read earlier before ≡ Some (found, after)
kind_or_once DerivesKindOr.same (DerivesParam.param t) = rw t.first refl
kind_or_once (DerivesKindOr.other k) d = rw (kind_starts k, kind_once k) refl

params_after_read : ℕ → Bool → List Placed → Out (List ParamTree)
params_after_read zero earlier before = None
params_after_read (suc m) earlier before =
    cond (starts is_comma before)
    (into (kind_or_read earlier (tail before)) (λ found two. into (param_read found two) (λ tree three. into (params_after_read m found three) (λ others left. Some (tree ∷ others, left)))))
    (Some ([], before))

params_after_once : {earlier : Bool} {before after : List Placed} {trees : List ParamTree} → DerivesParamsAfter earlier before after trees → starts is_comma after ≡ false →
    Comes (λ m. params_after_read m earlier before) trees after
unfolding params_after_read
params_after_once {earlier} {before} DerivesParamsAfter.no_more closed = later (λ m. params_after_read m earlier before) (off _ closed (at_once refl))
params_after_once {earlier} {before} (DerivesParamsAfter.following t k p ds) closed =
    later (λ m. params_after_read m earlier before) (rw t.first (then_reads _ (at_once (kind_or_once k p)) (then_reads _ (at_once (param_once p)) (then_reads _ (params_after_once ds closed) (at_once refl)))))

declared_read : ℕ → List Placed → Out (List ParamTree)
declared_read m before = into (kind_read before) (λ found one. into (param_read found one) (λ tree two. into (params_after_read m found two) (λ others left. Some (tree ∷ others, left))))

declared_once : {before after : List Placed} {trees : List ParamTree} → DerivesDeclared before after trees → starts is_comma after ≡ false → Comes (λ m. declared_read m before) trees after
unfolding declared_read
declared_once (DerivesDeclared.declared k p ds) closed = then_reads _ (at_once (kind_once k)) (then_reads _ (at_once (param_once p)) (then_reads _ (params_after_once ds closed) (at_once refl)))

-- [ "|" Constr { "," Constr } ], where Constr = Rpl "#" Rpl
constr_read : ℕ → List Placed → Out ConstrTree
constr_read m before = into (rpl_read m before) (λ first one. into (rpl_read m (tail one)) (λ second left. Some (record { left = first; right = second }, left)))

constr_once : (before after : List Placed) (tree : ConstrTree) → DerivesConstr before after tree → goes_on_path after ≡ false → Comes (λ m. constr_read m before) tree after
unfolding constr_read
constr_once before after tree (DerivesConstr.constraint {one = one} {two = two} {left = first} {right = second} l h r) closed =
    then_reads _ (rpl_once before one first l (rw h.first refl)) (rw h.first (then_reads _ (rpl_once two after second r closed) (at_once refl)))

given_read : ℕ → List Placed → Out (List ConstrTree)
given_read m before = cond (starts is_bar before) (listed constr_read m (tail before)) (Some ([], before))

given_once : {before after rest : List Placed} {all : List ConstrTree} {close_at : Place} → DerivesGiven before after all → TakesSymbol Symbol.Greater after rest close_at → Comes (λ m. given_read m before) all after
unfolding given_read
given_once DerivesGiven.nothing_given c = rw c.first (at_once refl)
given_once (DerivesGiven.given t l) c = rw t.first (listed_read goes_on_path constr_read constr_once (λ place rest. refl) l (rw c.first refl) (rw c.first refl))

given_no_comma : {before after rest : List Placed} {all : List ConstrTree} {close_at : Place} → DerivesGiven before after all → TakesSymbol Symbol.Greater after rest close_at → starts is_comma before ≡ false
given_no_comma DerivesGiven.nothing_given c = rw c.first refl
given_no_comma (DerivesGiven.given t l) c = rw t.first refl

-- [ Params ]
pub params_read : ℕ → List Placed → Out Params
params_read m before =
    cond (starts is_less before)
    (into (declared_read m (tail before)) (λ list two. into (given_read m two) (λ all three. Some (record { list = list; given = all }, tail three))))
    (Some (record { list = []; given = [] }, before))

pub params_once : {before after : List Placed} {params : Params} → DerivesParams before after params → starts is_less after ≡ false → Comes (λ m. params_read m before) params after
unfolding params_read
params_once DerivesParams.no_params closed = off _ closed (at_once refl)
params_once (DerivesParams.params o d g c) closed = rw o.first (then_reads _ (declared_once d (given_no_comma g c)) (then_reads _ (given_once g c) (rw c.first (at_once refl))))

-- "(" [ Formals ] ")", where Formals = Type Name { "," Type Name }
formal_read : ℕ → List Placed → Out Formal
formal_read m before = into (type_read m before) (λ ty one. into (named one) (λ name left. Some (record { place = name.place; name = name.name; ty = ty }, left)))

formal_once : (before after : List Placed) (tree : Formal) → DerivesFormal before after tree → nothing_goes_on after ≡ false → Comes (λ m. formal_read m before) tree after
unfolding formal_read
formal_once before after tree (DerivesFormal.formal d n) closed = then_reads _ (type_once d (rw n.first refl) (rw n.first refl)) (rw n.first (at_once refl))

formal_no_paren : (before after : List Placed) (tree : Formal) → DerivesFormal before after tree → starts is_close_paren before ≡ false
formal_no_paren before after tree (DerivesFormal.formal d n) = type_not is_close_paren refl refl (λ n. refl) d

pub formals_read : ℕ → List Placed → Out (List Formal)
formals_read m before = cond (starts is_close_paren (tail before)) (Some ([], tail (tail before))) (into (listed formal_read m (tail before)) (λ all two. Some (all, tail two)))

pub formals_once : {before after : List Placed} {all : List Formal} → DerivesFormals before after all → Comes (λ m. formals_read m before) all after
unfolding formals_read
formals_once (DerivesFormals.parenthesised o DerivesFormalList.no_formals c) = rw (o.first, c.first) (at_once refl)
formals_once (DerivesFormals.parenthesised o (DerivesFormalList.formals l) c) =
    rw o.first (off _ (listed_first (λ here. starts is_close_paren here ≡ false) formal_no_paren l)
    (then_reads _ (listed_read nothing_goes_on formal_read formal_once (λ place rest. refl) l (rw c.first refl) refl) (rw c.first (at_once refl))))

pub formals_start : {before after : List Placed} {all : List Formal} → DerivesFormals before after all → (test : Terminal → Bool) → starts test before ≡ test (terminal.Symbol Symbol.OpenParen)
formals_start (DerivesFormals.parenthesised o l c) test = rw o.first refl

-- Summary
item_read : ℕ → List Placed → Out Item
item_read m before = into (atomic_read before) (λ found one. into (rpl_read m one) (λ path left. Some (record { atomic = found; rpl = path }, left)))

not_atomic : {before : List Placed} → starts is_atomic before ≡ false → atomic_read before ≡ Some (false, before)
not_atomic e = rw e refl

item_once : (before after : List Placed) (tree : Item) → DerivesItem before after tree → goes_on_path after ≡ false → Comes (λ m. item_read m before) tree after
unfolding item_read
item_once before after tree (DerivesItem.item {path = path} DerivesAtomic.plain d) closed =
    then_reads _ (at_once (not_atomic (rpl_not is_atomic refl (λ n. refl) d))) (then_reads _ (rpl_once before after path d closed) (at_once refl))
item_once before after tree (DerivesItem.item {one = one} {path = path} (DerivesAtomic.atomic t) d) closed = rw t.first (then_reads _ (rpl_once one after path d closed) (at_once refl))

items_read : ℕ → List Placed → Out (List Item)
items_read m before = listed item_read m (tail before)

items_once : {keyword : Keyword} {before after : List Placed} {all : List Item} → DerivesItems keyword before after all → starts is_comma after ≡ false → goes_on_path after ≡ false →
    Comes (λ m. items_read m before) all after
unfolding items_read
items_once (DerivesItems.items t l) no_comma closed = rw t.first (listed_read goes_on_path item_read item_once (λ place rest. refl) l no_comma closed)

pub items_start : {keyword : Keyword} {before after : List Placed} {all : List Item} → DerivesItems keyword before after all → (test : Terminal → Bool) → starts test before ≡ test (terminal.Keyword keyword)
items_start (DerivesItems.items t l) test = rw t.first refl

-- no path goes on with such a terminal
pub path_ends : (after : List Placed) (t : Terminal) → ((test : Terminal → Bool) → starts test after ≡ test t) → (is_dot t || is_colon t) ≡ false → goes_on_path after ≡ false
path_ends after t begins h = rw (begins is_dot, begins is_colon) h

pub summary_read : ℕ → List Placed → Out (Option SummaryTree)
summary_read m before =
    cond (starts is_pure before) (Some (Some (record { reads = []; writes = [] }), tail before))
    (cond (starts is_reads before)
    (into (items_read m before) (λ read one. cond (starts is_writes one)
    (into (items_read m one) (λ written left. Some (Some (record { reads = read; writes = written }), left)))
    (Some (Some (record { reads = read; writes = [] }), one))))
    (cond (starts is_writes before) (into (items_read m before) (λ written left. Some (Some (record { reads = []; writes = written }), left)))
    (Some (None, before))))

-- behind it stands a block
pub summary_once : {before after : List Placed} {summary : Option SummaryTree} → DerivesSummary before after summary →
    ((test : Terminal → Bool) → starts test after ≡ test (terminal.Symbol Symbol.OpenBrace)) → Comes (λ m. summary_read m before) summary after
unfolding summary_read
summary_once DerivesSummary.no_summary block = off _ (block is_pure) (off _ (block is_reads) (off _ (block is_writes) (at_once refl)))
summary_once (DerivesSummary.pure t) block = rw t.first (at_once refl)
summary_once (DerivesSummary.reads r) block =
    off _ (items_start r is_pure) (on _ (items_start r is_reads) (then_reads _ (items_once r (block is_comma) (path_ends _ (terminal.Symbol Symbol.OpenBrace) block refl)) (off _ (block is_writes) (at_once refl))))
summary_once (DerivesSummary.reads_and_writes r w) block =
    off _ (items_start r is_pure) (on _ (items_start r is_reads) (then_reads _ (items_once r (items_start w is_comma) (path_ends _ (terminal.Keyword Keyword.Writes) (items_start w) refl))
    (on _ (items_start w is_writes) (then_reads _ (items_once w (block is_comma) (path_ends _ (terminal.Symbol Symbol.OpenBrace) block refl)) (at_once refl)))))
summary_once (DerivesSummary.writes w) block =
    off _ (items_start w is_pure) (off _ (items_start w is_reads) (on _ (items_start w is_writes) (then_reads _ (items_once w (block is_comma) (path_ends _ (terminal.Symbol Symbol.OpenBrace) block refl)) (at_once refl))))

-- [ "in" Rpl ], in front of a semicolon
pub in_read : ℕ → List Placed → Out (Option RplTree)
in_read m before = cond (starts is_in before) (into (rpl_read m (tail before)) (λ path left. Some (Some path, left))) (Some (None, before))

pub in_once : {before after rest : List Placed} {region : Option RplTree} {ends_at : Place} → DerivesIn before after region → TakesSymbol Symbol.Semicolon after rest ends_at →
    Comes (λ m. in_read m before) region after
unfolding in_read
in_once DerivesIn.nowhere c = rw c.first (at_once refl)
in_once {after = after} (DerivesIn.in_region {one = one} {path = path} t d) c = rw t.first (then_reads _ (rpl_once one after path d (rw c.first refl)) (at_once refl))

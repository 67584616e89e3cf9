-- Region paths, region parameters and types that are derived are read as they are expected.
use Rattle.std.proofs.Common.{◌≡◌, List, [], ◌∷◌, Bool, true, false, cond, Option, Some, refl}
use Rattle.syntax_tokens.specs.declared.token.Symbol.{Symbol}
use Rattle.syntax_tokens.specs.declared.terminal.Placed.{Placed}
use Rattle.syntax_tokens.specs.declared.terminal.Terminal.{Terminal}
use Rattle.syntax_tokens.specs.declared.terminal.Terminal.TheVariants as terminal
use Rattle.syntax_tree.specs.declared.region.BaseTree.{BaseTree}
use Rattle.syntax_tree.specs.declared.region.ConstrTree.{ConstrTree}
use Rattle.syntax_tree.specs.declared.region.ElemTree.{ElemTree}
use Rattle.syntax_tree.specs.declared.region.Named.{Named}
use Rattle.syntax_tree.specs.declared.region.Params.{Params}
use Rattle.syntax_tree.specs.declared.region.ParamTree.{ParamTree}
use Rattle.syntax_tree.specs.declared.region.RName.{RName}
use Rattle.syntax_tree.specs.declared.region.RplHead.{RplHead}
use Rattle.syntax_tree.specs.declared.region.RplTree.{RplTree}
use Rattle.syntax_tree.specs.declared.region.Suffix.{Suffix}
use Rattle.syntax_tree.specs.declared.region.TypeTree.{TypeTree}
use Rattle.lang_base.specs.declared.place.Place.{Place}
use Rattle.syntax_grammar.specs.Taking.{TakesSymbol, TakesName, Listed, last, more, Many, none, some}
use Rattle.syntax_grammar.specs.Paths.{DerivesRName, one_name, two_names, DerivesHead, DerivesWithin, DerivesElem, star, within, DerivesNext, next, DerivesRpl, path, DerivesArgs, no_args, args}
use Rattle.syntax_grammar.specs.Types.{DerivesBase, DerivesRegion, no_region, region, DerivesIndex, no_index, index, DerivesAfter, following, DerivesSuffix, suffix, DerivesType, type_of}
use Rattle.syntax_grammar.specs.Classes.{DerivesAtomic, DerivesKind, DerivesParam, DerivesKindOr, DerivesParamsAfter, DerivesDeclared, DerivesConstr, DerivesGiven, DerivesParams}
use Rattle.syntax_grammar.proofs.once.OnceReader.{starts, or_left, or_right, not_next, many_first}
use Rattle.syntax_grammar.proofs.once.OncePaths.{name_starts, goes_on_path, less_or_not, hash_or_not}
use Rattle.syntax_grammar.specs.Words.{is_name, is_dot, is_colon, is_star, is_open_bracket, is_less, is_hash, is_bar, is_comma, is_atomic, is_root}
use Rattle.syntax_grammar.specs.Expecting.{Part, Expected, one, part, next_of, choose, Passes, next_is}
use Rattle.syntax_grammar.proofs.expected.Expected.{nothing, rule, on_next, took, link, two, is_next}
use Rattle.syntax_grammar.specs.Expecting.{Part as p}

-- a part that a test turns down is read as another one, mostly as nothing
pub unless : {n : Part} (this : List Expected) {that : List Expected} (test : Terminal → Bool) {before after : List Placed} →
    choose n (next_of before) ≡ Some (cond (next_is test (next_of before)) this that) → starts test before ≡ false → Passes that before after →
    Passes (part n ∷ []) before after
unless {n} this test {before} e turned q = rule (rw (is_next test before turned) at e) q

pub where_next : {n : Part} (that : List Expected) {this : List Expected} (test : Terminal → Bool) {before after : List Placed} →
    choose n (next_of before) ≡ Some (cond (next_is test (next_of before)) this that) → starts test before ≡ true → Passes this before after →
    Passes (part n ∷ []) before after
where_next {n} that test {before} e taken q = rule (rw (is_next test before taken) at e) q

-- RName = Name [ "." Name ]
pub name_passes : {before after : List Placed} {name : RName} → DerivesRName before after name → starts is_dot after ≡ false →
    Passes (part p.region_name ∷ []) before after
name_passes (one_name f) closed = rule refl (link (took f refl) (unless _ is_dot refl closed nothing))
name_passes (two_names f d s) closed = rule refl (link (took f refl) (where_next _ is_dot refl (rw d.first refl) (link (took d refl) (took s refl))))

pub head_passes : {before after : List Placed} {tree : RplHead} → DerivesHead before after tree → starts is_dot after ≡ false →
    Passes (part p.head ∷ []) before after
head_passes (DerivesHead.root t) closed = where_next _ is_root refl (rw t.first refl) (took t refl)
head_passes (DerivesHead.name d) closed = unless _ is_root refl (name_starts d is_root) (name_passes d closed)

within_passes : {before after : List Placed} {tree : ElemTree} → DerivesWithin before after tree → Passes (part p.within ∷ []) before after
within_passes (DerivesWithin.number t) = on_next t refl (took t refl)
within_passes (DerivesWithin.index t) = on_next t refl (took t refl)
within_passes (DerivesWithin.any t) = on_next t refl (took t refl)

elem_passes : {before after : List Placed} {tree : ElemTree} → DerivesElem before after tree → starts is_dot after ≡ false →
    Passes (part p.elem ∷ []) before after
elem_passes {before} (DerivesElem.name d) closed =
    rule {xs =
    part p.region_name ∷ []} (rw (is_next is_star before (name_starts d is_star), is_next is_open_bracket before (name_starts d is_open_bracket)) refl)
    (name_passes d closed)
elem_passes (star t) closed = on_next t refl (took t refl)
elem_passes (within o d c) closed = on_next o refl (rule refl (link (took o refl) (link (within_passes d) (took c refl))))

next_no_dot : (before after : List Placed) (tree : ElemTree) → DerivesNext before after tree → starts is_dot before ≡ false
next_no_dot before after tree (next t d) = rw t.first refl

elems_pass : {before after : List Placed} {trees : List ElemTree} → Many DerivesNext before after trees → goes_on_path after ≡ false →
    Passes (part p.elems ∷ []) before after
elems_pass {after = after} none closed = unless _ is_colon refl (or_right (starts is_dot after) (starts is_colon after) closed) nothing
elems_pass {after = after} (some (next t d) ds) closed =
    where_next _ is_colon refl (rw t.first refl) (link (took t refl)
    (link (elem_passes d (many_first (λ here. starts is_dot here ≡ false) next_no_dot ds (or_left (starts is_dot after) (starts is_colon after) closed))) (elems_pass ds closed)))

-- Rpl = ( "Root" | RName ) { ":" Elem }
pub path_passes : (before after : List Placed) (tree : RplTree) → DerivesRpl before after tree → goes_on_path after ≡ false →
    Passes (part p.path ∷ []) before after
path_passes before after tree (path s h es) closed =
    rule refl (link (head_passes h (many_first (λ here. starts is_dot here ≡ false) next_no_dot es (or_left (starts is_dot after)
    (starts is_colon after) closed))) (elems_pass es closed))

-- X { "," X }, where `further` reads what stands after the first
pub listed_passes : {A : Type 0} {Derives : List Placed → List Placed → A → Type 0} (goes_on : List Placed → Bool) (first further : Part) →
    ((next : _) → choose further next ≡ Some (cond (next_is is_comma next) (one is_comma ∷ part first ∷ part further ∷ []) [])) →
    ((before after : List Placed) (item : A) → Derives before after item → goes_on after ≡ false → Passes (part first ∷ []) before after) →
    ((place : Place) (after : List Placed) → goes_on (record { terminal = terminal.Symbol Symbol.Comma; place = place } ∷ after) ≡ false) →
    {before after : List Placed} {items : List A} → Listed Derives before after items → starts is_comma after ≡ false → goes_on after ≡ false →
    Passes (part first ∷ part further ∷ []) before after
listed_passes goes_on first further chosen each comma {before} {after} (last {item = item} d) ends closed =
    link (each before after item d closed) (unless _ is_comma (chosen (next_of after)) ends nothing)
listed_passes goes_on first further chosen each comma {before} {after} (more {one = here} {two = two} {item = item} {comma = at} d t ds) ends closed =
    link (each before here item d (rw t.first (comma at two)))
    (where_next _ is_comma (chosen (next_of here)) (rw t.first refl) (link (took t refl) (listed_passes goes_on first further chosen each comma ds ends closed)))

-- [ Args ]
pub args_pass : {before after : List Placed} {paths : List RplTree} → DerivesArgs before after paths → starts is_less after ≡ false →
    Passes (part p.args_if ∷ []) before after
args_pass no_args closed = unless _ is_less refl closed nothing
args_pass (args o ps c) closed =
    where_next _ is_less refl (rw o.first refl) (rule refl (link (took o refl) (two (listed_passes goes_on_path p.path p.more_paths (λ n. refl) path_passes
    (λ place rest. refl) ps (rw c.first refl) (rw c.first refl)) (took c refl))))

-- Kind = [ "atomic" ] "region"
pub kind_passes : {before after : List Placed} {found : Bool} → DerivesKind before after found → Passes (part p.kind ∷ []) before after
kind_passes (DerivesKind.kind DerivesAtomic.plain t) = rule refl (link (unless _ is_atomic refl (rw t.first refl) nothing) (took t refl))
kind_passes (DerivesKind.kind (DerivesAtomic.atomic a) t) = rule refl (link (where_next _ is_atomic refl (rw a.first refl) (took a refl)) (took t refl))

kind_if_passes : {earlier found : Bool} {before after three : List Placed} {tree : ParamTree} → DerivesKindOr earlier before after found →
    DerivesParam found after three tree → Passes (part p.kind_if ∷ []) before after
kind_if_passes DerivesKindOr.same (DerivesParam.param t) = on_next t refl nothing
kind_if_passes (DerivesKindOr.other (DerivesKind.kind DerivesAtomic.plain t)) d = on_next t refl (kind_passes (DerivesKind.kind DerivesAtomic.plain t))
kind_if_passes (DerivesKindOr.other (DerivesKind.kind (DerivesAtomic.atomic a) t)) d =
    on_next a refl (kind_passes (DerivesKind.kind (DerivesAtomic.atomic a) t))

param_passes : {found : Bool} {before after : List Placed} {tree : ParamTree} → DerivesParam found before after tree → Passes (one is_name ∷ []) before after
param_passes (DerivesParam.param t) = took t refl

more_declared_pass : {earlier : Bool} {before after : List Placed} {trees : List ParamTree} → DerivesParamsAfter earlier before after trees →
    starts is_comma after ≡ false → Passes (part p.more_declared ∷ []) before after
more_declared_pass DerivesParamsAfter.no_more closed = unless _ is_comma refl closed nothing
more_declared_pass (DerivesParamsAfter.following t k d ds) closed =
    where_next _ is_comma refl (rw t.first refl) (link (took t refl) (link (kind_if_passes k d) (link (param_passes d) (more_declared_pass ds closed))))

constraint_passes : (before after : List Placed) (tree : ConstrTree) → DerivesConstr before after tree → goes_on_path after ≡ false →
    Passes (part p.constraint ∷ []) before after
constraint_passes before after tree (DerivesConstr.constraint {one = here} {two = there} {left = first} {right = second} l h r) closed =
    rule refl (link (path_passes before here first l (rw h.first refl)) (link (took h refl) (path_passes there after second r closed)))

given_passes : {before after rest : List Placed} {all : List ConstrTree} {close_at : Place} → DerivesGiven before after all →
    TakesSymbol Symbol.Greater after rest close_at → Passes (part p.given ∷ []) before after
given_passes DerivesGiven.nothing_given c = unless _ is_bar refl (rw c.first refl) nothing
given_passes (DerivesGiven.given t l) c =
    where_next _ is_bar refl (rw t.first refl) (link (took t refl) (listed_passes goes_on_path p.constraint p.more_constraints (λ n. refl) constraint_passes
    (λ place rest. refl) l (rw c.first refl) (rw c.first refl)))

given_no_comma : {before after rest : List Placed} {all : List ConstrTree} {close_at : Place} → DerivesGiven before after all →
    TakesSymbol Symbol.Greater after rest close_at → starts is_comma before ≡ false
given_no_comma DerivesGiven.nothing_given c = rw c.first refl
given_no_comma (DerivesGiven.given t l) c = rw t.first refl

-- [ Params ]
pub params_pass : {before after : List Placed} {params : Params} → DerivesParams before after params → starts is_less after ≡ false →
    Passes (part p.params_if ∷ []) before after
params_pass DerivesParams.no_params closed = unless _ is_less refl closed nothing
params_pass (DerivesParams.params o (DerivesDeclared.declared k d ds) g c) closed =
    where_next _ is_less refl (rw o.first refl) (rule refl
    (link (took o refl) (link (kind_passes k) (link (param_passes d) (link (more_declared_pass ds (given_no_comma g c)) (link (given_passes g c) (took c refl)))))))

-- Base = "int" | "boolean" | Name [ Args ]
base_passes : {before after : List Placed} {tree : BaseTree} → DerivesBase before after tree → starts is_less after ≡ false →
    Passes (part p.base ∷ []) before after
base_passes (DerivesBase.int t) closed = on_next t refl (took t refl)
base_passes (DerivesBase.boolean t) closed = on_next t refl (took t refl)
base_passes (DerivesBase.class t d) closed = on_next t refl (link (took t refl) (args_pass d closed))

region_passes : {before after : List Placed} {tree : Option RplTree} → DerivesRegion before after tree → Passes (part p.region_if ∷ []) before after
region_passes {before} (no_region n) = unless _ is_less refl (not_next before is_less n less_or_not) nothing
region_passes (region {one = here} {two = there} {path = found} o d c) =
    where_next _ is_less refl (rw o.first refl) (link (took o refl) (link (path_passes here there found d (rw c.first refl)) (took c refl)))

index_passes : {before after : List Placed} {tree : Option Named} → DerivesIndex before after tree → Passes (part p.index_if ∷ []) before after
index_passes {before} (no_index n) = unless _ is_hash refl (not_next before is_hash n hash_or_not) nothing
index_passes (index h t) = where_next _ is_hash refl (rw h.first refl) (link (took h refl) (took t refl))

-- [ "<" Rpl ">" ] [ "#" Name ]
pub after_passes : {before after : List Placed} {tree : Suffix} → DerivesAfter before after tree → Passes (part p.brackets_after ∷ []) before after
after_passes (following r i) = rule refl (link (region_passes r) (index_passes i))

pub suffixes_pass : {before after : List Placed} {trees : List Suffix} → Many DerivesSuffix before after trees → starts is_open_bracket after ≡ false →
    Passes (part p.suffixes ∷ []) before after
suffixes_pass none closed = unless _ is_open_bracket refl closed nothing
suffixes_pass (some (suffix o c d) ds) closed =
    where_next _ is_open_bracket refl (rw o.first refl) (link (took o refl) (link (took c refl) (link (after_passes d) (suffixes_pass ds closed))))

pub suffix_no_less : (before after : List Placed) (tree : Suffix) → DerivesSuffix before after tree → starts is_less before ≡ false
suffix_no_less before after tree (suffix o c d) = rw o.first refl

-- in front of a name
pub type_passes : {before after rest : List Placed} {tree : TypeTree} {named : Named} → DerivesType before after tree → TakesName after rest named →
    Passes (part p.type ∷ []) before after
type_passes (type_of s b ss) n =
    rule refl (link (base_passes b (many_first (λ here. starts is_less here ≡ false) suffix_no_less ss (rw n.first refl))) (suffixes_pass ss (rw n.first refl)))

-- what stands after the first name of a type, in front of another name
pub class_after : {before after rest : List Placed} {paths : List RplTree} {trees : List Suffix} {between : List Placed} {named : Named} →
    DerivesArgs before between paths → Many DerivesSuffix between after trees → TakesName after rest named →
    Passes (part p.args_if ∷ part p.suffixes ∷ []) before after
class_after d ss n =
    link (args_pass d (many_first (λ here. starts is_less here ≡ false) suffix_no_less ss (rw n.first refl))) (suffixes_pass ss (rw n.first refl))

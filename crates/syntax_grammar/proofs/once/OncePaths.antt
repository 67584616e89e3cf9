-- Region paths and types are read in one way.
use Rattle.std.proofs.Common.{◌≡◌, ℕ, List, [], ◌∷◌, ◌⊎◌, inl, inr, Bool, true, false, cond, ◌&&◌, ◌||◌, Option, Some, None, refl}
use Rattle.lang_base.specs.declared.place.Place.{Place}
use Rattle.syntax_tokens.specs.declared.token.Symbol.{Symbol}
use Rattle.syntax_tokens.specs.declared.token.Keyword.{Keyword}
use Rattle.syntax_tokens.specs.declared.terminal.Placed.{Placed}
use Rattle.syntax_tokens.specs.declared.terminal.Terminal.{Terminal}
use Rattle.syntax_tokens.specs.declared.terminal.Terminal.TheVariants as terminal
use Rattle.syntax_tree.specs.declared.region.Named.{Named}
use Rattle.syntax_tree.specs.declared.region.RName.{RName}
use Rattle.syntax_tree.specs.declared.region.RplHead.{RplHead}
use Rattle.syntax_tree.specs.declared.region.RplHead.TheVariants as head
use Rattle.syntax_tree.specs.declared.region.ElemTree.{ElemTree}
use Rattle.syntax_tree.specs.declared.region.ElemTree.TheVariants as elem
use Rattle.syntax_tree.specs.declared.region.RplTree.{RplTree}
use Rattle.syntax_tree.specs.declared.region.BaseTree.{BaseTree}
use Rattle.syntax_tree.specs.declared.region.BaseTree.TheVariants as base
use Rattle.syntax_tree.specs.declared.region.Suffix.{Suffix}
use Rattle.syntax_tree.specs.declared.region.TypeTree.{TypeTree}
use Rattle.syntax_grammar.specs.Taking.{Many}
use Rattle.syntax_grammar.specs.Paths.{DerivesRName, one_name, two_names, DerivesHead, DerivesWithin, DerivesElem, star, within, DerivesNext, next, DerivesRpl, path, DerivesArgs, no_args, args}
use Rattle.syntax_grammar.specs.Types.{DerivesBase, DerivesRegion, no_region, region, DerivesIndex, no_index, index, DerivesAfter, following, DerivesSuffix, suffix, DerivesType, type_of}
use Rattle.syntax_grammar.proofs.once.OnceReader.{or_left, or_right, not_next, Out, into, Comes, at_once, then_reads, off, starts, tail, place_at, stands, named, many, many_read, many_first, listed, listed_read}

-- the terminals that decide
abbrev pub is_dot : Terminal → Bool
is_dot (terminal.Symbol Symbol.Dot) = true
is_dot _ = false

abbrev pub is_colon : Terminal → Bool
is_colon (terminal.Symbol Symbol.Colon) = true
is_colon _ = false

abbrev pub is_star : Terminal → Bool
is_star (terminal.Symbol Symbol.Star) = true
is_star _ = false

abbrev pub is_open_bracket : Terminal → Bool
is_open_bracket (terminal.Symbol Symbol.OpenBracket) = true
is_open_bracket _ = false

abbrev pub is_less : Terminal → Bool
is_less (terminal.Symbol Symbol.Less) = true
is_less _ = false

abbrev pub is_root : Terminal → Bool
is_root (terminal.Keyword Keyword.Root) = true
is_root _ = false

abbrev pub is_close_bracket : Terminal → Bool
is_close_bracket (terminal.Symbol Symbol.CloseBracket) = true
is_close_bracket _ = false

abbrev pub is_hash : Terminal → Bool
is_hash (terminal.Symbol Symbol.Hash) = true
is_hash _ = false

abbrev pub is_int : Terminal → Bool
is_int (terminal.Keyword Keyword.Int) = true
is_int _ = false

abbrev pub is_boolean : Terminal → Bool
is_boolean (terminal.Keyword Keyword.Boolean) = true
is_boolean _ = false

-- RName = Name [ "." Name ]
abbrev pub name_read : List Placed → Out RName
name_read before =
    into (named before) (λ first one. cond (starts is_dot one)
    (into (named (tail one)) (λ second left. Some (record { first = first; second = Some second }, left)))
    (Some (record { first = first; second = None }, one)))

pub name_once : {before after : List Placed} {name : RName} → DerivesRName before after name → starts is_dot after ≡ false → name_read before ≡ Some (name, after)
name_once (one_name f) closed = rw f.first (rw closed refl)
name_once (two_names f d s) closed = rw (f.first, d.first, s.first) refl

pub name_starts : {before after : List Placed} {name : RName} → DerivesRName before after name → (test : Terminal → Bool) → starts test before ≡ test (terminal.Name name.first.name)
name_starts (one_name f) test = rw f.first refl
name_starts (two_names f d s) test = rw f.first refl

-- "Root" | RName
abbrev pub head_read : List Placed → Out RplHead
head_read before = cond (starts is_root before) (Some (head.Root, tail before)) (into (name_read before) (λ name left. Some (head.Name name, left)))

pub head_once : {before after : List Placed} {tree : RplHead} → DerivesHead before after tree → starts is_dot after ≡ false → head_read before ≡ Some (tree, after)
head_once (DerivesHead.root t) closed = rw t.first refl
head_once (DerivesHead.name d) closed = rw (name_starts d is_root, name_once d closed) refl

-- Elem = RName | "*" | "[" ( Int | Name | "?" ) "]"
abbrev pub within_at : Terminal → Place → List Placed → Out ElemTree
within_at (terminal.Int n) place after = Some (elem.Lit n, after)
within_at (terminal.Name n) place after = Some (elem.Index (record { name = n; place = place }), after)
within_at _ place after = Some (elem.Any, after)

abbrev pub within_read : List Placed → Out ElemTree
within_read [] = None
within_read (here ∷ after) = within_at here.terminal here.place after

pub within_once : {before after : List Placed} {tree : ElemTree} → DerivesWithin before after tree → within_read before ≡ Some (tree, after)
within_once (DerivesWithin.number t) = rw t.first refl
within_once (DerivesWithin.index t) = rw t.first refl
within_once (DerivesWithin.any t) = rw t.first refl

abbrev pub elem_read : List Placed → Out ElemTree
elem_read before =
    cond (starts is_star before) (Some (elem.Star, tail before))
    (cond (starts is_open_bracket before) (into (within_read (tail before)) (λ tree left. Some (tree, tail left)))
    (into (name_read before) (λ name left. Some (elem.Name name, left))))

pub elem_once : {before after : List Placed} {tree : ElemTree} → DerivesElem before after tree → starts is_dot after ≡ false → elem_read before ≡ Some (tree, after)
elem_once (DerivesElem.name d) closed = rw (name_starts d is_star, name_starts d is_open_bracket, name_once d closed) refl
elem_once (star t) closed = rw t.first refl
elem_once (within o d c) closed = rw o.first (rw (within_once d) (rw c.first refl))

-- what may go on after a path
abbrev pub goes_on_path : List Placed → Bool
goes_on_path after = starts is_dot after || starts is_colon after

pub next_once : {before after : List Placed} {tree : ElemTree} → DerivesNext before after tree → starts is_dot after ≡ false → elem_read (tail before) ≡ Some (tree, after)
next_once (next t d) closed = rw t.first (elem_once d closed)

next_starts : (before after : List Placed) (tree : ElemTree) → DerivesNext before after tree → (starts is_colon before ≡ true) × (starts is_dot before ≡ false)
next_starts before after tree (next t d) = rw t.first (refl, refl)

-- Rpl = ( "Root" | RName ) { ":" Elem }
abbrev pub next_elem : ℕ → List Placed → Out ElemTree
next_elem m before = elem_read (tail before)

pub rpl_read : ℕ → List Placed → Out RplTree
rpl_read m before =
    into (head_read before) (λ start one. into (many (starts is_colon) next_elem m one) (λ elems left. Some (record { place = place_at before; head = start; elems = elems }, left)))

head_here : {before after : List Placed} {tree : RplHead} → DerivesHead before after tree → before ≡ [] → ⊥
head_here (DerivesHead.root t) e = let f = t.first in cc
head_here (DerivesHead.name (one_name t)) e = let f = t.first in cc
head_here (DerivesHead.name (two_names t d s)) e = let f = t.first in cc

pub rpl_once : (before after : List Placed) (tree : RplTree) → DerivesRpl before after tree → goes_on_path after ≡ false → Comes (λ m. rpl_read m before) tree after
unfolding rpl_read
rpl_once before after tree (path {one = one} {elems = elems} s h es) closed =
    let closed_here = many_first (λ here. starts is_dot here ≡ false) (λ b a t d. (next_starts b a t d).1) es (or_left (starts is_dot after) (starts is_colon after) closed) in
    then_reads _ (at_once (head_once h closed_here))
    (rw (stands before (head_here h) s)
    (then_reads _ (many_read (starts is_dot) (starts is_colon) next_elem (λ b a t d c. at_once (next_once d c)) next_starts es (or_right (starts is_dot after) (starts is_colon after) closed) (or_left (starts is_dot after) (starts is_colon after) closed))
    (at_once refl)))

-- [ "<" Rpl { "," Rpl } ">" ]
pub args_read : ℕ → List Placed → Out (List RplTree)
args_read m before = cond (starts is_less before) (into (listed rpl_read m (tail before)) (λ paths left. Some (paths, tail left))) (Some ([], before))

pub args_once : {before after : List Placed} {paths : List RplTree} → DerivesArgs before after paths → starts is_less after ≡ false → Comes (λ m. args_read m before) paths after
unfolding args_read
args_once no_args closed = off _ closed (at_once refl)
args_once (args o ps c) closed =
    rw o.first (then_reads _ (listed_read goes_on_path rpl_read rpl_once (λ place rest. refl) ps (rw c.first refl) (rw c.first refl)) (rw c.first (at_once refl)))

-- Base = "int" | "boolean" | Name [ Args ]
pub base_read : ℕ → List Placed → Out BaseTree
base_read m before =
    cond (starts is_int before) (Some (base.Int, tail before))
    (cond (starts is_boolean before) (Some (base.Bool, tail before))
    (into (named before) (λ name one. into (args_read m one) (λ paths left. Some (base.Class name paths, left)))))

pub base_once : {before after : List Placed} {tree : BaseTree} → DerivesBase before after tree → starts is_less after ≡ false → Comes (λ m. base_read m before) tree after
unfolding base_read
base_once (DerivesBase.int t) closed = rw t.first (at_once refl)
base_once (DerivesBase.boolean t) closed = rw t.first (at_once refl)
base_once (DerivesBase.class t d) closed = rw t.first (then_reads _ (args_once d closed) (at_once refl))

pub base_here : {before after : List Placed} {tree : BaseTree} → DerivesBase before after tree → before ≡ [] → ⊥
base_here (DerivesBase.int t) e = let f = t.first in cc
base_here (DerivesBase.boolean t) e = let f = t.first in cc
base_here (DerivesBase.class t d) e = let f = t.first in cc

-- [ "<" Rpl ">" ] [ "#" Name ]
abbrev pub region_read : ℕ → List Placed → Out (Option RplTree)
region_read m before = cond (starts is_less before) (into (rpl_read m (tail before)) (λ path left. Some (Some path, tail left))) (Some (None, before))

pub less_or_not : (t : Terminal) → (t ≡ terminal.Symbol Symbol.Less) ⊎ (is_less t ≡ false)
less_or_not (terminal.Symbol Symbol.Less) = inl refl
less_or_not _ = inr refl

pub hash_or_not : (t : Terminal) → (t ≡ terminal.Symbol Symbol.Hash) ⊎ (is_hash t ≡ false)
hash_or_not (terminal.Symbol Symbol.Hash) = inl refl
hash_or_not _ = inr refl

region_once : {before after : List Placed} {tree : Option RplTree} → DerivesRegion before after tree → Comes (λ m. region_read m before) tree after
region_once {before} (no_region n) = off _ (not_next before is_less n less_or_not) (at_once refl)
region_once (region {one = one} {two = two} {path = p} o d c) = rw o.first (then_reads _ (rpl_once one two p d (rw c.first refl)) (rw c.first (at_once refl)))

abbrev pub index_read : List Placed → Out (Option Named)
index_read before = cond (starts is_hash before) (into (named (tail before)) (λ name left. Some (Some name, left))) (Some (None, before))

index_once : {before after : List Placed} {tree : Option Named} → DerivesIndex before after tree → index_read before ≡ Some (tree, after)
index_once {before} (no_index n) = rw (not_next before is_hash n hash_or_not) refl
index_once (index h t) = rw (h.first, t.first) refl

pub after_read : ℕ → List Placed → Out Suffix
after_read m before = into (region_read m before) (λ region one. into (index_read one) (λ index left. Some (record { rpl = region; index = index }, left)))

pub after_once : {before after : List Placed} {tree : Suffix} → DerivesAfter before after tree → Comes (λ m. after_read m before) tree after
unfolding after_read
after_once (following r i) = then_reads _ (region_once r) (then_reads _ (at_once (index_once i)) (at_once refl))

-- "[" "]" [ "<" Rpl ">" ] [ "#" Name ]
abbrev pub begins_suffix : List Placed → Bool
begins_suffix before = starts is_open_bracket before && starts is_close_bracket (tail before)

abbrev pub suffix_read : ℕ → List Placed → Out Suffix
suffix_read m before = after_read m (tail (tail before))

abbrev pub nothing_goes_on : List Placed → Bool
nothing_goes_on after = false

pub suffix_once : (before after : List Placed) (tree : Suffix) → DerivesSuffix before after tree → nothing_goes_on after ≡ false → Comes (λ m. suffix_read m before) tree after
suffix_once before after tree (suffix o c d) closed = rw (o.first, c.first) (after_once d)

pub suffix_starts : (before after : List Placed) (tree : Suffix) → DerivesSuffix before after tree → (begins_suffix before ≡ true) × (nothing_goes_on before ≡ false)
suffix_starts before after tree (suffix o c d) = rw (o.first, c.first) (refl, refl)

suffix_no_less : (before after : List Placed) (tree : Suffix) → DerivesSuffix before after tree → starts is_less before ≡ false
suffix_no_less before after tree (suffix o c d) = rw o.first refl

pub suffixes_once : {before after : List Placed} {trees : List Suffix} → Many DerivesSuffix before after trees → begins_suffix after ≡ false →
    Comes (λ m. many begins_suffix suffix_read m before) trees after
suffixes_once ds closed = many_read nothing_goes_on begins_suffix suffix_read suffix_once suffix_starts ds closed refl

-- after a base stand suffixes, or what doesn't go on
pub no_less_after : {before after : List Placed} {trees : List Suffix} → Many DerivesSuffix before after trees → starts is_less after ≡ false → starts is_less before ≡ false
no_less_after ds closed = many_first (λ here. starts is_less here ≡ false) suffix_no_less ds closed

-- Type = Base { "[" "]" [ "<" Rpl ">" ] [ "#" Name ] }
pub type_read : ℕ → List Placed → Out TypeTree
type_read m before =
    into (base_read m before) (λ start one. into (many begins_suffix suffix_read m one) (λ suffixes left. Some (record { place = place_at before; base = start; suffixes = suffixes }, left)))

pub type_once : {before after : List Placed} {tree : TypeTree} → DerivesType before after tree → starts is_less after ≡ false → begins_suffix after ≡ false → Comes (λ m. type_read m before) tree after
unfolding type_read
type_once {before} (type_of s b ss) less closed =
    then_reads _ (base_once b (no_less_after ss less)) (rw (stands before (base_here b) s) (then_reads _ (suffixes_once ss closed) (at_once refl)))

-- Region paths with the frame put in.
use Rattle.std.specs.Prelude.{Option, None, Some, ℕ, zero, suc, Bool, ◌==◌, cond, nat_lt, List, [], ◌∷◌, ◌++◌, map, length, Some, None, slice_index_or}
use Rattle.std.specs.List.{list_any}
use Rattle.lang_base.specs.declared.effect.Effect.{Effect as PathEffect}
use Rattle.lang_base.specs.declared.elems.Elem.{Elem}
use Rattle.lang_base.specs.declared.elems.Elem.TheVariants as elem
use Rattle.lang_base.specs.declared.elems.Index.{Index}
use Rattle.lang_base.specs.declared.elems.Index.TheVariants as index
use Rattle.lang_base.specs.declared.region.Head.{Head}
use Rattle.lang_base.specs.declared.region.Head.TheVariants as head
use Rattle.lang_base.specs.declared.region.Rpl.{Rpl}
use Rattle.lang_typed.specs.Plain.{PlainParent}
use Rattle.lang_meaning.specs.Values.{Value, Part, Region_name, Number, Local, Own_index, Any_index, Any_parts, Region, Naming}
use Rattle.lang_meaning.specs.Actions.{Frame, Effect}
use Rattle.lang_meaning.specs.Counts.{number, slot_value}

-- what a region path is looked up in: the locals by their slots, what region parameters stand for, and made local regions
pub record Around (N M : Type 0) : Type 0 where
  pub values : List (Value N)
  pub regions : List (Region M)
  pub locals : List M

abbrev pub index_part : {N M : Type 0} → List (Value N) → Index → Part M
index_part vs (index.Literal k) = Number k
index_part vs (index.Variable x) = Number (number (slot_value vs x))
-- the renamed copy of a variable stands in no program
index_part vs (index.Renamed x) = Number (number (slot_value vs x))
index_part vs (index.Own d) = Own_index

abbrev pub part_of : {N M : Type 0} → Naming N M → Around N M → Elem → Part M
part_of names f (elem.Name n) = Region_name n
part_of names f (elem.At i) = index_part f.values i
part_of names f elem.Any = Any_index
part_of names f elem.Star = Any_parts
part_of names f (elem.Local r n) = Local (slice_index_or f.locals r (names.unmade r))

-- the region of a parameter: `Root` where it has none
abbrev pub head_region : {M : Type 0} → List (Region M) → Head → Region M
head_region regions head.Root = []
head_region regions (head.Param p) = slice_index_or regions p []

abbrev pub concrete : {N M : Type 0} → Naming N M → Around N M → Rpl → Region M
concrete names f a = head_region f.regions a.head ++ map (part_of names f) a.elems

abbrev pub concrete_effect : {N M : Type 0} → Naming N M → Around N M → PathEffect → Effect M
concrete_effect names f e = record { access = e.access; region = concrete names f e.rpl }

-- a region argument, and the region of a created array, has at most so many elements
abbrev pub most_parts : ℕ
most_parts = 500

abbrev pub is_long : {M : Type 0} → Region M → Bool
is_long r = nat_lt most_parts (length r)

abbrev pub some_long : {M : Type 0} → List (Region M) → Bool
some_long rs = list_any is_long rs

-- what stands in a frame
abbrev pub around : {N M : Type 0} → Frame N M → Around N M
around f = record { values = f.values; regions = f.regions; locals = f.locals }

-- local regions that are declared and not made yet
abbrev pub unmade_from : {N M : Type 0} → Naming N M → ℕ → ℕ → List M
unmade_from names r zero = []
unmade_from names r (suc n) = names.unmade r ∷ unmade_from names (suc r) n

-- the regions of a class as those of a class above it, at most so many steps up: what each class hands to its superclass
-- speaks of parameters and names alone
abbrev pub handed_up : {N M : Type 0} → Naming N M → List (Region M) → List Rpl → List (Region M)
handed_up names regions args = map (λ a. concrete names (record { values = []; regions = regions; locals = [] }) a) args

abbrev pub regions_above : {N M : Type 0} → Naming N M → (ℕ → Option PlainParent) → ℕ → ℕ → List (Region M) → ℕ → List (Region M)
regions_above names parent zero c regions d = regions
regions_above names parent (suc k) c regions d =
    cond (c == d) regions (elim (parent c) [ None ↦ regions | Some p ↦ regions_above names parent k p.class (handed_up names regions p.args) d ])

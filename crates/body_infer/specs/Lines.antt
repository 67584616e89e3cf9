-- The lines that tell the summaries of a program.
use Rattle.std.specs.Prelude.{ℕ, Bool, true, false, List, [], ◌∷◌, ◌++◌, map, codes, slice_get, slice_index_or}
use Rattle.std.specs.Fmt.{signed_decimal}
use Rattle.std.specs.List.{filter, flat_map}
use Rattle.std.specs.Option.{option_map_or}
use Rattle.lang_base.specs.declared.effect.Access.{Access}
use Rattle.lang_base.specs.declared.effect.Access.TheVariants.{Read, Write}
use Rattle.lang_base.specs.declared.effect.Effect.{Effect}
use Rattle.lang_base.specs.declared.elems.Elem.{Elem}
use Rattle.lang_base.specs.declared.elems.Elem.TheVariants.{Name, At, Star, Local}
use Rattle.lang_base.specs.declared.elems.Index.TheVariants.{Literal}
use Rattle.lang_base.specs.declared.region.Head.{Head}
use Rattle.lang_base.specs.declared.region.Head.TheVariants.{Root, Param}
use Rattle.lang_base.specs.declared.region.Rpl.{Rpl}
use Rattle.lang_base.specs.Effects.{gathered, same_access}
use Rattle.lang_typed.specs.declared.program.RegionParam.{RegionParam}
use Rattle.lang_typed.specs.Names.{Named, ProgramNames}
use Rattle.lang_typed.specs.Plain.{PlainMember, PlainProgram}

-- the name of a class; none where there is no class
abbrev pub class_name : ProgramNames → ℕ → List ℕ
class_name names class = option_map_or (λ k. k.name) (slice_get names.classes class) []

-- what a class declares, by the class and its own name
abbrev pub within_class : ProgramNames → ℕ → List ℕ → List ℕ
within_class names class name = class_name names class ++ codes "." ++ name

-- a region name; none where there is no such region
abbrev pub region_text : ProgramNames → ℕ → List ℕ
region_text names number = option_map_or (λ r. within_class names r.class r.name) (slice_get names.regions number) []

abbrev pub elem_text : ProgramNames → Elem → List ℕ
elem_text names (Name number) = region_text names number
elem_text names (At (Literal value)) = codes "[" ++ signed_decimal value ++ codes "]"
elem_text names Star = codes "*"
elem_text names (Local task count) = codes "local"
elem_text names other = codes "[?]"

-- the region parameters of a class
abbrev pub class_params : ProgramNames → ℕ → List (List ℕ)
class_params names class = option_map_or (λ k. k.params) (slice_get names.classes class) []

-- those that a member of a class has: those of its class, and then its own
abbrev pub params_of : ProgramNames → ℕ → Named → List (List ℕ)
params_of names class member = class_params names class ++ member.params

-- those of a class, and then others
abbrev pub all_params : List RegionParam → List RegionParam → List (List ℕ)
all_params of_class own = map (λ param. param.text) of_class ++ map (λ param. param.text) own

abbrev pub head_text : List (List ℕ) → Head → List ℕ
head_text params Root = codes "Root"
head_text params (Param number) = slice_index_or params number (codes "?")

-- a path, where the region parameters have these names
abbrev pub path_text : ProgramNames → List (List ℕ) → Rpl → List ℕ
path_text names params path = head_text params path.head ++ flat_map (λ elem. codes ":" ++ elem_text names elem) path.elems

abbrev pub mark_text : Bool → List ℕ
mark_text true = codes "atomic "
mark_text false = []

abbrev pub item_text : ProgramNames → List (List ℕ) → Effect → List ℕ
item_text names params item = mark_text item.atomic ++ path_text names params item.rpl

-- texts after a word, with a comma and a space between them; nothing where there is none
abbrev pub listed : List ℕ → List (List ℕ) → List ℕ
listed word [] = []
listed word (text ∷ texts) = word ++ text ++ flat_map (λ more. codes ", " ++ more) texts

-- the items of one access, in their order, each once
abbrev pub items_of : Access → List Effect → List Effect
items_of access items = gathered [] (filter (λ item. same_access item.access access) items)

-- a summary: what is read, and then what is written
abbrev pub summary_text : ProgramNames → List (List ℕ) → List Effect → List ℕ
summary_text names params [] = codes " pure"
summary_text names params (item ∷ items) =
    listed (codes " reads ") (map (item_text names params) (items_of Read (item ∷ items)))
    ++ listed (codes " writes ") (map (item_text names params) (items_of Write (item ∷ items)))

-- a member and its summary
abbrev pub line_of : ProgramNames → PlainMember → Named → List ℕ
line_of names member named =
    within_class names member.class named.name ++ summary_text names (params_of names member.class named) member.summary ++ codes "\n"

abbrev pub lines_from : ProgramNames → List PlainMember → List Named → List ℕ
lines_from names [] named = []
lines_from names (member ∷ members) [] = []
lines_from names (member ∷ members) (n ∷ named) = line_of names member n ++ lines_from names members named

-- a line for each method and constructor of a program with these names, in the order of the text
abbrev pub lines_of : PlainProgram → ProgramNames → List ℕ
lines_of P names = lines_from names P.members names.members

-- What stands in front of the bodies of a program in a listing.
use Rattle.std.specs.Prelude.{◌≡◌, ℕ, List, [], ◌∷◌, ◌++◌, map, length, codes, slice_get, Option}
use Rattle.std.specs.List.{All, flat_map}
use Rattle.std.specs.Option.{option_map_or}
use Rattle.lang_typed.specs.declared.program.Class.{Class}
use Rattle.lang_typed.specs.Names.{Named, ProgramNames}
use Rattle.lang_typed.specs.Plain.{PlainMember, PlainProgram}
use Rattle.code_instrs.specs.declared.code.Body.{Body}
use Rattle.code_instrs.specs.declared.code.Title.{Title}
use Rattle.code_instrs.specs.declared.code.Title.TheVariants as title
use Rattle.code_instrs.specs.Plain.{of_member, of_branch}
use Rattle.code_instrs.specs.Plain.{Title as PlainTitle}
use Rattle.code_scheme.specs.Whole.{compiled}

-- a member of a class, by their names
abbrev pub member_title : List ℕ → List ℕ → List ℕ
member_title class name = class ++ codes "." ++ name

-- the name of a class; none where there is no class
abbrev pub name_of : Option Class → List ℕ
name_of class = option_map_or (λ k. k.name) class []

abbrev pub class_name : ProgramNames → ℕ → List ℕ
class_name names class = option_map_or (λ k. k.name) (slice_get names.classes class) []

-- the titles of members, each with its names
abbrev pub member_titles : ProgramNames → List PlainMember → List Named → List (List ℕ)
member_titles names [] named = []
member_titles names (m ∷ ms) [] = []
member_titles names (m ∷ ms) (n ∷ named) = member_title (class_name names m.class) n.name ∷ member_titles names ms named

-- titles, where the members among them have these in turn
abbrev pub titled : List (List ℕ) → List PlainTitle → List Title
titled members [] = []
titled members (of_branch site number ∷ rest) = title.Branch site number ∷ titled members rest
titled [] (of_member ∷ rest) = title.Member [] ∷ titled [] rest
titled (member ∷ members) (of_member ∷ rest) = title.Member member ∷ titled members rest

-- the titles of all bodies of a program with these names
abbrev pub titles_of : PlainProgram → ProgramNames → List Title
titles_of P names = titled (member_titles names P.members names.members) (map (λ body. body.title) (compiled P).bodies)

-- what bodies say of their members
abbrev pub member_of : Title → List (List ℕ)
member_of (title.Member member) = member ∷ []
member_of (title.Branch site number) = []

abbrev pub members_in : List Body → List (List ℕ)
members_in bodies = flat_map (λ body. member_of body.title) bodies

-- each instruction has a place
abbrev pub HasPlaces : Body → Type 0
HasPlaces body = length body.instrs ≡ length body.places

-- bodies follow: those of these members, and of branches; each of their instructions has a place
pub record Follow (before after : List Body) (more : List (List ℕ)) : Type 0 where
  pub members : members_in after ≡ members_in before ++ more
  pub placed : All HasPlaces before → All HasPlaces after

-- Code as plain data, over which the machine is written, and the map from the code's types.
use Rattle.std.specs.Prelude.{ℕ, List, [], ◌∷◌, map, Option, Some, None, option_and_then, option_map, slice_get}
use Rattle.lang_base.specs.declared.effect.Effect.{Effect}
use Rattle.lang_base.specs.declared.place.Place.{Place}
use Rattle.lang_base.specs.declared.region.Rpl.{Rpl}
use Rattle.lang_base.specs.declared.value.FirstValue.{FirstValue}
use Rattle.lang_typed.specs.declared.stmt.Forking.{Forking}
use Rattle.lang_typed.specs.Plain.{PlainParent}
use Rattle.code_instrs.specs.declared.code.Body.{Body}
use Rattle.code_instrs.specs.declared.code.ClassCode.{ClassCode as DeclaredClass}
use Rattle.code_instrs.specs.declared.code.Code.{Code}
use Rattle.code_instrs.specs.declared.code.MethodCode.{MethodCode}
use Rattle.code_instrs.specs.declared.code.Site.{Site as DeclaredSite}
use Rattle.code_instrs.specs.declared.code.Site.TheVariants as site
use Rattle.code_instrs.specs.declared.code.Title.{Title as DeclaredTitle}
use Rattle.code_instrs.specs.declared.code.Title.TheVariants as title
use Rattle.code_instrs.specs.declared.instr.Instr.{Instr}

-- an instruction, and the place at which its trap is reported
pub record Line : Type 0 where
  pub instr : Instr
  pub place : Place

-- a method or constructor; or the branch of a site, by its number there
pub data Title : Type 0 where
  of_member : Title
  of_branch : (site number : ℕ) → Title

pub record PlainBody : Type 0 where
  pub title : Title
  pub lines : List Line
  pub slots : ℕ
  pub local_regions : ℕ

-- a row of methods: the class whose region parameters the body speaks of, and the body
pub record Method : Type 0 where
  pub owner : ℕ
  pub body : ℕ

pub record ClassCode : Type 0 where
  pub parent : Option PlainParent
  -- what its fields hold at first
  pub fields : List FirstValue
  pub constructor : Option ℕ
  pub methods : List Method

-- what an instruction needs beside itself
pub data Site : Type 0 where
  -- branches: their bodies, and what is copied back from each
  fork_site : (forking : Forking) (bodies : List ℕ) (copies : List (List ℕ)) → Site
  -- a branch for each number: its body, and the slot of the number
  spread_site : (forking : Forking) (body slot : ℕ) → Site
  block_site : (effects : List Effect) → Site
  call_site : (class row formals : ℕ) (regions : List Rpl) → Site
  new_site : (class formals : ℕ) (regions : List Rpl) → Site
  array_site : (region : Rpl) (first : FirstValue) → Site

pub record PlainCode : Type 0 where
  pub classes : List ClassCode
  pub bodies : List PlainBody
  pub sites : List Site
  pub texts : List (List ℕ)
  pub main_class : ℕ
  pub main_body : ℕ

-- the body of this number; one without instructions, where there is none
abbrev pub body_or_none : Option PlainBody → PlainBody
body_or_none None = record { title = of_member; lines = []; slots = 0; local_regions = 0 }
body_or_none (Some b) = b

abbrev pub body_at : PlainCode → ℕ → PlainBody
body_at C j = body_or_none (slice_get C.bodies j)

abbrev pub class_at : PlainCode → ℕ → Option ClassCode
class_at C c = slice_get C.classes c

abbrev pub parent_of : PlainCode → ℕ → Option PlainParent
parent_of C c = option_and_then (λ k. k.parent) (class_at C c)

abbrev pub method_at : PlainCode → ℕ → ℕ → Option Method
method_at C c r = option_and_then (λ k. slice_get k.methods r) (class_at C c)

abbrev pub constructor_of : PlainCode → ℕ → Option ℕ
constructor_of C c = option_and_then (λ k. k.constructor) (class_at C c)

abbrev pub fields_of : Option ClassCode → List FirstValue
fields_of None = []
fields_of (Some k) = k.fields

-- each instruction with its place
abbrev pub lines_of : List Instr → List Place → List Line
lines_of [] places = []
lines_of (i ∷ is) [] = []
lines_of (i ∷ is) (p ∷ places) = record { instr = i; place = p } ∷ lines_of is places

abbrev pub plain_title : DeclaredTitle → Title
plain_title (title.Member name) = of_member
plain_title (title.Branch site number) = of_branch site number

abbrev pub plain_body : Body → PlainBody
plain_body b = record { title = plain_title b.title; lines = lines_of b.instrs b.places; slots = b.slots; local_regions = b.locals }

abbrev pub plain_method : MethodCode → Method
plain_method m = record { owner = m.owner; body = m.body }

-- the member of this number; where there is none, the first body, of the first class
abbrev pub member_or_none : Option MethodCode → Method
member_or_none None = record { owner = 0; body = 0 }
member_or_none (Some m) = plain_method m

abbrev pub member_in : List MethodCode → ℕ → Method
member_in members n = member_or_none (slice_get members n)

abbrev pub plain_class : List MethodCode → DeclaredClass → ClassCode
plain_class members k = record {
  parent = option_map (λ c. record { class = c; args = k.args }) k.parent;
  fields = k.fields;
  constructor = k.constructor;
  methods = map (member_in members) k.methods;
}

abbrev pub plain_site : DeclaredSite → Site
plain_site (site.Fork forking bodies copies) = fork_site forking bodies (map (λ c. c.slots) copies)
plain_site (site.Spread forking body slot) = spread_site forking body slot
plain_site (site.Block effects) = block_site effects
plain_site (site.Call class row formals regions) = call_site class row formals regions
plain_site (site.New class formals regions) = new_site class formals regions
plain_site (site.Array region first) = array_site region first

abbrev pub plain_code : Code → PlainCode
plain_code C = record {
  classes = map (plain_class C.members) C.classes;
  bodies = map plain_body C.bodies;
  sites = map plain_site C.sites;
  texts = C.texts;
  main_class = C.main_class;
  main_body = C.main_body;
}

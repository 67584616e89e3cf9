-- The names that a typed program holds beside its plain form, for what is reported of it.
use Rattle.std.specs.Prelude.{ℕ, List, map}
use Rattle.lang_typed.specs.declared.program.Class.{Class}
use Rattle.lang_typed.specs.declared.program.Member.{Member}
use Rattle.lang_typed.specs.declared.program.Program.{Program}
use Rattle.lang_typed.specs.declared.program.RegionName.{RegionName}

-- the name of a class or a member, and those of its own region parameters
pub record Named : Type 0 where
  pub name : List ℕ
  pub params : List (List ℕ)

-- the name of a region, and the class that declares it
pub record NamedRegion : Type 0 where
  pub class : ℕ
  pub name : List ℕ

pub record ProgramNames : Type 0 where
  pub classes : List Named
  pub members : List Named
  pub regions : List NamedRegion

abbrev pub named_class : Class → Named
named_class class = record { name = class.name; params = map (λ param. param.text) class.params }

abbrev pub named_member : Member → Named
named_member member = record { name = member.name; params = map (λ param. param.text) member.params }

abbrev pub named_region : RegionName → NamedRegion
named_region region = record { class = region.class.number; name = region.text }

-- all names of a program
abbrev pub names_of : Program → ProgramNames
names_of program = record {
  classes = map named_class program.classes;
  members = map named_member program.members;
  regions = map named_region program.region_names;
}

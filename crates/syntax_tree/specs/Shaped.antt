-- What is true of every program that the parser makes.
use Rattle.std.specs.Prelude.{◌<◌, length, All}
use Rattle.std.specs.List.{IsDistinct}
use Rattle.std.specs.Str.{bytes_eq}
use Rattle.syntax_tree.specs.declared.class.Member.{Member}
use Rattle.syntax_tree.specs.declared.class.Member.TheVariants as member
use Rattle.syntax_tree.specs.declared.class.Program.{Program}
use Rattle.syntax_tree.specs.Plain.{plain_stmt}
use Rattle.syntax_tree.specs.Names.{program_names}
use Rattle.syntax_tree.specs.Targets.{HasTargets}

abbrev pub MemberHasTargets : Member → Type 0
MemberHasTargets (member.Regions is_atomic names) = Unit {0}
MemberHasTargets (member.Field field) = Unit {0}
MemberHasTargets (member.Method method) = All (λ s. HasTargets (plain_stmt s)) method.body

pub record IsShaped (program : Program) : Type 0 where
  pub distinct : IsDistinct bytes_eq program.names
  -- every name is a position in the list of names
  pub named : All (λ name. name < length program.names) (program_names program)
  pub targets : All (λ class. All MemberHasTargets class.members) program.classes

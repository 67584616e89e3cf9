-- A tree in which one of two methods is overridden, and typed programs that differ in the rows of the two classes.
--
-- class Low { void f() { } void g() { } }
-- class High extends Low { void g() { } }
-- class Main { int main(int n) { return 0; } }
use Rattle.std.specs.Prelude.{ℕ, false, List, [], ◌∷◌, codes, Some, None}
use Rattle.lang_base.specs.Types.{PlainType as ty}
use Rattle.syntax_tree.specs.declared.class.Class.{Class}
use Rattle.syntax_tree.specs.declared.class.Member.TheVariants as member
use Rattle.syntax_tree.specs.declared.class.Method.{Method}
use Rattle.syntax_tree.specs.declared.class.MethodResult.TheVariants as outcome
use Rattle.syntax_tree.specs.declared.class.Program.{Program}
use Rattle.syntax_tree.specs.declared.region.BaseTree.TheVariants as base
use Rattle.syntax_tree.specs.declared.stmt.StmtKind.TheVariants as stmt
use Rattle.lang_typed.specs.Plain.{PlainProgram, PlainClass, PlainMember, PlainParent, TypedStmts, no_stmts, more_stmts}
use Rattle.lang_typed.specs.Plain as made
use Rattle.trial_samples.specs.trees.Nodes.{formal, member_made, written_int}
use Rattle.trial_samples.specs.trees.Cells.{here, name_at, no_params, plain_kind, does, makes, number, anything}

abbrev pub does_nothing : ℕ → Method
does_nothing name = record { place = here; name = name; params = no_params; result = outcome.Void; formals = []; summary = None; body = [] }

abbrev pub low_tree : Class
low_tree = record { place = here; name = 0; params = no_params; parent = None; members = member.Method (does_nothing 1) ∷ member.Method (does_nothing 2) ∷ [] }

abbrev pub high_tree : Class
high_tree = record { place = here; name = 3; params = no_params; parent = Some (record { name = name_at 0; args = [] }); members = member.Method (does_nothing 2) ∷ [] }

abbrev pub main_method : Method
main_method = record {
  place = here;
  name = 5;
  params = no_params;
  result = outcome.Value (plain_kind base.Int);
  formals = formal 6 (plain_kind base.Int) ∷ [];
  summary = None;
  body = does (stmt.Return (Some (written_int 0))) ∷ [];
}

abbrev pub main_tree : Class
main_tree = record { place = here; name = 4; params = no_params; parent = None; members = member.Method main_method ∷ [] }

abbrev pub tree : Program
tree = record {
  classes = low_tree ∷ high_tree ∷ main_tree ∷ [];
  names = codes "Low" ∷ codes "f" ∷ codes "g" ∷ codes "High" ∷ codes "Main" ∷ codes "main" ∷ codes "n" ∷ [];
}

abbrev pub low_made : List ℕ → PlainClass
low_made rows = record { params = []; given = []; parent = None; fields = []; rows = rows; constructor = None }

abbrev pub below_low : PlainParent
below_low = record { class = 0; args = [] }

abbrev pub high_made : List ℕ → PlainClass
high_made rows = record { params = []; given = []; parent = Some below_low; fields = []; rows = rows; constructor = None }

abbrev pub main_made : PlainClass
main_made = record { params = []; given = []; parent = None; fields = []; rows = 3 ∷ []; constructor = None }

abbrev pub empty_of : ℕ → PlainMember
empty_of c = member_made [] [] ty.void (anything ∷ []) c 1 no_stmts

abbrev pub gives_zero : TypedStmts
gives_zero = more_stmts (makes (made.return_value (number 0))) no_stmts

abbrev pub main_member : PlainMember
main_member = member_made [] (ty.int ∷ []) ty.int (anything ∷ []) 2 2 gives_zero

-- with these rows of the upper and of the lower class
abbrev pub rows_program : List ℕ → List ℕ → PlainProgram
rows_program low high = record {
  classes = low_made low ∷ high_made high ∷ main_made ∷ [];
  members = empty_of 0 ∷ empty_of 0 ∷ empty_of 1 ∷ main_member ∷ [];
  region_names = [];
  main_class = 2;
  main_member = 3;
  uses_nd = false;
}

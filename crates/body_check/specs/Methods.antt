-- The bodies of methods and constructors, class by class and member by member in the order of the text.
use Rattle.std.specs.Prelude.{◌≡◌, ℕ, suc, ◌+◌, Bool, true, false, ◌&&◌, cond, nat_lt, List, [], ◌∷◌, ◌++◌, map, length, take, codes, Option, Some, None, option_map, Result, Ok, Err}
use Rattle.std.specs.List.{list_all}
use Rattle.std.specs.Option.{option_map_or}
use Rattle.lang_base.specs.declared.effect.Effect.{Effect}
use Rattle.lang_base.specs.declared.refusal.Refusal.{Refusal}
use Rattle.lang_base.specs.declared.ty.Ty.{Ty}
use Rattle.lang_base.specs.Effects.{set_covers}
use Rattle.decl_headers.specs.Gathered.{name_number}
use Rattle.decl_headers.specs.Numbers.{as_number}
use Rattle.decl_headers.specs.Passes.{fault}
use Rattle.syntax_tree.specs.declared.class.Class.{Class}
use Rattle.syntax_tree.specs.declared.class.Formal.{Formal}
use Rattle.syntax_tree.specs.declared.class.Member.{Member}
use Rattle.syntax_tree.specs.declared.class.Member.TheVariants as member
use Rattle.syntax_tree.specs.declared.class.Method.{Method}
use Rattle.syntax_tree.specs.declared.class.Program.{Program}
use Rattle.syntax_tree.specs.Plain.{plain_stmt, plain_stmts}
use Rattle.lang_typed.specs.Plain.{TypedStmt, stmts_of}
use Rattle.body_assembly.specs.Assembled.{PlainBody, plain_body}
use Rattle.decl_table.specs.declared.rows.MethodRow.{MethodRow}
use Rattle.decl_table.specs.declared.table.Table.{Table}
use Rattle.decl_table.specs.Table.{numbered}
use Rattle.decl_table.specs.Table.{supers_of as superclasses}
use Rattle.decl_resolve.specs.Scoped.{no_names}
use Rattle.lang_base.specs.declared.ty.Super.{Super}
use Rattle.body_exprs.specs.declared.env.Env.{Env}
use Rattle.body_check.specs.declared.bodies.ClassBodies.{ClassBodies}
use Rattle.body_exprs.specs.Env.{table_of, atomic_of, class_params, at_class, at_method, declared_in, slots_in, has_room, local_declared}
use Rattle.body_check.specs.Checking.{check_block}
use Rattle.body_check.specs.Completes.{all_complete}
use Rattle.body_check.specs.Deciding.{has_value, method_fault}
use Rattle.body_check.specs.Around.{method_around}
use Rattle.body_check.specs.Walks.{Walk, Verdict, passes, refused, nothing_found}

-- of each region parameter of a method, whether it is declared atomic
abbrev pub own_params : Table → ℕ → List Bool
own_params table method = option_map_or (λ row. atomic_of row.regions) (numbered table method) []

-- of those in scope, those of the class first
abbrev pub atomic_params : Env → List Bool
atomic_params env = env.atomic_params

-- the formals of a method are in scope, where their types are known
abbrev pub formals_declared : Env → List Formal → List Ty → Env
formals_declared env [] types = env
formals_declared env (formal ∷ formals) [] = env
formals_declared env (formal ∷ formals) (t ∷ types) = formals_declared (local_declared env formal.name t false) formals types

-- the types of the formals, and the summary, of the row of a method
abbrev pub formal_types : Option MethodRow → List Ty
formal_types row = option_map_or (λ r. r.params) row []

abbrev pub summary_of : Option MethodRow → List Effect
summary_of row = option_map_or (λ r. r.summary) row []

-- at the begin of the body of a method of a class: its formals are in scope
abbrev pub body_begun : Env → ℕ → Method → Walk
body_begun class_env number method = record {
  env = formals_declared (at_method class_env number) method.formals (formal_types (numbered (table_of class_env) number));
  found = nothing_found;
}

-- a body that passes
abbrev pub typed_body : List TypedStmt → Env → PlainBody
typed_body ss env = record { slots = slots_in env; local_regions = declared_in env; stmts = stmts_of ss }

-- the fault that is reported after the body of a method
abbrev pub method_reported : Env → ℕ → Method → List Effect → Option Refusal
method_reported class_env number method effects =
    option_map (λ reason. fault reason method.place)
    (method_fault (has_value method.result) (all_complete (plain_stmts (map plain_stmt method.body)))
    (set_covers (summary_of (numbered (table_of class_env) number)) effects) (has_room (body_begun class_env number method).env))

-- what is made of what was made, where nothing was refused
abbrev pub after_ok : {T U : Type 0} → (T → U) → Result T Refusal → Result U Refusal
after_ok make (Ok made) = Ok (make made)
after_ok make (Err refusal) = Err refusal

-- goes on with what was made
abbrev pub then_ok : {T U : Type 0} → Result T Refusal → (T → Result U Refusal) → Result U Refusal
then_ok (Ok made) next = next made
then_ok (Err refusal) next = Err refusal

abbrev pub reported : {T : Type 0} → Option Refusal → T → Result T Refusal
reported None made = Ok made
reported (Some refusal) made = Err refusal

abbrev pub method_judged : Env → ℕ → Method → Verdict (List TypedStmt) → Result PlainBody Refusal
method_judged class_env number method (passes ss w) = reported (method_reported class_env number method w.found.effects) (typed_body ss w.env)
method_judged class_env number method (refused refusal) = Err refusal

-- the body of a method or a constructor: its statements, then the method itself
abbrev pub check_method : Env → List Bool → ℕ → Method → Result PlainBody Refusal
check_method class_env params number method =
    method_judged class_env number method
    (check_block params (method_around (has_value method.result)) (plain_stmts (map plain_stmt method.body)) (body_begun class_env number method))

-- a member of a class, which has a body or none
abbrev pub check_member : Env → List Bool → Member → ℕ → Result (Option PlainBody) Refusal
check_member class_env params (member.Regions is_atomic names) number = Ok None
check_member class_env params (member.Field declared) number = Ok None
check_member class_env params (member.Method method) number =
    after_ok Some (check_method class_env (params ++ own_params (table_of class_env) number) number method)

-- the number of the method after a member, and the bodies that a member has
abbrev pub number_after : Option PlainBody → ℕ → ℕ
number_after None number = number
number_after (Some made) number = as_number (suc number)

abbrev pub bodies_of : Option PlainBody → List PlainBody
bodies_of None = []
bodies_of (Some made) = made ∷ []

-- the bodies of the members of a class, and the number after its last method
pub record PlainBodies : Type 0 where
  pub next : ℕ
  pub bodies : List PlainBody

abbrev pub plain_bodies : ClassBodies → PlainBodies
plain_bodies done = record { next = done.next; bodies = map plain_body done.bodies }

abbrev pub after_bodies : List PlainBody → PlainBodies → PlainBodies
after_bodies before all = record { next = all.next; bodies = before ++ all.bodies }

-- the members of a class, whose first method has this number
abbrev pub check_members : Env → List Bool → List Member → ℕ → Result PlainBodies Refusal
check_members class_env params [] number = Ok (record { next = number; bodies = [] })
check_members class_env params (m ∷ ms) number =
    then_ok (check_member class_env params m number)
    (λ made. after_ok (after_bodies (bodies_of made)) (check_members class_env params ms (number_after made number)))

-- the classes from a number on, whose first method has the other number
abbrev pub check_classes : Env → ℕ → List Class → ℕ → Result (List PlainBody) Refusal
check_classes start at [] number = Ok []
check_classes start at (class ∷ classes) number =
    then_ok (check_members (at_class start (as_number at)) (class_params (table_of start) (as_number at)) class.members number)
    (λ made. after_ok (λ bodies. made.bodies ++ bodies) (check_classes start (at + 1) classes made.next))

-- the rows stand in the order of class numbers, as in every table that is built
abbrev pub in_order : List Super → Bool
in_order [] = true
in_order (row ∷ rows) = list_all (λ later. nat_lt row.class later.class) rows && in_order rows

-- around no class yet
abbrev pub around_classes : Table → Option ℕ → Env
around_classes table length_name = record {
  alloc = record { memory = record { seal = tt } };
  table = table;
  class = 0;
  method = 0;
  supers = cond (in_order (superclasses table)) (superclasses table) [];
  length = length_name;
  params = no_names;
  rows = [];
  variables = no_names;
  slots = 1;
  regions = no_names;
  declared = 0;
  given = [];
  class_given = 0;
  atomic_params = [];
  class_params = 0;
}

-- all bodies of a program with this table, from the first class on: what is made of them, or the first refusal
abbrev pub check_bodies : Program → Table → Result (List PlainBody) Refusal
check_bodies program table = check_classes (around_classes table (name_number program.names (codes "length"))) 0 program.classes 0

-- the rules say this of the bodies of a program
abbrev pub BodiesChecking : Program → Table → Result (List PlainBody) Refusal → Type 0
BodiesChecking program table v = check_bodies program table ≡ v

-- What a whole accepted program keeps, by parts: what its table tells, when its methods reach nd constructs, and its bodies.
use Rattle.std.specs.Prelude.{◌≡◌, ◌<◌, ◌⊎◌, ℕ, ◌+◌, Bool, true, false, not, IsTrue, List, ◌∷◌, length, map, codes, Some}
use Rattle.lang_base.specs.Effects.{set_covers}
use Rattle.lang_base.specs.Types.{void}
use Rattle.syntax_tree.specs.declared.class.Class.{Class}
use Rattle.syntax_tree.specs.declared.class.Member.{Member}
use Rattle.syntax_tree.specs.declared.class.Member.TheVariants as member
use Rattle.syntax_tree.specs.declared.class.Method.{Method}
use Rattle.syntax_tree.specs.declared.class.Program.{Program}
use Rattle.syntax_tree.specs.Nd.{program_uses_nd}
use Rattle.syntax_tree.specs.Plain.{plain_stmt, plain_stmts}
use Rattle.decl_headers.specs.Gathered.{name_number}
use Rattle.decl_table.specs.declared.table.Table.{Table}
use Rattle.decl_reach.specs.Bodies.{own_marks, class_marks}
use Rattle.decl_table.specs.Table.{is_forking, supers_of}
use Rattle.lang_typed.specs.Effects.{Own, as_effects}
use Rattle.lang_typed.specs.Plain.{PlainProgram, PlainClass, PlainMember, TypedStmt}
use Rattle.lang_typed.specs.Scope.{class_at, member_at}
use Rattle.lang_typed.specs.Statements.{AllPass, all_complete}
use Rattle.lang_typed.specs.Table.{body_scope}
use Rattle.body_assembly.specs.Assembled.{PlainBody, program_of}
use Rattle.body_exprs.specs.declared.env.Env.{Env}
use Rattle.body_exprs.specs.Env.{at_class, IsFresh}
use Rattle.body_check.specs.Checking.{check_block}
use Rattle.body_check.specs.Deciding.{has_value}
use Rattle.body_check.specs.Around.{method_around}
use Rattle.body_check.specs.Methods.{body_begun}
use Rattle.body_check.specs.Walks.{Walk, passes}
use Rattle.sound_lemmas.specs.Accepted.{IsAccepted}
use Rattle.syntax_grammar.specs.Written.{IsWritten}
use Rattle.sound_bodies.specs.Naming.{Signed}
use Rattle.sound_bodies.specs.Seen.{SupersAgree, Tells}

-- the typed program of an accepted one
abbrev pub made_of : Program → Table → List PlainBody → PlainProgram
made_of program table bodies = program_of table program.names (program_uses_nd program) bodies

-- no nd construct is reached through the member, as the table has it
abbrev pub never_forks : Table → ℕ → Bool
never_forks table n = not (is_forking table n)

abbrev pub TablesTell : Type 0
TablesTell =
    (program : Program) (table : Table) (bodies : List PlainBody) → IsWritten program → IsAccepted program table bodies →
    Tells (made_of program table bodies) table (never_forks table)

abbrev pub SupersAreReported : Type 0
SupersAreReported =
    (program : Program) (table : Table) (bodies : List PlainBody) → IsWritten program → IsAccepted program table bodies →
    SupersAgree (made_of program table bodies) (supers_of table)

abbrev pub SignaturesNameNothing : Type 0
SignaturesNameNothing =
    (program : Program) (table : Table) (bodies : List PlainBody) → IsWritten program → IsAccepted program table bodies → Signed (made_of program table bodies)

-- the method has this number among members of a class before which so many methods stand in the text
pub data StandsIn (method : Method) (number : ℕ) : List Member → ℕ → Type 0 where
  here : {members : List Member} → StandsIn method number (member.Method method ∷ members) number
  later : {m : Member} {members : List Member} {count : ℕ} → StandsIn method number members (count + length (own_marks m)) → StandsIn method number (m ∷ members) count

-- it stands in the class of this number, among classes that are counted on from one
pub data StandsAmong (method : Method) (number class : ℕ) : List Class → ℕ → ℕ → Type 0 where
  in_class : {k : Class} {classes : List Class} {count : ℕ} → StandsIn method number k.members count → StandsAmong method number class (k ∷ classes) class count
  in_later : {k : Class} {classes : List Class} {at count : ℕ} → StandsAmong method number class classes (at + 1) (count + length (class_marks k)) →
      StandsAmong method number class (k ∷ classes) at count

-- a method in whose body an nd construct is reached is one of which the table tells so
abbrev pub ForksAreReported : Type 0
ForksAreReported =
    (program : Program) (table : Table) (bodies : List PlainBody) → IsWritten program → IsAccepted program table bodies →
    (start : Env) → IsFresh table (name_number program.names (codes "length")) start →
    (method : Method) (number class : ℕ) → StandsAmong method number class program.classes 0 0 →
    (params : List Bool) (made : List TypedStmt) (u : Walk) →
    check_block params (method_around (has_value method.result)) (plain_stmts (map plain_stmt method.body)) (body_begun (at_class start class) number method) ≡ passes made u →
    u.found.reaches_nd ≡ true → IsTrue (is_forking table number)

-- and where a program has no nd construct, none is reached through any method
abbrev pub NoneForks : Type 0
NoneForks =
    (program : Program) (table : Table) (bodies : List PlainBody) → IsAccepted program table bodies → program_uses_nd program ≡ false → (n : ℕ) → IsTrue (never_forks table n)

-- the body of a member passes, and does no more than its summary says; it has room, and gives a value where it should
pub record GoodBody (P : PlainProgram) (member_nd_free : ℕ → Bool) (n : ℕ) (m : PlainMember) (class : PlainClass) : Type 0 where
  pub room : length m.formals < m.slots
  pub effects : List Own
  pub passes_so : AllPass P (body_scope class member_nd_free n m) m.body effects
  pub covered : IsTrue (set_covers m.summary (as_effects effects))
  pub ends : (m.result ≡ void) ⊎ (all_complete m.body ≡ false)

abbrev pub BodiesPass : Type 0
BodiesPass =
    (program : Program) (table : Table) (bodies : List PlainBody) → IsWritten program → IsAccepted program table bodies →
    (n : ℕ) (m : PlainMember) (class : PlainClass) → member_at (made_of program table bodies) n ≡ Some m → class_at (made_of program table bodies) m.class ≡ Some class →
    GoodBody (made_of program table bodies) (never_forks table) n m class

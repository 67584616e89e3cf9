-- What is around no class yet, of a table that is read.
use Rattle.std.proofs.Common.{◌≡◌, ◌∙◌, inl, inr, ℕ, ◌+◌, ◌<◌, Bool, true, false, cond, nat_lt, List, [], ◌∷◌, Option, Result, Ok, Err, ◌++◌, codes, refl, sym, ap}
use Rattle.std.specs.Bool.{Decides}
use Rattle.std.specs.List.{list_all, All}
use Rattle.std.proofs.lemmas.Bool.{false≢true}
use Rattle.std.proofs.lemmas.Bool.Decides.{Decides-and, Decides-like, Decides-ltb}
use Rattle.std.proofs.lemmas.List.Elements.{All-nil, All-cons, All-head, All-tail}
use Rattle.std.proofs.lemmas.List.Kept.{AllPairs-cons}
use Rattle.lang_base.specs.declared.refusal.Refusal.{Refusal}
use Rattle.lang_base.specs.declared.ty.Super.{Super}
use Rattle.lang_base.specs.Types.{Ordered}
use Rattle.decl_headers.specs.Gathered.{name_number}
use Rattle.decl_headers.specs.Numbers.{as_number}
use Rattle.decl_table.specs.declared.table.Table.{Table}
use Rattle.decl_table.specs.Table.{supers_of as superclasses}
use Rattle.syntax_tree.specs.declared.class.Class.{Class}
use Rattle.syntax_tree.specs.declared.class.Program.{Program}
use Rattle.body_assembly.specs.Assembled.{PlainBody}
use Rattle.body_exprs.specs.declared.env.Env.{Env}
use Rattle.body_exprs.specs.Env.{table_of, supers_of, at_class, IsFresh, class_params}
use Rattle.body_exprs.specs.Typed.{AreTaken}
use Rattle.body_check.specs.Methods.{check_members, check_classes, after_ok, then_ok, around_classes, in_order, BodiesChecking}
use Rattle.body_check.proofs.Pairs.{first_pairs, later_pairs, no_pairs}

-- the test of the order
before_all : (row : Super) (rows : List Super) → Decides (list_all (λ later. nat_lt row.class later.class) rows) (All (λ later. row.class < later.class) rows)
before_all row [] = (λ _. All-nil (λ later. row.class < later.class), λ _. refl)
before_all row (next ∷ rows) =
    Decides-like (list_all (λ later. nat_lt row.class later.class) (next ∷ rows)) (λ both. All-cons (λ later. row.class < later.class) next rows both.0 both.1)
    (λ h. (All-head (λ later. row.class < later.class) next rows h, All-tail (λ later. row.class < later.class) next rows h))
    (Decides-and (nat_lt row.class next.class) (list_all (λ later. nat_lt row.class later.class) rows) (Decides-ltb row.class next.class) (before_all row rows))

order_is : (rows : List Super) → Decides (in_order rows) (Ordered rows)
order_is [] = (λ _. no_pairs (λ row next. row.class < next.class), λ _. refl)
order_is (row ∷ rows) =
    Decides-like (in_order (row ∷ rows)) (λ both. AllPairs-cons (λ row next. row.class < next.class) row rows both.0 both.1)
    (λ h. (first_pairs (λ row next. row.class < next.class) row rows h, later_pairs (λ row next. row.class < next.class) row rows h))
    (Decides-and (list_all (λ later. nat_lt row.class later.class) rows) (in_order rows) (before_all row rows) (order_is rows))

taken_by : (rows taken : List Super) (ordered : Bool) → Decides ordered (Ordered rows) → AreTaken rows taken → taken ≡ cond ordered rows []
taken_by rows taken true d (inl (o, is)) = is
taken_by rows taken true d (inr (never, is)) = absurd (never (d.0 refl))
taken_by rows taken false d (inl (o, is)) = absurd (false≢true (d.1 o))
taken_by rows taken false d (inr (never, is)) = is

-- at each class it is what it is of the start that the rules have
abbrev from_parts : Env → Table → List Super → Option ℕ → Env
from_parts env table supers length_name = record env { table = table; supers = supers; length = length_name }

alike : (table : Table) (length_name : Option ℕ) (env : Env) → IsFresh table length_name env → (other : ℕ) →
    at_class env other ≡ at_class (around_classes table length_name) other
alike table length_name env fresh other =
    let supers_so : supers_of env ≡ cond (in_order (superclasses table)) (superclasses table) [] =
    taken_by (superclasses table) (supers_of env) (in_order (superclasses table)) (order_is (superclasses table)) fresh.supers_are in
    ap (λ (z : Table). at_class (from_parts env z env.supers env.length) other) fresh.table_is
    ∙ ap (λ (z : List Super). at_class (from_parts env table z env.length) other) supers_so
    ∙ ap (λ (z : Option ℕ). at_class (from_parts env table (cond (in_order (superclasses table)) (superclasses table) []) z) other) fresh.length_is

-- so the classes are looked at alike
classes_alike : (start other : Env) (at : ℕ) (classes : List Class) (number : ℕ) → ((class : ℕ) → at_class other class ≡ at_class start class) →
    check_classes other at classes number ≡ check_classes start at classes number
classes_alike start other at [] number same = refl
classes_alike start other at (class ∷ classes) number same =
    ap (λ (e : Env). then_ok (check_members e (class_params (table_of e) (as_number at)) class.members number)
    (λ made. after_ok (λ bodies. made.bodies ++ bodies) (check_classes other (at + 1) classes made.next))) (same (as_number at))
    ∙ then_same (check_members (at_class start (as_number at)) (class_params (table_of start) (as_number at)) class.members number)
    (λ made. after_ok (λ bodies. made.bodies ++ bodies) (check_classes other (at + 1) classes made.next))
    (λ made. after_ok (λ bodies. made.bodies ++ bodies) (check_classes start (at + 1) classes made.next))
    (λ made. ap (after_ok (λ bodies. made.bodies ++ bodies)) (classes_alike start other (at + 1) classes made.next same))
  where
    then_same : {T U : Type 0} (r : Result T Refusal) (f g : T → Result U Refusal) → ((x : T) → f x ≡ g x) → then_ok r f ≡ then_ok r g
    then_same (Ok x) f g h = h x
    then_same (Err q) f g h = refl

pub whole_from : (program : Program) (table : Table) (length_name : Option ℕ) (start : Env) (classes : List Class)
    (v : Result (List PlainBody) Refusal) → length_name ≡ name_number program.names (codes "length") → IsFresh table length_name start →
    classes ≡ program.classes → check_classes start 0 classes 0 ≡ v → BodiesChecking program table v
whole_from program table length_name start classes v length_is fresh same d =
    ap (λ (z : Option ℕ). check_classes (around_classes table z) 0 program.classes 0) (sym length_is)
    ∙ sym (classes_alike (around_classes table length_name) start 0 program.classes 0 (alike table length_name start fresh))
    ∙ ap (λ (z : List Class). check_classes start 0 z 0) (sym same) ∙ d

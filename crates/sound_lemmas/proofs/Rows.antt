-- A program within the bounds of a text has rows.
use Rattle.std.proofs.Common.{◌≤◌, List, [], ◌∷◌, length, sum_by, arith}
use Rattle.std.proofs.lemmas.List.{length-append}
use Rattle.std.proofs.lemmas.List.Sums.{sum_by-cons}
use Rattle.syntax_tree.specs.declared.class.Class.{Class}
use Rattle.syntax_tree.specs.declared.class.Member.{Member}
use Rattle.syntax_tree.specs.declared.class.Member.TheVariants as member
use Rattle.syntax_tree.specs.Size.{class_size, member_size}
use Rattle.decl_laws.proofs.Granted.{granted_of}
use Rattle.sound_lemmas.specs.Accepted.{SmallHasRows}
use Rattle.sound_lemmas.proofs.Signatures.{methods_in, own_in, all_methods, rows_many}

-- there are no more methods than nodes
own_small : (m : Member) → length (own_in m) ≤ member_size m
own_small (member.Regions is_atomic names) = omega arith
own_small (member.Field field) = omega arith
own_small (member.Method method) = omega arith

methods_small : (ms : List Member) → length (methods_in ms) ≤ sum_by member_size ms
methods_small [] = omega arith
methods_small (m ∷ ms) = omega (arith, own_small m, methods_small ms, length-append (own_in m) (methods_in ms), sum_by-cons member_size m ms)

all_small : (classes : List Class) → length (all_methods classes) ≤ sum_by class_size classes
all_small [] = omega arith
all_small (class ∷ classes) =
    omega (arith, methods_small class.members, all_small classes, length-append (methods_in class.members) (all_methods classes), sum_by-cons class_size class classes)

pub small_has_rows : SmallHasRows
small_has_rows program table counted has_table small = record {
  counted = counted;
  few = (let many = rows_many program table (granted_of program table has_table).read in let le = all_small program.classes in omega (arith, many, le, small));
  has_table = has_table;
}

-- What is wrong in the classes of a program by themselves: the first pass.
use Rattle.std.specs.Prelude.{ℕ, List, [], ◌++◌, map, Option}
use Rattle.lang_base.specs.declared.refusal.Refusal.{Refusal}
use Rattle.syntax_tree.specs.declared.class.Class.{Class}
use Rattle.decl_headers.specs.Passes.{first_named, second_classes, named_parent, unknown_parents, has_constructor, cycles, closed_parents}
use Rattle.decl_headers.specs.Rounds.{is_round}

-- the class that a name means: the first of that name
abbrev pub class_named : List Class → ℕ → Option ℕ
class_named classes name = first_named name 0 classes

-- the superclass of each class
abbrev pub parents_in : List Class → List (Option ℕ)
parents_in classes = map (named_parent (class_named classes)) classes

-- two classes of one name, a superclass that isn't there, a class that is its own superclass, and one that extends a
-- class with a constructor
abbrev pub first_faults : List Class → List Refusal
first_faults classes =
    second_classes [] classes ++ (unknown_parents (class_named classes) classes
    ++ (cycles (is_round (parents_in classes)) 0 classes ++ closed_parents (map has_constructor classes) classes (parents_in classes)))

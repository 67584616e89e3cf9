-- Each part of a program is as many as its nodes at most.
use Rattle.std.proofs.Common.{ℕ, ◌≤◌, List, [], ◌∷◌, length, sum_by, arith}
use Rattle.std.proofs.lemmas.List.Sums.{sum_by-cons}
use Rattle.syntax_tree.specs.declared.class.Program.{Program}
use Rattle.syntax_tree.specs.Size.{class_size, program_size}

-- where each item has a node, there are as many items as nodes at most
pub length-sum_by : {A : Type 0} (size : A → ℕ) → ((item : A) → 1 ≤ size item) → (items : List A) → length items ≤ sum_by size items
length-sum_by size one [] = omega arith
length-sum_by size one (item ∷ items) = omega (arith, length-sum_by size one items, one item, sum_by-cons size item items)

pub classes_counted : (program : Program) → length program.classes ≤ program_size program
classes_counted program = length-sum_by class_size (λ class. omega arith) program.classes

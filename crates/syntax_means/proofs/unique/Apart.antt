-- What else has to be apart in a tree, for it to mean one program.
use Rattle.std.specs.Prelude.{◌≡◌, ℕ, List, Some, slice_get}
use Rattle.syntax_tree.specs.declared.class.Class.{Class}
use Rattle.syntax_tree.specs.declared.class.Program.{Program}
use Rattle.syntax_means.specs.Means.{param_names}

-- no two names are spelled alike, and a class has no two region parameters of one name
pub record IsApart (tree : Program) : Type 0 where
  pub names : (m n : ℕ) (text : List ℕ) → slice_get tree.names m ≡ Some text → slice_get tree.names n ≡ Some text → m ≡ n
  pub class_params : (c p q name : ℕ) (class : Class) → slice_get tree.classes c ≡ Some class →
      slice_get (param_names class.params) p ≡ Some name → slice_get (param_names class.params) q ≡ Some name → p ≡ q

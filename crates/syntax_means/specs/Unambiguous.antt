-- That a tree declares no name twice where it is seen, so that a name means one thing.
use Rattle.std.specs.Prelude.{◌≡◌, ℕ, Some, slice_get}
use Rattle.syntax_tree.specs.declared.class.Class.{Class}
use Rattle.syntax_tree.specs.declared.class.Program.{Program}
use Rattle.lang_typed.specs.Plain.{PlainProgram}
use Rattle.syntax_means.specs.Declares.{ClassNamed, DeclaresConstructor, DeclaresField, DeclaresMethod, DeclaresRegion, OwnMethod, all_methods}
use Rattle.syntax_means.specs.Means.{in_method, param_names}

-- No name is declared twice where it is seen: of one name there is one class, and in a class one region name, one field and
-- one method; a class has one constructor; and the region parameters of a class have names apart, and so have those around a
-- method or a constructor, those of its class and its own. (Of formals, locals, local regions and index names the latest is meant
-- in any case.)
pub record IsUnambiguous (tree : Program) (P : PlainProgram) : Type 0 where
  pub classes : (name c d : ℕ) → ClassNamed tree name c → ClassNamed tree name d → c ≡ d
  pub regions : (name c m n : ℕ) → DeclaresRegion tree name c m → DeclaresRegion tree name c n → m ≡ n
  pub fields : (name c j k : ℕ) → DeclaresField tree P name c j → DeclaresField tree P name c k → j ≡ k
  pub methods : (name c m n : ℕ) → DeclaresMethod tree name c m → DeclaresMethod tree name c n → m ≡ n
  pub constructors : (c m n : ℕ) → DeclaresConstructor tree c m → DeclaresConstructor tree c n → m ≡ n
  pub params : (n p q name : ℕ) (own : OwnMethod) (class : Class) → slice_get (all_methods tree) n ≡ Some own → slice_get tree.classes own.class ≡ Some class →
      slice_get (in_method tree P class own).params p ≡ Some name → slice_get (in_method tree P class own).params q ≡ Some name → p ≡ q
  pub class_params : (c p q name : ℕ) (class : Class) → slice_get tree.classes c ≡ Some class →
      slice_get (param_names class.params) p ≡ Some name → slice_get (param_names class.params) q ≡ Some name → p ≡ q

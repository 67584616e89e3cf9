-- Names that hide each other, as written at a place of a method of `Heir`, and what they mean there.
--
-- class Base<region P> { region C; }
-- class Heir<region P> extends Base<P> { region P, R; void run() { region R; foreach (int j in ..) { here } } }
use Rattle.std.specs.Prelude.{◌≡◌, ℕ, pos, false, List, [], ◌∷◌, codes, Option, Some, None}
use Rattle.lang_base.specs.declared.elems.Elem.{Elem}
use Rattle.lang_base.specs.declared.elems.Elem.TheVariants.{Name, At, Any, Star, Local}
use Rattle.lang_base.specs.declared.elems.Index.TheVariants.{Literal, Variable, Own}
use Rattle.lang_base.specs.declared.region.Head.TheVariants.{Root}
use Rattle.lang_base.specs.declared.region.Rpl.{Rpl}
use Rattle.syntax_tree.specs.declared.class.Member.TheVariants as member
use Rattle.syntax_tree.specs.declared.class.Program.{Program}
use Rattle.syntax_tree.specs.declared.region.ElemTree.{ElemTree}
use Rattle.syntax_tree.specs.declared.region.ElemTree.TheVariants as elem
use Rattle.syntax_tree.specs.declared.region.Named.{Named}
use Rattle.syntax_tree.specs.declared.region.RName.{RName}
use Rattle.syntax_tree.specs.declared.region.RplHead.TheVariants as head
use Rattle.syntax_tree.specs.declared.region.RplTree.{RplTree}
use Rattle.lang_typed.specs.Plain.{PlainProgram, PlainClass}
use Rattle.syntax_means.specs.Paths.{Around, PathMeans}
use Rattle.trial_samples.specs.trees.Cells.{here, name_at, region_at, path, one_param, below_param}

abbrev pub tree : Program
tree = record {
  classes = record { place = here; name = 0; params = one_param 1; parent = None; members = member.Regions false (name_at 2 ∷ []) ∷ [] }
      ∷ record {
        place = here;
        name = 3;
        params = one_param 1;
        parent = Some (record { name = name_at 0; args = path 1 [] ∷ [] });
        members = member.Regions false (name_at 1 ∷ name_at 4 ∷ []) ∷ [];
      }
      ∷ [];
  names = codes "Base" ∷ codes "P" ∷ codes "C" ∷ codes "Heir" ∷ codes "R" ∷ codes "j" ∷ [];
}

abbrev pub base_made : PlainClass
base_made = record { params = false ∷ []; given = []; parent = None; fields = []; rows = []; constructor = None }

abbrev pub program : PlainProgram
program = record {
  classes = base_made ∷ record base_made { parent = Some (record { class = 0; args = below_param [] ∷ [] }) } ∷ [];
  members = [];
  region_names = false ∷ false ∷ false ∷ [];
  main_class = 0;
  main_member = 0;
  uses_nd = false;
}

-- in Heir, where j has a slot and the local region R a number
abbrev pub around : Around
around = record { tree = tree; typed = program; class = 1; params = 1 ∷ []; locals = (5, 7) ∷ []; regions = (4, 3) ∷ [] }

abbrev pub region_of : ℕ → ℕ → RName
region_of class name = record { first = name_at class; second = Some (name_at name) }

abbrev pub at_root : ElemTree → RplTree
at_root e = record { place = here; head = head.Root; elems = e ∷ [] }

abbrev pub below_root : Elem → Rpl
below_root e = record { head = Root; elems = e ∷ [] }

-- inside an array type with the index name j
abbrev pub inside_j : List (Option Named)
inside_j = Some (name_at 5) ∷ []

-- the path that is written means this one, and no other
pub record MeansAlone (indices : List (Option Named)) (written : RplTree) (right : Rpl) : Type 0 where
  pub means : PathMeans around indices written right
  pub only : (a : Rpl) → PathMeans around indices written a → a ≡ right

pub record PathsMean : Type 0 where
  -- P is the parameter, and behind a colon the region name
  pub parameter : MeansAlone [] (path 1 []) (below_param [])
  pub region_name : MeansAlone [] (path 1 (elem.Name (region_at 1) ∷ [])) (below_param (Name 1 ∷ []))
  -- R is the local region, and behind a colon the region name
  pub local_region : MeansAlone [] (path 4 []) (below_root (Local 3 0))
  pub beside_local : MeansAlone [] (at_root (elem.Name (region_at 4))) (below_root (Name 2))
  -- C is of the superclass, by itself and as `Base.C`
  pub inherited : MeansAlone [] (path 2 []) (below_root (Name 0))
  pub of_class : MeansAlone [] (record { place = here; head = head.Name (region_of 0 2); elems = [] }) (below_root (Name 0))
  pub literal : MeansAlone [] (at_root (elem.Lit (pos 3))) (below_root (At (Literal (pos 3))))
  pub any_index : MeansAlone [] (at_root elem.Any) (below_root Any)
  pub star : MeansAlone [] (at_root elem.Star) (below_root Star)
  -- j is the local, and inside an array type with that index name the index
  pub variable : MeansAlone [] (at_root (elem.Index (name_at 5))) (below_root (At (Variable 7)))
  pub own_index : MeansAlone inside_j (at_root (elem.Index (name_at 5))) (below_root (At (Own 0)))

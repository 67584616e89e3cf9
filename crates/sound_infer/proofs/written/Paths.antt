-- What paths, types and region arguments mean is so with another tree and program that say the same of names.
use Rattle.std.proofs.Common.{◌∙◌, ℕ, Bool, List, [], ◌∷◌, Option, slice_get, ap}
use Rattle.std.specs.List.{AllZip}
use Rattle.lang_base.specs.declared.elems.Elem.{Elem}
use Rattle.lang_base.specs.declared.region.Rpl.{Rpl}
use Rattle.lang_base.specs.Types.{PlainType}
use Rattle.syntax_tree.specs.declared.class.Program.{Program}
use Rattle.syntax_tree.specs.declared.region.BaseTree.{BaseTree}
use Rattle.syntax_tree.specs.declared.region.ElemTree.{ElemTree}
use Rattle.syntax_tree.specs.declared.region.Named.{Named}
use Rattle.syntax_tree.specs.declared.region.RName.{RName}
use Rattle.syntax_tree.specs.declared.region.RplHead.{RplHead}
use Rattle.syntax_tree.specs.declared.region.RplTree.{RplTree}
use Rattle.syntax_tree.specs.declared.region.Suffix.{Suffix}
use Rattle.lang_typed.specs.Plain.{PlainProgram}
use Rattle.syntax_means.specs.Paths.{Around, RegionMeans, HeadMeans, ElemMeans, PathMeans, PathOrRoot, ArgsMean, NamesClass, BaseMeans, ArraysMean, FormMeans}
use Rattle.sound_infer.proofs.written.Declared.{Alike}

-- the same around, with another tree and program
abbrev pub around : Program → PlainProgram → Around → Around
around new Q A = record A { tree = new; typed = Q }

pub zip_there : {A B : Type 0} (R T : A → B → Type 0) → ((x : A) (y : B) → R x y → T x y) → (xs : List A) (ys : List B) → AllZip R xs ys → AllZip T xs ys
zip_there R T to [] [] h = tt
zip_there R T to [] (y ∷ ys) h = absurd h
zip_there R T to (x ∷ xs) [] h = absurd h
zip_there R T to (x ∷ xs) (y ∷ ys) h = (to x y h.0, zip_there R T to xs ys h.1)

module _ (new : Program) (Q : PlainProgram) (A : Around) (h : Alike A.tree A.typed new Q) where
  abbrev B : Around
  B = around new Q A

  region_there : {name : RName} {n : ℕ} → RegionMeans A name n → RegionMeans B name n
  region_there {name} {n} (RegionMeans.in_class none m) = RegionMeans.in_class none (h.regions name.first.name A.class n m)
  region_there {name} {n} (RegionMeans.in_other {second} {c} is of m) = RegionMeans.in_other is (h.classes name.first.name c of) (h.regions second.name c n m)

  head_there : {head : RplHead} {a : Rpl} → HeadMeans A head a → HeadMeans B head a
  head_there HeadMeans.at_root = HeadMeans.at_root
  head_there (HeadMeans.at_param p) = HeadMeans.at_param p
  head_there (HeadMeans.at_local none l) = HeadMeans.at_local none l
  head_there (HeadMeans.at_region none no_local r) = HeadMeans.at_region none no_local (region_there r)

  elem_there : {indices : List (Option Named)} {d : ElemTree} {e : Elem} → ElemMeans A indices d e → ElemMeans B indices d e
  elem_there (ElemMeans.a_region r) = ElemMeans.a_region (region_there r)
  elem_there ElemMeans.a_star = ElemMeans.a_star
  elem_there ElemMeans.any_index = ElemMeans.any_index
  elem_there ElemMeans.a_literal = ElemMeans.a_literal
  elem_there (ElemMeans.an_index e) = ElemMeans.an_index e
  elem_there (ElemMeans.a_variable none e) = ElemMeans.a_variable none e

  pub path_there : (indices : List (Option Named)) (path : RplTree) (a : Rpl) → PathMeans A indices path a → PathMeans B indices path a
  path_there indices path a p = record {
    start = p.start;
    begins = head_there p.begins;
    elems = p.elems;
    goes_on = zip_there (ElemMeans A indices) (ElemMeans B indices) (λ d e. elem_there) path.elems p.elems p.goes_on;
    is = p.is;
  }

  pub path_or_root : {indices : List (Option Named)} {path : Option RplTree} {a : Rpl} → PathOrRoot A indices path a → PathOrRoot B indices path a
  path_or_root PathOrRoot.left_out = PathOrRoot.left_out
  path_or_root {indices} (PathOrRoot.written {path} {a} p) = PathOrRoot.written (path_there indices path a p)

  pub args_there : {indices : List (Option Named)} {params : List Bool} {paths : List RplTree} {args : List Rpl} → ArgsMean A indices params paths args → ArgsMean B indices params paths args
  args_there (ArgsMean.all_left_out e) = ArgsMean.all_left_out e
  args_there {indices} (ArgsMean.all_written {path} {paths} {args} z) = ArgsMean.all_written (zip_there (PathMeans A indices) (PathMeans B indices) (path_there indices) (path ∷ paths) args z)

  pub class_names : {indices : List (Option Named)} {name : Named} {paths : List RplTree} {c : ℕ} {args : List Rpl} → NamesClass A indices name paths c args → NamesClass B indices name paths c args
  class_names {name = name} {c = c} n = record {
    class = n.class;
    named = h.classes name.name c n.named;
    is = ap (λ classes. slice_get classes c) h.same_classes ∙ n.is;
    given = args_there n.given;
  }

  base_there : {indices : List (Option Named)} {d : BaseTree} {t : PlainType} → BaseMeans A indices d t → BaseMeans B indices d t
  base_there BaseMeans.an_int = BaseMeans.an_int
  base_there BaseMeans.a_boolean = BaseMeans.a_boolean
  base_there (BaseMeans.a_class n) = BaseMeans.a_class (class_names n)

  arrays_there : {outside : List (Option Named)} {ss : List Suffix} {t u : PlainType} → ArraysMean A outside ss t u → ArraysMean B outside ss t u
  arrays_there ArraysMean.no_suffix = ArraysMean.no_suffix
  arrays_there (ArraysMean.one_suffix p rest) = ArraysMean.one_suffix (path_or_root p) (arrays_there rest)

  pub form_there : {outside : List (Option Named)} {base : BaseTree} {suffixes : List Suffix} {t : PlainType} → FormMeans A outside base suffixes t → FormMeans B outside base suffixes t
  form_there f = record { inside = f.inside; begins = base_there f.begins; arrays = arrays_there f.arrays }

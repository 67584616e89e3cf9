-- What names mean that hide each other.
use Rattle.std.proofs.Common.{◌≡◌, ◌⊎◌, inl, inr, ◌∙◌, ℕ, pos, false, List, [], ◌∷◌, Option, Some, refl, sym, subst, ap, arith, slice_get}
use Rattle.std.specs.List.{AllZip}
use Rattle.lang_base.specs.declared.elems.Elem.{Elem}
use Rattle.lang_base.specs.declared.elems.Elem.TheVariants.{Name, At, Any, Star, Local}
use Rattle.lang_base.specs.declared.elems.Index.TheVariants.{Literal, Variable, Own}
use Rattle.lang_base.specs.declared.region.Rpl.{Rpl}
use Rattle.lang_base.specs.Regions.{following}
use Rattle.syntax_tree.specs.declared.region.ElemTree.{ElemTree}
use Rattle.syntax_tree.specs.declared.region.ElemTree.TheVariants as elem
use Rattle.syntax_tree.specs.declared.region.Named.{Named}
use Rattle.syntax_tree.specs.declared.region.RplHead.{RplHead}
use Rattle.syntax_tree.specs.declared.region.RplHead.TheVariants as head
use Rattle.lang_base.specs.declared.region.Head.TheVariants.{Param}
use Rattle.syntax_means.specs.Declares.{ClassNamed, DeclaresRegion, MeansIn, all_regions, its_own, inherited}
use Rattle.syntax_means.specs.Paths.{ElemMeans, HeadMeans, PathMeans, RegionMeans, root_path}
use Rattle.trial_samples.specs.trees.Cells.{here, name_at, region_at, below_param}
use Rattle.trial_samples.specs.trees.Paths.{tree, program, around, region_of, below_root, inside_j, PathsMean}
use Rattle.trial_samples.proofs.trees.Each.{some_is, nothing_there, each_of}

-- the regions by their classes and names
declared_by : (name c n : ℕ) → DeclaresRegion tree name c n →
    ((c ≡ 0) × (name ≡ 2) × (n ≡ 0)) ⊎ (((c ≡ 1) × (name ≡ 1) × (n ≡ 1)) ⊎ ((c ≡ 1) × (name ≡ 4) × (n ≡ 2)))
declared_by name c n (is_atomic, is) =
    each_of (λ m own. ((own.class ≡ 0) × (own.name ≡ 2) × (m ≡ 0)) ⊎ (((own.class ≡ 1) × (own.name ≡ 1) × (m ≡ 1)) ⊎ ((own.class ≡ 1) × (own.name ≡ 4) × (m ≡ 2))))
    (all_regions tree) (inl (refl, refl, refl), (inr (inl (refl, refl, refl)), (inr (inr (refl, refl, refl)), tt))) n (record { class = c; name = name; is_atomic = is_atomic }) is

in_base : (n : ℕ) → MeansIn program (DeclaresRegion tree 2) 0 n → n ≡ 0
in_base n (its_own d) = elim (declared_by 2 0 n d) [
  | inl h ↦ h.2
  | inr (inl h) ↦ absurd (let z = h.0 in omega arith)
  | inr (inr h) ↦ absurd (let z = h.0 in omega arith)
]
in_base n (inherited never above h) = nothing_there _ above

p_in_heir : (n : ℕ) → MeansIn program (DeclaresRegion tree 1) 1 n → n ≡ 1
p_in_heir n (its_own d) = elim (declared_by 1 1 n d) [
  | inl h ↦ absurd (let z = h.0 in omega arith)
  | inr (inl h) ↦ h.2
  | inr (inr h) ↦ absurd (let z = h.1 in omega arith)
]
p_in_heir n (inherited never above h) = absurd (never 1 (false, refl))

r_in_heir : (n : ℕ) → MeansIn program (DeclaresRegion tree 4) 1 n → n ≡ 2
r_in_heir n (its_own d) = elim (declared_by 4 1 n d) [
  | inl h ↦ absurd (let z = h.0 in omega arith)
  | inr (inl h) ↦ absurd (let z = h.1 in omega arith)
  | inr (inr h) ↦ h.2
]
r_in_heir n (inherited never above h) = absurd (never 2 (false, refl))

c_in_heir : (n : ℕ) → MeansIn program (DeclaresRegion tree 2) 1 n → n ≡ 0
c_in_heir n (its_own d) = elim (declared_by 2 1 n d) [
  | inl h ↦ absurd (let z = h.0 in omega arith)
  | inr (inl h) ↦ absurd (let z = h.1 in omega arith)
  | inr (inr h) ↦ absurd (let z = h.1 in omega arith)
]
c_in_heir n (inherited {p = p} never above h) = in_base n (subst (λ c. MeansIn program (DeclaresRegion tree 2) c n) (sym (ap (λ q. q.class) (some_is _ p above))) h)

not_of_heir : (n : ℕ) → DeclaresRegion tree 2 1 n → ⊥
not_of_heir n d = elim (declared_by 2 1 n d) [
  | inl h ↦ absurd (let z = h.0 in omega arith)
  | inr (inl h) ↦ absurd (let z = h.1 in omega arith)
  | inr (inr h) ↦ absurd (let z = h.1 in omega arith)
]

c_inherited : MeansIn program (DeclaresRegion tree 2) 1 0
c_inherited = inherited not_of_heir refl (its_own (false, refl))

param_is : (p name : ℕ) → slice_get (1 ∷ []) p ≡ Some name → (p ≡ 0) × (name ≡ 1)
param_is p name e = each_of (λ n x. (n ≡ 0) × (x ≡ 1)) (1 ∷ []) ((refl, refl), tt) p name e

class_is : (c : ℕ) → ClassNamed tree 0 c → c ≡ 0
class_is c (class, is, named) = each_of (λ n k. k.name ≡ 0 → n ≡ 0) tree.classes ((λ e. refl), ((λ e. absurd (omega (arith, e))), tt)) c class is named

-- a path of a head alone, and one with an element
alone : (indices : List (Option Named)) (w : RplHead) (s : Rpl) → ((t : Rpl) → HeadMeans around w t → t ≡ s) → (a : Rpl) →
    PathMeans around indices (record { place = here; head = w; elems = [] }) a → a ≡ following s []
alone indices w s begins a h = goes h.elems h.goes_on h.is ∙ ap (λ t. following t []) (begins h.start h.begins)
  where
    goes : (xs : List Elem) → AllZip (ElemMeans around indices) [] xs → a ≡ following h.start xs → a ≡ following h.start []
    goes [] g i = i
    goes (x ∷ xs) g i = absurd g

with_one : (indices : List (Option Named)) (w : RplHead) (e : ElemTree) (s : Rpl) (k : Elem) → ((t : Rpl) → HeadMeans around w t → t ≡ s) →
    ((x : Elem) → ElemMeans around indices e x → x ≡ k) → (a : Rpl) → PathMeans around indices (record { place = here; head = w; elems = e ∷ [] }) a →
    a ≡ following s (k ∷ [])
with_one indices w e s k begins goes_on a h = goes h.elems h.goes_on h.is ∙ ap (λ t. following t (k ∷ [])) (begins h.start h.begins)
  where
    goes : (xs : List Elem) → AllZip (ElemMeans around indices) (e ∷ []) xs → a ≡ following h.start xs → a ≡ following h.start (k ∷ [])
    goes [] g i = absurd g
    goes (x ∷ []) g i = i ∙ ap (λ y. following h.start (y ∷ [])) (goes_on x g.0)
    goes (x ∷ y ∷ more) g i = absurd g.1

begins_p : (t : Rpl) → HeadMeans around (head.Name (region_at 1)) t → t ≡ below_param []
begins_p t (HeadMeans.at_param {p = p} h) = ap (λ q. record { head = Param q; elems = [] }) (param_is p 1 h.1).0
begins_p t (HeadMeans.at_local {r = r} never h) = nothing_there r h.1
begins_p t (HeadMeans.at_region never other h) = absurd (never 0 (refl, refl))

begins_r : (t : Rpl) → HeadMeans around (head.Name (region_at 4)) t → t ≡ below_root (Local 3 0)
begins_r t (HeadMeans.at_param {p = p} h) = absurd (let z = (param_is p 4 h.1).1 in omega arith)
begins_r t (HeadMeans.at_local {r = r} never h) = ap (λ q. below_root (Local q 0)) (sym (some_is 3 r h.1))
begins_r t (HeadMeans.at_region never other h) = absurd (other 3 (refl, refl))

begins_c : (t : Rpl) → HeadMeans around (head.Name (region_at 2)) t → t ≡ below_root (Name 0)
begins_c t (HeadMeans.at_param {p = p} h) = absurd (let z = (param_is p 2 h.1).1 in omega arith)
begins_c t (HeadMeans.at_local {r = r} never h) = nothing_there r h.1
begins_c t (HeadMeans.at_region {n = n} never other (RegionMeans.in_class flat h)) = ap (λ m. below_root (Name m)) (c_in_heir n h)
begins_c t (HeadMeans.at_region never other (RegionMeans.in_other {second = second} both named h)) = nothing_there second both

begins_of_base : (t : Rpl) → HeadMeans around (head.Name (region_of 0 2)) t → t ≡ below_root (Name 0)
begins_of_base t (HeadMeans.at_param h) = nothing_there (name_at 2) (sym h.0)
begins_of_base t (HeadMeans.at_local never h) = nothing_there (name_at 2) (sym h.0)
begins_of_base t (HeadMeans.at_region never other (RegionMeans.in_class flat h)) = nothing_there (name_at 2) (sym flat)
begins_of_base t (HeadMeans.at_region {n = n} never other (RegionMeans.in_other {second = second} {c = c} both named h)) =
    let name : 2 ≡ second.name = ap (λ (z : Named). z.name) (some_is (name_at 2) second both) in
    ap (λ m. below_root (Name m))
    (in_base n (subst (λ k. MeansIn program (DeclaresRegion tree k) 0 n) (sym name)
    (subst (λ k. MeansIn program (DeclaresRegion tree second.name) k n) (class_is c named) h)))

begins_root : (t : Rpl) → HeadMeans around head.Root t → t ≡ root_path
begins_root t HeadMeans.at_root = refl

goes_p : (x : Elem) → ElemMeans around [] (elem.Name (region_at 1)) x → x ≡ Name 1
goes_p x (ElemMeans.a_region {n = n} (RegionMeans.in_class flat h)) = ap Name (p_in_heir n h)
goes_p x (ElemMeans.a_region (RegionMeans.in_other {second = second} both named h)) = nothing_there second both

goes_r : (x : Elem) → ElemMeans around [] (elem.Name (region_at 4)) x → x ≡ Name 2
goes_r x (ElemMeans.a_region {n = n} (RegionMeans.in_class flat h)) = ap Name (r_in_heir n h)
goes_r x (ElemMeans.a_region (RegionMeans.in_other {second = second} both named h)) = nothing_there second both

goes_literal : (x : Elem) → ElemMeans around [] (elem.Lit (pos 3)) x → x ≡ At (Literal (pos 3))
goes_literal x ElemMeans.a_literal = refl

goes_any : (x : Elem) → ElemMeans around [] elem.Any x → x ≡ Any
goes_any x ElemMeans.any_index = refl

goes_star : (x : Elem) → ElemMeans around [] elem.Star x → x ≡ Star
goes_star x ElemMeans.a_star = refl

goes_variable : (x : Elem) → ElemMeans around [] (elem.Index (name_at 5)) x → x ≡ At (Variable 7)
goes_variable x (ElemMeans.an_index {d = d} h) = nothing_there d h
goes_variable x (ElemMeans.a_variable {x = y} none h) = ap (λ z. At (Variable z)) (sym (some_is 7 y h))

goes_index : (x : Elem) → ElemMeans around inside_j (elem.Index (name_at 5)) x → x ≡ At (Own 0)
goes_index x (ElemMeans.an_index {d = d} h) = ap (λ z. At (Own z)) (sym (some_is 0 d h))
goes_index x (ElemMeans.a_variable none h) = nothing_there 0 (sym none)

by_head : {indices : List (Option Named)} {w : RplHead} (s : Rpl) → HeadMeans around w s → PathMeans around indices (record { place = here; head = w; elems = [] }) (following s [])
by_head s h = record { start = s; begins = h; elems = []; goes_on = tt; is = refl }

by_one : {indices : List (Option Named)} {w : RplHead} {e : ElemTree} (s : Rpl) (k : Elem) → HeadMeans around w s → ElemMeans around indices e k →
    PathMeans around indices (record { place = here; head = w; elems = e ∷ [] }) (following s (k ∷ []))
by_one s k h g = record { start = s; begins = h; elems = k ∷ []; goes_on = (g, tt); is = refl }

no_param : (name p : ℕ) → (name ≡ 1 → ⊥) → slice_get (1 ∷ []) p ≡ Some name → ⊥
no_param name p other h = other (param_is p name h).1

pub paths_mean : PathsMean
paths_mean = record {
  parameter = record { means = by_head (below_param []) (HeadMeans.at_param (refl, refl)); only = alone [] (head.Name (region_at 1)) (below_param []) begins_p };
  region_name = record {
    means = by_one (below_param []) (Name 1) (HeadMeans.at_param (refl, refl)) (ElemMeans.a_region (RegionMeans.in_class refl (its_own (false, refl))));
    only = with_one [] (head.Name (region_at 1)) (elem.Name (region_at 1)) (below_param []) (Name 1) begins_p goes_p;
  };
  local_region = record {
    means = by_head (below_root (Local 3 0)) (HeadMeans.at_local (λ p h. no_param 4 p (λ e. absurd (omega (arith, e))) h.1) (refl, refl));
    only = alone [] (head.Name (region_at 4)) (below_root (Local 3 0)) begins_r;
  };
  beside_local = record {
    means = by_one root_path (Name 2) HeadMeans.at_root (ElemMeans.a_region (RegionMeans.in_class refl (its_own (false, refl))));
    only = with_one [] head.Root (elem.Name (region_at 4)) root_path (Name 2) begins_root goes_r;
  };
  inherited = record {
    means = by_head (below_root (Name 0)) (HeadMeans.at_region (λ p h. no_param 2 p (λ e. absurd (omega (arith, e))) h.1) (λ r h. nothing_there r h.1) (RegionMeans.in_class refl c_inherited));
    only = alone [] (head.Name (region_at 2)) (below_root (Name 0)) begins_c;
  };
  of_class = record {
    means = by_head (below_root (Name 0)) (HeadMeans.at_region (λ p h. nothing_there (name_at 2) (sym h.0)) (λ r h. nothing_there (name_at 2) (sym h.0))
        (RegionMeans.in_other refl (_, refl, refl) (its_own (false, refl))));
    only = alone [] (head.Name (region_of 0 2)) (below_root (Name 0)) begins_of_base;
  };
  literal = record { means = by_one root_path (At (Literal (pos 3))) HeadMeans.at_root ElemMeans.a_literal; only = with_one [] head.Root (elem.Lit (pos 3)) root_path (At (Literal (pos 3))) begins_root goes_literal };
  any_index = record { means = by_one root_path Any HeadMeans.at_root ElemMeans.any_index; only = with_one [] head.Root elem.Any root_path Any begins_root goes_any };
  star = record { means = by_one root_path Star HeadMeans.at_root ElemMeans.a_star; only = with_one [] head.Root elem.Star root_path Star begins_root goes_star };
  variable = record {
    means = by_one root_path (At (Variable 7)) HeadMeans.at_root (ElemMeans.a_variable refl refl);
    only = with_one [] head.Root (elem.Index (name_at 5)) root_path (At (Variable 7)) begins_root goes_variable;
  };
  own_index = record {
    means = by_one root_path (At (Own 0)) HeadMeans.at_root (ElemMeans.an_index refl);
    only = with_one inside_j head.Root (elem.Index (name_at 5)) root_path (At (Own 0)) begins_root goes_index;
  };
}

-- What a name means in trees that are the same but for their summaries.
use Rattle.std.proofs.Common.{◌≡◌, ◌∙◌, ℕ, suc, ◌+◌, ◌==◌, Bool, false, cond, List, [], ◌∷◌, map, slice_get, Some, refl, ap, sym}
use Rattle.std.specs.List.{position_from}
use Rattle.std.specs.Option.{option_map_or}
use Rattle.syntax_tree.specs.declared.class.Method.{Method}
use Rattle.syntax_tree.specs.declared.class.MethodResult.{MethodResult}
use Rattle.syntax_tree.specs.declared.class.MethodResult.TheVariants as outcome
use Rattle.syntax_tree.specs.declared.class.Program.{Program}
use Rattle.lang_typed.specs.Plain.{PlainProgram, PlainMember}
use Rattle.lang_typed.specs.Scope.{member_at}
use Rattle.syntax_means.specs.Declares.{ClassNamed, DeclaresConstructor, DeclaresField, DeclaresMethod, DeclaresRegion, IsMethodOf, MeansIn, OwnMethod, all_methods, method_name, spelled}
use Rattle.syntax_means.specs.Means.{in_row, row_named, with_method, with_methods}
use Rattle.sound_infer.specs.Written.{class_without, tree_without}
use Rattle.sound_infer.proofs.Tables.{with_members}
use Rattle.sound_infer.proofs.written.Trees.{there_too, bare, same_fields, same_classes, same_methods, same_regions, same_names, same_method_name}

-- what a tree and its program say of names and numbers, another tree with its program says too
pub record Alike (tree : Program) (P : PlainProgram) (new : Program) (Q : PlainProgram) : Type 0 where
  pub spells : (name : ℕ) → spelled new name ≡ spelled tree name
  pub classes : (name c : ℕ) → ClassNamed tree name c → ClassNamed new name c
  pub regions : (name c n : ℕ) → MeansIn P (DeclaresRegion tree name) c n → MeansIn Q (DeclaresRegion new name) c n
  pub fields : (name c n : ℕ) → MeansIn P (DeclaresField tree P name) c n → MeansIn Q (DeclaresField new Q name) c n
  pub same_classes : Q.classes ≡ P.classes
  pub names : (n name : ℕ) → method_name tree n ≡ Some name → method_name new n ≡ Some name
  pub members : (n : ℕ) (m : PlainMember) → member_at P n ≡ Some m → (q : PlainMember) × (member_at Q n ≡ Some q) × (q.params ≡ m.params)

module _ (P : PlainProgram) (qs : List PlainMember) where
  abbrev pub Other : PlainProgram
  Other = with_members P qs

  -- by what is declared in each class
  pub means_there : (D E : ℕ → ℕ → Type 0) → ((c n : ℕ) → D c n → E c n) → ((c n : ℕ) → E c n → D c n) → {c n : ℕ} → MeansIn P D c n → MeansIn Other E c n
  means_there D E to back (MeansIn.its_own {c} {n} d) = MeansIn.its_own (to c n d)
  means_there D E to back (MeansIn.inherited {c} none up m) = MeansIn.inherited (λ k e. none k (back c k e)) up (means_there D E to back m)

module _ (tree new : Program) (same : tree_without new ≡ tree_without tree) where
  pub class_named : (name c : ℕ) → ClassNamed tree name c → ClassNamed new name c
  class_named name c h =
      let w = there_too class_without tree.classes new.classes c h.0 (sym (same_classes tree new same)) h.1 in
      (w.0, w.1, ap (λ k. k.name) w.2 ∙ h.2)

  pub region_declared : (name c n : ℕ) → DeclaresRegion tree name c n → DeclaresRegion new name c n
  region_declared name c n h = (h.0, ap (λ all. slice_get all n) (same_regions tree new same) ∙ h.1)

  pub method_declared : (method : Method) (c n : ℕ) → IsMethodOf tree method c n → (other : Method) × IsMethodOf new other c n × (other.name ≡ method.name) × (other.result ≡ method.result)
  method_declared method c n h =
      let w = there_too bare (all_methods tree) (all_methods new) n (record { class = c; method = method }) (sym (same_methods tree new same)) h in
      let of : w.0.class ≡ c = ap (λ own. own.class) w.2 in
      (w.0.method, w.1 ∙ ap (λ d. Some (record { class = d; method = w.0.method })) of, ap (λ own. own.method.name) w.2, ap (λ own. own.method.result) w.2)

  pub declares_method : (name c n : ℕ) → DeclaresMethod tree name c n → DeclaresMethod new name c n
  declares_method name c n h = let w = method_declared h.0 c n h.1 in (w.0, w.1, λ e. h.2 (sym w.3 ∙ e), w.2 ∙ h.3)

  pub declares_constructor : (c n : ℕ) → DeclaresConstructor tree c n → DeclaresConstructor new c n
  declares_constructor c n h = let w = method_declared h.0 c n h.1 in (w.0, w.1, w.3 ∙ h.2)

  -- a program that differs in its members has the same fields
  pub declares_field : (P : PlainProgram) (qs : List PlainMember) (name c slot : ℕ) → DeclaresField tree P name c slot → DeclaresField new (with_members P qs) name c slot
  declares_field P qs name c slot h =
      let w = there_too class_without tree.classes new.classes c h.0 (sym (same_classes tree new same)) h.3 in
      (w.0, h.1, h.2, w.1, ap (λ fields. slice_get fields h.2) (same_fields w.0 h.0 w.2) ∙ h.4, h.5, h.6)

  pub field_back : (P : PlainProgram) (qs : List PlainMember) (name c slot : ℕ) → DeclaresField tree (with_members P qs) name c slot → DeclaresField new P name c slot
  field_back P qs name c slot h =
      let w = there_too class_without tree.classes new.classes c h.0 (sym (same_classes tree new same)) h.3 in
      (w.0, h.1, h.2, w.1, ap (λ fields. slice_get fields h.2) (same_fields w.0 h.0 w.2) ∙ h.4, h.5, h.6)

module _ (tree new : Program) (same : tree_without new ≡ tree_without tree) where
  pub alike : (P : PlainProgram) (qs : List PlainMember) → ((n : ℕ) (m : PlainMember) → member_at P n ≡ Some m → (q : PlainMember) × (slice_get qs n ≡ Some q) × (q.params ≡ m.params)) →
      Alike tree P new (with_members P qs)
  alike P qs members = record {
    spells = λ name. ap (λ all. spelled (record tree { names = all }) name) (same_names tree new same);
    classes = class_named tree new same;
    regions = λ name c n m. means_there P qs (DeclaresRegion tree name) (DeclaresRegion new name) (region_declared tree new same name) (region_declared new tree (sym same) name) m;
    fields = λ name c n m. means_there P qs (DeclaresField tree P name) (DeclaresField new (with_members P qs) name) (declares_field tree new same P qs name) (field_back new tree (sym same) P qs name) m;
    same_classes = refl;
    names = λ n name e. same_method_name tree new same n ∙ e;
    members = members;
  }

  -- rows

  position_same : (f g : ℕ → Bool) → ((n : ℕ) → f n ≡ g n) → (i : ℕ) (ns : List ℕ) → position_from f i ns ≡ position_from g i ns
  position_same f g e i [] = refl
  position_same f g e i (n ∷ ns) = ap (λ b. cond b (Some i) (position_from f (i + 1) ns)) (e n) ∙ ap (λ o. cond (g n) (Some i) o) (position_same f g e (i + 1) ns)

  row_same : (name : ℕ) (rows : List ℕ) → row_named new name rows ≡ row_named tree name rows
  row_same name rows = position_same _ _ (λ n. ap (λ o. option_map_or (λ m. m == name) o false) (same_method_name tree new same n)) 0 rows

  method_same : (n : ℕ) (method : Method) (result : MethodResult) (rows : List ℕ) → with_method new n method result rows ≡ with_method tree n method result rows
  method_same n method outcome.Constructor rows = refl
  method_same n method outcome.Void rows = ap (λ r. in_row n r rows) (row_same method.name rows)
  method_same n method (outcome.Value kind) rows = ap (λ r. in_row n r rows) (row_same method.name rows)

  methods_same : (c n : ℕ) (all : List OwnMethod) (rows : List ℕ) → with_methods new c n all rows ≡ with_methods tree c n all rows
  methods_same c n [] rows = refl
  methods_same c n (own ∷ more) rows =
      methods_same c (suc n) more (cond (own.class == c) (with_method new n own.method own.method.result rows) rows)
      ∙ ap (λ found. with_methods tree c (suc n) more (cond (own.class == c) found rows)) (method_same n own.method own.method.result rows)

  bare_method : (n : ℕ) (own : OwnMethod) (result : MethodResult) (rows : List ℕ) → with_method tree n (bare own).method result rows ≡ with_method tree n own.method result rows
  bare_method n own outcome.Constructor rows = refl
  bare_method n own outcome.Void rows = refl
  bare_method n own (outcome.Value kind) rows = refl

  bare_rows : (c n : ℕ) (all : List OwnMethod) (rows : List ℕ) → with_methods tree c n (map bare all) rows ≡ with_methods tree c n all rows
  bare_rows c n [] rows = refl
  bare_rows c n (own ∷ more) rows =
      bare_rows c (suc n) more (cond (own.class == c) (with_method tree n (bare own).method own.method.result rows) rows)
      ∙ ap (λ found. with_methods tree c (suc n) more (cond (own.class == c) found rows)) (bare_method n own own.method.result rows)

  pub same_rows : (c : ℕ) (rows : List ℕ) → with_methods new c 0 (all_methods new) rows ≡ with_methods tree c 0 (all_methods tree) rows
  same_rows c rows =
      methods_same c 0 (all_methods new) rows ∙ sym (bare_rows c 0 (all_methods new) rows) ∙ ap (λ all. with_methods tree c 0 all rows) (same_methods tree new same)
      ∙ bare_rows c 0 (all_methods tree) rows

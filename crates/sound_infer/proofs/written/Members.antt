-- What methods, constructors and classes mean where the tree has other summaries, which say what is kept.
use Rattle.std.proofs.Common.{◌≡◌, ◌∙◌, ℕ, suc, List, [], ◌∷◌, ◌++◌, length, map, slice_get, Option, Some, None, refl, ap, sym, subst}
use Rattle.std.specs.List.{AllZip}
use Rattle.lang_base.specs.declared.effect.Access.{Access}
use Rattle.lang_base.specs.declared.effect.Access.TheVariants.{Read, Write}
use Rattle.lang_base.specs.declared.effect.Constraint.{Constraint}
use Rattle.lang_base.specs.declared.effect.Effect.{Effect}
use Rattle.lang_base.specs.Types.{PlainType}
use Rattle.syntax_tree.specs.declared.class.Class.{Class}
use Rattle.syntax_tree.specs.declared.class.Field.{Field}
use Rattle.syntax_tree.specs.declared.class.Formal.{Formal}
use Rattle.syntax_tree.specs.declared.class.Item.{Item}
use Rattle.syntax_tree.specs.declared.class.MethodResult.{MethodResult}
use Rattle.syntax_tree.specs.declared.class.Parent.{Parent}
use Rattle.syntax_tree.specs.declared.class.Program.{Program}
use Rattle.syntax_tree.specs.declared.class.SummaryTree.{SummaryTree}
use Rattle.syntax_tree.specs.declared.region.ConstrTree.{ConstrTree}
use Rattle.syntax_tree.specs.Plain.{plain_stmt, plain_stmts}
use Rattle.lang_typed.specs.Plain.{PlainProgram, PlainClass, PlainField, PlainMember, PlainParent}
use Rattle.lang_typed.specs.Table.{body_scope}
use Rattle.syntax_means.specs.Bodies.{AllMean, with_local}
use Rattle.syntax_means.specs.Declares.{OwnMethod, own_fields}
use Rattle.syntax_means.specs.Means.{ClassMeans, ConstraintMeans, ConstructorMeans, FieldMeans, ItemMeans, MemberMeans, ParentMeans, ResultMeans, SummaryMeans, atomic_params, in_class, in_method, param_names, rows_above, with_formals}
use Rattle.syntax_means.specs.Numbered.{Counts}
use Rattle.syntax_means.specs.Paths.{Around, TypeMeans}
use Rattle.std.specs.Prelude.{false}
use Rattle.body_infer.specs.declared.kept.Kept.{Kept}
use Rattle.body_infer.specs.Kept.{Keeping, program_kept, summary_kept}
use Rattle.sound_infer.specs.Written.{class_without, tree_without}
use Rattle.sound_infer.proofs.Kept.{member_inferred, members_inferred}
use Rattle.sound_infer.proofs.Tables.{with_members}
use Rattle.sound_infer.proofs.written.Bodies.{all_there, same_slots, same_local_regions}
use Rattle.sound_infer.proofs.written.Declared.{Alike, declares_constructor, same_rows}
use Rattle.sound_infer.proofs.written.Paths.{around, zip_there, path_there, form_there, class_names, path_or_root}
use Rattle.sound_infer.proofs.written.Trees.{there_too, bare, same_classes, same_fields}

-- parts of signatures

module _ (new : Program) (Q : PlainProgram) (A : Around) (h : Alike A.tree A.typed new Q) where
  abbrev B : Around
  B = around new Q A

  constraint_there : (written : ConstrTree) (g : Constraint) → ConstraintMeans A written g → ConstraintMeans B written g
  constraint_there written g c = record { left = path_there new Q A h [] written.left g.left c.left; right = path_there new Q A h [] written.right g.right c.right }

  pub constraints_there : (gs : List ConstrTree) (hs : List Constraint) → AllZip (ConstraintMeans A) gs hs → AllZip (ConstraintMeans B) gs hs
  constraints_there = zip_there (ConstraintMeans A) (ConstraintMeans B) constraint_there

  pub formals_there : (fs : List Formal) (ts : List PlainType) → AllZip (λ formal t. TypeMeans A formal.ty t) fs ts → AllZip (λ formal t. TypeMeans B formal.ty t) fs ts
  formals_there = zip_there (λ formal t. TypeMeans A formal.ty t) (λ formal t. TypeMeans B formal.ty t) (λ formal t. form_there new Q A h)

  field_there : (written : Field) (f : PlainField) → FieldMeans A written f → FieldMeans B written f
  field_there written f m = record { ty = form_there new Q A h m.ty; region = path_or_root new Q A h m.region }

  pub fields_there : (ds : List Field) (fs : List PlainField) → AllZip (FieldMeans A) ds fs → AllZip (FieldMeans B) ds fs
  fields_there = zip_there (FieldMeans A) (FieldMeans B) field_there

  pub parent_there : {written : Option Parent} {p : Option PlainParent} → ParentMeans A written p → ParentMeans B written p
  parent_there ParentMeans.no_parent = ParentMeans.no_parent
  parent_there (ParentMeans.a_parent n) = ParentMeans.a_parent (class_names new Q A h n)

  pub result_there : {written : MethodResult} {t : PlainType} → ResultMeans A written t → ResultMeans B written t
  result_there ResultMeans.of_constructor = ResultMeans.of_constructor
  result_there ResultMeans.nothing = ResultMeans.nothing
  result_there (ResultMeans.a_value t) = ResultMeans.a_value (form_there new Q A h t)

  item_there : (access : Access) (written : Item) (e : Effect) → ItemMeans A access written e → ItemMeans B access written e
  item_there access written e i = record { path = path_there new Q A h [] written.rpl e.rpl i.path; is = i.is }

  pub summary_there : {written : Option SummaryTree} {es : List Effect} → SummaryMeans A written es → SummaryMeans B written es
  summary_there SummaryMeans.left_out = SummaryMeans.left_out
  summary_there (SummaryMeans.written {summary = summary} reads writes rs ws same) =
      SummaryMeans.written reads writes (zip_there (ItemMeans A Read) (ItemMeans B Read) (item_there Read) summary.reads reads rs)
      (zip_there (ItemMeans A Write) (ItemMeans B Write) (item_there Write) summary.writes writes ws) same

-- around the formals of a method

module _ (new : Program) (Q : PlainProgram) where
  formals_around : (n : ℕ) (fs : List Formal) (A : Around) → with_formals n fs (around new Q A) ≡ around new Q (with_formals n fs A)
  formals_around n [] A = refl
  formals_around n (f ∷ fs) A = formals_around (suc n) fs (with_local f.name n A)

  formals_alike : (n : ℕ) (fs : List Formal) (A : Around) → Alike A.tree A.typed new Q → Alike (with_formals n fs A).tree (with_formals n fs A).typed new Q
  formals_alike n [] A h = h
  formals_alike n (f ∷ fs) A h = formals_alike (suc n) fs (with_local f.name n A) h

  pub class_around : (tree : Program) (P : PlainProgram) (c : ℕ) (k l : Class) → class_without l ≡ class_without k → in_class new Q c l ≡ around new Q (in_class tree P c k)
  class_around tree P c k l e = ap (in_class new Q c) e

  pub method_around : (tree : Program) (P : PlainProgram) (k l : Class) (own other : OwnMethod) → class_without l ≡ class_without k → bare other ≡ bare own →
      in_method new Q l other ≡ around new Q (in_method tree P k own)
  method_around tree P k l own other e f =
      ap (in_method new Q l) f ∙ ap (λ class. in_method new Q class own) e
      ∙ formals_around 1 own.method.formals (record (in_class tree P own.class k) { params = param_names k.params ++ param_names own.method.params })

  pub method_alike : (tree : Program) (P : PlainProgram) (k : Class) (own : OwnMethod) → Alike tree P new Q → Alike (in_method tree P k own).tree (in_method tree P k own).typed new Q
  method_alike tree P k own h = formals_alike 1 own.method.formals (record (in_class tree P own.class k) { params = param_names k.params ++ param_names own.method.params }) h

module _ (tree new : Program) (same : tree_without new ≡ tree_without tree) (P : PlainProgram) (S : Keeping) where
  abbrev Q : PlainProgram
  Q = with_members P (members_inferred S P)

  pub member_there : Alike tree P new Q → (own other : OwnMethod) (m : PlainMember) (k : PlainClass) (ks : List Kept) (g : MemberMeans tree P own m) → bare other ≡ bare own →
      SummaryMeans (in_method tree P g.class own) other.method.summary (summary_kept ks m.summary) → MemberMeans new Q other (member_inferred S P k ks m)
  member_there likes own other m k ks g e says =
      let A = in_method tree P g.class own in
      let h = method_alike new Q tree P g.class own likes in
      let w = there_too class_without tree.classes new.classes own.class g.class (sym (same_classes tree new same)) g.stands in
      let at : around new Q A ≡ in_method new Q w.0 other = sym (method_around new Q tree P g.class w.0 own other w.2 e) in
      let f : bare own ≡ bare other = sym e in
      let L = body_scope k (λ x. false) 0 m in
      record {
        class = w.0;
        stands = ap (λ (o : OwnMethod). slice_get new.classes o.class) e ∙ w.1;
        of_class = g.of_class ∙ ap (λ (o : OwnMethod). o.class) f;
        params = g.params ∙ ap (λ (o : OwnMethod). atomic_params o.method.params) f;
        given = subst (λ X. AllZip (ConstraintMeans X) other.method.params.given m.given) at
            (subst (λ (o : OwnMethod). AllZip (ConstraintMeans (around new Q A)) o.method.params.given m.given) f (constraints_there new Q A h own.method.params.given m.given g.given));
        formals = subst (λ X. AllZip (λ formal t. TypeMeans X formal.ty t) other.method.formals m.formals) at
            (subst (λ (o : OwnMethod). AllZip (λ formal t. TypeMeans (around new Q A) formal.ty t) o.method.formals m.formals) f (formals_there new Q A h own.method.formals m.formals g.formals));
        result = subst (λ X. ResultMeans X other.method.result m.result) at (subst (λ (o : OwnMethod). ResultMeans (around new Q A) o.method.result m.result) f (result_there new Q A h (MemberMeans.result g)));
        summary = subst (λ X. SummaryMeans X other.method.summary (summary_kept ks m.summary)) at (summary_there new Q A h says);
        body = subst (λ X. AllMean X (plain_stmts (map plain_stmt other.method.body)) (member_inferred S P k ks m).body) at
            (subst (λ (o : OwnMethod). AllMean (around new Q A) (plain_stmts (map plain_stmt o.method.body)) (member_inferred S P k ks m).body) f (all_there new Q (program_kept S P) g.body h L));
        slots = subst (Counts (suc (length m.formals)) m.slots) (sym (same_slots (program_kept S P) L m.body)) g.slots;
        regions = subst (Counts 0 m.local_regions) (sym (same_local_regions (program_kept S P) L m.body)) g.regions;
      }

  constructor_there : (c : ℕ) (o : Option ℕ) → ConstructorMeans tree c o → ConstructorMeans new c o
  constructor_there c None h = λ n d. h n (declares_constructor new tree (sym same) c n d)
  constructor_there c (Some n) h = declares_constructor tree new same c n h

  pub class_there : Alike tree P new Q → (c : ℕ) (class other : Class) (k : PlainClass) → class_without other ≡ class_without class → ClassMeans tree P c class k → ClassMeans new Q c other k
  class_there likes c class other k e g =
      let A = in_class tree P c class in
      let at : around new Q A ≡ in_class new Q c other = sym (class_around new Q tree P c class other e) in
      let f : class_without class ≡ class_without other = sym e in
      record {
        params = g.params ∙ ap (λ (x : Class). atomic_params x.params) f;
        given = subst (λ X. AllZip (ConstraintMeans X) other.params.given k.given) at
            (subst (λ (x : Class). AllZip (ConstraintMeans (around new Q A)) x.params.given k.given) f (constraints_there new Q A likes class.params.given k.given g.given));
        parent = subst (λ X. ParentMeans X other.parent k.parent) at (subst (λ (x : Class). ParentMeans (around new Q A) x.parent k.parent) f (parent_there new Q A likes g.parent));
        above = g.above;
        own = g.own;
        fields = g.fields;
        inherited = g.inherited;
        declared = subst (λ X. AllZip (FieldMeans X) (own_fields other) g.own) at
            (subst (λ fs. AllZip (FieldMeans (around new Q A)) fs g.own) (same_fields class other f) (fields_there new Q A likes (own_fields class) g.own g.declared));
        rows = g.rows ∙ sym (same_rows tree new same c (rows_above P k.parent));
        constructor = constructor_there c k.constructor g.constructor;
      }

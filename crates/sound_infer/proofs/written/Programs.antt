-- What a tree with other summaries means, which say what is kept; and that it is accepted.
use Rattle.std.proofs.Common.{◌≡◌, ◌∙◌, ℕ, zero, suc, ◌<◌, List, [], ◌∷◌, length, map, slice_get, Some, refl, ap, sym, subst, arith}
use Rattle.std.proofs.lemmas.List.{length-map}
use Rattle.std.proofs.lemmas.Option.{same_Some, slice_get_within}
use Rattle.syntax_tree.specs.declared.class.Class.{Class}
use Rattle.syntax_tree.specs.declared.class.Program.{Program}
use Rattle.lang_typed.specs.Plain.{PlainProgram, PlainClass, PlainMember}
use Rattle.lang_typed.specs.Scope.{class_at, member_at}
use Rattle.syntax_means.specs.Accepts.{Accepts, HasTree}
use Rattle.syntax_means.specs.Declares.{OwnMethod, all_methods}
use Rattle.syntax_means.specs.Means.{ClassMeans, Means, MemberMeans, in_method, param_names}
use Rattle.syntax_means.specs.Unambiguous.{IsUnambiguous}
use Rattle.body_infer.specs.Kept.{Keeping, SaysOfEach, members_kept, program_kept}
use Rattle.body_infer.specs.PostFixpoint.{IsPostFixpoint}
use Rattle.body_infer.proofs.Passing.{said_at}
use Rattle.sound_infer.specs.Laws.{member_entered, program_inferred}
use Rattle.sound_infer.specs.Written.{SaysWhatIsKept, class_without, tree_without}
use Rattle.sound_infer.proofs.Kept.{members_inferred, inferred_from, inferred_is, member_inferred}
use Rattle.sound_infer.proofs.Tables.{with_members}
use Rattle.sound_infer.proofs.WellTyped.{kept_well_typed}
use Rattle.sound_infer.proofs.written.Declared.{Alike, alike, class_named, declares_constructor, declares_method, field_back, region_declared}
use Rattle.sound_infer.proofs.written.Members.{class_there, member_there, method_around}
use Rattle.sound_infer.proofs.written.Trees.{as_many_classes, as_many_methods, bare, same_classes, same_method_name, same_methods, same_nd, same_regions, there_too}

pub found : {A : Type 0} (xs : List A) (i : ℕ) → i < length xs → (x : A) × (slice_get xs i ≡ Some x)
found [] i l = absurd (omega (arith, l))
found (x ∷ xs) zero l = (x, refl)
found (x ∷ xs) (suc i) l = found xs i (omega (arith, l))

kept_long : (S : Keeping) (ms : List PlainMember) → map length S ≡ map (λ m. length m.summary) ms → length (members_kept S ms) ≡ length ms
kept_long [] [] e = refl
kept_long [] (m ∷ ms) e = cc
kept_long (ks ∷ S) [] e = cc
kept_long (ks ∷ S) (m ∷ ms) e =
    let rest : map length S ≡ map (λ m. length m.summary) ms = cc in
    ap suc (kept_long S ms rest)

-- the class of a member, and the method that it is made of
pub class_of : (tree : Program) (P : PlainProgram) → Means tree P → (own : OwnMethod) (m : PlainMember) → MemberMeans tree P own m → (k : PlainClass) × (class_at P m.class ≡ Some k)
class_of tree P means own m g =
    let there : own.class < length tree.classes = slice_get_within tree.classes own.class g.class g.stands in
    let many : length P.classes ≡ length tree.classes = means.as_many_classes in
    let w = found P.classes own.class (omega (arith, there, many)) in
    (w.0, ap (class_at P) g.of_class ∙ w.1)

pub method_of : (tree : Program) (P : PlainProgram) → Means tree P → (n : ℕ) (m : PlainMember) → member_at P n ≡ Some m → (own : OwnMethod) × (slice_get (all_methods tree) n ≡ Some own)
method_of tree P means n m is =
    let there : n < length P.members = slice_get_within P.members n m is in
    let many : length P.members ≡ length (all_methods tree) = means.as_many_members in
    found (all_methods tree) n (omega (arith, there, many))

module _ (tree new : Program) (P : PlainProgram) (S : Keeping) (says : SaysOfEach P S) (kept : SaysWhatIsKept tree new P S) (means : Means tree P) where
  abbrev Q : PlainProgram
  Q = with_members P (members_inferred S P)

  same : tree_without new ≡ tree_without tree
  same = kept.same

  likes : Alike tree P new Q
  likes = alike tree new same P (members_inferred S P) (λ n m is.
      let w = said_at S P.members n m says is in
      let own = method_of tree P means n m is in
      let k = class_of tree P means own.0 m (means.members n own.0 m own.1 is) in
      (member_inferred S P k.0 w.0 m, inferred_is P S n m k.0 w.0 is k.1 w.1, refl))

  classes_there : (c : ℕ) (other : Class) (k : PlainClass) → slice_get new.classes c ≡ Some other → class_at Q c ≡ Some k → ClassMeans new Q c other k
  classes_there c other k at is =
      let w = there_too class_without new.classes tree.classes c other (same_classes tree new same) at in
      class_there tree new same P S likes c w.0 other k (sym w.2) (means.classes c w.0 k w.1 is)

  members_there : (n : ℕ) (other : OwnMethod) (q : PlainMember) → slice_get (all_methods new) n ≡ Some other → member_at Q n ≡ Some q → MemberMeans new Q other q
  members_there n other q at is =
      let o = inferred_from P S n q is in
      let w = there_too bare (all_methods new) (all_methods tree) n other (same_methods tree new same) at in
      let s = said_at S P.members n o.0 says o.1 in
      let g = means.members n w.0 o.0 w.1 o.1 in
      let k = class_of tree P means w.0 o.0 g in
      let there : member_inferred S P k.0 s.0 o.0 ≡ q = same_Some (member_inferred S P k.0 s.0 o.0) q (sym (inferred_is P S n o.0 k.0 s.0 o.1 k.1 s.1) ∙ is) in
      subst (MemberMeans new Q other) there
      (member_there tree new same P S likes w.0 other o.0 k.0 s.0 g (sym w.2) (kept.says n w.0 other g.class o.0 s.0 w.1 at g.stands o.1 s.1))

  many_members : length (members_inferred S P) ≡ length (all_methods new)
  many_members =
      length-map (members_kept S P.members) (λ m. member_entered (program_kept S P) (class_at P m.class) m) ∙ kept_long S P.members says ∙ means.as_many_members
      ∙ sym (as_many_methods tree new same)

  pub kept_means : Means new (program_inferred S P)
  kept_means = record {
    as_many_classes = means.as_many_classes ∙ sym (as_many_classes tree new same);
    classes = classes_there;
    as_many_members = many_members;
    members = members_there;
    region_names = means.region_names ∙ ap (map (λ region. region.is_atomic)) (sym (same_regions tree new same));
    main_name = means.main_name;
    main_class = class_named tree new same means.main_name P.main_class means.main_class;
    main_spelled = likes.spells means.main_name ∙ means.main_spelled;
    entry_name = means.entry_name;
    main_member = same_method_name tree new same P.main_member ∙ means.main_member;
    entry_spelled = likes.spells means.entry_name ∙ means.entry_spelled;
    uses_nd = means.uses_nd ∙ sym (same_nd tree new same);
  }

  back : tree_without tree ≡ tree_without new
  back = sym same

  pub kept_unambiguous : IsUnambiguous tree P → IsUnambiguous new (program_inferred S P)
  kept_unambiguous u = record {
    classes = λ name c d a b. u.classes name c d (class_named new tree back name c a) (class_named new tree back name d b);
    regions = λ name c m n a b. u.regions name c m n (region_declared new tree back name c m a) (region_declared new tree back name c n b);
    fields = λ name c j k a b. u.fields name c j k (field_back new tree back P (members_inferred S P) name c j a) (field_back new tree back P (members_inferred S P) name c k b);
    methods = λ name c m n a b. u.methods name c m n (declares_method new tree back name c m a) (declares_method new tree back name c n b);
    constructors = λ c m n a b. u.constructors c m n (declares_constructor new tree back c m a) (declares_constructor new tree back c n b);
    params = λ n p q name own class at stands a b.
        let w = there_too bare (all_methods new) (all_methods tree) n own (same_methods tree new same) at in
        let k = there_too class_without new.classes tree.classes own.class class (same_classes tree new same) stands in
        let names : (in_method new Q class own).params ≡ (in_method tree P k.0 w.0).params =
        ap (λ X. X.params) (method_around new Q tree P k.0 class w.0 own (sym k.2) (sym w.2)) in
        let of : w.0.class ≡ own.class = ap (λ (o : OwnMethod). o.class) w.2 in
        u.params n p q name w.0 k.0 w.1 (ap (slice_get tree.classes) of ∙ k.1) (ap (λ ns. slice_get ns p) (sym names) ∙ a) (ap (λ ns. slice_get ns q) (sym names) ∙ b);
    class_params = λ c p q name class at a b.
        let k = there_too class_without new.classes tree.classes c class (same_classes tree new same) at in
        let names : param_names k.0.params ≡ param_names class.params = ap (λ (x : Class). param_names x.params) k.2 in
        u.class_params c p q name k.0 k.1 (ap (λ ns. slice_get ns p) names ∙ a) (ap (λ ns. slice_get ns q) names ∙ b);
  }

pub kept_is_accepted : (text other : List ℕ) (tree new : Program) (P : PlainProgram) (S : Keeping) → SaysOfEach P S → IsPostFixpoint P S → SaysWhatIsKept tree new P S →
    Accepts text tree P → HasTree other new → Accepts other new (program_inferred S P)
kept_is_accepted text other tree new P S says post_fixpoint kept a has = record {
  has_tree = has;
  means = kept_means tree new P S says kept a.means;
  well_typed = kept_well_typed P S a.well_typed says post_fixpoint;
  unambiguous = kept_unambiguous tree new P S says kept a.means a.unambiguous;
}

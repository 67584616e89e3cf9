-- A method or a constructor of a tree means one signature, and bodies that are alike.
use Rattle.std.proofs.Common.{◌≡◌, ◌∙◌, ℕ, zero, suc, List, [], ◌∷◌, ◌++◌, length, map, Option, Some, refl, ap, sym, subst, arith}
use Rattle.std.proofs.lemmas.Option.{slice_get_within}
use Rattle.std.specs.List.{AllZip}
use Rattle.std.specs.Prelude.{slice_get}
use Rattle.lang_base.specs.Types.{PlainType}
use Rattle.syntax_tree.specs.declared.class.Class.{Class}
use Rattle.syntax_tree.specs.declared.class.Formal.{Formal}
use Rattle.syntax_tree.specs.declared.class.MethodResult.{MethodResult}
use Rattle.syntax_tree.specs.declared.class.Program.{Program}
use Rattle.syntax_tree.specs.Plain.{plain_stmt, plain_stmts}
use Rattle.lang_typed.specs.Plain.{PlainProgram, PlainClass, PlainMember}
use Rattle.lang_typed.specs.Scope.{Local, class_at, member_at}
use Rattle.lang_typed.specs.Table.{body_scope, first_locals}
use Rattle.lang_typed.specs.WellTyped.{WellTyped}
use Rattle.syntax_means.specs.Bodies.{AllMean, with_local}
use Rattle.syntax_means.specs.Declares.{OwnMethod, all_methods}
use Rattle.syntax_means.specs.Means.{ConstraintMeans, Means, MemberMeans, ResultMeans, in_method, param_names, with_formals}
use Rattle.syntax_means.specs.Numbered.{Counts, given_in_all, own_regions, own_slots}
use Rattle.syntax_means.specs.Paths.{Around, TypeMeans}
use Rattle.syntax_means.specs.Unambiguous.{IsUnambiguous}
use Rattle.syntax_means.proofs.Alike.{MemberAlike, StmtsAlike}
use Rattle.syntax_means.proofs.unique.Agreed.{Agreed}
use Rattle.syntax_means.proofs.unique.Apart.{IsApart}
use Rattle.syntax_means.proofs.unique.Classes.{classes_same, constraint_one, same_classes}
use Rattle.syntax_means.proofs.unique.Counting.{CountedAll, one_end, regions_same, slots_same}
use Rattle.syntax_means.proofs.unique.Lists.{both_some, there, zip_one}
use Rattle.syntax_means.proofs.unique.Paths.{OneNumber, SameClasses, type_one}
use Rattle.syntax_means.proofs.unique.Rows.{above_once, rows_once}
use Rattle.syntax_means.proofs.unique.Scopes.{LocalAlike, ScopesAlike}
use Rattle.syntax_means.proofs.unique.Statements.{all_one}

-- the formals around a body, with their slots
abbrev noted : ℕ → List Formal → List (ℕ × ℕ) → List (ℕ × ℕ)
noted x [] locals = locals
noted x (formal ∷ formals) locals = noted (suc x) formals ((formal.name, x) ∷ locals)

formals_around : (x : ℕ) (formals : List Formal) (A : Around) → with_formals x formals A ≡ record A { locals = noted x formals A.locals }
formals_around x [] A = refl
formals_around x (formal ∷ formals) A = formals_around (suc x) formals (with_local formal.name x A)

abbrev around_member : Program → PlainProgram → Class → OwnMethod → Around
around_member tree P class own = record {
  tree = tree;
  typed = P;
  class = own.class;
  params = param_names class.params ++ param_names own.method.params;
  locals = noted 1 own.method.formals [];
  regions = [];
}

around_is : (tree : Program) (P : PlainProgram) (class : Class) (own : OwnMethod) → in_method tree P class own ≡ around_member tree P class own
around_is tree P class own =
    formals_around 1 own.method.formals (record { tree = tree; typed = P; class = own.class; params = param_names class.params ++ param_names own.method.params; locals = []; regions = [] })

-- what a member of a class means, but for its summary
record Meant (A : Around) (own : OwnMethod) (m : PlainMember) : Type 0 where
  given : AllZip (ConstraintMeans A) own.method.params.given m.given
  formals : AllZip (λ formal t. TypeMeans A formal.ty t) own.method.formals m.formals
  result : ResultMeans A own.method.result m.result
  body : AllMean A (plain_stmts (map plain_stmt own.method.body)) m.body

meant : (tree : Program) (P : PlainProgram) (own : OwnMethod) (m : PlainMember) → (w : MemberMeans tree P own m) → (class : Class) → slice_get tree.classes own.class ≡ Some class → Meant (around_member tree P class own) own m
meant tree P own m w class stands =
    let same : w.class ≡ class = both_some w.stands stands in
    let here : Meant (in_method tree P w.class own) own m = record { given = w.given; formals = w.formals; result = w.result; body = w.body } in
    subst (λ (A : Around). Meant A own m) (ap (λ (c : Class). in_method tree P c own) same ∙ around_is tree P class own) here

module _ (A : Around) (Q : PlainProgram) (same : SameClasses A.typed Q) (one : OneNumber A.tree A.params)
  where
    result_one : (written : MethodResult) (t u : PlainType) → ResultMeans A written t → ResultMeans (record A { typed = Q }) written u → t ≡ u
    result_one written t u ResultMeans.of_constructor ResultMeans.of_constructor = refl
    result_one written t u ResultMeans.nothing ResultMeans.nothing = refl
    result_one written t u (ResultMeans.a_value {kind = kind} m) (ResultMeans.a_value n) = type_one A Q same one kind t u m n

-- at the begin of a body the same locals are in scope
first_same : {j k : PlainClass} (m n : PlainMember) → j ≡ k → m.class ≡ n.class → m.formals ≡ n.formals → (x : ℕ) → first_locals j m x ≡ first_locals k n x
first_same {j} {k} m n class number formals zero =
    ap (λ (z : PlainClass). first_locals z m zero) class ∙ ap (λ z. first_locals k (record m { class = z }) zero) number
first_same {j} {k} m n class number formals (suc x) = ap (λ z. first_locals k (record m { formals = z }) (suc x)) formals

alike_locals : {o p : Option Local} → o ≡ p → LocalAlike o p
alike_locals {o} e = subst (LocalAlike o) e LocalAlike.same

module _ (tree : Program) (P Q : PlainProgram) (clear : IsUnambiguous tree P) (apart : IsApart tree) (m : Means tree P) (n : Means tree Q) (typed : WellTyped P) (other : WellTyped Q)
  where
    same : SameClasses P Q
    same = same_classes tree P Q clear apart m n

    classes : P.classes ≡ Q.classes
    classes = classes_same tree P Q clear apart m n typed other

    pub own_there : (i : ℕ) (x : PlainMember) → member_at P i ≡ Some x → (own : OwnMethod) × (slice_get (all_methods tree) i ≡ Some own)
    own_there i x e =
        let within = slice_get_within P.members i x e in
        let long = m.as_many_members in
        there (all_methods tree) i (omega (arith, within, long))

    -- the names of region parameters around a member
    names_in : (i : ℕ) (own : OwnMethod) (class : Class) → slice_get (all_methods tree) i ≡ Some own → slice_get tree.classes own.class ≡ Some class →
        OneNumber tree (param_names class.params ++ param_names own.method.params)
    names_in i own class o c =
        let is = ap (λ (A : Around). A.params) (around_is tree P class own) in
        record {
          classes = clear.classes;
          regions = clear.regions;
          params = λ p q name e d. clear.params i p q name own class o c (ap (λ z. slice_get z p) is ∙ e) (ap (λ z. slice_get z q) is ∙ d);
        }

    -- two members of a number, with what they mean around one place
    record Both (i : ℕ) (x y : PlainMember) : Type 0 where
      own : OwnMethod
      class : Class
      names : OneNumber tree (param_names class.params ++ param_names own.method.params)
      of_class : x.class ≡ y.class
      params : x.params ≡ y.params
      first : Meant (around_member tree P class own) own x
      second : Meant (around_member tree Q class own) own y
      first_whole : MemberMeans tree P own x
      second_whole : MemberMeans tree Q own y

    both : (i : ℕ) (x y : PlainMember) → member_at P i ≡ Some x → member_at Q i ≡ Some y → Both i x y
    both i x y e d =
        let w = own_there i x e in
        let own = w.0 in
        let v = m.members i own x w.1 e in
        let u = n.members i own y w.1 d in
        record {
          own = own;
          class = v.class;
          names = names_in i own v.class w.1 v.stands;
          of_class = v.of_class ∙ sym u.of_class;
          params = v.params ∙ sym u.params;
          first = meant tree P own x v v.class v.stands;
          second = meant tree Q own y u v.class v.stands;
          first_whole = v;
          second_whole = u;
        }

    module _ {i : ℕ} {x y : PlainMember} (b : Both i x y)
      where
        given_same : x.given ≡ y.given
        given_same = zip_one (ConstraintMeans (around_member tree P b.class b.own)) (ConstraintMeans (around_member tree Q b.class b.own))
            (constraint_one (around_member tree P b.class b.own) Q same b.names) b.own.method.params.given x.given y.given b.first.given b.second.given

        formals_same : x.formals ≡ y.formals
        formals_same = zip_one (λ formal t. TypeMeans (around_member tree P b.class b.own) formal.ty t) (λ formal t. TypeMeans (around_member tree Q b.class b.own) formal.ty t)
            (λ formal t u. type_one (around_member tree P b.class b.own) Q same b.names formal.ty t u) b.own.method.formals x.formals y.formals b.first.formals b.second.formals

        result_same : x.result ≡ y.result
        result_same = result_one (around_member tree P b.class b.own) Q same b.names b.own.method.result x.result y.result b.first.result b.second.result

    pub agreed : Agreed tree P Q
    agreed = record {
      classes = classes;
      same = same;
      signatures = λ i x y e d. (let b = both i x y e d in record { class = b.of_class; params = b.params; result = result_same b });
      fields = clear.fields;
      above = above_once P typed;
      rows = rows_once tree P m typed;
    }

    counted : (R : PlainProgram) (own : OwnMethod) (x : PlainMember) → MemberMeans tree R own x → CountedAll (suc (length x.formals)) 0 x.body
    counted R own x w = record { slots_end = x.slots; regions_end = x.local_regions; of_slots = w.slots; of_regions = w.regions }

    bodies_alike : (i : ℕ) (x y : PlainMember) → member_at P i ≡ Some x → member_at Q i ≡ Some y → StmtsAlike x.body y.body
    bodies_alike i x y e d =
        let b = both i x y e d in
        let g = typed.members i x e in
        let h = other.members i y d in
        let class : g.class ≡ h.class = both_some (sym (ap (λ z. slice_get z x.class) classes) ∙ g.is) (ap (class_at Q) b.of_class ∙ h.is) in
        let formals = formals_same b in
        let seen : ScopesAlike (body_scope g.class typed.member_nd_free i x) (body_scope h.class other.member_nd_free i y) = record { local = λ z. alike_locals (first_same x y class b.of_class formals z) } in
        let second = subst (λ z. CountedAll (suc (length z)) 0 y.body) (sym formals) (counted Q b.own y b.second_whole) in
        all_one {A = around_member tree P b.class b.own} agreed b.names seen b.first.body b.second.body g.passes h.passes (counted P b.own x b.first_whole) second

    pub member_alike : (i : ℕ) (x y : PlainMember) → member_at P i ≡ Some x → member_at Q i ≡ Some y → MemberAlike x y
    member_alike i x y e d =
        let b = both i x y e d in
        let alike = bodies_alike i x y e d in
        let formals = formals_same b in
        let slots = subst (Counts (suc (length x.formals)) x.slots) (slots_same alike) b.first_whole.slots in
        let slots_of = subst (λ z. Counts (suc (length z)) y.slots (given_in_all own_slots y.body)) (sym formals) b.second_whole.slots in
        let regions = subst (Counts 0 x.local_regions) (regions_same alike) b.first_whole.regions in
        record {
          class = b.of_class;
          params = b.params;
          given = given_same b;
          formals = formals;
          result = result_same b;
          slots = one_end (given_in_all own_slots y.body) (suc (length x.formals)) x.slots y.slots slots slots_of;
          local_regions = one_end (given_in_all own_regions y.body) 0 x.local_regions y.local_regions regions b.second_whole.regions;
          body = alike;
        }

-- What the other small tree means.
use Rattle.std.proofs.Common.{◌≡◌, ℕ, true, false, List, [], ◌∷◌, Option, Some, None, refl, sym, subst, arith, rules, slice_get}
use Rattle.lang_base.specs.declared.effect.Access.{Access}
use Rattle.lang_base.specs.declared.effect.Access.TheVariants.{Read, Write}
use Rattle.lang_base.specs.declared.region.Rpl.{Rpl}
use Rattle.lang_base.specs.Types.{PlainType as ty}
use Rattle.syntax_tree.specs.declared.class.MethodResult.TheVariants as outcome
use Rattle.syntax_tree.specs.declared.expr.ExprKind.{the_lemmas as expr_lemmas}
use Rattle.syntax_tree.specs.declared.region.BaseTree.TheVariants as base
use Rattle.syntax_tree.specs.declared.region.Named.{Named}
use Rattle.syntax_tree.specs.declared.stmt.StmtKind.{the_lemmas}
use Rattle.syntax_tree.specs.Nd.{program_uses_nd}
use Rattle.syntax_tree.specs.Plain.{PlainStmt, more_stmts, no_stmts}
use Rattle.lang_typed.specs.Plain.{TypedStmt}
use Rattle.lang_typed.specs.Plain as made
use Rattle.syntax_means.specs.Bodies.{AllMean, BranchesMean, ExprMeans, ExprsMean, PartMeans, SourceMeans, StmtMeans}
use Rattle.syntax_means.specs.Declares.{DeclaresField, OwnMethod, all_methods, all_regions, its_own}
use Rattle.syntax_means.specs.Means.{ClassMeans, FieldMeans, ItemMeans, MemberMeans, Means, SummaryMeans, ParentMeans, ResultMeans, in_class, in_method}
use Rattle.syntax_means.specs.Paths.{beside, ArgsMean, ArraysMean, Around, BaseMeans, FormMeans, HeadMeans, PathMeans, PathOrRoot, RegionMeans, TypeMeans}
use Rattle.trial_samples.specs.trees.Cells.{name_at, path, plain_kind, int_field, int_in, below_param, anything}
use Rattle.trial_samples.specs.trees.Nodes.{tree, node_tree, main_tree, main_method, makes_node, big, wipe, item, writes_p, ints_in, other_right, other_program, node_made, main_made, member_made, constructor_made, big_made, wipe_made, main_does, effect, at_param, in_region, ints_at}
use Rattle.trial_samples.proofs.trees.Each.{nothing_there, each_of, both_of}
use Rattle.trial_samples.proofs.trees.NodeBodies.{constructor_is, big_is, wipe_is, other_is, other_plain}

abbrev pub own_constructor : OwnMethod
own_constructor = record { class = 0; method = makes_node }

abbrev pub own_big : OwnMethod
own_big = record { class = 0; method = big }

abbrev pub own_wipe : OwnMethod
own_wipe = record { class = 0; method = wipe }

abbrev pub own_main : OwnMethod
own_main = record { class = 1; method = main_method }

abbrev in_node : Around
in_node = in_class tree (other_program other_right) 0 node_tree

abbrev in_big : Around
in_big = in_method tree (other_program other_right) node_tree own_big

abbrev in_main : Around
in_main = in_method tree (other_program other_right) main_tree own_main

an_int : {A : Around} {outside : List (Option Named)} → FormMeans A outside base.Int [] ty.int
an_int = record { inside = ty.int; begins = BaseMeans.an_int; arrays = ArraysMean.no_suffix }

-- the path of a parameter
at_its : {A : Around} {indices : List (Option Named)} (name p : ℕ) → slice_get A.params p ≡ Some name → PathMeans A indices (path name []) (at_param p)
at_its name p e = record { start = at_param p; begins = HeadMeans.at_param (refl, e); elems = []; goes_on = tt; is = refl }

its_item : {A : Around} (access : Access) (name p : ℕ) → slice_get A.params p ≡ Some name → ItemMeans A access (item name) (effect access p)
its_item access name p e = record { path = at_its name p e; is = refl }

writes_means : {A : Around} → slice_get A.params 0 ≡ Some 1 → SummaryMeans A (Some writes_p) (effect Write 0 ∷ [])
writes_means e = SummaryMeans.written [] (effect Write 0 ∷ []) tt (its_item Write 1 0 e, tt) (λ e. ((λ h. h), (λ h. h)))

field_means : (name : ℕ) → FieldMeans in_node (int_field name (path 1 [])) (int_in (below_param []))
field_means name = record { ty = an_int; region = PathOrRoot.written (at_its 1 0 refl) }

-- arrays of ints in a region that is written
ints_mean : {A : Around} {name : ℕ} {a : Rpl} → PathMeans A (None ∷ []) (path name []) a → TypeMeans A (ints_in name) (ints_at a)
ints_mean h = record { inside = ty.int; begins = BaseMeans.an_int; arrays = ArraysMean.one_suffix (PathOrRoot.written h) ArraysMean.no_suffix }

node_means : ClassMeans tree (other_program other_right) 0 node_tree (node_made other_right)
node_means = record {
  params = refl;
  given = tt;
  parent = ParentMeans.no_parent;
  above = [];
  own = int_in (below_param []) ∷ int_in (below_param []) ∷ [];
  fields = refl;
  inherited = refl;
  declared = (field_means 3, (field_means 4, tt));
  rows = refl;
  constructor = (makes_node, refl, refl);
}

main_class_means : ClassMeans tree (other_program other_right) 1 main_tree main_made
main_class_means = record {
  params = refl;
  given = tt;
  parent = ParentMeans.no_parent;
  above = [];
  own = [];
  fields = refl;
  inherited = refl;
  declared = tt;
  rows = refl;
  constructor = λ n (method, is, made).
      each_of (λ k own. own.class ≡ 1 → own.method.result ≡ outcome.Constructor → ⊥) (all_methods tree)
      ((λ e f. absurd (omega arith)), ((λ e f. absurd (omega arith)), ((λ e f. absurd (omega arith)), ((λ e f. absurd (cc)), tt)))) n (record { class = 1; method = method }) is refl made;
}

-- the fields v and length
v_own : DeclaresField tree (other_program other_right) 3 0 0
v_own = (node_tree, int_field 3 (path 1 []), 0, refl, refl, refl, refl)

length_own : DeclaresField tree (other_program other_right) 4 0 1
length_own = (node_tree, int_field 4 (path 1 []), 1, refl, refl, refl, refl)

one : {A : Around} {d : PlainStmt} {s : TypedStmt} → StmtMeans A d s → AllMean A (more_stmts d no_stmts) (made.more_stmts s made.no_stmts)
one h = AllMean.more_stmts h AllMean.no_stmts

constructor_means : MemberMeans tree (other_program other_right) own_constructor constructor_made
constructor_means = record {
  class = node_tree;
  stands = refl;
  of_class = refl;
  params = refl;
  given = tt;
  formals = (an_int, tt);
  result = ResultMeans.of_constructor;
  summary = writes_means refl;
  body = subst (λ z. AllMean (in_method tree (other_program other_right) node_tree own_constructor) z constructor_made.body) (sym constructor_is)
      (one (StmtMeans.to_field ExprMeans.itself (its_own v_own) (ExprMeans.a_local refl)));
  slots = refl;
  regions = refl;
}

big_means : MemberMeans tree (other_program other_right) own_big big_made
big_means = record {
  class = node_tree;
  stands = refl;
  of_class = refl;
  params = refl;
  given = tt;
  formals = (ints_mean (at_its 6 1 refl), (an_int, tt));
  result = ResultMeans.a_value (record { inside = ty.boolean; begins = BaseMeans.a_boolean; arrays = ArraysMean.no_suffix });
  summary = SummaryMeans.written (effect Read 0 ∷ effect Read 1 ∷ []) [] (its_item Read 1 0 refl, (its_item Read 6 1 refl, tt)) tt (λ e. ((λ h. h), (λ h. h)));
  body = subst (λ z. AllMean in_big z big_made.body) (sym big_is)
      (one (StmtMeans.a_return_value (ExprMeans.disjunction
      (ExprMeans.two_operands (ExprMeans.two_operands (ExprMeans.a_field ExprMeans.itself (its_own v_own)) (ExprMeans.an_element (ExprMeans.a_local refl) (ExprMeans.a_local refl)))
      (ExprMeans.array_length (ExprMeans.a_local refl) refl))
      (ExprMeans.one_operand ExprMeans.a_boolean))));
  slots = refl;
  regions = refl;
}

wipe_means : MemberMeans tree (other_program other_right) own_wipe wipe_made
wipe_means = record {
  class = node_tree;
  stands = refl;
  of_class = refl;
  params = refl;
  given = tt;
  formals = tt;
  result = ResultMeans.nothing;
  summary = writes_means refl;
  body = subst (λ z. AllMean (in_method tree (other_program other_right) node_tree own_wipe) z wipe_made.body) (sym wipe_is)
      (AllMean.more_stmts (StmtMeans.to_field ExprMeans.itself (its_own v_own) ExprMeans.an_int) (one StmtMeans.a_return));
  slots = refl;
  regions = refl;
}

-- the regions A and U in `main`
in_region_means : {A : Around} {indices : List (Option Named)} (name n : ℕ) → A.params ≡ [] → A.regions ≡ [] → A.class ≡ 1 → A.tree ≡ tree →
    slice_get (all_regions tree) n ≡ Some (record { class = 1; name = name; is_atomic = false }) → PathMeans A indices (path name []) (in_region n)
in_region_means {A = A} name n o l c t e = record {
  start = in_region n;
  begins = HeadMeans.at_region (λ p h. nothing_there name (subst (λ z. slice_get z p ≡ Some name) o h.1)) (λ r h. nothing_there r (subst (λ z. beside z name ≡ Some r) l h.1))
      (RegionMeans.in_class refl (its_own (
        false,
        subst (λ k. slice_get (all_regions A.tree) n ≡ Some (record { class = k; name = name; is_atomic = false })) (sym c)
            (subst (λ z. slice_get (all_regions z) n ≡ Some (record { class = 1; name = name; is_atomic = false })) (sym t) e),
      )));
  elems = [];
  goes_on = tt;
  is = refl;
}

a_node : TypeMeans in_main (plain_kind (base.Class (name_at 0) (path 12 [] ∷ []))) (ty.class 0 (in_region 1 ∷ []))
a_node = record {
  inside = ty.class 0 (in_region 1 ∷ []);
  begins = BaseMeans.a_class (record { class = node_made other_right; named = (node_tree, refl, refl); is = refl; given = ArgsMean.all_written (in_region_means 12 1 refl refl refl refl refl, tt) });
  arrays = ArraysMean.no_suffix;
}

other_means : AllMean in_main other_plain (main_does other_right)
other_means =
    AllMean.a_declaration a_node
    (ExprMeans.a_creation (record { class = node_made other_right; named = (node_tree, refl, refl); is = refl; given = ArgsMean.all_written (in_region_means 12 1 refl refl refl refl refl, tt) })
    (ExprsMean.more_exprs (ExprMeans.a_local refl) ExprsMean.no_exprs))
    (AllMean.a_declaration (ints_mean (in_region_means 13 2 refl refl refl refl refl))
    (ExprMeans.an_array an_int (PathOrRoot.written (in_region_means 13 2 refl refl refl refl refl)) refl ExprMeans.an_int)
    (AllMean.more_stmts (StmtMeans.a_choice_else
    (ExprMeans.a_call (ExprMeans.a_local refl) refl refl refl (ArgsMean.all_written (in_region_means 13 2 refl refl refl refl refl, tt))
    (ExprsMean.more_exprs (ExprMeans.a_local refl) (ExprsMean.more_exprs ExprMeans.an_int ExprsMean.no_exprs)))
    (PartMeans.a_part (one (StmtMeans.performed (ExprMeans.a_call (ExprMeans.a_local refl) refl refl refl (ArgsMean.all_left_out refl) ExprsMean.no_exprs))))
    (PartMeans.a_part (one StmtMeans.print_text)))
    (AllMean.more_stmts (StmtMeans.a_while (ExprMeans.two_operands (ExprMeans.a_field (ExprMeans.a_local refl) (its_own v_own)) ExprMeans.an_int)
    (PartMeans.a_part (one (StmtMeans.a_block (
    AllMean.more_stmts (StmtMeans.to_field (ExprMeans.a_local refl) (its_own v_own) (ExprMeans.one_operand (ExprMeans.a_field (ExprMeans.a_local refl) (its_own v_own))))
    (one (StmtMeans.to_field (ExprMeans.a_local refl) (its_own length_own) ExprMeans.an_int)))))))
    (AllMean.more_stmts (StmtMeans.a_choice ExprMeans.a_boolean (PartMeans.a_part (one (StmtMeans.a_block (
    AllMean.more_stmts (StmtMeans.to_local refl ExprMeans.a_null)
    (one (StmtMeans.print_boolean (ExprMeans.two_operands (ExprMeans.a_local refl) ExprMeans.a_null))))))))
    (AllMean.more_stmts (StmtMeans.a_foreach refl ExprMeans.an_int ExprMeans.an_int (PartMeans.a_part (one (StmtMeans.a_block AllMean.no_stmts))))
    (AllMean.more_stmts (StmtMeans.a_cobegin refl (BranchesMean.more_branches (PartMeans.a_part (one (StmtMeans.a_block AllMean.no_stmts)))
    (BranchesMean.more_branches (PartMeans.a_part (one (StmtMeans.a_block AllMean.no_stmts))) BranchesMean.no_branches)))
    (AllMean.more_stmts (StmtMeans.a_foreach_parts (SourceMeans.an_array (ExprMeans.a_local refl)) ExprMeans.an_int (PartMeans.a_part (one (StmtMeans.a_block (
    AllMean.more_stmts (StmtMeans.to_part refl ExprMeans.an_int (ExprMeans.part_length refl refl))
    (one (StmtMeans.a_foreach_parts (SourceMeans.a_part refl) ExprMeans.an_int (PartMeans.a_part (one (StmtMeans.print_int
    (ExprMeans.two_operands (ExprMeans.part_element refl ExprMeans.an_int) (ExprMeans.a_local refl))))))))))))
    (one (StmtMeans.a_return_value ExprMeans.an_int)))))))))

main_means : MemberMeans tree (other_program other_right) own_main (member_made [] (ty.int ∷ []) ty.int (anything ∷ []) 1 15 (main_does other_right))
main_means = record {
  class = main_tree;
  stands = refl;
  of_class = refl;
  params = refl;
  given = tt;
  formals = (an_int, tt);
  result = ResultMeans.a_value an_int;
  summary = SummaryMeans.left_out;
  body = subst (λ z. AllMean in_main z (main_does other_right)) (sym other_is) other_means;
  slots = (refl, (refl, (refl, (refl, (refl, (refl, (refl, (refl, (refl, (refl, (refl, (refl, (refl, refl)))))))))))));
  regions = refl;
}

pub uses_nd : true ≡ program_uses_nd tree
uses_nd = search (rules, the_lemmas, expr_lemmas)

pub others_means : Means tree (other_program other_right)
others_means = record {
  as_many_classes = refl;
  classes = both_of (ClassMeans tree (other_program other_right)) tree.classes (other_program other_right).classes (node_means, (main_class_means, tt));
  as_many_members = refl;
  members = both_of (λ n own m. MemberMeans tree (other_program other_right) own m) (all_methods tree) (other_program other_right).members
      (constructor_means, (big_means, (wipe_means, (main_means, tt))));
  region_names = refl;
  main_name = 11;
  main_class = (main_tree, refl, refl);
  main_spelled = refl;
  entry_name = 14;
  main_member = refl;
  entry_spelled = refl;
  uses_nd = uses_nd;
}

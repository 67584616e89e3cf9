-- The mended forms of the small programs are well typed.
use Rattle.std.proofs.Common.{◌≡◌, ℕ, zero, suc, ◌<◌, true, false, List, [], ◌∷◌, Some, IsTrue, pos, FitsSigned, refl, sym, subst, ◌++◌, inl, inr, arith, slice_get}
use Rattle.std.proofs.Math.Facts.{sfits_lit}
use Rattle.std.proofs.lemmas.Bool.{false≢true}
use Rattle.std.proofs.lemmas.List.Elements.{All-nil}
use Rattle.std.specs.Int.{w32}
use Rattle.lang_base.specs.declared.elems.Elem.TheVariants.{Name, At}
use Rattle.lang_base.specs.declared.elems.Index.TheVariants.{Variable}
use Rattle.lang_base.specs.declared.elems.Index.TheVariants as index
use Rattle.lang_base.specs.declared.region.Head.TheVariants.{Param}
use Rattle.lang_base.specs.declared.region.Rpl.{Rpl}
use Rattle.lang_base.specs.Branches.{clashes, atomic_path}
use Rattle.lang_base.specs.Apart.{apart}
use Rattle.lang_base.specs.Effects.{covers_effect, interferes, set_covers}
use Rattle.lang_base.specs.Regions.{within, substituted, generalised, fully_specified}
use Rattle.lang_base.specs.Types.{int, class, type_with, path_at}
use Rattle.lang_typed.specs.declared.stmt.Forking.TheVariants.{Deterministic}
use Rattle.lang_typed.specs.Plain.{PlainProgram, PlainField, more_stmts, no_stmts}
use Rattle.lang_typed.specs.Effects.{Own, does, writes, as_effects, outside_variable, after_branches}
use Rattle.lang_typed.specs.Scope.{Scope, variable, constant, with_local, in_branch, atomic_in}
use Rattle.lang_typed.specs.Samples.{two_fields, two_branches, two_writes, writes_field, by_index, fills, fills_array, filled, cell, unlinks, linked, in_a, in_b, main_class, main_member, then_zero, anything, below_root}
use Rattle.lang_typed.specs.Statements.{Passes, AllPass, IsVariable, store_field, store_element, cobegin, foreach, declare, return_value, no_more, then', no_branch, one_branch, NoClash}
use Rattle.lang_typed.specs.Table.{GoodConstraint, RowIsThere, GoodClass, GoodMember, GoodField, class_scope, body_scope}
use Rattle.lang_typed.specs.Types.{Known, GoodElem, GoodPath, GoodArgs, GoodType, Subtype, ints, null_object, objects, arrays}
use Rattle.lang_typed.specs.Typing.{literal_int, literal_null, read_local, make_array, create_object}
use Rattle.lang_typed.specs.WellTyped.{WellTyped}
use Rattle.lang_typed.proofs.Single.{nothing_there, of_one, of_two, all_one, all_two, no_order, all_nd_free, main_good, method_good, main_is}

-- what mentions no parameter is known
int_known : (args : List Rpl) → Known args int
int_known args p h = absurd (false≢true h)

zero_given : {P : PlainProgram} {L : Scope} → L.result ≡ Some int → AllPass P L then_zero []
zero_given h = then' (return_value h (literal_int (sfits_lit tt)) ints) (inr refl) no_more

-- the effects of two branches that write both fields
abbrev wrote : Rpl → List Own
wrote a = does (writes (substituted [] a)) ∷ []

abbrev scope : Scope
scope = body_scope (main_class two_fields) all_nd_free 0 (main_member 2 (two_branches 1))

no_clash : NoClash (two_writes 1) Deterministic scope (wrote in_a ∷ wrote in_b ∷ [])
unfolding clashes interferes apart within substituted
no_clash zero (suc zero) d lt in_list = refl
no_clash zero zero d lt in_list = absurd (omega arith)
no_clash zero (suc (suc j)) d lt in_list = absurd (omega arith)
no_clash (suc i) zero d lt in_list = absurd (omega arith)
no_clash (suc i) (suc j) d lt in_list = absurd (omega arith)

-- a branch that writes a field of `this`
one_write : (k v : ℕ) (f : PlainField) → FitsSigned w32 (pos v) → slice_get two_fields k ≡ Some f → f.ty ≡ int →
    AllPass (two_writes 1) (in_branch [] [] scope) (more_stmts (writes_field k v) no_stmts) (wrote f.region)
one_write k v f small there flat =
    then' (store_field {args = []} {f = f} (read_local (inr (inl refl))) refl there (subst (λ t. Known [] t) (sym flat) (int_known [])) (literal_int small)
    (subst (λ t. Subtype (two_writes 1) int (type_with [] t)) (sym flat) ints)) (inr refl) no_more

two_pass : AllPass (two_writes 1) scope (two_branches 1) (wrote in_a ++ wrote in_b ++ [])
two_pass =
    then' (cobegin {Es = wrote in_a ∷ wrote in_b ∷ []} (λ c. refl)
    (one_branch (All-nil (IsVariable scope)) (All-nil _) (one_write 0 1 _ (sfits_lit tt) refl refl)
    (one_branch (All-nil (IsVariable scope)) (All-nil _) (one_write 1 2 _ (sfits_lit tt) refl refl) no_branch)) no_clash)
    (inl refl) (zero_given refl)

two_covered : IsTrue (set_covers (anything ∷ []) (as_effects (wrote in_a ++ wrote in_b ++ [])))
unfolding covers_effect within substituted
two_covered = refl

field_good : (n : ℕ) → n < 2 → GoodField (two_writes 1) (main_class two_fields) (record { ty = int; region = below_root (Name n ∷ []) })
field_good n small = record {
  ty = tt;
  full = refl;
  path = record { begins = tt; elems = all_one (GoodElem (two_writes 1) (class_scope (main_class two_fields)) 0) (Name n) small };
}

pub two_fields_written : WellTyped (two_writes 1)
two_fields_written = record {
  rank = no_order;
  member_nd_free = all_nd_free;
  main = main_is two_fields [] 2 (two_branches 1);
  without_nd = λ e n. refl;
  classes = of_one (GoodClass (two_writes 1) no_order) (main_class two_fields)
      (main_good two_fields [] 2 (two_branches 1) (all_two (GoodField (two_writes 1) (main_class two_fields)) _ _ (field_good 0 (omega arith)) (field_good 1 (omega arith))));
  members = of_one (GoodMember (two_writes 1) all_nd_free) (main_member 2 (two_branches 1)) (method_good two_fields [] 2 (two_branches 1) _ (omega arith) two_pass two_covered refl);
}

-- the array of the second program, whose elements lie in regions by their index
array_good : (L : Scope) → GoodType (filled 4 4) L 0 by_index
array_good L = (inl (record { begins = tt; elems = all_two (GoodElem (filled 4 4) L 1) (Name 0) (At (index.Own 0)) (omega arith) (omega arith) }), tt, λ h. absurd (cc))

-- an iteration writes the element at its own index
abbrev loop_scope : Scope
loop_scope = with_local 3 (constant int) (with_local 2 (variable by_index) (body_scope (main_class []) all_nd_free 0 (main_member 5 (fills_array 4 4))))

abbrev written : List Own
written = does (writes (path_at 0 (At (Variable 4)) (below_root (Name 0 ∷ At (index.Own 0) ∷ [])))) ∷ []

fills_pass : Passes (filled 4 4) loop_scope (fills 4 4) (outside_variable 4 (after_branches Deterministic written))
unfolding clashes interferes apart within
fills_pass =
    foreach {G = written} (λ c. refl) (literal_int (sfits_lit tt)) refl (read_local (inl refl)) refl (refl, omega arith)
    (then' (store_element (read_local (inr (inl refl))) refl (read_local (inr (inr refl))) refl (λ h. absurd (false≢true h)) (read_local (inr (inr refl))) ints) (inr refl) no_more)
    refl

array_pass : AllPass (filled 4 4) (body_scope (main_class []) all_nd_free 0 (main_member 5 (fills_array 4 4))) (fills_array 4 4)
    (outside_variable 2 (outside_variable 3 (outside_variable 4 (after_branches Deterministic written))))
unfolding within
array_pass =
    declare (refl, omega arith) (array_good _) (make_array (array_good _) refl (read_local (inl refl)) refl) (arrays refl refl)
    (declare (refl, omega arith) tt (literal_int (sfits_lit tt)) ints (then' fills_pass (inl refl) (zero_given refl)))

array_covered : IsTrue (set_covers (anything ∷ []) (as_effects (outside_variable 2 (outside_variable 3 (outside_variable 4 (after_branches Deterministic written))))))
unfolding covers_effect within generalised
array_covered = refl

pub each_element : WellTyped (filled 4 4)
each_element = record {
  rank = no_order;
  member_nd_free = all_nd_free;
  main = main_is [] [] 5 (fills_array 4 4);
  without_nd = λ e n. refl;
  classes = of_one (GoodClass (filled 4 4) no_order) (main_class []) (main_good [] [] 5 (fills_array 4 4) (All-nil (GoodField (filled 4 4) (main_class []))));
  members = of_one (GoodMember (filled 4 4) all_nd_free) (main_member 5 (fills_array 4 4)) (method_good [] [] 5 (fills_array 4 4) _ (omega arith) array_pass array_covered refl);
}

-- one argument, for the region parameter of a cell
none_atomic : (P : PlainProgram) (L : Scope) (args : List Rpl) (p : ℕ) (a : Rpl) → slice_get (false ∷ []) p ≡ Some true → slice_get args p ≡ Some a →
    IsTrue (atomic_path (atomic_in P L) a)
none_atomic P L args p a h k = absurd (of_one (λ n b. b ≡ true → ⊥) false (λ e. false≢true e) p true h refl)

cell_args : (L : Scope) (a : Rpl) → GoodPath (linked in_a) L 0 a → GoodArgs (linked in_a) L 0 (false ∷ []) [] [] (a ∷ [])
cell_args L a h = record { arity = refl; paths = all_one (GoodPath (linked in_a) L 0) a h; atomic = none_atomic (linked in_a) L (a ∷ []); hold = All-nil _ }

in_a_good : (L : Scope) → GoodPath (linked in_a) L 0 in_a
in_a_good L = record { begins = tt; elems = all_one (GoodElem (linked in_a) L 0) (Name 0) (omega arith) }

abbrev own_path : Rpl
own_path = record { head = Param 0; elems = [] }

own_good : GoodPath (linked in_a) (class_scope cell) 0 own_path
own_good = record { begins = omega arith; elems = All-nil (GoodElem (linked in_a) (class_scope cell) 0) }

cell_good : GoodClass (linked in_a) no_order 1 cell
cell_good = record {
  given = All-nil (GoodConstraint (linked in_a) (class_scope cell));
  parent = λ p e. nothing_there p e;
  rows = All-nil (RowIsThere (linked in_a) 1);
  constructor = λ n e. nothing_there n e;
  fields = all_one (GoodField (linked in_a) cell) _ (record { ty = (cell, refl, cell_args (class_scope cell) own_path own_good); path = own_good; full = refl });
}

abbrev unlinked : List Own
unlinked = outside_variable 2 (does (writes (substituted (in_a ∷ []) own_path)) ∷ [])

unlinks_pass : AllPass (linked in_a) (body_scope (main_class []) all_nd_free 0 (main_member 3 (unlinks in_a))) (unlinks in_a) unlinked
unfolding within
unlinks_pass =
    declare (refl, omega arith) (cell, refl, cell_args _ in_a (in_a_good _)) (create_object refl (cell_args _ in_a (in_a_good _)) (all_one (λ a. IsTrue (fully_specified a)) in_a refl) refl)
    (objects refl)
    (then' (store_field (read_local (inl refl)) refl refl known literal_null null_object) (inl refl) (zero_given refl))
  where
    known : Known (in_a ∷ []) (class 1 (own_path ∷ []))
    known zero h = refl
    known (suc p) h = refl

unlinks_covered : IsTrue (set_covers (anything ∷ []) (as_effects unlinked))
unfolding covers_effect within generalised substituted
unlinks_covered = refl

pub whole_write : WellTyped (linked in_a)
whole_write = record {
  rank = no_order;
  member_nd_free = all_nd_free;
  main = main_is [] (cell ∷ []) 3 (unlinks in_a);
  without_nd = λ e n. refl;
  classes = of_two (GoodClass (linked in_a) no_order) (main_class []) cell (main_good [] (cell ∷ []) 3 (unlinks in_a) (All-nil (GoodField (linked in_a) (main_class [])))) cell_good;
  members = of_one (GoodMember (linked in_a) all_nd_free) (main_member 3 (unlinks in_a)) (method_good [] (cell ∷ []) 3 (unlinks in_a) _ (omega arith) unlinks_pass unlinks_covered refl);
}

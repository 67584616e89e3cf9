-- Region arguments that are written without a fault are good where they stand.
use Rattle.std.proofs.Common.{◌≡◌, ◌∙◌, ℕ, zero, suc, ◌+◌, ◌≤◌, ◌==◌, Bool, true, false, not, ◌&&◌, ◌||◌, cond, IsTrue, fold, List, [], ◌∷◌, ◌++◌, All, map, length, filter_map, flat_map, slice_get, Option, None, Some, refl, sym, ap, subst, arith}
use Rattle.std.proofs.lemmas.Bool.{eqb-true, or_parts}
use Rattle.std.proofs.lemmas.Option.{slice_get-map}
use Rattle.std.proofs.lemmas.List.Elements.{All-nil, All-cons}
use Rattle.std.specs.List.{list_any, list_all, cons_option}
use Rattle.std.specs.Option.{option_map_or}
use Rattle.lang_base.specs.declared.effect.Constraint.{Constraint}
use Rattle.lang_base.specs.declared.place.Place.{Place}
use Rattle.lang_base.specs.declared.refusal.Kind.TheVariants as kind
use Rattle.lang_base.specs.declared.region.Rpl.{Rpl}
use Rattle.lang_base.specs.Apart.{apart}
use Rattle.lang_base.specs.Branches.{atomic_path}
use Rattle.lang_base.specs.Regions.{fully_specified, substituted}
use Rattle.decl_headers.specs.declared.header.ParamRow.{ParamRow}
use Rattle.decl_headers.specs.Passes.{fault_if}
use Rattle.syntax_tree.specs.declared.region.RplTree.{RplTree}
use Rattle.decl_resolve.specs.declared.paths.Need.{Need}
use Rattle.decl_resolve.specs.Args.{root_path, roots, args_given, args_faults, begins_local, first_local, local_fault, is_unfit}
use Rattle.decl_resolve.specs.Constraints.{all_hold, holds_at}
use Rattle.decl_resolve.specs.Index.{PlainIndex}
use Rattle.decl_resolve.specs.Paths.{is_specified, is_plain, misfits}
use Rattle.decl_resolve.specs.Reading.{elem_faults, is_misplaced, head_faults, path_atomic, path_meant, path_faults, arg_need, each_faults, arg_faults, local_with, args_read}
use Rattle.decl_resolve.specs.Scopes.{PlainScope, is_atomic_at}
use Rattle.lang_typed.specs.Plain.{PlainProgram}
use Rattle.lang_typed.specs.Scope.{Scope, atomic_in}
use Rattle.lang_typed.specs.Types.{GoodPath, GoodArgs}
use Rattle.sound_lemmas.proofs.Free.{append_none, fault_none, NoFaults}
use Rattle.sound_lemmas.proofs.Known.{path_known}
use Rattle.sound_lemmas.proofs.Lists.{some_same, map_there}
use Rattle.sound_decls.proofs.written.Paths.{Meaning, depth_of, path_begun, not_local, path_full, path_reported_atomic}

length_mapped : {A B : Type 0} (f : A → B) (xs : List A) → length (map f xs) ≡ length xs
length_mapped f [] = refl
length_mapped f (x ∷ xs) = ap suc (length_mapped f xs)

and_both : (b c : Bool) → (b && c) ≡ true → (b ≡ true) × (c ≡ true)
and_both true c h = (refl, h)
and_both false c h = cc

-- of which three tests none is so
pub three_false : (a b c d e : Bool) → ((a && not b) || (c && d) || e) ≡ false → (a ≡ true → b ≡ true) × (c ≡ true → d ≡ false)
three_false true true true true e h = cc
three_false true true true false e h = (λ _. refl, λ _. refl)
three_false true true false d e h = (λ _. refl, λ n. absurd (no n))
  where
    no : false ≡ true → ⊥
    no n = cc
three_false true false c d e h = cc
three_false false b true true e h = cc
three_false false b true false e h = (λ n. absurd (no n), λ _. refl)
  where
    no : false ≡ true → ⊥
    no n = cc
three_false false b false d e h = (λ n. absurd (no n), λ n. absurd (no n))
  where
    no : false ≡ true → ⊥
    no n = cc

-- an argument keeps to what is asked of it
pub record ArgKept (P : PlainProgram) (L : Scope) (depth : ℕ) (need : Need) (a : Rpl) : Type 0 where
  pub path : GoodPath P L depth a
  pub full : need.full ≡ true → fully_specified a ≡ true
  pub atomic : need.atomic ≡ true → atomic_path (atomic_in P L) a ≡ true

abbrev pub Kept : PlainProgram → Scope → ℕ → (ℕ → Need) → ℕ → List Rpl → Type 0
Kept P L depth need at [] = Unit {0}
Kept P L depth need at (a ∷ rest) = ArgKept P L depth (need at) a × Kept P L depth need (at + 1) rest

module _ (P : PlainProgram) (L : Scope) (scope : PlainScope) (means : Meaning P L scope) (around : PlainIndex) (depth : ℕ) (deep : depth_of around ≤ depth)
  where
    local_there : (trees : List RplTree) (p : Place) → fold (local_with scope around) (Some p) trees ≡ None → ⊥
    local_there [] p h = cc
    local_there (tree ∷ trees) p h = by (local_there trees p) (path_meant scope around tree) h
      where
        by : (fold (local_with scope around) (Some p) trees ≡ None → ⊥) → (o : Option Rpl) → fold (local_with scope around) (option_map_or (λ rpl. first_local (Some p) rpl tree.place) o (Some p)) trees ≡ None → ⊥
        by next None h = next h
        by next (Some rpl) h = next h

    -- none of them begins at a local region
    no_local : (tree : RplTree) (trees : List RplTree) (a : Rpl) → path_meant scope around tree ≡ Some a → fold (local_with scope around) None (tree ∷ trees) ≡ None →
        (begins_local a.elems ≡ false) × (fold (local_with scope around) None trees ≡ None)
    no_local tree trees a is h =
        by (begins_local a.elems) (sym (ap (λ o. fold (local_with scope around) (option_map_or (λ rpl. first_local None rpl tree.place) o None) trees) is) ∙ h)
      where
        by : (b : Bool) → fold (local_with scope around) (cond (true && b) (Some tree.place) None) trees ≡ None → (b ≡ false) × (fold (local_with scope around) None trees ≡ None)
        by true h = absurd (local_there trees tree.place h)
        by false h = (refl, h)

    one_kept : (need : Need) (tree : RplTree) (a : Rpl) → path_faults scope around need tree ≡ [] → path_meant scope around tree ≡ Some a → begins_local a.elems ≡ false → ArgKept P L depth need a
    one_kept need tree a free is begins =
        let unfit = misfits need tree.elems (path_atomic scope tree) (list_any (is_misplaced scope around) tree.elems) in
        let f = append_none (head_faults scope tree.head ++ flat_map (elem_faults scope around) tree.elems) (fault_if unfit kind.RegionArgs tree.place) free in
        let m = fault_none unfit kind.RegionArgs tree.place f.1 in
        let w = three_false need.full (list_all is_specified tree.elems) need.atomic (is_plain (path_atomic scope tree)) (list_any (is_misplaced scope around) tree.elems) m in
        record {
          path = not_local P L scope means depth a (path_begun P L scope means around depth deep tree a is) begins;
          full = λ n. path_full P L scope means around tree a (w.0 n) is;
          atomic = λ n. plain_false (atomic_path (atomic_in P L) a) (sym (ap is_plain (path_reported_atomic P L scope means around tree a is)) ∙ w.1 n);
        }
      where
        plain_false : (b : Bool) → is_plain (Some b) ≡ false → b ≡ true
        plain_false true h = refl
        plain_false false h = cc

    pub args_kept : (need : ℕ → Need) (at : ℕ) (trees : List RplTree) → NoFaults (each_faults scope around need at trees) → fold (local_with scope around) None trees ≡ None →
        Kept P L depth need at (filter_map (path_meant scope around) trees)
    args_kept need at [] free none = tt
    args_kept need at (tree ∷ trees) free none =
        let w = path_known scope around (need at) tree free.0 in
        let l = no_local tree trees w.0 w.1 none in
        subst (λ o. Kept P L depth need at (cons_option o (filter_map (path_meant scope around) trees))) (sym w.1)
        (one_kept (need at) tree w.0 free.0 w.1 l.0, args_kept need (at + 1) trees free.1 l.1)

    kept_paths : (need : ℕ → Need) (at : ℕ) (args : List Rpl) → Kept P L depth need at args → All (GoodPath P L depth) args
    kept_paths need at [] k = All-nil (GoodPath P L depth)
    kept_paths need at (a ∷ args) k = All-cons (GoodPath P L depth) a args k.0.path (kept_paths need (at + 1) args k.1)

    kept_full : (need : ℕ → Need) → ((i : ℕ) → (need i).full ≡ true) → (at : ℕ) (args : List Rpl) → Kept P L depth need at args → All (λ a. IsTrue (fully_specified a)) args
    kept_full need full at [] k = All-nil (λ a. IsTrue (fully_specified a))
    kept_full need full at (a ∷ args) k = All-cons (λ a. IsTrue (fully_specified a)) a args (k.0.full (full at)) (kept_full need full (at + 1) args k.1)

    kept_at : (need : ℕ → Need) (at : ℕ) (args : List Rpl) (p : ℕ) (a : Rpl) → Kept P L depth need at args → slice_get args p ≡ Some a → ArgKept P L depth (need (at + p)) a
    kept_at need at [] p a k e = cc
    kept_at need at (b ∷ args) zero a k e =
        let same : at ≡ at + 0 = omega arith in
        subst (λ z. ArgKept P L depth (need z) a) same (subst (ArgKept P L depth (need at)) (some_same e) k.0)
    kept_at need at (b ∷ args) (suc p) a k e =
        let same : at + 1 + p ≡ at + suc p = omega arith in
        subst (λ z. ArgKept P L depth (need z) a) same (kept_at need (at + 1) args p a k.1 e)

    -- `Root` for each parameter
    roots_good : (params : List ParamRow) → All (GoodPath P L depth) (roots params)
    roots_good [] = All-nil (GoodPath P L depth)
    roots_good (param ∷ params) = All-cons (GoodPath P L depth) root_path (roots params) (record { begins = tt; elems = All-nil _ }) (roots_good params)

    roots_full : (params : List ParamRow) → All (λ a. IsTrue (fully_specified a)) (roots params)
    roots_full [] = All-nil (λ a. IsTrue (fully_specified a))
    roots_full (param ∷ params) = All-cons (λ a. IsTrue (fully_specified a)) root_path (roots params) refl (roots_full params)

    none_atomic : (params : List ParamRow) (p : ℕ) → list_any (λ param. param.atomic) params ≡ false → slice_get (map (λ (param : ParamRow). param.atomic) params) p ≡ Some true → ⊥
    none_atomic [] p h e = cc
    none_atomic (param ∷ params) zero h e =
        let parts = or_parts param.atomic (list_any (λ param. param.atomic) params) h in
        let same = some_same e in
        let both : true ≡ false = sym same ∙ parts.0 in cc
    none_atomic (param ∷ params) (suc p) h e = none_atomic params p (or_parts param.atomic (list_any (λ param. param.atomic) params) h).1 e

    hold_each : (given : List Constraint) (args : List Rpl) → all_hold scope.given args given ≡ true → All (λ k. IsTrue (apart L.given (substituted args k.left) (substituted args k.right))) given
    hold_each [] args h = All-nil (λ k. IsTrue (apart L.given (substituted args k.left) (substituted args k.right)))
    hold_each (k ∷ given) args h =
        let w = and_both (holds_at scope.given args k) (all_hold scope.given args given) h in
        All-cons (λ k. IsTrue (apart L.given (substituted args k.left) (substituted args k.right))) k given
        (subst (λ z. apart z (substituted args k.left) (substituted args k.right) ≡ true) (sym means.given) w.0) (hold_each given args w.1)

    -- arguments for these parameters
    pub args_good : (params : List ParamRow) (full : Bool) (place : Place) (trees : List RplTree) (args others : List Rpl) (given : List Constraint) →
        NoFaults (arg_faults scope around params full trees) → args_faults (args_read scope around trees).local (length trees) params place ≡ [] →
        args_given (length trees) (filter_map (path_meant scope around) trees) params ≡ Some args → all_hold scope.given (others ++ args) given ≡ true →
        GoodArgs P L depth (map (λ param. param.atomic) params) given others args × (full ≡ true → All (λ a. IsTrue (fully_specified a)) args)
    args_good params full place trees args others given free reported is hold =
        by (length trees == 0) (length trees == length params) (length (filter_map (path_meant scope around) trees) == length trees) refl refl refl (fault_none (is_unfit (length trees) params) kind.RegionArgs place f.1) is
      where
        f : (local_fault (args_read scope around trees).local false ≡ []) × (fault_if (is_unfit (length trees) params) kind.RegionArgs place ≡ [])
        f = append_none (local_fault (args_read scope around trees).local false) (fault_if (is_unfit (length trees) params) kind.RegionArgs place) reported

        no_place : (o : Option Place) → local_fault o false ≡ [] → o ≡ None
        no_place None h = refl
        no_place (Some p) h = cc

        kept : Kept P L depth (arg_need params full (length trees)) 0 (filter_map (path_meant scope around) trees)
        kept = args_kept (arg_need params full (length trees)) 0 trees free (no_place (args_read scope around trees).local f.0)

        by : (b c d : Bool) → (length trees == 0) ≡ b → (length trees == length params) ≡ c → (length (filter_map (path_meant scope around) trees) == length trees) ≡ d →
            cond b (list_any (λ param. param.atomic) params) (not c) ≡ false → cond b (Some (roots params)) (cond (c && d) (Some (filter_map (path_meant scope around) trees)) None) ≡ Some args →
            GoodArgs P L depth (map (λ param. param.atomic) params) given others args × (full ≡ true → All (λ a. IsTrue (fully_specified a)) args)
        by true c d at_b at_c at_d fit e = (
          record {
            arity = ap length (sym (some_same e)) ∙ length_mapped (λ (param : ParamRow). root_path) params ∙ sym (length_mapped (λ (param : ParamRow). param.atomic) params);
            paths = subst (All (GoodPath P L depth)) (some_same e) (roots_good params);
            atomic = λ p a declared at. absurd (none_atomic params p fit declared);
            hold = hold_each given (others ++ args) hold;
          },
          λ n. subst (All (λ a. IsTrue (fully_specified a))) (some_same e) (roots_full params),
        )
        by false true true at_b at_c at_d fit e = (
          record {
            arity = ap length (sym (some_same e)) ∙ eqb-true (length (filter_map (path_meant scope around) trees)) (length trees) at_d ∙ eqb-true (length trees) (length params) at_c ∙ sym (length_mapped (λ (param : ParamRow). param.atomic) params);
            paths = subst (All (GoodPath P L depth)) (some_same e) (kept_paths (arg_need params full (length trees)) 0 (filter_map (path_meant scope around) trees) kept);
            atomic = λ p a declared at.
                let k = kept_at (arg_need params full (length trees)) 0 (filter_map (path_meant scope around) trees) p a kept (ap (λ z. slice_get z p) (some_same e) ∙ at) in
                k.atomic (ap (λ z. z && is_atomic_at params (0 + p)) at_c ∙ declared_at p declared);
            hold = hold_each given (others ++ args) hold;
          },
          λ n. subst (All (λ a. IsTrue (fully_specified a))) (some_same e) (kept_full (arg_need params full (length trees)) (λ i. n) 0 (filter_map (path_meant scope around) trees) kept),
        )
          where
            declared_at : (p : ℕ) → slice_get (map (λ (param : ParamRow). param.atomic) params) p ≡ Some true → is_atomic_at params (0 + p) ≡ true
            declared_at p declared =
                let w = map_there (λ (param : ParamRow). param.atomic) (slice_get params p) true (sym (slice_get-map (λ (param : ParamRow). param.atomic) params p) ∙ declared) in
                let same : p ≡ 0 + p = omega arith in
                subst (λ z. is_atomic_at params z ≡ true) same (ap (λ o. option_map_or (λ (param : ParamRow). param.atomic) o false) w.1 ∙ w.2)
        by false true false at_b at_c at_d fit e = cc
        by false false d at_b at_c at_d fit e = cc

-- The types in a signature without faults are good, where what names mean around it is in scope.
use Rattle.std.proofs.Common.{◌≡◌, ◌≤◌, ℕ, zero, suc, true, List, [], ◌∷◌, length, slice_get, sum_by, Some, unwrap_or, sym, subst, arith}
use Rattle.std.proofs.lemmas.List.Sums.{sum_by-cons}
use Rattle.lang_base.specs.Types.{PlainType}
use Rattle.lang_base.specs.Types.{PlainType as ty}
use Rattle.syntax_tree.specs.declared.class.Formal.{Formal}
use Rattle.syntax_tree.specs.declared.class.MethodResult.{MethodResult}
use Rattle.syntax_tree.specs.declared.class.MethodResult.TheVariants as outcome
use Rattle.syntax_tree.specs.declared.region.Suffix.{Suffix}
use Rattle.syntax_tree.specs.declared.region.TypeTree.{TypeTree}
use Rattle.syntax_tree.specs.Size.{suffix_size, type_size, result_size}
use Rattle.decl_resolve.specs.Scopes.{PlainScope}
use Rattle.decl_resolve.specs.Written.{type_faults}
use Rattle.lang_typed.specs.Plain.{PlainProgram}
use Rattle.lang_typed.specs.Scope.{Scope}
use Rattle.lang_typed.specs.Types.{GoodType}
use Rattle.decl_classes.specs.Signatures.{known_type, known_type_faults, formal_types, formal_faults, result_type, result_faults}
use Rattle.body_check.specs.Deciding.{has_value}
use Rattle.sound_lemmas.proofs.Free.{append_none, joined_free}
use Rattle.sound_lemmas.proofs.Known.{type_known}
use Rattle.sound_lemmas.proofs.Lists.{some_same}
use Rattle.sound_decls.proofs.written.Paths.{Meaning}
use Rattle.sound_decls.proofs.written.Types.{ClassesMean, type_good}

suffixes_small : (suffixes : List Suffix) → length suffixes ≤ sum_by suffix_size suffixes
suffixes_small [] = omega arith
suffixes_small (suffix ∷ suffixes) = omega (arith, suffixes_small suffixes, sum_by-cons suffix_size suffix suffixes)

module _ (P : PlainProgram) (L : Scope) (scope : PlainScope) (means : Meaning P L scope) (classes : ClassesMean P scope)
  where
    pub known_good : (tree : TypeTree) → known_type_faults scope tree ≡ [] → type_size tree ≤ 4294967295 → GoodType P L 0 (known_type scope tree)
    known_good tree unreported few =
        let free = joined_free (type_faults scope tree) unreported in
        let w = type_known scope tree free in
        let less = suffixes_small tree.suffixes in
        subst (λ o. GoodType P L 0 (unwrap_or o ty.void)) (sym w.1) (type_good P L scope means classes tree w.0 (omega (arith, few, less)) free w.1)

    pub formals_good : (formals : List Formal) → formal_faults scope formals ≡ [] → sum_by (λ formal. suc (type_size formal.ty)) formals ≤ 4294967295 → (i : ℕ) (t : PlainType) →
        slice_get (formal_types scope formals) i ≡ Some t → GoodType P L 0 t
    formals_good [] unreported few i t e = cc
    formals_good (formal ∷ formals) unreported few zero t e =
        let f = append_none (known_type_faults scope formal.ty) (formal_faults scope formals) unreported in
        subst (GoodType P L 0) (some_same e) (known_good formal.ty f.0 (omega (arith, few, sum_by-cons (λ (formal : Formal). suc (type_size formal.ty)) formal formals)))
    formals_good (formal ∷ formals) unreported few (suc i) t e =
        let f = append_none (known_type_faults scope formal.ty) (formal_faults scope formals) unreported in
        formals_good formals f.1 (omega (arith, few, sum_by-cons (λ (formal : Formal). suc (type_size formal.ty)) formal formals)) i t e

    pub result_good : (r : MethodResult) → result_faults scope r ≡ [] → result_size r ≤ 4294967295 → has_value r ≡ true → GoodType P L 0 (result_type scope r)
    result_good outcome.Constructor unreported few valued = cc
    result_good outcome.Void unreported few valued = cc
    result_good (outcome.Value tree) unreported few valued = known_good tree unreported few

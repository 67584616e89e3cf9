-- A class as a class above it, with region arguments: as the checker finds it, and as the judgement says it.
use Rattle.std.proofs.Common.{◌≡◌, ◌∙◌, inl, inr, ℕ, zero, suc, ◌+◌, ◌<◌, ◌==◌, true, false, cond, List, map, length, Option, Some, None, option_map, option_and_then, ap, sym, subst, arith}
use Rattle.std.proofs.lemmas.Bool.{cases_lt}
use Rattle.std.proofs.lemmas.Bool.Decides.{eqb_tells}
use Rattle.std.proofs.lemmas.List.{length-map}
use Rattle.lang_base.specs.declared.region.Rpl.{Rpl}
use Rattle.lang_base.specs.Regions.{substituted}
use Rattle.lang_base.specs.Types.{PlainType, plain_type}
use Rattle.decl_headers.specs.declared.header.Header.{Header}
use Rattle.decl_headers.specs.Headers.{parent_of, parents_of, class_count}
use Rattle.decl_headers.specs.Numbers.{as_number}
use Rattle.decl_headers.specs.Rounds.{up}
use Rattle.decl_headers.proofs.Cycles.{up-first, entry_within}
use Rattle.decl_headers.proofs.Walks.{top_none}
use Rattle.syntax_tree.specs.declared.class.Program.{Program}
use Rattle.syntax_tree.specs.Nd.{program_uses_nd}
use Rattle.lang_typed.specs.Plain.{PlainProgram, PlainClass}
use Rattle.lang_typed.specs.Scope.{Above, class_at}
use Rattle.lang_typed.specs.Scope.{parent_of as typed_parent}
use Rattle.decl_table.specs.declared.table.Table.{Table}
use Rattle.decl_table.specs.Table.{headers_of, parent_type_of, parent_args_of, of_class_type, args_above, args_at}
use Rattle.body_assembly.specs.Assembled.{PlainBody, class_of, program_of}
use Rattle.sound_lemmas.specs.Accepted.{IsAccepted}
use Rattle.sound_lemmas.proofs.Assembled.{facts, number_is}
use Rattle.sound_lemmas.proofs.Lists.{some_same, made_there}
use Rattle.decl_laws.proofs.Facts.{parent_is}
use Rattle.sound_decls.proofs.table.Supers.{parent_type}

module _ (program : Program) (table : Table) (bodies : List PlainBody) (accepted : IsAccepted program table bodies)
  where
    abbrev pub P : PlainProgram
    P = program_of table program.names (program_uses_nd program) bodies

    abbrev parents : List (Option ℕ)
    parents = parents_of (headers_of table)

    classes_many : length parents ≡ class_count (headers_of table)
    classes_many = length-map (headers_of table).rows (λ (row : Header). row.parent)

    pub number : (c : ℕ) → c < class_count (headers_of table) → as_number c ≡ c
    number = number_is program table bodies accepted program.names (program_uses_nd program)

    pub class_there : (c : ℕ) → c < class_count (headers_of table) → class_at P c ≡ Some (class_of table c)
    class_there c l = made_there (class_of table) (class_count (headers_of table)) c l

    -- a class with a superclass, and that one, are there
    pub lower_there : (c above : ℕ) → parent_of (headers_of table) c ≡ Some above → c < class_count (headers_of table)
    lower_there c above e =
        let l = entry_within parents c above (sym (parent_is table c) ∙ e) in
        omega (arith, l, classes_many)

    pub upper_there : (c above : ℕ) → parent_of (headers_of table) c ≡ Some above → above < class_count (headers_of table)
    upper_there c above e =
        let l = (facts program table bodies accepted program.names (program_uses_nd program)).forest.within c above (sym (parent_is table c) ∙ e) in
        omega (arith, l, classes_many)

    pub parent_there : (c above : ℕ) → parent_of (headers_of table) c ≡ Some above → typed_parent P c ≡ Some (record { class = above; args = parent_args_of table c })
    parent_there c above e =
        let l = lower_there c above e in
        ap (option_and_then (λ (class : PlainClass). class.parent)) (class_there c l)
        ∙ ap (λ k. option_map (λ (above : ℕ). record { class = above; args = parent_args_of table k }) (parent_of (headers_of table) k)) (number c l)
        ∙ ap (option_map (λ (above : ℕ). record { class = above; args = parent_args_of table c })) e

    -- the arguments are found, so many classes up
    abbrev Finds : ℕ → ℕ → List Rpl → ℕ → Type 0
    Finds fuel at args owner = (seen : List Rpl) × (args_above table fuel at args owner ≡ Some seen) × Above P at args owner seen

    abbrev next : ℕ → List Rpl → ℕ → Option PlainType → Option (List Rpl)
    next fuel args owner o = option_and_then (of_class_type (λ above paths. args_above table fuel above (map (substituted args) paths) owner)) o

    found_here : (fuel at owner : ℕ) (args : List Rpl) → (at == owner) ≡ true → at ≡ owner → Finds (suc fuel) at args owner
    found_here fuel at owner args is same =
        (args, ap (λ b. cond b (Some args) (next fuel args owner (option_map plain_type (parent_type_of table at)))) is, subst (λ z. Above P at args z args) same Above.itself)

    found_above : (fuel at owner one : ℕ) (args : List Rpl) → (at == owner) ≡ false → parent_of (headers_of table) at ≡ Some one → Finds fuel one (map (substituted args) (parent_args_of table at)) owner → Finds (suc fuel) at args owner
    found_above fuel at owner one args differs is w = (
      w.0,
      ap (λ b. cond b (Some args) (next fuel args owner (option_map plain_type (parent_type_of table at)))) differs
          ∙ ap (next fuel args owner) (parent_type program table bodies accepted at one is) ∙ w.1,
      Above.through_parent (parent_there at one is) w.2,
    )

    above_found : (n fuel at owner : ℕ) (args : List Rpl) → up parents n at ≡ Some owner → n < fuel → Finds fuel at args owner
    above_found n zero at owner args e l = absurd (omega (arith, l))
    above_found zero (suc fuel) at owner args e l =
        let same = some_same e in
        elim (eqb_tells at owner) [ inl q ↦ found_here fuel at owner args q.0 q.1 | inr q ↦ absurd (q.1 same) ]
    above_found (suc n) (suc fuel) at owner args e l =
        let on : n + 1 ≡ suc n = omega arith in
        let f = up-first parents n 1 at owner (ap (λ k. up parents k at) on ∙ e) in
        elim (eqb_tells at owner) [
          | inl q ↦ found_here fuel at owner args q.0 q.1
          | inr q ↦ found_above fuel at owner f.0 args q.0 (parent_is table at ∙ f.1) (above_found n fuel f.0 owner (map (substituted args) (parent_args_of table at)) f.2 (omega (arith, l)))
        ]

    pub args_found : (n at owner : ℕ) (args : List Rpl) → up parents n at ≡ Some owner → (seen : List Rpl) × (args_at table at args owner ≡ Some seen) × Above P at args owner seen
    args_found n at owner args e =
        elim (cases_lt (length parents) n) [
          | inl far ↦ absurd (no_end (top_none parents n at (facts program table bodies accepted program.names (program_uses_nd program)).forest far))
          | inr near ↦ above_found n (class_count (headers_of table) + 1) at owner args e (omega (arith, near, classes_many))
        ]
      where
        no_end : up parents n at ≡ None → ⊥
        no_end none = cc

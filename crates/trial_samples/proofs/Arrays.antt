-- The third block of the sample passes.
use Rattle.std.proofs.Common.{◌≡◌, ℕ, All, IsTrue, List, [], ◌∷◌, ◌+◌, ◌<◌, None, ◌==◌, false, refl, inl, inr, arith}
use Rattle.std.specs.List.{list_any}
use Rattle.std.proofs.lemmas.Bool.{false≢true}
use Rattle.std.proofs.lemmas.List.Elements.{All-nil, All-cons}
use Rattle.lang_base.specs.declared.elems.Elem.{Elem}
use Rattle.lang_base.specs.declared.elems.Elem.TheVariants.{Any, At, Name}
use Rattle.lang_base.specs.declared.elems.Index.TheVariants.{Own, Variable}
use Rattle.lang_base.specs.declared.region.Rpl.{Rpl}
use Rattle.lang_base.specs.Apart.{apart}
use Rattle.lang_base.specs.Branches.{clashes, lists_clash}
use Rattle.lang_base.specs.Effects.{interferes}
use Rattle.lang_base.specs.Regions.{generalised, substituted, within}
use Rattle.lang_base.specs.Types.{int}
use Rattle.lang_typed.specs.declared.stmt.Forking.TheVariants.{Deterministic}
use Rattle.lang_typed.specs.Effects.{Own as OwnEffect, as_effects, does, reads, uses, writes}
use Rattle.lang_typed.specs.Plain.{more_stmts, no_stmts}
use Rattle.lang_typed.specs.Samples.{below_root, in_b}
use Rattle.lang_typed.specs.Scope.{Scope, constant, in_branch, in_loop_branch, variable, with_local, with_regions}
use Rattle.lang_typed.specs.Statements.{AllPass, IsFree, IsVariable, NoClash, Passes, with_part}
use Rattle.lang_typed.specs.Statements.{cobegin, cuts_array, cuts_part, declare, declare_regions, foreach, foreach_parts, nested, no_branch, no_more, one_branch}
use Rattle.lang_typed.specs.Statements.{print_int, store, store_element, store_field, store_part, then'}
use Rattle.lang_typed.specs.Types.{GoodElem, GoodType, arrays, ints}
use Rattle.lang_typed.specs.Typing.{length_of_array, length_of_part, make_array, read_element, read_part}
use Rattle.trial_samples.specs.Sample.{sample, adds_lengths, by_index, filling, fills, fills_parts, keeps_last, keeps_it, in_local, local_array, two_branches}
use Rattle.trial_samples.proofs.Flow.{main_scope}
use Rattle.trial_samples.proofs.Small.{all_one, all_two, alone, calculates, fixed, int_known, of_pair, outer, small, var}

-- `A:[..]` at an index
abbrev pub in_a_at : Elem → Rpl
in_a_at x = below_root (Name 0 ∷ x ∷ [])

by_index_good : (L : Scope) → GoodType sample L 0 by_index
by_index_good L =
    (inl (record { begins = tt; elems = all_two (GoodElem sample L 1) (Name 0) (At (Own 0)) (omega arith) (omega arith) }), tt, λ h. absurd (cc))

abbrev scope_a : Scope
scope_a = with_local 6 (variable by_index) main_scope

abbrev scope_got : Scope
scope_got = with_local 9 (variable int) (with_local 8 (constant int) scope_a)

abbrev scope_local : Scope
scope_local = with_local 10 (variable local_array) (with_regions (0 ∷ []) scope_got)

-- an iteration writes the element at its own index
loop_passes : Passes sample scope_a fills (does (writes (in_a_at Any)) ∷ [])
unfolding clashes interferes apart within generalised
loop_passes =
    foreach {G = does (writes (in_a_at (At (Variable 7)))) ∷ []} (λ c. refl) (small 0 tt) refl (length_of_array (var refl) refl) refl (refl, omega arith)
    (alone (store_element (outer refl) refl (fixed refl) refl (λ h. absurd (false≢true h)) (fixed refl) ints)) refl

-- one branch reads an element, and assigns a local that is copied back; the other writes a field
abbrev read_last : List OwnEffect
read_last = does (reads (in_a_at (At (Variable 8)))) ∷ []

abbrev wrote_kept : List OwnEffect
wrote_kept = does (writes in_b) ∷ []

first_passes : AllPass sample (in_branch (9 ∷ []) [] scope_got) (more_stmts keeps_last no_stmts) read_last
first_passes = alone (store refl (read_element {t = int} (outer {t = by_index} refl) refl (fixed {x = 8} refl) refl (λ h. absurd (false≢true h)) refl) ints)

second_passes : AllPass sample (in_branch [] (9 ∷ []) scope_got) (more_stmts keeps_it no_stmts) wrote_kept
unfolding substituted
second_passes = alone (store_field {f = record { ty = int; region = in_b }} (outer refl) refl refl (int_known []) (fixed refl) ints)

quiet : NoClash sample Deterministic scope_got (read_last ∷ wrote_kept ∷ [])
unfolding clashes interferes apart within
quiet = of_pair (λ E F. lists_clash [] None (as_effects E) (as_effects F) ≡ false) read_last wrote_kept refl

branches_pass : Passes sample scope_got two_branches (does (reads (in_a_at (At (Variable 8)))) ∷ does (writes in_b) ∷ [])
branches_pass =
    cobegin {Es = read_last ∷ wrote_kept ∷ []} (λ c. refl)
    (one_branch (all_one (IsVariable scope_got) 9 (int, refl)) (all_one (λ x. list_any (λ y. x == y) [] ≡ false) 9 refl) first_passes
    (one_branch (All-nil (IsVariable scope_got)) (All-nil _) second_passes no_branch)) quiet

local_good : (L : Scope) → IsTrue (L.regions 0) → GoodType sample L 0 local_array
local_good L h = (inr (record { region = 0; rest = []; is = refl; in_scope = h; elems = All-nil (GoodElem sample L 1) }, inl refl, refl), tt, λ e. (refl, refl))

-- the slots of a part are free
all_five : (Q : ℕ → Type 0) → Q 0 → Q 1 → Q 2 → Q 3 → Q 4 → All Q (0 ∷ 1 ∷ 2 ∷ 3 ∷ 4 ∷ [])
all_five Q a b c d e = All-cons Q 0 (1 ∷ 2 ∷ 3 ∷ 4 ∷ []) a (All-cons Q 1 (2 ∷ 3 ∷ 4 ∷ []) b (All-cons Q 2 (3 ∷ 4 ∷ []) c (all_two Q 3 4 d e)))

abbrev scope_part : Scope
scope_part = with_part 11 int in_local (in_loop_branch scope_local)

-- a part of a part
part_passes : Passes sample scope_part adds_lengths (uses 11 (reads in_local) ∷ uses 11 (writes in_local) ∷ [])
unfolding clashes interferes apart within generalised
part_passes =
    foreach_parts {G = uses 16 (reads in_local) ∷ uses 16 (writes in_local) ∷ []} (cuts_part refl) (small 1 tt) refl
    (all_five (λ i. IsFree scope_part (16 + i)) (refl, omega arith) (refl, omega arith) (refl, omega arith) (refl, omega arith) (refl, omega arith))
    (alone (store_part refl (small 0 tt) refl (calculates (read_part refl (small 0 tt) refl) (length_of_part refl) refl) ints)) refl refl

parts_pass : Passes sample scope_local fills_parts (does (writes in_local) ∷ does (reads in_local) ∷ does (writes in_local) ∷ [])
unfolding clashes interferes apart within generalised
parts_pass =
    foreach_parts {G = uses 11 (writes in_local) ∷ uses 11 (reads in_local) ∷ uses 11 (writes in_local) ∷ []} (cuts_array (var refl) refl refl) (var refl) refl
    (all_five (λ i. IsFree scope_local (11 + i)) (refl, omega arith) (refl, omega arith) (refl, omega arith) (refl, omega arith) (refl, omega arith))
    (alone (nested (then' (store_part refl (small 0 tt) refl (fixed refl) ints) (inl refl) (alone part_passes)))) refl refl

pub filling_passes : AllPass sample main_scope filling (does (writes (in_a_at Any)) ∷ does (reads (in_a_at Any)) ∷ does (writes in_b) ∷ [])
unfolding within generalised
filling_passes =
    declare (refl, omega arith) (by_index_good _) (make_array (by_index_good _) refl (var refl) refl) (arrays refl refl)
    (then' loop_passes (inl refl)
    (declare (refl, omega arith) tt (calculates (var refl) (small 1 tt) refl) ints
    (declare (refl, omega arith) tt (small 0 tt) ints
    (then' branches_pass (inl refl)
    (declare_regions (all_one (λ r. (scope_got.regions r ≡ false) × (r < 1)) 0 (refl, omega arith))
    (declare (refl, omega arith) (local_good _ refl) (make_array (local_good _ refl) refl (var refl) refl) (arrays refl refl)
    (then' parts_pass (inl refl)
    (then' (print_int (read_element {t = int} (var {t = local_array} refl) refl (var {x = 9} refl) refl (λ h. refl) refl) refl) (inl refl) no_more))))))))

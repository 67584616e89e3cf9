-- The body of `main` passes: its blocks one after the other, and the nd constructs behind them.
use Rattle.std.proofs.Common.{◌≡◌, ℕ, T, ltb, ◌^◌, List, [], ◌∷◌, ◌++◌, Some, IsTrue, true, false, refl, inl, inr, arith}
use Rattle.std.proofs.lemmas.Bool.{false≢true}
use Rattle.std.proofs.lemmas.List.Elements.{All-nil}
use Rattle.lang_base.specs.declared.elems.Elem.TheVariants.{Any}
use Rattle.lang_base.specs.Apart.{apart}
use Rattle.lang_base.specs.Branches.{atomic_path, clashes, lists_clash}
use Rattle.lang_base.specs.Effects.{covers_effect, interferes, set_covers}
use Rattle.lang_base.specs.Regions.{fully_specified, generalised, substituted, within}
use Rattle.lang_base.specs.Types.{int}
use Rattle.lang_typed.specs.declared.stmt.Forking.TheVariants.{Nondeterministic}
use Rattle.lang_typed.specs.Effects.{Own, as_effects, does, reads, writes}
use Rattle.lang_typed.specs.Plain.{more_stmts, no_stmts}
use Rattle.lang_typed.specs.Samples.{anything, in_a, in_b}
use Rattle.lang_typed.specs.Scope.{Scope, atomic_in, constant, frozen, in_branch, in_loop_branch, itself, variable, with_local}
use Rattle.lang_typed.specs.Statements.{AllPass, IsVariable, NoClash, Passes}
use Rattle.lang_typed.specs.Statements.{atomic, cobegin, declare, foreach, nested, no_branch, no_more, one_branch, perform, return_value, store_field, then'}
use Rattle.lang_typed.specs.Types.{GoodArgs, Known, ints, objects}
use Rattle.lang_typed.specs.Typing.{Has, call_method, create_object, none, one_more, read_field}
use Rattle.trial_samples.specs.Sample.{sample, adds_all, adds_index, class_counter, counter, counter_get, counter_in, counter_raise, get_of, in_c, main, main_body, marked_read, marked_write, raise_by, raises_twice, sum}
use Rattle.trial_samples.proofs.Arrays.{filling_passes, in_a_at}
use Rattle.trial_samples.proofs.Flow.{flow_passes, main_scope}
use Rattle.trial_samples.proofs.Objects.{making_passes}
use Rattle.trial_samples.proofs.Small.{all_one, alone, calculates, fixed, int_known, int_readable, named_good, no_args, of_pair, one_atomic_arg, outer, same_effects, small, var}

abbrev counter_scope : Scope
counter_scope = with_local 21 (variable (counter_in in_c)) main_scope

counter_args : (L : Scope) → GoodArgs sample L 0 (true ∷ []) [] [] (in_c ∷ [])
unfolding atomic_path
counter_args L = one_atomic_arg L in_c (named_good L 0 2 (omega arith)) refl

-- a branch that raises the counter by a small number
abbrev raised : List Own
raised = does (marked_write in_c) ∷ []

raise_passes : (k : ℕ) → T (ltb k (2 ^ 31)) → AllPass sample (in_branch [] [] counter_scope) (more_stmts (raise_by k) no_stmts) raised
unfolding substituted
raise_passes k h =
    alone (perform (inl (counter, 3, 1, [], _, refl)) (call_method {r = 1} {n = 4} {m = counter_raise} (outer refl) refl refl refl itself (no_args _ (in_c ∷ [])) (All-nil (λ a. IsTrue (fully_specified a)))
    (all_one (Known (in_c ∷ [])) int (int_known (in_c ∷ []))) (λ p e. absurd (false≢true e)) (one_more (small k h) ints none) (λ c. absurd (false≢true c)) refl))

-- blocks keep the branches in order
quiet : NoClash sample Nondeterministic counter_scope (raised ∷ raised ∷ [])
unfolding clashes interferes apart within atomic_path
quiet = of_pair (λ E F. lists_clash [] (Some (atomic_in sample counter_scope)) (as_effects E) (as_effects F) ≡ false) raised raised refl

branches_pass : Passes sample counter_scope raises_twice (raised ++ raised)
branches_pass =
    cobegin {Es = raised ∷ raised ∷ []} (λ c. absurd (false≢true c))
    (one_branch (All-nil (IsVariable counter_scope)) (All-nil _) (raise_passes 1 tt)
    (one_branch (All-nil (IsVariable counter_scope)) (All-nil _) (raise_passes 2 tt) no_branch)) quiet

-- an iteration adds its index in a block
reads_sum : {L : Scope} → L.local 0 ≡ Some (frozen main) → Has sample L sum (does (reads in_c) ∷ [])
unfolding substituted
reads_sum h = read_field {k = 1} {f = record { ty = int; region = in_c }} (outer h) refl refl (int_readable []) refl

abbrev added : List Own
added = does (marked_read in_c) ∷ does (marked_write in_c) ∷ []

abbrev loop_scope : Scope
loop_scope = with_local 22 (constant int) (in_loop_branch counter_scope)

adds_pass : Passes sample loop_scope adds_index added
unfolding substituted
adds_pass =
    atomic (alone (store_field (outer refl) refl refl (int_known []) (calculates (reads_sum refl) (fixed refl) refl) ints))
    (same_effects (marked_read in_c ∷ marked_write in_c ∷ []))

loop_passes : Passes sample counter_scope adds_all added
unfolding clashes interferes apart within atomic_path generalised
loop_passes =
    foreach {G = added} (λ c. absurd (false≢true c)) (small 0 tt) refl (var refl) refl (refl, omega arith) (alone adds_pass) refl

gets_count : Has sample counter_scope (get_of counter) (does (marked_read in_c) ∷ [])
unfolding substituted
gets_count =
    call_method {r = 0} {n = 3} {m = counter_get} (var refl) refl refl refl itself (no_args _ (in_c ∷ [])) (All-nil (λ a. IsTrue (fully_specified a)))
    (All-nil (Known (in_c ∷ []))) (int_readable (in_c ∷ [])) none (λ c. absurd (false≢true c)) refl

-- all that `main` does
abbrev pub main_effects : List Own
main_effects =
    does (writes in_a) ∷ does (writes in_b) ∷ does (writes in_a) ∷ does (reads in_a) ∷ does (reads in_b)
    ∷ does (writes (in_a_at Any)) ∷ does (reads (in_a_at Any)) ∷ does (writes in_b)
    ∷ raised ++ raised ++ added ++ does (reads in_c) ∷ does (marked_read in_c) ∷ []

pub main_passes : AllPass sample main_scope main_body main_effects
unfolding generalised within
main_passes =
    then' (nested flow_passes) (inl refl) (then' (nested making_passes) (inl refl) (then' (nested filling_passes) (inl refl)
    (declare (refl, omega arith) (class_counter, refl, counter_args _)
    (create_object refl (counter_args _) (all_one (λ a. IsTrue (fully_specified a)) in_c refl) refl) (objects refl)
    (then' branches_pass (inl refl) (then' loop_passes (inl refl)
    (then' (return_value refl (calculates (reads_sum refl) gets_count refl) ints) (inr refl) no_more))))))

pub main_covered : IsTrue (set_covers (anything ∷ []) (as_effects main_effects))
unfolding covers_effect within
main_covered = refl

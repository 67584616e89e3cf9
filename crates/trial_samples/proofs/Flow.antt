-- The first block of the sample passes: it has no effects.
use Rattle.std.proofs.Common.{[], refl, inl, arith}
use Rattle.lang_typed.specs.Scope.{Scope}
use Rattle.lang_typed.specs.Statements.{AllPass, choice, choice_else, declare, nested, no_more, print_boolean, print_int, print_text, store, then', while_loop}
use Rattle.lang_typed.specs.Table.{body_scope}
use Rattle.lang_typed.specs.Types.{booleans, ints}
use Rattle.lang_typed.specs.Typing.{conjunction, disjunction, literal_boolean, negation, negative}
use Rattle.trial_samples.specs.Sample.{sample, class_main, flow, main_method}
use Rattle.trial_samples.proofs.Small.{alone, calculates, nd_free, compares, small, var}

abbrev pub main_scope : Scope
main_scope = body_scope class_main nd_free 5 main_method

pub flow_passes : AllPass sample main_scope flow []
flow_passes =
    declare (refl, omega arith) tt literal_boolean booleans
    (declare (refl, omega arith) tt (small 0 tt) ints
    (then' (while_loop (conjunction (negation (var refl) refl) refl (compares (var refl) (var refl) refl) refl) refl
    (alone (nested (then' (store refl (calculates (var refl) (small 1 tt) refl) ints) (inl refl)
    (then' (store refl (compares (calculates (var refl) (var refl) refl) (var refl) refl) booleans) (inl refl) no_more)))))
    (inl refl)
    (then' (choice (disjunction (var refl) refl (compares (var refl) (small 0 tt) refl) refl) refl (alone print_text)) (inl refl)
    (then' (choice_else (conjunction (compares (calculates (var refl) (var refl) refl) (var refl) refl) refl
    (compares (calculates (var refl) (var refl) refl) (small 1 tt) refl) refl) refl
    (alone (print_int (var refl) refl)) (alone (print_int (negative (var refl) refl) refl))) (inl refl)
    (then' (print_boolean (compares (var refl) (small 1 tt) refl) refl) (inl refl) no_more)))))

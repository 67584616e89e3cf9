-- The second block of the sample passes.
use Rattle.std.proofs.Common.{◌≡◌, ℕ, zero, suc, All, IsTrue, [], ◌∷◌, false, refl, sym, ◌∙◌, inl, inr, arith, Some}
use Rattle.std.proofs.lemmas.Bool.{false≢true}
use Rattle.lang_base.specs.declared.region.Rpl.{Rpl}
use Rattle.lang_base.specs.Apart.{apart}
use Rattle.lang_base.specs.Regions.{argument, fully_specified, generalised, substituted, within}
use Rattle.lang_base.specs.Types.{mentions_param}
use Rattle.lang_typed.specs.Effects.{does, effect_with, reads, writes}
use Rattle.lang_typed.specs.Plain.{exprs_of}
use Rattle.lang_typed.specs.Plain.{ExprForm as expr}
use Rattle.lang_typed.specs.Samples.{in_a, in_b}
use Rattle.lang_typed.specs.Scope.{Scope, itself, variable}
use Rattle.lang_typed.specs.Statements.{AllPass, declare, no_more, perform, print_int, store, store_field, then'}
use Rattle.lang_typed.specs.Types.{GoodArgs, GoodPath, Known, inherits, ints, null_object, objects}
use Rattle.lang_typed.specs.Typing.{Has, call_method, construct_object, create_object, literal_null, none, one_more}
use Rattle.trial_samples.specs.Sample.{sample, an_int, apart_params, cell, class_cell, class_shape, local_of, making, new_cell, param, shape, shape_area}
use Rattle.trial_samples.proofs.Flow.{main_scope}
use Rattle.trial_samples.proofs.Small.{all_one, int_known, int_readable, named_good, one_arg, small, var}

a_good : (L : Scope) → GoodPath sample L 0 in_a
a_good L = named_good L 0 0 (omega arith)

b_good : (L : Scope) → GoodPath sample L 0 in_b
b_good L = named_good L 0 1 (omega arith)

full : (a : Rpl) → IsTrue (fully_specified a) → All (λ a. IsTrue (fully_specified a)) (a ∷ [])
full a h = all_one (λ a. IsTrue (fully_specified a)) a h

-- a new cell: its constructor writes in its region
makes_cell : {L : Scope} {a : Rpl} {f : expr} → IsTrue (L.member_nd_free 0) → GoodPath sample L 0 a → IsTrue (fully_specified a) → Has sample L (an_int f) []
    → Has sample L (new_cell a (an_int f)) (does (effect_with (a ∷ []) (writes (param 0))) ∷ [])
makes_cell {L} {a} nd_free good whole h =
    construct_object refl (one_arg L [] a good) (full a whole) refl refl (one_more h ints none) (λ c. nd_free)

known_cell : (p : ℕ) → IsTrue (mentions_param p (cell (param 1))) → IsTrue (fully_specified (argument (in_a ∷ in_b ∷ []) p))
known_cell zero h = refl
known_cell (suc zero) h = refl
known_cell (suc (suc p)) h = refl

-- the regions of the two are apart
area_args : (L : Scope) → GoodArgs sample L 0 (false ∷ []) (apart_params ∷ []) (in_a ∷ []) (in_b ∷ [])
unfolding apart within substituted
area_args L = (let o = one_arg L (in_a ∷ []) in_b (b_good L) in record {
  arity = o.arity;
  paths = o.paths;
  atomic = o.atomic;
  hold = all_one (λ k. IsTrue (apart L.given (substituted (in_a ∷ in_b ∷ []) k.left) (substituted (in_a ∷ in_b ∷ []) k.right))) apart_params refl;
})

-- the call: what is called is seen through `Shape<A>`
calls_area : {L : Scope} {x y : ℕ} → L.nd_free ≡ false → L.local x ≡ Some (variable (shape in_a)) → L.local y ≡ Some (variable (cell in_b))
    → Has sample L (an_int (expr.call (local_of (shape in_a) x) 1 0 (in_b ∷ []) (exprs_of (local_of (cell in_b) y ∷ [])))) (does (reads in_a) ∷ does (reads in_b) ∷ [])
unfolding substituted within
calls_area {L} loud h k =
    call_method {r = 0} {n = 1} {m = shape_area} (var h) refl refl refl itself (area_args L) (full in_b refl)
    (all_one (Known (in_a ∷ in_b ∷ [])) (cell (param 1)) known_cell) (int_readable (in_a ∷ in_b ∷ [])) (one_more (var k) (objects refl) none)
    (λ c. absurd (false≢true (sym loud ∙ c))) refl

pub making_passes : AllPass sample main_scope making (does (writes in_a) ∷ does (writes in_b) ∷ does (writes in_a) ∷ does (reads in_a) ∷ does (reads in_b) ∷ [])
unfolding substituted within generalised
making_passes =
    declare (refl, omega arith) (class_shape, refl, one_arg _ [] in_a (a_good _)) (create_object refl (one_arg _ [] in_a (a_good _)) (full in_a refl) refl)
    (inherits refl (objects refl))
    (then' (store_field (var refl) refl refl (int_known (in_a ∷ [])) (small 3 tt) ints) (inl refl)
    (declare (refl, omega arith) (class_cell, refl, one_arg _ [] in_b (b_good _)) literal_null null_object
    (then' (store refl (makes_cell refl (b_good _) refl (var refl)) (objects refl)) (inl refl)
    (then' (perform (inr (_, refl)) (makes_cell refl (a_good _) refl (small 0 tt))) (inl refl)
    (then' (print_int (calls_area refl refl refl) refl) (inl refl) no_more)))))

-- The root is in order from the start, by the meaning that looks at kinds.
use Rattle.std.specs.Int.{w32}
use Rattle.std.proofs.Common.{◌≡◌, ℕ, zero, suc, ℤ, FitsSigned, List, [], ◌∷◌, length, refl, sym, ap, subst, arith, Some, None, slice_get, slice_index_or, inl}
use Rattle.std.specs.Prelude.{All}
use Rattle.std.proofs.lemmas.Bool.{false≢true}
use Rattle.lang_base.specs.Matching.{Holds}
use Rattle.lang_base.specs.Types.{PlainType, int}
use Rattle.lang_typed.specs.Plain.{PlainProgram}
use Rattle.lang_typed.specs.WellTyped.{WellTyped}
use Rattle.lang_meaning.specs.Elision.{enters_main}
use Rattle.lang_meaning.specs.Expressions.{entered}
use Rattle.runs_theory.specs.Objects.{Int, Null, Object}
use Rattle.runs_program.specs.Steps.{named_by, first_name}
use Rattle.runs_sound.specs.Settings.{EndAtomic, class_setting, class_env}
use Rattle.runs_sound.specs.Shapes.{same, Is, GoodObject, FitsIn}
use Rattle.runs_sound.specs.Frames.{FrameFits}
use Rattle.runs_sound.specs.Work.{InOrder}
use Rattle.runs_sound.specs.Laws.{Leaves, start, main_scope, main_bounds}
use Rattle.runs_sound.proofs.work.Entering.{body_good, entered_fits}
use Rattle.runs_sound.specs.Kinds.{Wrong, strict_does}
use Rattle.runs_sound.proofs.kinds.Tasks.{strict_tasks_in_order}
use Rattle.lang_meaning.specs.Elision.{root_task}
use Rattle.runs_theory.specs.Objects.{Name, LocalRegion}

pub first_good : (P : PlainProgram) (wt : WellTyped P) → GoodObject P P.main_class []
first_good P wt = record {
  class = wt.main.class;
  is = wt.main.class_is;
  arity = sym (ap length wt.main.no_class_params);
  plain = λ p. refl;
  atomic = subst (λ z. EndAtomic P.region_names z []) (sym wt.main.no_class_params) (λ p h. absurd (false≢true h));
  given = subst (λ z. All (Holds (class_env [])) z) (sym wt.main.nothing_given_of_class) (λ k c l. absurd (omega (arith, l)));
}

module _ (P : PlainProgram) (wt : WellTyped P) (arg : ℤ) (small : FitsSigned w32 arg) where
  -- the only formal is an int
  formal : (ts : List PlainType) → ts ≡ int ∷ [] → (x : ℕ) (t : PlainType) → slice_get ts x ≡ Some t →
      FitsIn P (start P).shapes (class_env []) t (slice_index_or (Int arg ∷ []) x Null)
  formal ts e x t h = one x t (subst (λ z. slice_get z x ≡ Some t) e h)
    where
      one : (x : ℕ) (t : PlainType) → slice_get (int ∷ []) x ≡ Some t → FitsIn P (start P).shapes (class_env []) t (slice_index_or (Int arg ∷ []) x Null)
      one zero t h = let q : int ≡ t = cc in subst (λ z. FitsIn P (start P).shapes (class_env []) z (Int arg)) q small
      one (suc x) t h = absurd (let q : None ≡ Some t = h in cc)

  first_frame : FrameFits P [] (start P) (class_setting []) (main_scope P wt) (entered (named_by []) wt.main.member (Object first_name ∷ Int arg ∷ []) [] 499)
  first_frame =
      entered_fits P wt P.main_member wt.main.member wt.main.member_is [] (start P) [] [] 499 (subst (λ c. GoodObject P c []) (sym wt.main.own) (first_good P wt)) (λ p. refl)
      (subst (λ z. EndAtomic P.region_names z []) (sym wt.main.no_params) (λ p h. absurd (false≢true h)))
      (subst (λ z. All (Holds (class_env [])) z) (sym wt.main.nothing_given) (λ k c l. absurd (omega (arith, l)))) first_name P.main_class [] refl (first_good P wt)
      (subst (λ c. Is P P.main_class [] c []) (sym wt.main.own) same) (Int arg ∷ []) (formal wt.main.member.formals wt.main.formals)

pub strict_root_in_order : (wrong : Wrong Name LocalRegion) (P : PlainProgram) (wt : WellTyped P) (arg : ℤ) → FitsSigned w32 arg →
    InOrder P (main_bounds P wt) (Leaves P (main_bounds P wt) (main_scope P wt) (class_setting []) wt.main.member.body (start P)) (start P)
    (strict_does wrong (named_by []) P (root_task (named_by []) P first_name arg))
strict_root_in_order wrong P wt arg small =
    subst (λ z. InOrder P (main_bounds P wt) (Leaves P (main_bounds P wt) (main_scope P wt) (class_setting []) wt.main.member.body (start P)) (start P)
    (strict_does wrong (named_by []) P (enters_main (named_by []) first_name arg z))) (sym wt.main.member_is)
    (strict_tasks_in_order wrong P wt (main_bounds P wt) (main_scope P wt) wt.main.member.body (wt.members P.main_member wt.main.member wt.main.member_is).effects
    (wt.members P.main_member wt.main.member wt.main.member_is).passes
    (body_good P wt P.main_member wt.main.member wt.main.member_is) 499 (class_setting []) (start P) _ (first_frame P wt arg small) (λ a u l. record { effects = inl l; blocks = tt }))

-- Work in order, put together.
use Rattle.std.proofs.Common.{◌≡◌, [], ◌∷◌, refl, sym, ◌∙◌, subst, arith, le_trans}
use Rattle.lang_base.specs.declared.elems.Elem.TheVariants.{At}
use Rattle.lang_base.specs.declared.elems.Index.TheVariants.{Literal}
use Rattle.lang_base.specs.Matching.{Fits}
use Rattle.lang_typed.specs.Plain.{PlainProgram, TypedExpr, type_of}
use Rattle.lang_typed.specs.Scope.{Scope}
use Rattle.lang_typed.specs.Typing.{index_elem}
use Rattle.lang_meaning.specs.Core.{Goes_on, Returns, Ret, Traps, Act, Makes, Again, Split, on, next_of, and_then}
use Rattle.lang_meaning.specs.Counts.{number}
use Rattle.runs_theory.specs.Actions.{Own}
use Rattle.runs_theory.specs.Objects.{Value, Made}
use Rattle.runs_sound.specs.Settings.{Setting, env_of}
use Rattle.runs_sound.specs.Shapes.{FitsIn}
use Rattle.runs_sound.specs.Accesses.{Bounds}
use Rattle.runs_sound.specs.Frames.{Frame, State, Since}
use Rattle.runs_sound.specs.Work.{Result, Prog, entries_after, After, InOrder}
use Rattle.runs_sound.specs.Laws.{Yields}

pub since_now : (st : State) → Since st st
since_now st = record { grows = λ n s e. e; made = omega arith; entries = refl }

pub since_since : {s t u : State} → Since s t → Since t u → Since s u
since_since a b = record { grows = λ n s e. b.grows n s (a.grows n s e); made = le_trans a.made b.made; entries = b.entries ∙ a.entries }

-- an action that leaves the entries alone
pub since_after : {s t : State} (o : Own) → entries_after s.made o s.entries ≡ s.entries → After o s t → Since s t
since_after {s} {t} o e a = record { grows = a.grows; made = (let m : t.made ≡ s.made = a.made in omega (arith, m)); entries = a.entries ∙ e }

module _ (P : PlainProgram) (b : Bounds) where
  pub order_on : (Q R : State → Result → Type 0) (j : Result → Prog) → ((h : State) (r : Result) → Q h r → InOrder P b R h (j r)) → (p : Prog) (st : State) →
      InOrder P b Q st p → InOrder P b R st (on p j)
  unfolding InOrder
  order_on Q R j i (Ret r) st o = i st r o
  order_on Q R j i (Traps trap place) st o = tt
  order_on Q R j i (Act a k) st o = (o.0, λ x h after x_fits. order_on Q R j i (k x) h (o.1 x h after x_fits))
  order_on Q R j i (Makes k) st o = λ h after. order_on Q R j i (k (Made b.path st.made)) h (o h after)
  order_on Q R j i (Again test body f k) st o = (o.0, o.1, o.2, o.3, o.4, λ h r z. order_on Q R j i (k r) h (o.5 h r z))
  order_on Q R j i (Split forking ts does k) st o = (o.0, λ x h s z. order_on Q R j i (k x) h (o.1 x h s z))

  -- what holds at its end may be weakened
  pub order_post : (Q R : State → Result → Type 0) → ((h : State) (r : Result) → Q h r → R h r) → (p : Prog) (st : State) → InOrder P b Q st p →
      InOrder P b R st p
  unfolding InOrder
  order_post Q R i (Ret r) st o = i st r o
  order_post Q R i (Traps trap place) st o = tt
  order_post Q R i (Act a k) st o = (o.0, λ x h after x_fits. order_post Q R i (k x) h (o.1 x h after x_fits))
  order_post Q R i (Makes k) st o = λ h after. order_post Q R i (k (Made b.path st.made)) h (o h after)
  order_post Q R i (Again test body f k) st o = (o.0, o.1, o.2, o.3, o.4, λ h r z. order_post Q R i (k r) h (o.5 h r z))
  order_post Q R i (Split forking ts does k) st o = (o.0, λ x h s z. order_post Q R i (k x) h (o.1 x h s z))

  pub order_ret : (Q : State → Result → Type 0) (st : State) (r : Result) → Q st r → InOrder P b Q st (Ret r)
  unfolding InOrder
  order_ret Q st r q = q

  -- after an expression
  pub order_then : (L : Scope) (g : Setting) (e : TypedExpr) (f : Frame) (R : State → Result → Type 0) (j : Value → Frame → Prog) (st : State) (p : Prog) →
      InOrder P b (Yields P L g e st f) st p →
      ((h : State) (v : Value) → Since st h → FitsIn P h.shapes (env_of g) (type_of e) v →
      Fits (env_of g) (index_elem L e) (At (Literal (number v)) ∷ []) → InOrder P b R h (j v f)) →
      InOrder P b R st (and_then p j)
  order_then L g e f R j st p o i = order_on (Yields P L g e st f) R (next_of j) go p st o
    where
      go : (h : State) (r : Result) → Yields P L g e st f h r → InOrder P b R h (next_of j r)
      go h (Goes_on v c) y = subst (λ d. InOrder P b R h (j v d)) (sym y.1) (i h v y.0 y.2 y.3)
      go h (Returns v) y = absurd y

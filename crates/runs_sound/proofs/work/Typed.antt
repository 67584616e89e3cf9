-- What is to hold after a typed expression; and reads through parts.
use Rattle.std.proofs.Common.{◌≡◌, inl, ℕ, ◌+◌, ℤ, pos, Bool, true, false, cond, ◌||◌, not, [], ◌∷◌, refl, sym, ap, ◌∙◌, Option, Some, None}
use Rattle.std.specs.Prelude.{int_lt}
use Rattle.std.specs.Int.{w32, int_wrapping_add}
use Rattle.lang_base.specs.declared.elems.Elem.TheVariants.{At}
use Rattle.lang_base.specs.declared.elems.Index.TheVariants.{Literal}
use Rattle.lang_base.specs.declared.place.Place.{Place}
use Rattle.lang_base.specs.declared.region.Rpl.{Rpl}
use Rattle.lang_base.specs.declared.value.Trap.TheVariants as trap
use Rattle.lang_base.specs.Matching.{Fits, put_in}
use Rattle.lang_base.specs.Types.{PlainType, int, boolean, void, null, class, array}
use Rattle.lang_typed.specs.Effects.{uses, reads}
use Rattle.lang_typed.specs.Plain.{PlainProgram, TypedExpr, type_of}
use Rattle.lang_typed.specs.Scope.{Scope}
use Rattle.lang_typed.specs.Typing.{index_elem}
use Rattle.lang_meaning.specs.Core.{Goes_on, Traps}
use Rattle.lang_meaning.specs.Counts.{number, slot_value, part_place}
use Rattle.lang_meaning.specs.Expressions.{unless_null, read_cell, part_element}
use Rattle.runs_theory.specs.Objects.{Name, Value, Int, Boolean, Null, Object}
use Rattle.runs_sound.specs.Settings.{Setting, env_of, under}
use Rattle.runs_sound.specs.Shapes.{elements, ArrayInstance, FitsIn, of_array}
use Rattle.runs_sound.specs.Accesses.{Bounds, Within}
use Rattle.runs_sound.specs.Frames.{Frame, State, Since, PartFits}
use Rattle.runs_sound.specs.Scopes.{TypeInScope}
use Rattle.runs_sound.specs.Work.{Result, Prog, Touches, access_of, InOrder}
use Rattle.runs_sound.specs.Laws.{Yields}
use Rattle.runs_sound.proofs.classes.Types.{fits_same, same_sym}
use Rattle.runs_sound.proofs.paths.Indices.{same_inside, region_alone}
use Rattle.runs_sound.proofs.classes.Classes.{IsAlone}
use Rattle.runs_sound.proofs.scopes.InScope.{paths_alone}
use Rattle.runs_sound.proofs.work.Expressions.{speaks_read, order_trap, order_read}

pub type_alone : (L : Scope) (t : PlainType) → TypeInScope L 0 t → IsAlone t
type_alone L int h = tt
type_alone L boolean h = tt
type_alone L void h = tt
type_alone L null h = tt
type_alone L (class c args) h = paths_alone L args h
type_alone L (array t a named) h = tt

-- where an index lies inside a part
pub inside_part : (i len : ℤ) (place : ℤ) (p : ℤ) → cond (int_lt i (pos 0) || not (int_lt i len)) None (Some place) ≡ Some p →
    (int_lt i (pos 0) ≡ false) × (int_lt i len ≡ true) × (p ≡ place)
inside_part i len place p e = go (int_lt i (pos 0)) (int_lt i len) refl refl e
  where
    go : (x y : Bool) → int_lt i (pos 0) ≡ x → int_lt i len ≡ y → cond (x || not y) None (Some place) ≡ Some p →
        (int_lt i (pos 0) ≡ false) × (int_lt i len ≡ true) × (p ≡ place)
    go false true a c h = (a, c, (let q : Some place ≡ Some p = h in cc))
    go false false a c h = absurd (let q : None ≡ Some p = h in cc)
    go true y a c h = absurd (let q : None ≡ Some p = h in cc)

module _ (P : PlainProgram) (b : Bounds) where
  abbrev at_place : Place → Frame → (Name → ℤ → Prog) → Value → Option ℤ → Prog
  at_place at f j v o = elim o as (λ z. Prog) [ None ↦ Traps trap.Index at | Some p ↦ unless_null at v (λ n. j n p) ]

  -- a read of an element through a part
  pub part_order : (R : State → Result → Type 0) (st : State) (at : Place) (f : Frame) (g : Setting) (k : ℕ) (t : PlainType) (a : Rpl) (i : ℤ) →
      PartFits P st.shapes g f.values k t a →
      Within b st.entries g (uses k (reads a) ∷ []) → ((w : Value) (u : State) → Since st u → FitsIn P u.shapes (env_of g) t w → R u (Goes_on w f)) →
      InOrder P b R st (part_element at k i f (λ n j. read_cell at n j f))
  part_order R st at f g k t a i pf w next = go (part_place k i f.values) refl
    where
      read : (p : ℤ) → part_place k i f.values ≡ Some p → (n : Name) (v : Value) → slot_value f.values k ≡ Object n →
          ArrayInstance st.shapes (env_of g) t a n → InOrder P b R st (read_cell at n p f)
      read p e n v is i' =
          let s = inside_part i (number (slot_value f.values (k + 2))) (int_wrapping_add w32 (number (slot_value f.values (k + 1))) i) p e in
          let cell : Touches P st.shapes n p = record {
            shape = elements i'.setting i'.element i'.rpl;
            is = i'.shape;
            env = under p
                (env_of i'.setting);
            ty = i'.element;
            rpl = i'.rpl;
            cell = of_array;
          } in
          let region = (put_in (under p (env_of i'.setting)) i'.rpl).elems in
          order_read P b R st at n p f
          (record {
            cell = cell;
            allowed = w (access_of b st n p false region) (λ e. e) (inl (
              speaks_read g a (access_of b st n p false region) refl (region_alone g p a pf.no_index region (i'.region p)),
              λ cell. record {
                array = ap (λ q. q.array) pf.places ∙ is;
                index = i;
                from_first = s.0;
                below_last = ap (λ q. int_lt i q.len) pf.places ∙ s.1;
                place = s.2 ∙ ap (λ q. int_wrapping_add w32 q.first i) (sym pf.places);
              },
            ));
          })
          (λ y u h fy. next y u h (fits_same P u.shapes (under p (env_of g)) t (env_of g) t (same_inside g p t pf.none_mentioned) y
          (fits_same P u.shapes (under p (env_of i'.setting)) i'.element (under p (env_of g)) t
          (same_sym (under p (env_of g)) t (under p (env_of i'.setting)) i'.element (i'.same p)) y fy)))

      by_value : (p : ℤ) → part_place k i f.values ≡ Some p → (v : Value) → slot_value f.values k ≡ v →
          FitsIn P st.shapes (env_of g) (array t a false) v → InOrder P b R st (unless_null at v (λ n. read_cell at n p f))
      by_value p e Null is fv = order_trap P b R st trap.Null at
      by_value p e (Object n) is fv = read p e n (Object n) is fv
      by_value p e (Int j) is fv = absurd fv
      by_value p e (Boolean c) is fv = absurd fv

      go : (o : Option ℤ) → part_place k i f.values ≡ o → InOrder P b R st (at_place at f (λ n j. read_cell at n j f) (slot_value f.values k) o)
      go None e = order_trap P b R st trap.Index at
      go (Some p) e = by_value p e (slot_value f.values k) refl pf.array

-- what is to hold after an expression, wherever it gives a value of its type
abbrev pub Next : PlainProgram → Scope → Setting → (State → Result → Type 0) → TypedExpr → State → Frame → Type 0
Next P L g R e st f = (h : State) (v : Value) → Since st h → FitsIn P h.shapes (env_of g) (type_of e) v → Fits (env_of g) (index_elem L e)
    (At (Literal (number v)) ∷ []) → R h (Goes_on v f)

pub yields : (P : PlainProgram) (L : Scope) (g : Setting) (e : TypedExpr) (st : State) (f : Frame) → Next P L g (Yields P L g e st f) e st f
yields P L g e st f h v s fv ix = (s, refl, fv, ix)

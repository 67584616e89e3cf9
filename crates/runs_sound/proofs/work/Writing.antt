-- Writes and prints of a well-typed program are in order: one case a construct.
use Rattle.std.proofs.Common.{◌≡◌, inl, ℕ, ℤ, ◌+◌, pos, Bool, true, false, cond, List, [], ◌∷◌, length, refl, sym, ap, ◌∙◌, Option, Some, None, IsTrue}
use Rattle.std.specs.Prelude.{All, int_lt}
use Rattle.std.specs.Int.{w32, int_wrapping_add}
use Rattle.std.proofs.lemmas.Bool.{false≢true}
use Rattle.lang_base.specs.declared.elems.Elem.{Elem}
use Rattle.lang_base.specs.declared.place.Place.{Place}
use Rattle.lang_base.specs.declared.region.Rpl.{Rpl}
use Rattle.lang_base.specs.declared.value.Trap.TheVariants as trap
use Rattle.lang_base.specs.Matching.{Fits, Matches, put_in}
use Rattle.lang_base.specs.declared.elems.Elem.TheVariants.{At}
use Rattle.lang_base.specs.declared.elems.Index.TheVariants.{Literal}
use Rattle.lang_base.specs.Regions.{is_any, substituted}
use Rattle.lang_base.specs.Types.{PlainType, class, array, type_with, path_at, type_at, mentions_index}
use Rattle.lang_typed.specs.Effects.{does, uses, writes}
use Rattle.lang_typed.specs.Plain.{PlainProgram, PlainField}
use Rattle.lang_typed.specs.Scope.{Scope, field_at}
use Rattle.lang_typed.specs.Table.{class_scope}
use Rattle.lang_typed.specs.Types.{Known}
use Rattle.lang_typed.specs.WellTyped.{WellTyped}
use Rattle.lang_meaning.specs.Core.{Goes_on, Traps}
use Rattle.lang_meaning.specs.Counts.{number, slot_value, is_out, part_place}
use Rattle.lang_meaning.specs.Expressions.{gives, none, unless_null, part_element}
use Rattle.lang_meaning.specs.Statements.{write_cell, prints}
use Rattle.region_paths.proofs.Putting.{specified_matches_one}
use Rattle.runs_theory.specs.Actions.{Write, Print}
use Rattle.runs_theory.specs.Objects.{Name, Value, Null, Object, Int, Boolean}
use Rattle.runs_sound.specs.Settings.{Setting, env_of, class_env, under}
use Rattle.runs_sound.specs.Shapes.{object, elements, Instance, ArrayInstance, FitsIn, of_object, of_array as at_array}
use Rattle.runs_sound.specs.Accesses.{Access, Speaks, Bounds, Within}
use Rattle.runs_sound.specs.Frames.{Frame, State, Since, PartFits}
use Rattle.runs_sound.specs.Scopes.{PathInScope}
use Rattle.runs_sound.specs.Work.{Result, Prog, Touches, Reaches, access_of, InOrder}
use Rattle.runs_sound.proofs.scopes.Closed.{closed_path, closed_type}
use Rattle.runs_sound.proofs.classes.Types.{fits_same, same_sym, fits_with_down, path_up}
use Rattle.runs_sound.proofs.paths.Including.{includes_matched}
use Rattle.runs_sound.proofs.paths.Indices.{IsIndexElem, fits_at_down, region_at_up, same_inside, region_alone}
use Rattle.runs_sound.proofs.classes.Classes.{good_is, field_good, field_is, stands_args}
use Rattle.runs_sound.proofs.scopes.InScope.{paths_alone}
use Rattle.runs_sound.proofs.work.Expressions.{order_unless, order_trap}
use Rattle.runs_sound.proofs.work.Typed.{inside_part}
use Rattle.runs_sound.proofs.work.Work.{since_after}

speaks_write : (g : Setting) (rpl : Rpl) (a : Access) → Matches (env_of g) rpl a.region → Speaks g (writes rpl) a
speaks_write g rpl a m = record { includes = includes_matched (env_of g) rpl a.region m; writes = λ e. refl; guarded = λ e. absurd (false≢true e) }

module _ (P : PlainProgram) (b : Bounds) where
  -- a write that is allowed, of a value of the cell's type
  pub order_write : (R : State → Result → Type 0) (st : State) (at : Place) (n : Name) (i : ℤ) (v : Value) (f : Frame) (r : Reaches P b st n i true) →
      FitsIn P st.shapes r.cell.env r.cell.ty v →
      ((u : State) → Since st u → R u (Goes_on none f)) → InOrder P b R st (write_cell at n i v f)
  unfolding InOrder
  order_write R st at n i v f r fv k = ((r, fv), λ x u after fits. go (is_out x) u (since_after (Write n i v) refl after))
    where
      go : (c : Bool) (u : State) → Since st u → InOrder P b R u (cond c (Traps trap.Index at) (gives none f))
      go true u s = tt
      go false u s = k u s

  pub order_prints : (R : State → Result → Type 0) (st : State) (text : List ℕ) (f : Frame) → ((u : State) → Since st u → R u (Goes_on none f)) →
      InOrder P b R st (prints text f)
  unfolding InOrder
  order_prints R st text f k = (tt, λ x u after fits. k u (since_after (Print _) refl after))

  abbrev write_at : Place → Frame → Value → Value → Option ℤ → Prog
  write_at at f v u o = elim o as (λ z. Prog) [ None ↦ Traps trap.Index at | Some p ↦ unless_null at v (λ n. write_cell at n p u f) ]

  -- a write of an element through a part
  pub part_write : (R : State → Result → Type 0) (st : State) (at : Place) (f : Frame) (g : Setting) (k : ℕ) (t : PlainType) (a : Rpl) (i : ℤ) (u : Value) →
      PartFits P st.shapes g f.values k t a →
      Within b st.entries g (uses k (writes a) ∷ []) → FitsIn P st.shapes (env_of g) t u → ((h : State) → Since st h → R h (Goes_on none f)) →
      InOrder P b R st (part_element at k i f (λ n l. write_cell at n l u f))
  part_write R st at f g k t a i u pf w fu next = go (part_place k i f.values) refl
    where
      write : (p : ℤ) → part_place k i f.values ≡ Some p → (n : Name) → slot_value f.values k ≡ Object n → ArrayInstance st.shapes (env_of g) t a n →
          InOrder P b R st (write_cell at n p u f)
      write p e n is i' =
          let s = inside_part i (number (slot_value f.values (k + 2))) _ p e in
          let cell : Touches P st.shapes n p = record {
            shape = elements i'.setting i'.element i'.rpl;
            is = i'.shape;
            env = under p
                (env_of i'.setting);
            ty = i'.element;
            rpl = i'.rpl;
            cell = at_array;
          } in
          let region = (put_in (under p (env_of i'.setting)) i'.rpl).elems in
          order_write R st at n p u f
          (record {
            cell = cell;
            allowed = w (access_of b st n p true region) (λ e. e) (inl (
              speaks_write g a (access_of b st n p true region) (region_alone g p a pf.no_index region (i'.region p)),
              λ cell. record {
                array = ap (λ q. q.array) pf.places ∙ is;
                index = i;
                from_first = s.0;
                below_last = ap (λ q. int_lt i q.len) pf.places ∙ s.1;
                place = s.2 ∙ ap (λ q. int_wrapping_add w32 q.first i) (sym pf.places);
              },
            ));
          })
          (fits_same P st.shapes (under p (env_of g)) t (under p (env_of i'.setting)) i'.element (i'.same p) u
          (fits_same P st.shapes (env_of g) t (under p (env_of g)) t (same_sym (under p (env_of g)) t (env_of g) t (same_inside g p t pf.none_mentioned)) u fu))
          next

      by_value : (p : ℤ) → part_place k i f.values ≡ Some p → (v : Value) → slot_value f.values k ≡ v →
          FitsIn P st.shapes (env_of g) (array t a false) v → InOrder P b R st (unless_null at v (λ n. write_cell at n p u f))
      by_value p e Null is fv = order_trap P b R st trap.Null at
      by_value p e (Object n) is fv = write p e n is fv
      by_value p e (Int j) is fv = absurd fv
      by_value p e (Boolean c) is fv = absurd fv

      go : (o : Option ℤ) → part_place k i f.values ≡ o → InOrder P b R st (write_at at f (slot_value f.values k) u o)
      go None e = order_trap P b R st trap.Index at
      go (Some p) e = by_value p e (slot_value f.values k) refl pf.array

  module _ (wt : WellTyped P) (L : Scope) (g : Setting) where
    -- a write of a field, or the trap at null
    pub field_write : (R : State → Result → Type 0) (st : State) (at : Place) (f : Frame) (c k : ℕ) (args : List Rpl) (fd : PlainField) →
        field_at P c k ≡ Some fd → Known args fd.ty →
        All (PathInScope L 0) args → Within b st.entries g (does (writes (substituted args fd.region)) ∷ []) → (u : Value) → FitsIn P st.shapes
        (env_of g) (type_with args fd.ty) u →
        (v : Value) → FitsIn P st.shapes (env_of g) (class c args) v → ((h : State) → Since st h → R h (Goes_on none f)) →
        InOrder P b R st (unless_null at v (λ n. write_cell at n (pos k) u f))
    field_write R st at f c k args fd e kn al w u fu v fv next = order_unless P b R st at (Instance P st.shapes (env_of g) c args)
        (λ n. write_cell at n (pos k) u f) go v fv
      where
        go : (n : Name) → Instance P st.shapes (env_of g) c args n → InOrder P b R st (write_cell at n (pos k) u f)
        go n i =
            let good = good_is P wt i.is_one i.good in
            let fa = field_is P wt k fd i.is_one i.good e in
            let gf = field_good P wt c good.class k fd good.is e in
            let m = length good.class.params in
            let st' = stands_args m (env_of g) args i.regions i.matches good.arity (paths_alone L args al) refl in
            let path = closed_path P (class_scope good.class) (λ y. refl) 0 fd.region gf.path in
            let own = (specified_matches_one (class_env i.regions) fd.region gf.full _).1 fa.region in
            let cell : Touches P st.shapes n (pos k) = record { shape = object i.class i.made_with; is = i.shape; env = class_env i.made_with; ty = fa.field.ty; rpl = fa.field.region; cell = of_object fa.there } in
            let region = (put_in (class_env i.made_with) fa.field.region).elems in
            order_write R st at n (pos k) u f
            (record {
              cell = cell;
              allowed = w (access_of b st n (pos k) true region) (λ e. e)
                  (inl (speaks_write g (substituted args fd.region) (access_of b st n (pos k) true region)
                  (path_up m 0 (env_of g) (class_env i.regions) args st' fd.region path region own)));
            })
            (fits_same P st.shapes (class_env i.regions) fd.ty (class_env i.made_with) fa.field.ty
            (same_sym (class_env i.made_with) fa.field.ty (class_env i.regions) fd.ty fa.types) u
            (fits_with_down P st.shapes m (env_of g) (class_env i.regions) args st' fd.ty
            (closed_type P (class_scope good.class) (λ y. refl) (λ r t. false≢true t) 0 fd.ty gf.ty) kn u fu))
            next

    pub element_write : (R : State → Result → Type 0) (st : State) (at : Place) (f : Frame) (t : PlainType) (a : Rpl) (named : Bool) (x : Elem) (k : ℤ) →
        IsIndexElem x → Fits (env_of g) x (At (Literal k) ∷ []) →
        (IsTrue (is_any x) → mentions_index 0 t ≡ false) → Within b st.entries g (does (writes (path_at 0 x a)) ∷ []) → (u : Value) →
        FitsIn P st.shapes (env_of g) (type_at 0 x t) u →
        (v : Value) → FitsIn P st.shapes (env_of g) (array t a named) v → ((h : State) → Since st h → R h (Goes_on none f)) →
        InOrder P b R st (unless_null at v (λ n. write_cell at n k u f))
    element_write R st at f t a named x k ix fx kn w u fu v fv next = order_unless P b R st at (ArrayInstance st.shapes (env_of g) t a)
        (λ n. write_cell at n k u f) go v fv
      where
        go : (n : Name) → ArrayInstance st.shapes (env_of g) t a n → InOrder P b R st (write_cell at n k u f)
        go n i =
            let cell : Touches P st.shapes n k = record {
              shape = elements i.setting i.element i.rpl;
              is = i.shape;
              env = under k
                  (env_of i.setting);
              ty = i.element;
              rpl = i.rpl;
              cell = at_array;
            } in
            let region = (put_in (under k (env_of i.setting)) i.rpl).elems in
            order_write R st at n k u f
            (record {
              cell = cell;
              allowed = w (access_of b st n k true region) (λ e. e)
                  (inl (speaks_write g (path_at 0 x a) (access_of b st n k true region) (region_at_up g x k fx a region (i.region k))));
            })
            (fits_same P st.shapes (under k (env_of g)) t (under k (env_of i.setting)) i.element (i.same k) u (fits_at_down P st.shapes g x ix k fx t kn u fu))
            next

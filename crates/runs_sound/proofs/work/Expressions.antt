-- Expressions of a well-typed program are in order: one case a construct.
use Rattle.std.specs.Int.{w32}
use Rattle.std.proofs.Common.{◌≡◌, inl, ℕ, ℤ, FitsSigned, pos, Bool, true, false, cond, List, [], ◌∷◌, length, refl, sym, ap, ◌∙◌, Option, Some, None, IsTrue}
use Rattle.std.specs.Prelude.{All}
use Rattle.std.proofs.lemmas.Bool.{false≢true}
use Rattle.lang_base.specs.declared.elems.Elem.{Elem}
use Rattle.lang_base.specs.declared.elems.Elem.TheVariants.{At}
use Rattle.lang_base.specs.declared.elems.Index.TheVariants.{Literal}
use Rattle.lang_base.specs.declared.place.Place.{Place}
use Rattle.lang_base.specs.declared.region.Rpl.{Rpl}
use Rattle.lang_base.specs.declared.value.Trap.{Trap}
use Rattle.lang_base.specs.declared.value.Trap.TheVariants as trap
use Rattle.lang_base.specs.Matching.{Env, Fits, Matches, put_in}
use Rattle.lang_base.specs.Regions.{substituted, is_any}
use Rattle.lang_base.specs.Types.{PlainType, int, class, array, type_with, path_at, type_at, rigid_in_index}
use Rattle.lang_base.specs.declared.op.BinaryOp.{BinaryOp}
use Rattle.lang_base.specs.Operators.{result_of}
use Rattle.lang_typed.specs.Effects.{reads, does}
use Rattle.lang_typed.specs.Plain.{PlainProgram, PlainField}
use Rattle.lang_typed.specs.Scope.{Scope, constant, field_at}
use Rattle.lang_typed.specs.Scope.{Local as ScopeLocal}
use Rattle.lang_typed.specs.Table.{class_scope}
use Rattle.lang_typed.specs.Types.{Readable}
use Rattle.lang_typed.specs.Typing.{variable_elem}
use Rattle.lang_typed.specs.WellTyped.{WellTyped}
use Rattle.lang_meaning.specs.Core.{Goes_on, Traps, Act}
use Rattle.lang_meaning.specs.Counts.{number, operated, value_read, length_seen, slot_value}
use Rattle.lang_meaning.specs.Expressions.{gives, operation, unless_null, read_cell}
use Rattle.region_paths.proofs.Putting.{specified_matches_one}
use Rattle.runs_theory.specs.Actions.{Read, Look, Answer, Went, Got, Out, Class, Length, Named, Joined, Fell}
use Rattle.runs_theory.specs.Objects.{Name, Value, Int, Boolean, Null, Object}
use Rattle.runs_sound.specs.Settings.{Setting, env_of, class_env, under}
use Rattle.runs_sound.specs.Shapes.{object, elements, Instance, ArrayInstance, IsNullOr, FitsIn, of_object, of_array}
use Rattle.runs_sound.specs.Accesses.{Access, Speaks, Bounds, Within}
use Rattle.runs_sound.specs.Frames.{Frame, State, Since, FrameFits}
use Rattle.runs_sound.specs.Scopes.{PathInScope}
use Rattle.runs_sound.specs.Work.{Result, Prog, Touches, Reaches, access_of, ReadFits, InOrder}
use Rattle.runs_sound.proofs.scopes.Closed.{closed_path, closed_type}
use Rattle.runs_sound.proofs.classes.Types.{fits_same, same_sym, fits_with_up, path_up}
use Rattle.runs_sound.proofs.paths.Including.{includes_matched}
use Rattle.runs_sound.proofs.paths.Indices.{IsIndexElem, fits_at_up, region_at_up}
use Rattle.runs_sound.proofs.classes.Classes.{good_is, field_good, field_is, stands_args}
use Rattle.runs_sound.proofs.scopes.InScope.{paths_alone}
use Rattle.runs_sound.proofs.numbers.Ints.{length_fits, operated_fits}
use Rattle.runs_sound.proofs.work.Work.{since_after}

-- an effect that is no mark of a block speaks of a read
pub speaks_read : (g : Setting) (rpl : Rpl) (a : Access) → a.write ≡ false → Matches (env_of g) rpl a.region → Speaks g (reads rpl) a
speaks_read g rpl a w m = record { includes = includes_matched (env_of g) rpl a.region m; writes = λ e. absurd (false≢true (sym w ∙ e)); guarded = λ e. absurd (false≢true e) }

module _ (P : PlainProgram) (b : Bounds) where
  pub order_unless : (R : State → Result → Type 0) (st : State) (at : Place) (A : Name → Type 0) (k : Name → Prog) →
      ((n : Name) → A n → InOrder P b R st (k n)) → (v : Value) → IsNullOr A v →
      InOrder P b R st (unless_null at v k)
  unfolding InOrder
  order_unless R st at A k i Null h = tt
  order_unless R st at A k i (Object n) h = i n h
  order_unless R st at A k i (Int j) h = absurd h
  order_unless R st at A k i (Boolean c) h = absurd h

  pub order_choose : (R : State → Result → Type 0) (st : State) (c : Bool) (p q : Prog) → InOrder P b R st p → InOrder P b R st q →
      InOrder P b R st (elim c as (λ z. Prog) [ false ↦ p | true ↦ q ])
  order_choose R st false p q h k = h
  order_choose R st true p q h k = k

  pub order_cond : (R : State → Result → Type 0) (st : State) (c : Bool) (p q : Prog) → InOrder P b R st p → InOrder P b R st q →
      InOrder P b R st (cond c p q)
  order_cond R st false p q h k = k
  order_cond R st true p q h k = h

  pub order_trap : (R : State → Result → Type 0) (st : State) (t : Trap) (at : Place) → InOrder P b R st (Traps t at)
  unfolding InOrder
  order_trap R st t at = tt

  -- a read that is allowed, of a cell that is there
  pub order_read : (R : State → Result → Type 0) (st : State) (at : Place) (n : Name) (i : ℤ) (f : Frame) (r : Reaches P b st n i false) →
      ((v : Value) (u : State) → Since st u → FitsIn P u.shapes r.cell.env r.cell.ty v → R u (Goes_on v f)) → InOrder P b R st (read_cell at n i f)
  unfolding InOrder
  order_read R st at n i f r k = (r, λ x u after fits. go x u (since_after (Read n i) refl after) fits)
    where
      go : (x : Answer) (u : State) → Since st u → ReadFits r.cell u.shapes x →
          InOrder P b R u (elim (value_read x) as (λ z. Prog) [ None ↦ Traps trap.Index at | Some v ↦ gives v f ])
      go (Got v) u s h = k v u s h
      go Out u s h = tt
      go Went u s h = absurd h
      go (Class d rs) u s h = absurd h
      go (Length len) u s h = absurd h
      go (Named m) u s h = absurd h
      go (Joined ls) u s h = absurd h
      go (Fell t p) u s h = absurd h

  pub order_length : (R : State → Result → Type 0) (st : State) (n : Name) (f : Frame) (g : Setting) (t : PlainType) (a : Rpl) → st.shapes n ≡ Some (elements g t a) →
      ((v : ℕ) (u : State) → Since st u → FitsSigned w32 (pos v) → R u (Goes_on (Int (pos v)) f)) → InOrder P b R st (Act (Look n) (λ x. gives (Int (pos (length_seen x))) f))
  unfolding InOrder
  order_length R st n f g t a e k = ((elements g t a, e), λ x u after fits. k (length_seen x) u (since_after (Look n) refl after) (length_fits x fits))

  -- an operation gives a value of its result's type, or traps
  abbrev after_operation : Place → Frame → Option Value → Prog
  after_operation at f o = elim o as (λ z. Prog) [ None ↦ Traps trap.Divide at | Some w ↦ gives w f ]

  pub order_operation : (R : State → Result → Type 0) (st : State) (env : Env) (same : Name → Name → Bool) (at : Place) (o : BinaryOp) (v u : Value) (f : Frame) →
      FitsSigned w32 (number v) → ((w : Value) → FitsIn P st.shapes env (result_of o) w → R st (Goes_on w f)) → InOrder P b R st (operation same at o v u f)
  unfolding InOrder
  order_operation R st env same at o v u f small k = go (operated same o v u) (λ w e. k w (operated_fits P st.shapes env same o v u w small e))
    where
      go : (x : Option Value) → ((w : Value) → x ≡ Some w → R st (Goes_on w f)) → InOrder P b R st (after_operation at f x)
      go None h = tt
      go (Some w) h = h w refl

  module _ (wt : WellTyped P) (L : Scope) (g : Setting) where
    -- a local's value, and its number where it stands in paths
    pub local_index : {st : State} {f : Frame} → FrameFits P b.path st g L f → (x : ℕ) (l : Option ScopeLocal) → L.local x ≡ l →
        Fits (env_of g) (variable_elem x l) (At (Literal (number (slot_value f.values x))) ∷ [])
    local_index ff x (Some (constant int)) e = ap (λ z. At (Literal z) ∷ []) (ff.index x e)
    local_index {st} {f} ff x _ e = (number (slot_value f.values x), refl)

    -- a read of a field, or the trap at null
    pub field_order : (R : State → Result → Type 0) (st : State) (at : Place) (f : Frame) (c k : ℕ) (args : List Rpl) (fd : PlainField) →
        field_at P c k ≡ Some fd → Readable args fd.ty →
        All (PathInScope L 0) args → Within b st.entries g (does (reads (substituted args fd.region)) ∷ []) → (v : Value) → FitsIn P st.shapes
        (env_of g) (class c args) v →
        ((w : Value) (u : State) → Since st u → FitsIn P u.shapes (env_of g) (type_with args fd.ty) w → R u (Goes_on w f)) →
        InOrder P b R st (unless_null at v (λ n. read_cell at n (pos k) f))
    field_order R st at f c k args fd e rd al w v fv next = order_unless R st at (Instance P st.shapes (env_of g) c args) (λ n. read_cell at n (pos k) f) go v fv
      where
        go : (n : Name) → Instance P st.shapes (env_of g) c args n → InOrder P b R st (read_cell at n (pos k) f)
        go n i =
            let good = good_is P wt i.is_one i.good in
            let fa = field_is P wt k fd i.is_one i.good e in
            let gf = field_good P wt c good.class k fd good.is e in
            let m = length good.class.params in
            let st' = stands_args m (env_of g) args i.regions i.matches good.arity (paths_alone L args al) refl in
            let path = closed_path P (class_scope good.class) (λ y. refl) 0 fd.region gf.path in
            let own = (specified_matches_one (class_env i.regions) fd.region gf.full _).1 fa.region in
            let cell : Touches P st.shapes n (pos k) = record { shape = object i.class i.made_with; is = i.shape; env = class_env i.made_with; ty = fa.field.ty; rpl = fa.field.region; cell = of_object fa.there } in
            let region = (put_in (class_env i.made_with) fa.field.region).elems in
            order_read R st at n (pos k) f
            (record {
              cell = cell;
              allowed = w (access_of b st n (pos k) false region) (λ e. e)
                  (inl (speaks_read g (substituted args fd.region) (access_of b st n (pos k) false region) refl
                  (path_up m 0 (env_of g) (class_env i.regions) args st' fd.region path region own)));
            })
            (λ x u s h. next x u s (fits_with_up P u.shapes m (env_of g) (class_env i.regions) args st' fd.ty
            (closed_type P (class_scope good.class) (λ y. refl) (λ r t. false≢true t) 0 fd.ty gf.ty) rd x
            (fits_same P u.shapes (class_env i.made_with) fa.field.ty (class_env i.regions) fd.ty fa.types x h)))

    -- a read of an element
    pub element_order : (R : State → Result → Type 0) (st : State) (at : Place) (f : Frame) (t : PlainType) (a : Rpl) (named : Bool) (x : Elem) (k : ℤ) → IsIndexElem x →
        Fits (env_of g) x (At (Literal k) ∷ []) → (IsTrue (is_any x) → rigid_in_index 0 t ≡ false) →
        Within b st.entries g (does (reads (path_at 0 x a)) ∷ []) → (v : Value) → FitsIn P st.shapes (env_of g) (array t a named) v →
        ((w : Value) (u : State) → Since st u → FitsIn P u.shapes (env_of g) (type_at 0 x t) w → R u (Goes_on w f)) →
        InOrder P b R st (unless_null at v (λ n. read_cell at n k f))
    element_order R st at f t a named x k ix fx rg w v fv next = order_unless R st at (ArrayInstance st.shapes (env_of g) t a) (λ n. read_cell at n k f) go v fv
      where
        go : (n : Name) → ArrayInstance st.shapes (env_of g) t a n → InOrder P b R st (read_cell at n k f)
        go n i =
            let cell : Touches P st.shapes n k = record {
              shape = elements i.setting i.element i.rpl;
              is = i.shape;
              env = under k
                  (env_of i.setting);
              ty = i.element;
              rpl = i.rpl;
              cell = of_array;
            } in
            let region = (put_in (under k (env_of i.setting)) i.rpl).elems in
            order_read R st at n k f
            (record {
              cell = cell;
              allowed = w (access_of b st n k false region) (λ e. e)
                  (inl (speaks_read g (path_at 0 x a) (access_of b st n k false region) refl (region_at_up g x k fx a region (i.region k))));
            })
            (λ y u s h. next y u s (fits_at_up P u.shapes g x ix k fx t rg y
            (fits_same P u.shapes (under k (env_of i.setting)) i.element (under k (env_of g)) t
            (same_sym (under k (env_of g)) t (under k (env_of i.setting)) i.element (i.same k)) y h)))

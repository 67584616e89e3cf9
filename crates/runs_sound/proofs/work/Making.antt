-- New objects and arrays are what their types say.
use Rattle.std.specs.Int.{w32}
use Rattle.std.proofs.Common.{◌≡◌, ◌<◌, inl, inr, ℕ, ℤ, FitsSigned, zero, suc, pos, negsuc, Bool, true, false, List, [], ◌∷◌, ◌++◌, map, length, refl, sym, ap, ◌∙◌, subst, arith, Some, IsTrue, slice_index_or}
use Rattle.std.specs.Prelude.{All}
use Rattle.std.proofs.lemmas.List.{get_or-map, length-map, map-append}
use Rattle.std.proofs.lemmas.List.Elements.{All-head, All-tail}
use Rattle.std.proofs.lemmas.Bool.{and_parts, false≢true}
use Rattle.lang_base.specs.declared.effect.Constraint.{Constraint}
use Rattle.lang_base.specs.declared.elems.Elem.{Elem}
use Rattle.lang_base.specs.declared.elems.Elem.TheVariants as elem
use Rattle.lang_base.specs.declared.elems.Elem.TheVariants.{At, Any, Star}
use Rattle.lang_base.specs.declared.elems.Index.TheVariants.{Literal, Variable, Renamed, Own}
use Rattle.lang_base.specs.declared.place.Place.{Place}
use Rattle.lang_base.specs.declared.region.Head.{Head}
use Rattle.lang_base.specs.declared.region.Head.TheVariants.{Root, Param}
use Rattle.lang_base.specs.declared.region.Rpl.{Rpl}
use Rattle.lang_base.specs.declared.value.Trap.TheVariants as trap
use Rattle.lang_base.specs.Matching.{is_plain, all_plain, put_elem, put_in}
use Rattle.lang_base.specs.Matching.{head_region as env_region}
use Rattle.lang_base.specs.Regions.{is_local, fully_specified, argument}
use Rattle.lang_base.specs.Types.{PlainType, array}
use Rattle.lang_typed.specs.Plain.{PlainProgram, PlainClass}
use Rattle.lang_typed.specs.Scope.{Scope, class_at, atomic_in}
use Rattle.lang_typed.specs.Table.{class_scope}
use Rattle.lang_typed.specs.Types.{GoodElem, GoodPath, GoodArgs, GoodType}
use Rattle.lang_typed.specs.WellTyped.{WellTyped}
use Rattle.lang_meaning.specs.Core.{Goes_on, Traps, Act}
use Rattle.lang_meaning.specs.Counts.{name_made}
use Rattle.lang_meaning.specs.Expressions.{first_of, gives, new_object, made_array}
use Rattle.lang_meaning.specs.Regions.{around, part_of, head_region, concrete, is_long}
use Rattle.region_paths.proofs.Putting.{specified_matches_one}
use Rattle.region_paths.proofs.Envs.{constraint_carried}
use Rattle.runs_theory.specs.Actions.{New, Answer, Named}
use Rattle.runs_theory.specs.Objects.{Value, Object, Part, Region_name, Number, Local, Own_index, Any_index, Any_parts, Region, An_array}
use Rattle.runs_theory.specs.Objects.{Name as ObjectName}
use Rattle.runs_program.specs.Steps.{named_by}
use Rattle.runs_sound.specs.Settings.{local_code, elem_of, elems_of, Setting, region_in, ArePlain, EndAtomic, env_of, class_env, under, element_part, element_region}
use Rattle.runs_sound.specs.Shapes.{object, elements, same, AllMatch, GoodObject, Instance, FitsIn}
use Rattle.runs_sound.specs.Accesses.{Bounds}
use Rattle.runs_sound.specs.Frames.{Frame, State, Since, FrameFits}
use Rattle.runs_sound.specs.Scopes.{InScope, PathInScope}
use Rattle.runs_sound.specs.Work.{Result, Prog, InOrder}
use Rattle.runs_sound.proofs.paths.Atomic.{args_atomic, match_at}
use Rattle.runs_sound.proofs.scopes.Closed.{closed_holds, closed_path}
use Rattle.runs_sound.proofs.classes.Types.{same_refl}
use Rattle.runs_sound.proofs.classes.Classes.{plain_put}
use Rattle.runs_sound.proofs.scopes.InScope.{good_path, local_path}
use Rattle.runs_sound.proofs.scopes.Frames.{frame_env, concrete_put}
use Rattle.runs_sound.proofs.work.Work.{since_after}
use Rattle.runs_sound.proofs.work.Expressions.{order_cond, order_trap}

good_local : (P : PlainProgram) (L : Scope) (D : ℕ) (x : Elem) → GoodElem P L D x → is_local x ≡ false
good_local P L D (elem.Name n) g = refl
good_local P L D (At (Literal k)) g = refl
good_local P L D (At (Variable x)) g = refl
good_local P L D (At (Renamed x)) g = refl
good_local P L D (At (Own d)) g = refl
good_local P L D Any g = refl
good_local P L D Star g = refl
good_local P L D (elem.Local r n) g = absurd g

-- parts of a plain region aren't the own index of an array
plain_part : (k : ℤ) (x : Part) → is_plain (elem_of x) ≡ true → elem_of (element_part k x) ≡ elem_of x
plain_part k (Region_name n) h = refl
plain_part k (Number j) h = refl
plain_part k (Local l) h = refl
plain_part k Own_index h = absurd (false≢true h)
plain_part k Any_index h = refl
plain_part k Any_parts h = refl

plain_region : (k : ℤ) (r : Region) → all_plain (elems_of r) ≡ true → elems_of (element_region k r) ≡ elems_of r
plain_region k [] h = refl
plain_region k (x ∷ r) h =
    let p = and_parts (is_plain (elem_of x)) _ h in
    let e = plain_part k x p.0 in
    let f = plain_region k r p.1 in
    λ i. e i ∷ f i

module _ (P : PlainProgram) (wt : WellTyped P) (b : Bounds) (L : Scope) (g : Setting) (st : State) (f : Frame) (ff : FrameFits P b.path st g L f) where
  abbrev pub put : Rpl → Region
  put a = concrete (named_by b.path) (around f) a

  pub put_is : (a : Rpl) → GoodPath P L 0 a → elems_of (put a) ≡ (put_in (env_of g) a).elems
  put_is a h = concrete_put P b.path st g L f ff b.path a (good_path P L 0 a h)

  pub region_of_args : (args : List Rpl) → All (GoodPath P L 0) args → (p : ℕ) → p < length args →
      region_in (map put args) p ≡ (put_in (env_of g) (argument args p)).elems
  region_of_args args h p l =
      ap elems_of (get_or-map put args p (record { head = Param p; elems = [] }) [] l) ∙ put_is (argument args p) (h p (record { head = Param p; elems = [] }) l)

  pub args_plain : (args : List Rpl) → All (GoodPath P L 0) args → All (λ a. IsTrue (fully_specified a)) args → ArePlain (map put args)
  args_plain [] h u p = refl
  args_plain (a ∷ args) h u zero =
      ap all_plain (put_is a (All-head (GoodPath P L 0) a args h))
      ∙ plain_put (env_of g) ff.plain a (All-head (λ a. IsTrue (fully_specified a)) a args u)
      (λ j d l. good_local P L 0 _ ((All-head (GoodPath P L 0) a args h).elems j d l))
  args_plain (a ∷ args) h u (suc p) = args_plain args (All-tail (GoodPath P L 0) a args h) (All-tail (λ a. IsTrue (fully_specified a)) a args u) p

  pub args_match : (args : List Rpl) → All (GoodPath P L 0) args → All (λ a. IsTrue (fully_specified a)) args → AllMatch (env_of g) args (map put args)
  args_match [] h u = tt
  args_match (a ∷ args) h u = (
    (specified_matches_one (env_of g) a (All-head (λ a. IsTrue (fully_specified a)) a args u) _).1 (put_is a (All-head (GoodPath P L 0) a args h)),
    args_match args (All-tail (GoodPath P L 0) a args h) (All-tail (λ a. IsTrue (fully_specified a)) a args u),
  )

  pub made_atomic : (params : List Bool) (given : List Constraint) (others args : List Rpl) → GoodArgs P L 0 params given others args →
      All (λ a. IsTrue (fully_specified a)) args → EndAtomic P.region_names params (map put args)
  made_atomic params given others args ga u =
      args_atomic (atomic_in P L) (env_of g) ff.atomic params args (map put args) ga.arity
      (λ p l. match_at (env_of g) args (map put args) (args_match args ga.paths u) p (record { head = Param p; elems = [] }) (let n = ga.arity in omega (arith, l, n))) ga.atomic

  pub made_good : (c : ℕ) (k : PlainClass) (args : List Rpl) → class_at P c ≡ Some k → GoodArgs P L 0 k.params k.given [] args →
      All (λ a. IsTrue (fully_specified a)) args → GoodObject P c (map put args)
  made_good c k args e ga u = record {
    class = k;
    is = e;
    arity = length-map args put ∙ ga.arity;
    plain = args_plain args ga.paths u;
    atomic = made_atomic k.params k.given [] args ga u;
    given = λ j d l.
        (let good = (wt.classes c k e).given j d l in
        closed_holds (length k.params) _ (class_env (map put args))
        (record { region = λ q h. sym (region_of_args args ga.paths q (let z = ga.arity in omega (arith, z, h))); own = λ d h. refl }) _
        (closed_path P (class_scope k) (λ y. refl) 0 _ good.0) (closed_path P (class_scope k) (λ y. refl) 0 _ good.1)
        (constraint_carried L.given (env_of g) (frame_env ff) args _ (ga.hold j d l)));
  }

  -- a new object
  pub order_new : (R : State → Result → Type 0) (c : ℕ) (k : PlainClass) (args : List Rpl) (constructor : Bool) (next : Answer → Prog) →
      class_at P c ≡ Some k →
      GoodArgs P L 0 k.params k.given [] args → All (λ a. IsTrue (fully_specified a)) args →
      ((n : ObjectName) (h : State) → Since st h → Instance P h.shapes (env_of g) c args n → h.shapes n ≡ Some (object c (map put args)) →
      InOrder P b R h (next (Named n))) →
      InOrder P b R st (Act (New (new_object P c (map put args)) constructor) next)
  unfolding InOrder
  order_new R c k args constructor next e ga u i = (
    (object c (map put args), (refl, refl, made_good c k args e ga u, refl)),
    λ x h after ans. subst (λ z. InOrder P b R h (next z)) (sym ans.1)
        (i ans.0 h (since_after (New (new_object P c (map put args)) constructor) refl after)
        (record { class = c; made_with = map put args; regions = map put args; shape = ans.2; good = made_good c k args e ga u; is_one = same; matches = args_match args ga.paths u }) ans.2),
  )

  -- the region of an element of a new array

  element_elem : (D : ℕ) (k : ℤ) (x : Elem) → InScope L 1 x → elem_of (element_part k (part_of (named_by b.path) (around f) x)) ≡ put_elem (under k (env_of g)) x
  element_elem D k (elem.Name n) s = refl
  element_elem D k (At (Literal j)) s = refl
  element_elem D k (At (Variable x)) s = ap (λ z. At (Literal z)) (ff.index x s)
  element_elem D k (At (Renamed x)) s = absurd s
  element_elem D k (At (Own zero)) s = refl
  element_elem D k (At (Own (suc d))) s = absurd (omega (arith, s))
  element_elem D k Any s = refl
  element_elem D k Star s = refl
  element_elem D k (elem.Local r n) s =
      let e = ap local_code (ff.made r s.1) in
      let z : n ≡ 0 = s.0 in
      subst (λ z. elem_of (element_part k (part_of (named_by b.path) (around f) (elem.Local r z))) ≡ put_elem (under k (env_of g)) (elem.Local r z))
      (sym z) (λ i. elem.Local (e i).0 (e i).1)

  element_elems : (k : ℤ) (xs : List Elem) → All (InScope L 1) xs →
      elems_of (element_region k (map (part_of (named_by b.path) (around f)) xs)) ≡ map (put_elem (under k (env_of g))) xs
  element_elems k [] s = refl
  element_elems k (x ∷ xs) s =
      let e = element_elem 0 k x (All-head (InScope L 1) x xs s) in
      let t = element_elems k xs (All-tail (InScope L 1) x xs s) in
      λ i. e i ∷ t i

  element_head : (k : ℤ) (h : Head) → elems_of (element_region k (head_region f.regions h)) ≡ env_region (under k (env_of g)) h
  element_head k Root = refl
  element_head k (Param p) =
      subst (λ z. elems_of (element_region k (slice_index_or z p [])) ≡ region_in g.regions p) (sym ff.regions)
      (plain_region k (slice_index_or g.regions p []) (ff.plain p))

  element_put : (k : ℤ) (a : Rpl) → PathInScope L 1 a → elems_of (element_region k (put a)) ≡ (put_in (under k (env_of g)) a).elems
  unfolding put_in
  element_put k a s =
      let e = element_head k a.head in
      let t = element_elems k a.elems s in
      ap elems_of (map-append (element_part k) (head_region f.regions a.head) (map (part_of (named_by b.path) (around f)) a.elems))
      ∙ map-append elem_of (element_region k (head_region f.regions a.head)) (element_region k (map (part_of (named_by b.path) (around f)) a.elems))
      ∙ (λ i. e i ++ t i)

  -- a new array, or a trap
  pub order_new_array : (R : State → Result → Type 0) (at : Place) (t : PlainType) (a : Rpl) (named : Bool) → GoodType P L 0 (array t a named) →
      fully_specified a ≡ true → (k : ℤ) → FitsSigned w32 k →
      ((v : Value) (h : State) → Since st h → FitsIn P h.shapes (env_of g) (array t a named) v → R h (Goes_on v f)) →
      InOrder P b R st (made_array (named_by b.path) at (array t a named) k f)
  unfolding InOrder
  order_new_array R at t a named gt u (negsuc k) small i = tt
  order_new_array R at t a named gt u (pos k) small i =
      order_cond P b R st (is_long (put a)) (Traps trap.Stack at) (Act (New (An_array (put a) k (first_of t)) false) (λ x. gives (name_made x) f))
      (order_trap P b R st trap.Stack at) (
        (elements g t a, (λ j. element_put j a scope, small.sfits, refl)),
        λ x h after ans. subst (λ z. InOrder P b R h (gives (name_made z) f)) (sym ans.1)
            (i (Object ans.0) h (since_after (New (An_array (put a) k (first_of t)) false) refl after)
            (record {
              setting = g;
              element = t;
              rpl = a;
              shape = ans.2;
              region = λ j. (specified_matches_one
                  (under j (env_of g)) a u _).1 refl;
              same = λ j. same_refl (under j (env_of g)) t;
            })),
      )
    where
      scope : PathInScope L 1 a
      scope = elim gt.0 [ inl p ↦ good_path P L 1 a p | inr q ↦ local_path P L 1 a q.0 ]

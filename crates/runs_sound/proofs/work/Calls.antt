-- Calls and creations are in order, where the bodies that they enter are.
use Rattle.std.proofs.Common.{◌≡◌, inl, inr, ℕ, zero, suc, ◌-◌, true, false, List, [], ◌∷◌, ◌++◌, map, length, refl, sym, ap, ◌∙◌, subst, arith, Option, Some, None, IsTrue, slice_get, slice_index_or}
use Rattle.std.specs.Prelude.{All, option_and_then}
use Rattle.std.specs.List.{AllZip}
use Rattle.std.proofs.lemmas.List.{length-map, append-nil}
use Rattle.std.proofs.lemmas.List.Elements.{All-append}
use Rattle.std.proofs.lemmas.Bool.{false≢true, cond-true}
use Rattle.lang_base.specs.declared.place.Place.{Place}
use Rattle.lang_base.specs.declared.region.Rpl.{Rpl}
use Rattle.lang_base.specs.declared.value.Trap.TheVariants as trap
use Rattle.lang_base.specs.Matching.{Env, IsEnv, Holds}
use Rattle.lang_base.specs.Regions.{fully_specified}
use Rattle.lang_base.specs.Types.{PlainType, class, type_with}
use Rattle.lang_typed.specs.Effects.{summary_with}
use Rattle.lang_typed.specs.Plain.{PlainProgram, PlainClass, PlainMember}
use Rattle.lang_typed.specs.Scope.{Scope, class_at, member_at, row_at, constructor_of, parent_of, Above}
use Rattle.lang_typed.specs.Table.{IsConstructor}
use Rattle.lang_typed.specs.Types.{GoodArgs, Known, Readable}
use Rattle.lang_typed.specs.WellTyped.{WellTyped}
use Rattle.lang_meaning.specs.Core.{Goes_on, Returns, Traps, Act, on}
use Rattle.lang_meaning.specs.Counts.{class_seen, class_entered, name_made, is_below}
use Rattle.lang_meaning.specs.Expressions.{gives, none, back, entered, enter, called, new_object, created}
use Rattle.lang_meaning.specs.Regions.{regions_above, some_long}
use Rattle.runs_theory.specs.Actions.{Look, New, Class, Named, Answer}
use Rattle.runs_theory.specs.Objects.{Value, Null, Object, Region}
use Rattle.runs_theory.specs.Objects.{Name as ObjectName}
use Rattle.runs_program.specs.Steps.{named_by}
use Rattle.runs_sound.specs.Settings.{Setting, ArePlain, EndAtomic, env_of, class_setting, class_env}
use Rattle.runs_sound.specs.Shapes.{object, Shapes, Grows, Is, same, AllMatch, GoodObject, Instance, FitsIn}
use Rattle.runs_sound.specs.Accesses.{Bounds, Within}
use Rattle.runs_sound.specs.Frames.{Frame, State, Since, FrameFits}
use Rattle.runs_sound.specs.Work.{Result, Prog, InOrder}
use Rattle.runs_sound.specs.Laws.{Deeper, Leaves, DeeperInOrder}
use Rattle.runs_sound.proofs.scopes.Codes.{setting_env, unmade_one}
use Rattle.runs_sound.proofs.classes.Types.{NoOwn, Stands, fits_same, fits_grows, fits_with_up, fits_with_down}
use Rattle.runs_sound.proofs.classes.Classes.{all_get, stands_args, good_is}
use Rattle.runs_sound.proofs.classes.Chains.{is_below_it, regions_are, above_match}
use Rattle.runs_sound.proofs.paths.Effects.{body_lies, lies_up}
use Rattle.runs_sound.proofs.work.Entering.{given_holds, scope, entered_fits}
use Rattle.runs_sound.proofs.work.Expressions.{order_cond, order_trap}
use Rattle.runs_sound.proofs.scopes.Frames.{frame_since, frame_env}
use Rattle.runs_sound.proofs.scopes.InScope.{paths_alone, good_path}
use Rattle.runs_sound.proofs.work.Making.{put, args_plain, args_match, made_atomic, made_good, order_new}
use Rattle.runs_sound.proofs.classes.Members.{full_arguments, MemberAt, row_there, same_member, Signature, signature_at, RowAt, row_is, plain_both}
use Rattle.runs_sound.proofs.work.Work.{since_since, since_after, order_on, order_ret}

match_both : (env : Env) (as' bs : List Rpl) (rs qs : List Region) → AllMatch env as' rs → AllMatch env bs qs → AllMatch env (as' ++ bs) (rs ++ qs)
match_both env [] bs [] qs m n = n
match_both env [] bs (r ∷ rs) qs m n = absurd m
match_both env (a ∷ as') bs [] qs m n = absurd m
match_both env (a ∷ as') bs (r ∷ rs) qs m n = (m.0, match_both env as' bs rs qs m.1 n)

-- the actual for a formal
actual_at : (P : PlainProgram) (S : Shapes) (env : Env) (f : PlainType → PlainType) (ts : List PlainType) (vs : List Value) →
    AllZip (λ t v. FitsIn P S env t v) (map f ts) vs → (x : ℕ) (t : PlainType) →
    slice_get ts x ≡ Some t → FitsIn P S env (f t) (slice_index_or vs x Null)
actual_at P S env f [] vs h x t e = absurd (let q : None ≡ Some t = e in cc)
actual_at P S env f (u ∷ ts) [] h x t e = absurd h
actual_at P S env f (u ∷ ts) (v ∷ vs) h zero t e = let q : u ≡ t = cc in subst (λ z. FitsIn P S env (f z) v) q h.0
actual_at P S env f (u ∷ ts) (v ∷ vs) h (suc x) t e = actual_at P S env f ts vs h.1 x t e

pub actuals_grow : (P : PlainProgram) (S T : Shapes) → Grows S T → (env : Env) (ts : List PlainType) (vs : List Value) →
    AllZip (λ t v. FitsIn P S env t v) ts vs → AllZip (λ t v. FitsIn P T env t v) ts vs
actuals_grow P S T g env [] [] h = h
actuals_grow P S T g env [] (v ∷ vs) h = h
actuals_grow P S T g env (t ∷ ts) [] h = h
actuals_grow P S T g env (t ∷ ts) (v ∷ vs) h = (fits_grows P S T g env t v h.0, actuals_grow P S T g env ts vs h.1)

pub instance_grows : (P : PlainProgram) (S T : Shapes) → Grows S T → (env : Env) (c : ℕ) (args : List Rpl) (n : ObjectName) →
    Instance P S env c args n → Instance P T env c args n
instance_grows P S T g env c args n i = fits_grows P S T g env (class c args) (Object n) i

no_given : (env : Env) → All (Holds env) []
no_given env = λ k c l. absurd (omega (arith, l))

module _ (P : PlainProgram) (wt : WellTyped P) (b : Bounds) (L : Scope) (g : Setting) where
  -- a body is in order in a frame that fits
  body_order : (deeper : Deeper) → DeeperInOrder P wt b (Some deeper) →
      (n : ℕ) (m : PlainMember) (there : member_at P n ≡ Some m) (k : Setting) (u : State) (f : Frame) →
      FrameFits P b.path u k (scope P wt n m there) f → Within b u.entries k (wt.members n m there).effects → InOrder P b
      (Leaves P b (scope P wt n m there) k m.body u) u (deeper m.body f)
  body_order deeper dd n m there k u f ff w =
      dd n m there k u f ff w

  module _ (deeper : Deeper) (dd : DeeperInOrder P wt b (Some deeper)) (u : State) (f : Frame) (ff : FrameFits P b.path u g L f) where
    -- the entry of the member in the row of an object's own class
    abbrev entered_member : Option PlainMember → List Value → List Region → List Region → ℕ → Prog
    entered_member o vs made own d = elim o as (λ z. Prog) [
      | None ↦ gives none f
      | Some m ↦ on (deeper m.body (entered (named_by b.path) m vs (regions_above (named_by b.path) (parent_of P) (length P.classes) d made m.class ++ own) (f.left - 1))) (back f)
    ]

    abbrev entered_row : Option ℕ → List Value → List Region → List Region → ℕ → Prog
    entered_row o vs made own d = elim o as (λ z. Prog) [ None ↦ gives none f | Some n ↦ entered_member (member_at P n) vs made own d ]

    enter_order : (R : State → Result → Type 0) (c r n : ℕ) (args owned regions : List Rpl) (m : PlainMember) → row_at P c r ≡ Some n →
        member_at P n ≡ Some m → Above P c args m.class owned →
        GoodArgs P L 0 m.params m.given owned regions → All (λ a. IsTrue (fully_specified a)) regions → All
        (Known (owned ++ regions)) m.formals → Readable (owned ++ regions) m.result →
        All (λ a. All NoOwn a.elems) args → Within b u.entries g (summary_with (owned ++ regions) m.summary) → (vs : List Value) →
        AllZip (λ t v. FitsIn P u.shapes (env_of g) t v) (map (type_with (owned ++ regions)) m.formals) vs → (o : ObjectName)
        (i : Instance P u.shapes (env_of g) c args o) →
        ((v : Value) (h : State) → Since u h → FitsIn P h.shapes (env_of g) (type_with (owned ++ regions) m.result) v → R h (Goes_on v f)) →
        InOrder P b R u (enter (named_by b.path) P deeper (i.class, i.made_with) r (Object o ∷ vs) (map (put P wt b L g u f ff) regions) f)
    enter_order R c r n args owned regions m e mb ab ga fu kn rd al w vs fits o i next =
        subst (λ z. InOrder P b R u (entered_row z (Object o ∷ vs) i.made_with own i.class)) (sym row.row)
        (subst (λ z. InOrder P b R u (entered_member z (Object o ∷ vs) i.made_with own i.class)) (sym row.at.there)
        (subst (λ z. InOrder P b R u (on (deeper row.at.member.body (entered (named_by b.path) row.at.member (Object o ∷ vs) (z ++ own) (f.left - 1))) (back f))) (sym (regions_are P wt b.path row.at.is_one))
        (order_on P b (Leaves P b (scope P wt row.number row.at.member row.at.there) inner row.at.member.body u) R (back f) following _ u
        (body_order deeper dd row.number row.at.member row.at.there inner u _ frame within'))))
      where
        own : List Region
        own = map (put P wt b L g u f ff) regions

        plain : ArePlain (map (put P wt b L g u f ff) regions)
        plain = args_plain P wt b L g u f ff regions ga.paths fu

        good : GoodObject P c i.regions
        good = good_is P wt i.is_one i.good

        A0 : MemberAt P wt c i.regions n
        A0 = row_there P wt c r n i.regions good e

        zs : List Region
        zs = A0.regions

        A : MemberAt P wt c i.regions n
        A = record {
          member = m;
          there = mb;
          regions = A0.regions;
          is_one = subst (λ (y : PlainMember). Is P c i.regions y.class A0.regions)
              (same_member P wt A0.member m n A0.there mb) A0.is_one;
        }

        lo : length (map (put P wt b L g u f ff) regions) ≡ length m.params
        lo = length-map regions (put P wt b L g u f ff) ∙ ga.arity

        row : RowAt P wt i.class r i.made_with (map (put P wt b L g u f ff) regions) m A0.regions
        row = row_is P wt (map (put P wt b L g u f ff) regions) r n i.is_one i.good plain e A lo

        inner : Setting
        inner = class_setting (row.at.regions ++ map (put P wt b L g u f ff) regions)

        N : ℕ
        N = length (A0.regions ++ map (put P wt b L g u f ff) regions)

        sig : Signature P wt m (length (A0.regions ++ map (put P wt b L g u f ff) regions))
        sig = signature_at P wt n A (map (put P wt b L g u f ff) regions) good lo

        matched : AllMatch (env_of g) owned A0.regions × All (λ a. All NoOwn a.elems) owned
        matched = above_match P wt (env_of g) refl ab A.is_one refl refl good al i.matches

        st : Stands (length (A0.regions ++ map (put P wt b L g u f ff) regions)) 0 (env_of g) (class_env (A0.regions ++ map (put P wt b L g u f ff) regions)) (owned ++ regions)
        st = stands_args _ (env_of g) (owned ++ regions) (A0.regions ++ map (put P wt b L g u f ff) regions)
            (match_both (env_of g) owned regions A0.regions (map (put P wt b L g u f ff) regions) matched.0 (args_match P wt b L g u f ff regions ga.paths fu)) refl
            (All-append (λ a. All NoOwn a.elems) owned regions matched.1 (paths_alone L regions (λ k d l. good_path P L 0 _ (ga.paths k d l)))) refl

        env : IsEnv L.given (env_of g)
        env = frame_env ff

        given' : All (Holds (class_env (row.at.regions ++ map (put P wt b L g u f ff) regions))) row.at.member.given
        given' = row.stands.given (given_holds N L.given (env_of g) (class_env (A0.regions ++ map (put P wt b L g u f ff) regions))
            (owned ++ regions) env st m.given sig.given ga.hold)

        own_atomic : EndAtomic P.region_names row.at.member.params (map (put P wt b L g u f ff) regions)
        own_atomic = subst (λ z. EndAtomic P.region_names z (map (put P wt b L g u f ff) regions)) (sym row.stands.params)
            (made_atomic P wt b L g u f ff m.params m.given owned regions ga fu)

        actuals : (x : ℕ) (t : PlainType) → slice_get row.at.member.formals x ≡ Some t →
            FitsIn P u.shapes (class_env (row.at.regions ++ map (put P wt b L g u f ff) regions)) t (slice_index_or vs x Null)
        actuals x t h =
            let z = row.stands.formals x t h in
            fits_same P u.shapes (class_env (A0.regions ++ map (put P wt b L g u f ff) regions)) z.0
            (class_env (row.at.regions ++ map (put P wt b L g u f ff) regions)) t z.2 (slice_index_or vs x Null)
            (fits_with_down P u.shapes N (env_of g) (class_env (A0.regions ++ map (put P wt b L g u f ff) regions)) (owned ++ regions) st z.0 (sig.formals x z.0 z.1)
            (all_get (Known (owned ++ regions)) m.formals x z.0 kn z.1) (slice_index_or vs x Null)
            (actual_at P u.shapes (env_of g) (type_with (owned ++ regions)) m.formals vs fits x z.0 z.1))

        frame : FrameFits P b.path u (class_setting (row.at.regions ++ map (put P wt b L g u f ff) regions)) (scope P wt row.number row.at.member row.at.there)
            (entered (named_by b.path) row.at.member (Object o ∷ vs) (row.at.regions ++ map (put P wt b L g u f ff) regions) (f.left - 1))
        frame = entered_fits P wt row.number row.at.member row.at.there b.path u row.at.regions (map (put P wt b L g u f ff) regions) (f.left - 1)
            (good_is P wt row.at.is_one i.good) plain own_atomic given' o i.class i.made_with i.shape i.good
            row.at.is_one vs actuals

        inner_env : IsEnv [] (class_env (row.at.regions ++ map (put P wt b L g u f ff) regions))
        inner_env = setting_env [] (class_setting (row.at.regions ++ map (put P wt b L g u f ff) regions))
            (plain_both P wt row.at.regions (map (put P wt b L g u f ff) regions) (good_is P wt row.at.is_one i.good).plain plain) unmade_one (no_given _)

        within' : Within b u.entries (class_setting (row.at.regions ++ map (put P wt b L g u f ff) regions)) (wt.members row.number row.at.member row.at.there).effects
        within' a gu l = w a gu (lies_up N g (class_setting (A0.regions ++ map (put P wt b L g u f ff) regions)) (owned ++ regions) st a m.summary sig.summary
            (row.stands.effects a (body_lies (class_setting (row.at.regions ++ map (put P wt b L g u f ff) regions)) inner_env a row.at.member.summary
            (wt.members row.number row.at.member row.at.there).effects (wt.members row.number row.at.member row.at.there).covered l)))

        result : (h : State) (v : Value) →
            FitsIn P h.shapes (class_env (row.at.regions ++ map (put P wt b L g u f ff) regions)) row.at.member.result v →
            FitsIn P h.shapes (env_of g) (type_with (owned ++ regions) m.result) v
        result h v fv =
            fits_with_up P h.shapes N (env_of g) (class_env (A0.regions ++ map (put P wt b L g u f ff) regions)) (owned ++ regions) st m.result sig.result rd v
            (fits_same P h.shapes (class_env (row.at.regions ++ map (put P wt b L g u f ff) regions)) row.at.member.result
            (class_env (A0.regions ++ map (put P wt b L g u f ff) regions)) m.result row.stands.result v fv)

        following : (h : State) (y : Result) →
            Leaves P b (scope P wt row.number row.at.member row.at.there) (class_setting (row.at.regions ++ map (put P wt b L g u f ff) regions)) row.at.member.body u h y → InOrder P b R h (back f y)
        following h (Goes_on v c) y = order_ret P b R h (Goes_on none f) (next none h y.1 (result h none (elim (wt.members row.number row.at.member row.at.there).ends [
          | inl z ↦ subst (λ t. FitsIn P h.shapes (class_env (row.at.regions ++ map (put P wt b L g u f ff) regions)) t Null) (sym z) tt
          | inr z ↦ absurd (false≢true (sym z ∙ y.0))
        ])))
        following h (Returns v) y = order_ret P b R h (Goes_on v f) (next v h y.0 (result h v y.1))

  -- a call of what isn't null
  pub call_order : (dp : Option Deeper) → DeeperInOrder P wt b dp → (R : State → Result → Type 0) (st : State) (at : Place) (f : Frame) →
      FrameFits P b.path st g L f → (c r n : ℕ) (args owned regions : List Rpl) (m : PlainMember) →
      row_at P c r ≡ Some n → member_at P n ≡ Some m → Above P c args m.class owned →
      GoodArgs P L 0 m.params m.given owned regions → All (λ a. IsTrue (fully_specified a)) regions → All
      (Known (owned ++ regions)) m.formals → Readable (owned ++ regions) m.result →
      All (λ a. All NoOwn a.elems) args → Within b st.entries g (summary_with (owned ++ regions) m.summary) → (vs : List Value) →
      AllZip (λ t v. FitsIn P st.shapes (env_of g) t v) (map (type_with (owned ++ regions)) m.formals) vs → (own : List Region) →
      ((q : FrameFits P b.path st g L f) → own ≡ map (put P wt b L g st f q) regions) →
      (o : ObjectName) → Instance P st.shapes (env_of g) c args o →
      ((v : Value) (h : State) → Since st h → FitsIn P h.shapes (env_of g) (type_with (owned ++ regions) m.result) v → R h (Goes_on v f)) →
      InOrder P b R st (called (named_by b.path) P dp at c r own o vs f)
  unfolding InOrder
  call_order None dd R st at f ff c r n args owned regions m e mb ab ga fu kn rd al w vs fits own own_is o i next = tt
  call_order (Some deeper) dd R st at f ff c r n args owned regions m e mb ab ga fu kn rd al w vs fits own own_is o i next =
      order_cond P b R st (some_long own) (Traps trap.Stack at) (Act (Look o) (λ a. enter (named_by b.path) P deeper (class_entered (parent_of P) (length P.classes) c (class_seen a)) r (Object o ∷ vs) own f)) tt
      ((object i.class i.made_with, i.shape), λ x u after ans. looked x u (since_after (Look o) refl after) ans)
    where
      looked : (x : Answer) (u : State) → Since st u → x ≡ Class i.class i.made_with →
          InOrder P b R u (enter (named_by b.path) P deeper (class_entered (parent_of P) (length P.classes) c (class_seen x)) r (Object o ∷ vs) own f)
      looked x u s ans =
          let ff' = frame_since s ff in
          subst (λ z. InOrder P b R u (enter (named_by b.path) P deeper (class_entered (parent_of P) (length P.classes) c (class_seen z)) r
          (Object o ∷ vs) own f)) (sym ans)
          (subst (λ z. InOrder P b R u (enter (named_by b.path) P deeper z r (Object o ∷ vs) own f))
          (sym (cond-true (is_below (parent_of P) (length P.classes) i.class c) (i.class, i.made_with) (c, i.made_with) (is_below_it P wt i.is_one)))
          (subst (λ z. InOrder P b R u (enter (named_by b.path) P deeper (i.class, i.made_with) r (Object o ∷ vs) z f)) (sym (own_is ff))
          (enter_order deeper dd u f ff' R c r n args owned regions m e mb ab ga fu kn rd al
          (subst (λ z. Within b z g (summary_with (owned ++ regions) m.summary)) (sym s.entries) w) vs
          (actuals_grow P st.shapes u.shapes s.grows (env_of g) (map (type_with (owned ++ regions)) m.formals) vs fits) o
          (record { class = i.class; made_with = i.made_with; regions = i.regions; shape = s.grows o _ i.shape; good = i.good; is_one = i.is_one; matches = i.matches })
          (λ v h s' fv. next v h (since_since s s') fv))))

  abbrev constructed : Place → ℕ → List Region → List Value → Frame → Deeper → Option PlainMember → Answer → Prog
  constructed at c rs vs f deeper o a = elim o as (λ z. Prog) [
    | None ↦ gives (name_made a) f
    | Some m ↦ on (deeper m.body (entered (named_by b.path) m (name_made a ∷ vs) rs (f.left - 1))) (λ r. gives (name_made a) f)
  ]

  abbrev created_by : Option Deeper → Place → ℕ → List Region → List Value → Frame → Option ℕ → Prog
  created_by dp at c rs vs f o = elim o as (λ z. Prog) [
    | None ↦ Act (New (new_object P c rs) false) (λ a. gives (name_made a) f)
    | Some n ↦ elim dp as (λ z. Prog) [
      | None ↦ Traps trap.Stack at
      | Some deeper ↦ Act (New (new_object P c rs) true) (λ a. constructed at c rs vs f deeper (member_at P n) a)
    ]
  ]

  -- a creation whose class declares no constructor
  pub create_order : (dp : Option Deeper) (R : State → Result →
      Type 0) (st : State) (at : Place) (f : Frame) (ff : FrameFits P b.path st g L f) (c : ℕ) (k : PlainClass) (args : List Rpl) (vs : List Value) →
      class_at P c ≡ Some k → GoodArgs P L 0 k.params k.given [] args → All (λ a. IsTrue (fully_specified a)) args → k.constructor ≡ None →
      ((v : Value) (h : State) → Since st h → FitsIn P h.shapes (env_of g) (class c args) v → R h (Goes_on v f)) →
      InOrder P b R st (created (named_by b.path) P dp at c (map (put P wt b L g st f ff) args) vs f)
  create_order dp R st at f ff c k args vs e ga fu kn next =
      order_cond P b R st (some_long (map (put P wt b L g st f ff) args)) (Traps trap.Stack at)
      (created_by dp at c (map (put P wt b L g st f ff) args) vs f (constructor_of P c)) (order_trap P b R st trap.Stack at)
      (subst (λ z. InOrder P b R st (created_by dp at c (map (put P wt b L g st f ff) args) vs f z))
      (sym (ap (λ z. option_and_then (λ (class : PlainClass). class.constructor) z) e ∙ kn))
      (order_new P wt b L g st f ff R c k args false (λ a. gives (name_made a) f) e ga fu
      (λ n h s i shape. order_ret P b R h (Goes_on (Object n) f) (next (Object n) h s i))))

  -- and of one that does: its body is entered, and gives nothing
  constructor_order : (deeper : Deeper) → DeeperInOrder P wt b (Some deeper) →
      (R : State → Result → Type 0) (st : State) (f : Frame) (ff : FrameFits P b.path st g L f) (c n : ℕ) (k : PlainClass) (m : PlainMember) (args : List Rpl) (vs : List Value) →
      class_at P c ≡ Some k → GoodArgs P L 0 k.params k.given [] args → All (λ a. IsTrue (fully_specified a)) args → k.constructor ≡ Some n →
      (there : member_at P n ≡ Some m) →
      (h : State) → Since st h → (o : ObjectName) → Instance P h.shapes (env_of g) c args o →
      h.shapes o ≡ Some (object c (map (put P wt b L g st f ff) args)) → GoodObject P c (map (put P wt b L g st f ff) args) →
      AllZip (λ t v. FitsIn P h.shapes (env_of g) t v) (map (type_with args) m.formals) vs → Within b h.entries g (summary_with args m.summary) →
      ((u : State) → Since h u → R u (Goes_on (Object o) f)) →
      InOrder P b R h (on (deeper m.body (entered (named_by b.path) m (Object o ∷ vs) (map (put P wt b L g st f ff) args) (f.left - 1))) (λ r. gives (Object o) f))
  constructor_order deeper dd R st f ff c n k m args vs e ga fu kn there h s o i shape gd fits w next =
      order_on P b (Leaves P b (scope P wt n m there) inner m.body h) R (λ r. gives (Object o) f) following _ h
      (subst (λ z. InOrder P b (Leaves P b (scope P wt n m there) inner m.body h) h
      (deeper m.body (entered (named_by b.path) m (Object o ∷ vs) z (f.left - 1)))) (append-nil (map (put P wt b L g st f ff) args))
      (body_order deeper dd n m there inner h _ frame within'))
    where
      rs : List Region
      rs = map (put P wt b L g st f ff) args

      inner : Setting
      inner = class_setting (map (put P wt b L g st f ff) args ++ [])

      ic : IsConstructor P c n
      ic = (wt.classes c k e).constructor n kn

      one : ic.member ≡ m
      one = same_member P wt ic.member m n ic.is there

      class_is : m.class ≡ c
      class_is = ap (λ (y : PlainMember). y.class) (sym one) ∙ ic.own

      at_class : Is P c (map (put P wt b L g st f ff) args) m.class (map (put P wt b L g st f ff) args)
      at_class = subst (λ z. Is P c (map (put P wt b L g st f ff) args) z (map (put P wt b L g st f ff) args)) (sym class_is) same

      A : MemberAt P wt c (map (put P wt b L g st f ff) args) n
      A = record { member = m; there = there; regions = map (put P wt b L g st f ff) args; is_one = at_class }

      sig : Signature P wt m (length (map (put P wt b L g st f ff) args ++ []))
      sig = signature_at P wt n A [] gd (let z : m.params ≡ [] = ap (λ (y : PlainMember). y.params) (sym one) ∙ ic.params in sym (ap length z))

      N : ℕ
      N = length (map (put P wt b L g st f ff) args ++ [])

      st' : Stands (length (map (put P wt b L g st f ff) args ++ [])) 0 (env_of g) (class_env (map (put P wt b L g st f ff) args ++ [])) args
      st' = subst (λ z. Stands (length z) 0 (env_of g) (class_env z) args) (sym (append-nil (map (put P wt b L g st f ff) args)))
          (stands_args _ (env_of g) args (map (put P wt b L g st f ff) args) (args_match P wt b L g st f ff args ga.paths fu) refl
          (paths_alone L args (λ j d l. good_path P L 0 _ (ga.paths j d l))) refl)

      nothing : ArePlain []
      nothing = λ p. refl

      actuals : (x : ℕ) (t : PlainType) → slice_get m.formals x ≡ Some t →
          FitsIn P h.shapes (class_env (map (put P wt b L g st f ff) args ++ [])) t (slice_index_or vs x Null)
      actuals x t z =
          fits_with_down P h.shapes N (env_of g) (class_env (map (put P wt b L g st f ff) args ++ [])) args st' t (sig.formals x t z)
          (λ p _. full_arguments args fu p) (slice_index_or vs x Null)
          (actual_at P h.shapes (env_of g) (type_with args) m.formals vs fits x t z)

      no_params : EndAtomic P.region_names m.params []
      no_params = let z : m.params ≡ [] = ap (λ (y : PlainMember). y.params) (sym one) ∙ ic.params in subst (λ y. EndAtomic P.region_names y []) (sym z) (λ p h. absurd (false≢true h))

      none_given : All (Holds (class_env (map (put P wt b L g st f ff) args ++ []))) m.given
      none_given = let z : m.given ≡ [] = ap (λ (y : PlainMember). y.given) (sym one) ∙ ic.given in subst
          (λ y. All (Holds (class_env (map (put P wt b L g st f ff) args ++ []))) y) (sym z) (no_given _)

      good_class : GoodObject P m.class (map (put P wt b L g st f ff) args)
      good_class = good_is P wt at_class gd

      frame : FrameFits P b.path h (class_setting (map (put P wt b L g st f ff) args ++ [])) (scope P wt n m there) (entered (named_by b.path) m (Object o ∷ vs) (map (put P wt b L g st f ff) args ++ []) (f.left - 1))
      frame = entered_fits P wt n m there b.path h (map (put P wt b L g st f ff) args) [] (f.left - 1) good_class nothing no_params none_given o c
          (map (put P wt b L g st f ff) args) shape gd at_class vs actuals

      inner_env : IsEnv [] (class_env (map (put P wt b L g st f ff) args ++ []))
      inner_env = setting_env [] (class_setting (map (put P wt b L g st f ff) args ++ []))
          (plain_both P wt (map (put P wt b L g st f ff) args) [] gd.plain nothing) unmade_one (no_given _)

      within' : Within b h.entries (class_setting (map (put P wt b L g st f ff) args ++ [])) (wt.members n m there).effects
      within' a gu l = w a gu (lies_up N g (class_setting (map (put P wt b L g st f ff) args ++ [])) args st' a m.summary sig.summary
          (body_lies (class_setting (map (put P wt b L g st f ff) args ++ [])) inner_env a m.summary (wt.members n m there).effects (wt.members n m there).covered l))

      following : (u : State) (y : Result) → Leaves P b (scope P wt n m there) (class_setting (map (put P wt b L g st f ff) args ++ [])) m.body h u y →
          InOrder P b R u (gives (Object o) f)
      following u (Goes_on v z) y = order_ret P b R u (Goes_on (Object o) f) (next u y.1)
      following u (Returns v) y = order_ret P b R u (Goes_on (Object o) f) (next u y.0)

  pub construct_order : (dp : Option Deeper) → DeeperInOrder P wt b dp →
      (R : State → Result → Type 0) (st : State) (at : Place) (f : Frame) (ff : FrameFits P b.path st g L f) (c n : ℕ) (k : PlainClass) (m : PlainMember) (args : List Rpl) (vs : List Value) →
      class_at P c ≡ Some k → GoodArgs P L 0 k.params k.given [] args → All (λ a. IsTrue (fully_specified a)) args → k.constructor ≡ Some n → member_at P n ≡ Some m →
      AllZip (λ t v. FitsIn P st.shapes (env_of g) t v) (map (type_with args) m.formals) vs → Within b st.entries g (summary_with args m.summary) →
      ((v : Value) (h : State) → Since st h → FitsIn P h.shapes (env_of g) (class c args) v → R h (Goes_on v f)) →
      InOrder P b R st (created (named_by b.path) P dp at c (map (put P wt b L g st f ff) args) vs f)
  construct_order dp dd R st at f ff c n k m args vs e ga fu kn there fits w next =
      order_cond P b R st (some_long (map (put P wt b L g st f ff) args)) (Traps trap.Stack at)
      (created_by dp at c (map (put P wt b L g st f ff) args) vs f (constructor_of P c)) (order_trap P b R st trap.Stack at)
      (subst (λ z. InOrder P b R st (created_by dp at c (map (put P wt b L g st f ff) args) vs f z))
      (sym (ap (λ z. option_and_then (λ (class : PlainClass). class.constructor) z) e ∙ kn)) (go dp dd))
    where
      go : (dp : Option Deeper) → DeeperInOrder P wt b dp → InOrder P b R st (created_by dp at c (map (put P wt b L g st f ff) args) vs f (Some n))
      go None dd = order_trap P b R st trap.Stack at
      go (Some deeper) dd =
          order_new P wt b L g st f ff R c k args true (λ a. constructed at c (map (put P wt b L g st f ff) args) vs f deeper (member_at P n) a) e ga fu
          (λ o h s i shape. subst (λ z. InOrder P b R h (constructed at c (map (put P wt b L g st f ff) args) vs f deeper z (Named o))) (sym there)
          (constructor_order deeper dd R st f ff c n k m args vs e ga fu kn there h s o i shape (made_good P wt b L g st f ff c k args e ga fu)
          (actuals_grow P st.shapes h.shapes s.grows (env_of g) (map (type_with args) m.formals) vs fits)
          (subst (λ z. Within b z g (summary_with args m.summary)) (sym s.entries) w)
          (λ u s'. next (Object o) u (since_since s s') (instance_grows P h.shapes u.shapes s'.grows (env_of g) c args o i))))

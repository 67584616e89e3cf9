-- A well-typed program is well typed with what is kept of its summaries, where that covers what is done.
use Rattle.std.proofs.Common.{◌≡◌, ◌∙◌, ⊎_elim, inl, inr, ℕ, Bool, false, List, ◌++◌, map, Some, ap, sym, subst, slice_get}
use Rattle.std.specs.Prelude.{All, IsTrue, slice_index_or}
use Rattle.std.specs.Option.{option_and_then}
use Rattle.std.proofs.lemmas.Option.{same_Some}
use Rattle.lang_base.specs.declared.effect.Constraint.{Constraint}
use Rattle.lang_base.specs.Effects.{set_covers}
use Rattle.lang_base.specs.Types.{PlainType}
use Rattle.lang_typed.specs.Plain.{PlainProgram, PlainClass, PlainField, PlainParent, PlainMember}
use Rattle.lang_typed.specs.Scope.{Scope, class_at, member_at, row_at}
use Rattle.lang_typed.specs.Effects.{as_effects, effect_with}
use Rattle.lang_typed.specs.Table.{own_paths, method_paths, class_scope, member_scope, first_locals, body_scope, GoodConstraint, GoodField, Overrides, KeepsRow, Extends, RowIsThere, IsConstructor, GoodClass, GoodMember}
use Rattle.lang_typed.specs.Types.{GoodPath, GoodType}
use Rattle.lang_typed.specs.WellTyped.{GoodMain, WellTyped}
use Rattle.body_infer.specs.declared.kept.Kept.{Kept}
use Rattle.body_infer.specs.Covered.{done_written}
use Rattle.body_infer.specs.Doing.{seen_as, effects_of_all}
use Rattle.body_infer.specs.PostFixpoint.{IsPostFixpoint, seen_below}
use Rattle.body_infer.specs.Kept.{Keeping, SaysOfEach, summary_kept, members_kept, program_kept}
use Rattle.body_infer.specs.Passes.{IsOverride}
use Rattle.body_infer.specs.Walked.{Agree}
use Rattle.body_infer.proofs.Alike.{same_use, all_alike}
use Rattle.body_infer.proofs.Covering.{bodies_covered, overrides_covered}
use Rattle.body_infer.proofs.Passing.{said_at}
use Rattle.sound_infer.specs.Laws.{program_inferred}
use Rattle.sound_infer.proofs.Bodies.{IsThere, block_there}
use Rattle.sound_infer.proofs.Chains.{Falls, ranks_fall, seen_is}
use Rattle.sound_infer.proofs.Effects.{all_is}
use Rattle.sound_infer.proofs.Entered.{all_still_complete}
use Rattle.sound_infer.proofs.Kept.{kept_grows, member_inferred, body_entered, members_inferred, kept_is, inferred_is, inferred_from, places_kept}
use Rattle.sound_infer.proofs.Tables.{with_members, above_there, below_there, path_there, args_there, type_there}

module _ (P : PlainProgram) (S : Keeping) (wt : WellTyped P) (says : SaysOfEach P S) (post_fixpoint : IsPostFixpoint P S) where
  -- the program with its inferred summaries
  abbrev Q : PlainProgram
  Q = with_members P (members_inferred S P)

  falls : Falls P wt.rank
  falls = ranks_fall P wt

  -- a member that is there in the program with its inferred summaries
  record Inferred (n : ℕ) (m : PlainMember) : Type 0 where
    keeps : List Kept
    said : slice_get S n ≡ Some keeps
    class : PlainClass
    of : class_at P m.class ≡ Some class
    is : member_at Q n ≡ Some (member_inferred S P class keeps m)

  inferred : (n : ℕ) (m : PlainMember) → member_at P n ≡ Some m → Inferred n m
  inferred n m is =
      let w = said_at S P.members n m says is in
      let g = wt.members n m is in
      record { keeps = w.0; said = w.1; class = g.class; of = g.is; is = inferred_is P S n m g.class w.0 is g.is w.1 }

  there : (n : ℕ) (m : PlainMember) → member_at P n ≡ Some m → IsThere (members_kept S P.members) (members_inferred S P) n m
  there n m is =
      let i = inferred n m is in
      record { summary = summary_kept i.keeps m.summary; body = body_entered S P i.class m; kept = kept_is P S n m i.keeps is i.said; is = i.is }

  -- members

  constraints_there : (L : Scope) (gs : List Constraint) → All (GoodConstraint P L) gs → All (GoodConstraint Q L) gs
  constraints_there L gs h = λ k d l. (let c = slice_index_or gs k d in let g = h k d l in (path_there P (members_inferred S P) L 0 c.left g.0, path_there P (members_inferred S P) L 0 c.right g.1))

  types_there : (L : Scope) (ts : List PlainType) → All (GoodType P L 0) ts → All (GoodType Q L 0) ts
  types_there L ts h = λ k d l. type_there P (members_inferred S P) L 0 (slice_index_or ts k d) (h k d l)

  -- effects don't depend on what is known of nd constructs
  body_agrees : (k : PlainClass) (member_nd_free : ℕ → Bool) (n : ℕ) (m : PlainMember) → Agree (body_scope k member_nd_free n m) (body_scope k (λ x. false) 0 m)
  body_agrees k member_nd_free n m = record { local = λ x. same_use (first_locals k m x) }

  written : (n : ℕ) (m : PlainMember) (g : GoodMember P wt.member_nd_free n m) → IsTrue (set_covers m.summary (done_written P g.class m))
  written n m g =
      subst (λ E. IsTrue (set_covers m.summary (as_effects E)))
      (sym (all_is P wt.rank falls g.passes) ∙ all_alike P (body_scope g.class wt.member_nd_free n m) (body_scope g.class (λ x. false) 0 m) (body_agrees g.class wt.member_nd_free n m) m.body) g.covered

  member_there : (n : ℕ) (m : PlainMember) (ks : List Kept) (g : GoodMember P wt.member_nd_free n m) → member_at P n ≡ Some m → slice_get S n ≡ Some ks →
      GoodMember Q wt.member_nd_free n (member_inferred S P g.class ks m)
  member_there n m ks g is said =
      let L = member_scope g.class m in
      let M = body_scope g.class (λ x. false) 0 m in
      record {
        class = g.class;
        is = g.is;
        given = constraints_there L m.given g.given;
        formals = types_there L m.formals g.formals;
        result = ⊎_elim (λ v. inl v) (λ t. inr (type_there P (members_inferred S P) L 0 m.result t)) g.result;
        summary = places_kept (GoodPath Q L 0) ks m.summary (λ i d l. path_there P (members_inferred S P) L 0 (slice_index_or m.summary i d).rpl (g.summary i d l));
        room = g.room;
        effects = effects_of_all (program_kept S P) M m.body;
        passes = block_there P wt.rank falls (members_kept S P.members) (members_inferred S P) there (kept_grows P S) g.passes M (body_agrees g.class wt.member_nd_free n m);
        covered = bodies_covered P S says post_fixpoint n m g.class ks is g.is said (written n m g);
        ends = ⊎_elim (λ v. inl v) (λ e. inr (all_still_complete (program_kept S P) M m.body ∙ e)) g.ends;
      }

  members_there : (n : ℕ) (q : PlainMember) → member_at Q n ≡ Some q → GoodMember Q wt.member_nd_free n q
  members_there n q at =
      let o = inferred_from P S n q at in
      let w = said_at S P.members n o.0 says o.1 in
      let g = wt.members n o.0 o.1 in
      let same = same_Some (member_inferred S P g.class w.0 o.0) q (sym (inferred_is P S n o.0 g.class w.0 o.1 g.is w.1) ∙ at) in
      subst (GoodMember Q wt.member_nd_free n) same (member_there n o.0 w.0 g o.1 w.1)

  -- classes

  row_is : (c r n : ℕ) (k : PlainClass) → class_at P c ≡ Some k → slice_get k.rows r ≡ Some n → row_at P c r ≡ Some n
  row_is c r n k is e = ap (option_and_then (λ class. slice_get class.rows r)) is ∙ e

  -- in a row that is overridden no more is kept than of the member above
  override_there : (c r n j : ℕ) (k high : PlainClass) (p : PlainParent) (m over : PlainMember) → class_at P c ≡ Some k → k.parent ≡ Some p → class_at P p.class ≡ Some high →
      slice_get high.rows r ≡ Some n → slice_get k.rows r ≡ Some j → (i : Inferred n m) (v : Inferred j over) → member_at P n ≡ Some m → member_at P j ≡ Some over → Overrides P c k over m →
      Overrides Q c k (member_inferred S P v.class v.keeps over) (member_inferred S P i.class i.keeps m)
  override_there c r n j k high p m over is extends up above row i v here own o =
      let stands : IsOverride P c r n j k m over = record { class = is; parent = p; extends = extends; above = row_is p.class r n high up above; row = row_is c r j k is row; member = here; own = own; here = o.own } in
      let seen : seen_as P c (own_paths k) m.class ≡ o.seen = seen_is P wt.rank falls o.sees in
      let before : IsTrue (set_covers (map (effect_with (seen_below P c k m)) m.summary) over.summary) =
      subst (λ owned. IsTrue (set_covers (map (effect_with (owned ++ method_paths k m)) m.summary) over.summary)) (sym seen) o.covered in
      record {
        own = o.own;
        seen = o.seen;
        sees = above_there P (members_inferred S P) o.sees;
        params = o.params;
        given = o.given;
        formals = o.formals;
        result = o.result;
        covered = subst (λ owned. IsTrue (set_covers (map (effect_with (owned ++ method_paths k m)) (summary_kept i.keeps m.summary)) (summary_kept v.keeps over.summary))) seen
            (overrides_covered P S says post_fixpoint c r n j k m over i.keeps v.keeps stands i.said v.said before);
      }

  keeps_there : (c r n j : ℕ) (k high : PlainClass) (p : PlainParent) → class_at P c ≡ Some k → k.parent ≡ Some p → class_at P p.class ≡ Some high →
      slice_get high.rows r ≡ Some n → slice_get k.rows r ≡ Some j → KeepsRow P c k n j → KeepsRow Q c k n j
  keeps_there c r n j k high p is extends up above row h =
      ⊎_elim (λ e. inl e)
      (λ w. (let v = inferred j w.0 w.2 in let i = inferred n w.1 w.3 in
      inr (member_inferred S P v.class v.keeps w.0, member_inferred S P i.class i.keeps w.1, v.is, i.is, override_there c r n j k high p w.1 w.0 is extends up above row i v w.3 w.2 w.4))) h

  extends_there : (c : ℕ) (k : PlainClass) (p : PlainParent) → class_at P c ≡ Some k → k.parent ≡ Some p → Extends P wt.rank c k p → Extends Q wt.rank c k p
  extends_there c k p is extends x = record {
    above = x.above;
    is = x.is;
    before = x.before;
    args = args_there P (members_inferred S P) x.args;
    full = x.full;
    no_constructor = x.no_constructor;
    own_fields = x.own_fields;
    fields = x.fields;
    rows = λ r n e. (let w = x.rows r n e in (w.0, w.1, keeps_there c r n w.0 k x.above p is extends x.is e w.1 w.2));
  }

  field_there : (k : PlainClass) (f : PlainField) → GoodField P k f → GoodField Q k f
  field_there k f h = record {
    ty = type_there P (members_inferred S P) (class_scope k) 0 f.ty h.ty;
    path = path_there P (members_inferred S P) (class_scope k) 0 f.region h.path;
    full = h.full;
  }

  row_there : (c n : ℕ) → RowIsThere P c n → RowIsThere Q c n
  row_there c n h = let i = inferred n h.0 h.1 in (member_inferred S P i.class i.keeps h.0, i.is, below_there P (members_inferred S P) h.2)

  constructor_there : (c n : ℕ) → IsConstructor P c n → IsConstructor Q c n
  constructor_there c n h =
      let i = inferred n h.member h.is in
      record { member = member_inferred S P i.class i.keeps h.member; is = i.is; own = h.own; params = h.params; given = h.given; result = IsConstructor.result h }

  class_there : (c : ℕ) (k : PlainClass) → class_at P c ≡ Some k → GoodClass P wt.rank c k → GoodClass Q wt.rank c k
  class_there c k is h = record {
    given = constraints_there (class_scope k) k.given h.given;
    parent = λ p e. extends_there c k p is e (h.parent p e);
    fields = λ j d l. field_there k (slice_index_or k.fields j d) (h.fields j d l);
    rows = λ j d l. row_there c (slice_index_or k.rows j d) (h.rows j d l);
    constructor = λ n e. constructor_there c n (h.constructor n e);
  }

  main_there : GoodMain P → GoodMain Q
  main_there h =
      let i = inferred P.main_member h.member h.member_is in
      record {
        class = h.class;
        class_is = h.class_is;
        no_class_params = h.no_class_params;
        nothing_given_of_class = h.nothing_given_of_class;
        no_constructor = h.no_constructor;
        member = member_inferred S P i.class i.keeps h.member;
        member_is = i.is;
        own = h.own;
        no_params = h.no_params;
        nothing_given = h.nothing_given;
        formals = h.formals;
        result = GoodMain.result h;
      }

  well_typed_there : WellTyped Q
  well_typed_there = record {
    rank = wt.rank;
    member_nd_free = wt.member_nd_free;
    classes = λ c k is. class_there c k is (wt.classes c k is);
    members = members_there;
    main = main_there wt.main;
    without_nd = wt.without_nd;
  }

pub kept_well_typed : (P : PlainProgram) (S : Keeping) → WellTyped P → SaysOfEach P S → IsPostFixpoint P S → WellTyped (program_inferred S P)
kept_well_typed = well_typed_there

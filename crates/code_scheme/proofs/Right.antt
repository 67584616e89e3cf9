-- The code of each expression does what its meaning says.
use Rattle.std.proofs.Common.{◌≡◌, ℕ, suc, ◌+◌, ◌-◌, ℤ, pos, negsuc, Bool, true, false, cond, List, [], ◌∷◌, ◌++◌, map, length, reverse, refl, sym, ap, ◌∙◌, subst, arith, Option, Some, None, option_map}
use Rattle.lang_base.specs.declared.place.Place.{Place}
use Rattle.lang_base.specs.declared.region.Rpl.{Rpl}
use Rattle.lang_base.specs.declared.value.Trap.{Trap}
use Rattle.lang_base.specs.declared.value.Trap.TheVariants as trap
use Rattle.lang_base.specs.Types.{PlainType}
use Rattle.lang_base.specs.Types.{PlainType as ty}
use Rattle.lang_base.specs.FirstValues.{first_value}
use Rattle.lang_typed.specs.Plain.{PlainProgram, PlainMember, TypedExpr, typed, TypedExprs, no_exprs, more_exprs}
use Rattle.lang_typed.specs.Plain.{ExprForm as expr}
use Rattle.lang_typed.specs.Resolved.{gives_value, RowGives, IsArray, ExprFits, ExprsFit, Resolved}
use Rattle.lang_typed.specs.Scope as program
use Rattle.lang_meaning.specs.Values.{Value, Int, Boolean, Null, Object, Region, An_object, An_array, Naming}
use Rattle.lang_meaning.specs.Actions.{Frame, New, Do}
use Rattle.lang_meaning.specs.Core.{Result, Goes_on, Returns, Prog, Traps, Act, on, run}
use Rattle.lang_meaning.specs.Counts.{number, truth, reference, value_read, is_out, length_seen, name_made, class_seen, class_entered, operated, unary, slot_value, part_place, padded}
use Rattle.lang_meaning.specs.Regions.{around, concrete, is_long, some_long, regions_above, unmade_from}
use Rattle.lang_meaning.specs.Expressions as meaning
use Rattle.lang_meaning.specs.Expressions.{Deeper, gives, none, of_expr, of_exprs}
use Rattle.lang_meaning.specs.Statements.{write_cell}
use Rattle.lang_meaning.specs.Asking.{reported}
use Rattle.code_instrs.specs.declared.instr.Instr.{Instr}
use Rattle.code_instrs.specs.declared.instr.Instr.TheVariants as i
use Rattle.code_instrs.specs.Plain.{PlainCode, call_site, new_site, body_at, parent_of, constructor_of}
use Rattle.code_instrs.specs.Machine.{State, Level, Stand, Goes, Waits, spot, exec, exec_line, step, or_trap, deeper, unless_long, reads, writes, cell_read, cell_written, taken, called, calls, enters, calls_method, entered, created, creates, makes_array, array_of, returned, left_with}
use Rattle.code_scheme.specs.Scheme.{many, after_expr, after_exprs, site_of_array, owner_of}
use Rattle.code_scheme.specs.Stands.{LineAt, SitedAt, ExprAt, ExprsAt, LaidOut}
use Rattle.code_scheme.proofs.Does.{after, does_on}
use Rattle.code_scheme.proofs.Sim.{Sim, sim_here, sim_step, sim_last, sim_value, sim_off, sim_trap, sim_then, sim_act}
use Rattle.code_scheme.proofs.Tables.{first_is, entered_gives, parents_are, classes_many, method_is, constructor_is, fields_are}

abbrev pub lvl : {N M : Type 0} → ℕ → ℕ → List (Value N) → Frame N M → Level N M
lvl b p st f = record { body = b; at = p; frame = f; stack = st }

-- on a stack, where a call gives a value or none
abbrev pub kept : {N : Type 0} → Bool → Value N → List (Value N) → List (Value N)
kept true v st = v ∷ st
kept false v st = st

-- where a body that gives a value or none has returned to
abbrev pub gone : {N M : Type 0} → Bool → Value N → List (Level N M) → State N M
gone true v fs = returned v fs
gone false v fs = left_with v fs

pub gone_kept : {N M : Type 0} (k : Bool) (v : Value N) (b p : ℕ) (st : List (Value N)) (f : Frame N M) (fs : List (Level N M)) →
    gone k v (lvl b p st f ∷ fs) ≡ spot b fs p (kept k v st) f
gone_kept true v b p st f fs = refl
gone_kept false v b p st f fs = refl

no_more : (n : ℕ) → n + 0 ≡ n
no_more n = omega arith

taken_is : {N M : Type 0} (ws st : List (Value N)) (k : List (Value N) → List (Value N) → Stand N M) → taken (length ws) (ws ++ st) k ≡ k ws st
taken_is [] st k = refl
taken_is (w ∷ ws) st k = taken_is ws st (λ vs rest. k (w ∷ vs) rest)

module _ {N M : Type 0} {names : Naming N M} {C : PlainCode} {P : PlainProgram} {d : ℕ} where
  -- by what there is: nothing traps
  pub sim_or : {A : Type 0} {s : State N M} {B : Value N → Frame N M → State N M} {G : Value N → State N M} (t : Trap) (at : Place) {k : A →
      Stand N M} {j : A → Prog N M} (x : Option A) → step names C s ≡ or_trap t at x k → ((a : A) → step names C s ≡ k a → Sim names C P d s B G (j a)) →
      Sim names C P d s B G (elim x as (λ z. Prog N M) [ None ↦ Traps t at | Some a ↦ j a ])
  sim_or t at None e y = sim_trap t at e
  sim_or t at (Some a) e y = y a e

  -- by whether a region is long, which traps
  pub sim_long : {s : State N M} {B : Value N → Frame N M → State N M} {G : Value N → State N M} (at : Place) {z : Stand N M} {p : Prog N M} (long : Bool) →
      step names C s ≡ unless_long long at z → (step names C s ≡ z → Sim names C P d s B G p) → Sim names C P d s B G (cond long (Traps trap.Stack at) p)
  sim_long at true e y = sim_trap trap.Stack at e
  sim_long at false e y = y e

  -- by the truth of a value: at the next line, or where the label is
  pub sim_test : {s : State N M} {B : Value N → Frame N M → State N M} {G : Value N → State N M} {p q : Prog N M} (b n m : ℕ) (fs : List (Level N M))
      (st : List (Value N)) (g : Frame N M) (c : Bool) → step names C s ≡ Goes (spot b fs (cond c n m) st g) → Sim names C P d (spot b fs m st g) B G p →
      Sim names C P d (spot b fs n st g) B G q → Sim names C P d s B G (elim c as (λ x. Prog N M) [ false ↦ p | true ↦ q ])
  sim_test b n m fs st g false e x y = sim_step e x
  sim_test b n m fs st g true e x y = sim_step e y

  -- at the deepest another call traps, and elsewhere it is made
  pub sim_deepest : {s : State N M} {B : Value N → Frame N M → State N M} {G : Value N → State N M} (at : Place) (z : Stand N M) (n : ℕ) → n ≡ 0 →
      step names C s ≡ deeper n at z → Sim names C P d s B G (Traps trap.Stack at)
  sim_deepest at z n q e = sim_trap trap.Stack at (e ∙ ap (λ x. deeper x at z) q)

  pub sim_read : {s : State N M} {G : Value N → State N M} (at : Place) (v : Value N) (x : ℤ) (b p : ℕ) (fs : List (Level N M)) (more st : List (Value N))
      (f : Frame N M) → f.left ≡ d → step names C s ≡ reads at v x (lvl b p more f) st fs →
      Sim names C P d s (λ v g. spot b fs (suc p) (v ∷ st) g) G (meaning.unless_null at v (λ n. meaning.read_cell at n x f))
  sim_read {s} {G} at v x b p fs more st f l e = sim_or trap.Null at (reference v) e (λ n z. sim_act z (λ a. got (value_read a)))
    where
      got : (o : Option (Value N)) →
          Sim names C P d (cell_read at o (lvl b p more f) st fs) (λ v g. spot b fs (suc p) (v ∷ st) g) G
          (elim o as (λ z. Prog N M) [ None ↦ Traps trap.Index at | Some v ↦ gives v f ])
      got None = sim_off trap.Index at
      got (Some v) = sim_here v f l

  pub sim_write : {s : State N M} {G : Value N → State N M} (at : Place) (v : Value N) (x : ℤ) (u : Value N) (b p : ℕ) (fs : List (Level N M))
      (more st : List (Value N)) (f : Frame N M) → f.left ≡ d → step names C s ≡ writes at v x u (lvl b p more f) st fs →
      Sim names C P d s (λ v g. spot b fs (suc p) st g) G (meaning.unless_null at v (λ n. write_cell at n x u f))
  sim_write {s} {G} at v x u b p fs more st f l e = sim_or trap.Null at (reference v) e (λ n z. sim_act z (λ a. put (is_out a)))
    where
      put : (o : Bool) → Sim names C P d (cell_written at o (lvl b p more f) st fs) (λ v g. spot b fs (suc p) st g) G
          (cond o (Traps trap.Index at) (gives none f))
      put true = sim_off trap.Index at
      put false = sim_here none f l

pub deep_enough : {N M : Type 0} {t : Stand N M} (at : Place) (z : Stand N M) (n k : ℕ) → n ≡ suc k → t ≡ deeper n at z → t ≡ z
deep_enough at z n k q e = e ∙ ap (λ x. deeper x at z) q

module _ {N M : Type 0} (names : Naming N M) (C : PlainCode) (P : PlainProgram) (body_of : ℕ → ℕ) (laid : LaidOut C P body_of) (resolved : Resolved P) where
  pub at_line : (b p : ℕ) {x : Instr} {q : Place} (fs : List (Level N M)) (st : List (Value N)) (f : Frame N M) → LineAt (body_at C b).lines p x q →
      step names C (spot b fs p st f) ≡ exec names C q x (lvl b p st f) fs
  unfolding step
  at_line b p fs st f h = ap (λ o. exec_line names C o (lvl b p st f) fs) h

  -- what the body of each member does, whoever calls it, where so many calls may still be made
  abbrev pub Right_body : ℕ → Deeper N M → Type 0
  Right_body d deep = (n : ℕ) (m : PlainMember) → program.member_at P n ≡ Some m → (fs : List (Level N M)) (f : Frame N M) → f.left ≡ d →
      Sim names C P d (spot (body_of n) fs 0 [] f) (λ v g. gone (gives_value m) none fs) (λ v. gone (gives_value m) v fs) (deep m.body f)

  abbrev pub Right_deeper : ℕ → Option (Deeper N M) → Type 0
  Right_deeper d None = d ≡ 0
  Right_deeper d (Some deep) = (k : ℕ) × (d ≡ suc k) × Right_body k deep

  -- in a member that was entered, and what follows
  in_member : (d k : ℕ) (deep : Deeper N M) → d ≡ suc k → Right_body k deep → (n : ℕ) (m : PlainMember) → program.member_at P n ≡ Some m →
      (vs : List (Value N)) (regions : List (Region M)) (g : Level N M) (fs : List (Level N M)) → g.frame.left ≡ d →
      {B : Value N → Frame N M → State N M} {G : Value N → State N M} (j : Result N M → Prog N M) →
      ((u : Value N) (h : Frame N M) → Sim names C P d (gone (gives_value m) none (g ∷ fs)) B G (j (Goes_on u h))) →
      ((u : Value N) → Sim names C P d (gone (gives_value m) u (g ∷ fs)) B G (j (Returns u))) →
      Sim names C P d (entered names C (body_of n) vs regions g fs) B G (on (deep m.body (meaning.entered names m vs regions (g.frame.left - 1))) j)
  in_member d k deep e r n m im vs regions g fs l {B} {G} j goes back =
      subst (λ s. Sim names C P d s B G (on (deep m.body f) j)) (sym same) (record {
        does = λ a K h q. does_on (deep m.body f) j K
            ((r n m im (g ∷ fs) f left).does a (λ x v. after (run (reported names) (j x) v) K) (λ v y z. (goes v y).does a K h q) (λ v. (back v).does a K h q));
      })
    where
      f : Frame N M
      f = meaning.entered names m vs regions (g.frame.left - 1)

      left : f.left ≡ k
      left = omega arith

      same : entered names C (body_of n) vs regions g fs ≡ spot (body_of n) (g ∷ fs) 0 [] f
      same =
          let is = laid.members n m im in
          ap (λ z. spot (body_of n) (g ∷ fs) 0 [] (record {
            values = padded z vs;
            regions = regions;
            locals =
                unmade_from names 0 (body_at C (body_of n)).local_regions;
            left = g.frame.left - 1;
          })) is.slots ∙
          ap (λ z. spot (body_of n) (g ∷ fs) 0 [] (record {
            values = padded m.slots vs;
            regions = regions;
            locals = unmade_from names 0 z;
            left =
                g.frame.left - 1;
          })) is.local_regions

  -- the row of a class
  right_enter : (d k : ℕ) (deep : Deeper N M) → d ≡ suc k → Right_body k deep → (y : Bool) (seen : ℕ × List (Region M)) (r : ℕ) → RowGives P seen.0 r y →
      (vs : List (Value N)) (own : List (Region M)) (b p : ℕ) (fs : List (Level N M)) (st : List (Value N)) (f : Frame N M) → f.left ≡ d →
      {G : Value N → State N M} →
      Sim names C P d (enters names C seen r vs own (lvl b p st f) fs) (λ v g. spot b fs p (kept y v st) g) G (meaning.enter names P deep seen r vs own f)
  right_enter d k deep e rb y seen r row vs own b p fs st f l {G} =
      subst (λ o. Sim names C P d (enters names C seen r vs own (lvl b p st f) fs) (λ v g. spot b fs p (kept y v st) g) G
      (elim o as (λ z. Prog N M) [
        | None ↦ gives none f
        | Some n ↦ elim (program.member_at P n) as
            (λ z. Prog N M) [
              | None ↦ gives none f
              | Some m ↦ on
                  (deep m.body (meaning.entered names m vs (regions_above names (program.parent_of P) (length P.classes) seen.0 seen.1 m.class ++ own)
                  (f.left - 1)))
                  (meaning.back f)
            ]
      ])) (sym row.row)
      (subst (λ o. Sim names C P d (enters names C seen r vs own (lvl b p st f) fs) (λ v g. spot b fs p (kept y v st) g) G
      (elim o as (λ z. Prog N M) [
        | None ↦ gives none f
        | Some m ↦ on
            (deep m.body (meaning.entered names m vs (regions_above names (program.parent_of P) (length P.classes) seen.0 seen.1 m.class ++ own) (f.left - 1)))
            (meaning.back f)
      ])) (sym row.is_there)
      (subst (λ s. Sim names C P d s (λ v g. spot b fs p (kept y v st) g) G
      (on (deep row.member.body
      (meaning.entered names row.member vs (regions_above names (program.parent_of P) (length P.classes) seen.0 seen.1 row.member.class ++ own)
      (f.left - 1))) (meaning.back f))) (sym same)
      (in_member d k deep e rb row.number row.member row.is_there vs
      (regions_above names (program.parent_of P) (length P.classes) seen.0 seen.1 row.member.class ++ own) (lvl b p st f) fs l (meaning.back f)
      (λ u h. subst (λ s. Sim names C P d s (λ v g. spot b fs p (kept y v st) g) G (gives none f)) (sym (kind none)) (sim_here none f l))
      (λ u. subst (λ s. Sim names C P d s (λ v g. spot b fs p (kept y v st) g) G (gives u f)) (sym (kind u)) (sim_here u f l)))))
    where
      kind : (u : Value N) → gone (gives_value row.member) u (lvl b p st f ∷ fs) ≡ spot b fs p (kept y u st) f
      kind u = ap (λ z. gone z u (lvl b p st f ∷ fs)) row.kind ∙ gone_kept y u b p st f fs

      same : enters names C seen r vs own (lvl b p st f) fs ≡ entered names C (body_of row.number) vs
          (regions_above names (program.parent_of P) (length P.classes) seen.0 seen.1 row.member.class ++ own) (lvl b p st f) fs
      same =
          ap (λ o. calls_method names C o seen vs own (lvl b p st f) fs) (method_is C P body_of laid seen.0 r row.number row.row) ∙
          (ap (λ o. entered names C (body_of row.number) vs (regions_above names (parent_of C) (length C.classes) seen.0 seen.1 (owner_of o) ++ own)
          (lvl b p st f) fs) row.is_there ∙
          (ap (λ o. entered names C (body_of row.number) vs (regions_above names o (length C.classes) seen.0 seen.1 row.member.class ++ own)
          (lvl b p st f) fs) (parents_are C P body_of laid) ∙
          ap (λ o. entered names C (body_of row.number) vs (regions_above names (program.parent_of P) o seen.0 seen.1 row.member.class ++ own)
          (lvl b p st f) fs) (classes_many C P body_of laid)))

  -- a call of what isn't null
  right_called : (d : ℕ) (dp : Option (Deeper N M)) → Right_deeper d dp → (y : Bool) (at : Place) (c r : ℕ) → RowGives P c r y →
      (own : List (Region M)) (n : N) (vs : List (Value N)) (b p : ℕ) (fs : List (Level N M)) (more st : List (Value N)) (f : Frame N M) → f.left ≡ d →
      {s : State N M} {G : Value N → State N M} → step names C s ≡ calls names C at c r own n vs (lvl b p more f) st fs →
      Sim names C P d s (λ v g. spot b fs (suc p) (kept y v st) g) G (meaning.called names P dp at c r own n vs f)
  right_called d None dh y at c r row own n vs b p fs more st f l e =
      sim_deepest at _ f.left (l ∙ dh) e
  right_called d (Some deep) dh y at c r row own n vs b p fs more st f l {s} {G} e =
      sim_long at (some_long own) (deep_enough at _ f.left dh.0 (l ∙ dh.1) e) (λ z. sim_act z (λ a.
      subst (λ x. Sim names C P d (enters names C x r (Object n ∷ vs) own (lvl b (suc p) st f) fs) (λ v g. spot b fs (suc p) (kept y v st) g) G
      (meaning.enter names P deep (class_entered (program.parent_of P) (length P.classes) c (class_seen a)) r (Object n ∷ vs) own f))
      (sym (ap (λ x. class_entered x (length C.classes) c (class_seen a)) (parents_are C P body_of laid) ∙
      ap (λ x. class_entered (program.parent_of P) x c (class_seen a)) (classes_many C P body_of laid)))
      (right_enter d dh.0 deep dh.1 dh.2 y (class_entered (program.parent_of P) (length P.classes) c (class_seen a)) r
      (entered_gives P resolved (length P.classes) c r y (class_seen a) row) (Object n ∷ vs) own b (suc p) fs st f l)))

  -- a creation that isn't too long
  right_created : (d : ℕ) (dp : Option (Deeper N M)) → Right_deeper d dp →
      (at : Place) (c : ℕ) (own : List (Region M)) (vs : List (Value N)) (b p : ℕ) (fs : List (Level N M)) (more st : List (Value N)) (f : Frame N M) →
      f.left ≡ d → {s : State N M} {G : Value N → State N M} → (x : Option ℕ) → program.constructor_of P c ≡ x →
      step names C s ≡ creates names C at c own vs (option_map body_of x) (lvl b p more f) st fs →
      Sim names C P d s (λ v g. spot b fs (suc p) (v ∷ st) g) G (elim x as (λ z. Prog N M) [
        | None ↦ Act (New (meaning.new_object P c own) false) (λ a. gives (name_made a) f)
        | Some n ↦ elim dp as (λ z. Prog N M) [
          | None ↦ Traps trap.Stack at
          | Some deeper ↦ Act (New (meaning.new_object P c own) true) (λ a. elim (program.member_at P n) as (λ z. Prog N M) [
            | None ↦ gives (name_made a) f
            | Some m ↦ on (deeper m.body (meaning.entered names m (name_made a ∷ vs) own (f.left - 1))) (λ r. gives (name_made a) f)
          ])
        ]
      ])
  right_created d dp dh at c own vs b p fs more st f l None is e =
      sim_act (e ∙ ap (λ t. Waits (Do (New (An_object c own t) false)) (λ a. spot b fs (suc p) (name_made a ∷ st) f)) (fields_are C P body_of laid c))
      (λ a. sim_here (name_made a) f l)
  right_created d None dh at c own vs b p fs more st f l (Some n) is e = sim_deepest at _ f.left (l ∙ dh) e
  right_created d (Some deep) dh at c own vs b p fs more st f l {s} {G} (Some n) is e =
      sim_act (deep_enough at _ f.left dh.0 (l ∙ dh.1) e ∙
      ap (λ t. Waits (Do (New (An_object c own t) true))
      (λ a. entered names C (body_of n) (name_made a ∷ vs) own (lvl b (suc p) (name_made a ∷ st) f) fs)) (fields_are C P body_of laid c))
      (λ a. made (name_made a))
    where
      made : (v : Value N) →
          Sim names C P d (entered names C (body_of n) (v ∷ vs) own (lvl b (suc p) (v ∷ st) f) fs) (λ v g. spot b fs (suc p) (v ∷ st) g) G
          (elim (program.member_at P n) as (λ z. Prog N M) [
            | None ↦ gives v f
            | Some m ↦ on (deep m.body (meaning.entered names m (v ∷ vs) own (f.left - 1)))
                (λ r. gives v f)
          ])
      made v =
          let m = resolved.constructors c n is in
          let back : (u : Value N) →
          Sim names C P d (gone (gives_value m.0) u (lvl b (suc p) (v ∷ st) f ∷ fs)) (λ v g. spot b fs (suc p) (v ∷ st) g) G (gives v f) =
          λ u. subst (λ z. Sim names C P d (gone z u (lvl b (suc p) (v ∷ st) f ∷ fs)) (λ v g. spot b fs (suc p) (v ∷ st) g) G (gives v f)) (sym m.2)
          (sim_here v f l) in
          subst (λ o. Sim names C P d (entered names C (body_of n) (v ∷ vs) own (lvl b (suc p) (v ∷ st) f) fs) (λ v g. spot b fs (suc p) (v ∷ st) g) G
          (elim o as (λ z. Prog N M) [
            | None ↦ gives v f
            | Some m ↦ on (deep m.body (meaning.entered names m (v ∷ vs) own (f.left - 1)))
                (λ r. gives v f)
          ])) (sym m.1)
          (in_member d dh.0 deep dh.1 dh.2 n m.0 m.1 (v ∷ vs) own (lvl b (suc p) (v ∷ st) f) fs l (λ r. gives v f) (λ u h. back none) back)

  -- the creation of an array of a length
  right_array : (d : ℕ) (at : Place) (t : PlainType) (a : Rpl) (named : Bool) (len : ℤ) (b p : ℕ) (fs : List (Level N M)) (more st : List (Value N))
      (f : Frame N M) → f.left ≡ d → {s : State N M} {G : Value N → State N M} →
      step names C s ≡ array_of at (concrete names (around f) a) (first_value t) len (lvl b p more f) st fs →
      Sim names C P d s (λ v g. spot b fs (suc p) (v ∷ st) g) G (meaning.made_array names at (ty.array t a named) len f)
  right_array d at t a named (negsuc k) b p fs more st f l e = sim_trap trap.Size at e
  right_array d at t a named (pos k) b p fs more st f l e =
      sim_long at (is_long (concrete names (around f) a)) e
      (λ z. sim_act (z ∙ ap (λ v. Waits (Do (New (An_array (concrete names (around f) a) k v) false)) (λ x. spot b fs (suc p) (name_made x ∷ st) f))
      (first_is t)) (λ x. sim_here (name_made x) f l))

  -- y: whether the body gives a value; b: the body; fs: its callers
  module _ (d : ℕ) (y : Bool) (b : ℕ) (fs : List (Level N M)) where
    abbrev Right_expr : Option (Deeper N M) → ℕ → List (Value N) → TypedExpr → Type 0
    Right_expr dp p st e = (f : Frame N M) → f.left ≡ d →
        Sim names C P d (spot b fs p st f) (λ v g. spot b fs (after_expr p e) (v ∷ st) g) (λ v. gone y v fs) (of_expr names P dp e f)

    -- actuals after those that have these values, the latest first
    abbrev Right_exprs : Option (Deeper N M) → ℕ → List (Value N) → TypedExprs → List (Value N) → Type 0
    Right_exprs dp p st es vs = (B : Value N → Frame N M → State N M) (j : List (Value N) → Frame N M → Prog N M) →
        ((ws : List (Value N)) → length ws ≡ many es + length vs → (g : Frame N M) → g.left ≡ d →
        Sim names C P d (spot b fs (after_exprs p es) (ws ++ st) g) B (λ v. gone y v fs) (j ws g)) → (f : Frame N M) → f.left ≡ d →
        Sim names C P d (spot b fs p (vs ++ st) f) B (λ v. gone y v fs) (of_exprs names P dp es f vs j)

    -- a call whose receiver and actuals are right
    pub right_call : (dp : Option (Deeper N M)) → Right_deeper d dp →
        (z : Bool) (at : Place) (t : PlainType) (e : TypedExpr) (c r : ℕ) (regions : List Rpl) (es : TypedExprs) → RowGives P c r z →
        (p : ℕ) (st : List (Value N)) → SitedAt C (body_at C b).lines (after_exprs (after_expr p e) es) i.Call at (call_site c r (many es) regions) →
        Right_expr dp p st e → ((v : Value N) → Right_exprs dp (after_expr p e) (v ∷ st) es []) → (f : Frame N M) → f.left ≡ d →
        Sim names C P d (spot b fs p st f) (λ v g. spot b fs (suc (after_exprs (after_expr p e) es)) (kept z v st) g) (λ v. gone y v fs)
        (of_expr names P dp (typed at t (expr.call e c r regions es)) f)
    right_call dp dh z at t e c r regions es row p st h re res f l =
        sim_then (re f l) (λ v g m. res v _ _ (λ ws n g l.
        sim_or trap.Null at (reference v) (stands ws v n g)
        (λ x q. right_called d dp dh z at c r row (map (concrete names (around g)) regions) x (reverse ws) b (after_exprs (after_expr p e) es) fs
        (ws ++ (v ∷ st)) st g l q)) g m)
      where
        stands : (ws : List (Value N)) (v : Value N) → length ws ≡ many es + 0 → (g : Frame N M) →
            step names C (spot b fs (after_exprs (after_expr p e) es) (ws ++ (v ∷ st)) g) ≡ or_trap trap.Null at (reference v)
            (λ x. calls names C at c r (map (concrete names (around g)) regions) x (reverse ws)
            (lvl b (after_exprs (after_expr p e) es) (ws ++ (v ∷ st)) g) st fs)
        stands ws v n g = at_line b _ fs (ws ++ (v ∷ st)) g h.stands ∙
            (ap (λ o. called names C at o (lvl b (after_exprs (after_expr p e) es) (ws ++ (v ∷ st)) g) fs) h.site_is ∙
            (ap (λ x. called_with x) (sym (n ∙ no_more (many es))) ∙ taken_is ws (v ∷ st) _))
          where
            called_with : ℕ → Stand N M
            called_with x = called names C at (Some (call_site c r x regions)) (lvl b (after_exprs (after_expr p e) es) (ws ++ (v ∷ st)) g) fs

    right_create : (dp : Option (Deeper N M)) → Right_deeper d dp → (at : Place) (t : PlainType) (es : TypedExprs) (p : ℕ) (st : List (Value N)) →
        SitedAt C (body_at C b).lines (after_exprs p es) i.New at (new_site (meaning.class_in t).0 (many es) (meaning.class_in t).1) →
        Right_exprs dp p st es [] → (f : Frame N M) → f.left ≡ d →
        Sim names C P d (spot b fs p st f) (λ v g. spot b fs (suc (after_exprs p es)) (v ∷ st) g) (λ v. gone y v fs)
        (of_expr names P dp (typed at t (expr.create es)) f)
    right_create dp dh at t es p st h res f l =
        res _ _ (λ ws n g m. sim_long at (some_long (own g)) (stands ws n g)
        (λ q. right_created d dp dh at c (own g) (reverse ws) b (after_exprs p es) fs (ws ++ st) st g m (program.constructor_of P c) refl
        (q ∙ ap (λ o. creates names C at c (own g) (reverse ws) o (lvl b (after_exprs p es) (ws ++ st) g) st fs) (constructor_is C P body_of laid c)))) f l
      where
        c : ℕ
        c = (meaning.class_in t).0

        own : Frame N M → List (Region M)
        own g = map (concrete names (around g)) (meaning.class_in t).1

        stands : (ws : List (Value N)) → length ws ≡ many es + 0 → (g : Frame N M) →
            step names C (spot b fs (after_exprs p es) (ws ++ st) g) ≡ unless_long (some_long (map (concrete names (around g)) (meaning.class_in t).1)) at
            (creates names C at (meaning.class_in t).0 (map (concrete names (around g)) (meaning.class_in t).1) (reverse ws)
            (constructor_of C (meaning.class_in t).0) (lvl b (after_exprs p es) (ws ++ st) g) st fs)
        stands ws n g = at_line b _ fs (ws ++ st) g h.stands ∙ (ap (λ o. created names C at o (lvl b (after_exprs p es) (ws ++ st) g) fs) h.site_is ∙
            (ap (λ x. created names C at (Some (new_site (meaning.class_in t).0 x (meaning.class_in t).1)) (lvl b (after_exprs p es) (ws ++ st) g) fs)
            (sym (n ∙ no_more (many es))) ∙ taken_is ws st _))

    right_create_array : (at : Place) (t : PlainType) → IsArray t → (p : ℕ) (st : List (Value N)) →
        SitedAt C (body_at C b).lines p i.Array at (site_of_array t) → (v : Value N) (f : Frame N M) → f.left ≡ d →
        Sim names C P d (spot b fs p (v ∷ st) f) (λ v g. spot b fs (suc p) (v ∷ st) g) (λ v. gone y v fs) (meaning.made_array names at t (number v) f)
    right_create_array at (ty.array t a named) ok p st h v f l =
        right_array d at t a named (number v) b p fs (v ∷ st) st f l (at_line b p fs (v ∷ st) f h.stands ∙
        ap (λ o. makes_array names at o (lvl b p (v ∷ st) f) fs) h.site_is)
    right_create_array at ty.int ok p st h v f l = absurd ok
    right_create_array at ty.boolean ok p st h v f l = absurd ok
    right_create_array at ty.void ok p st h v f l = absurd ok
    right_create_array at ty.null ok p st h v f l = absurd ok
    right_create_array at (ty.class c args) ok p st h v f l = absurd ok

    mutual
      pub right_expr : (dp : Option (Deeper N M)) → Right_deeper d dp → (e : TypedExpr) → ExprFits P e → (p : ℕ) (st : List (Value N)) →
          ExprAt C (body_at C b).lines p e → Right_expr dp p st e
      right_expr dp dh (typed at t (expr.int n)) ok p st h f l = sim_value (Int n) f l (at_line b p fs st f h)
      right_expr dp dh (typed at t (expr.boolean x)) ok p st h f l = sim_value (Boolean x) f l (at_line b p fs st f h)
      right_expr dp dh (typed at t expr.null) ok p st h f l = sim_value Null f l (at_line b p fs st f h)
      right_expr dp dh (typed at t (expr.local x)) ok p st h f l = sim_value (slot_value f.values x) f l (at_line b p fs st f h)
      right_expr dp dh (typed at t (expr.field e c k)) ok p st h f l =
          sim_then (right_expr dp dh e ok p st h.0 f l) (λ v g m. sim_read at v (pos k) b _ fs (v ∷ st) st g m (at_line b _ fs (v ∷ st) g h.1))
      right_expr dp dh (typed at t (expr.element a j)) ok p st h f l =
          sim_then (right_expr dp dh a ok.0 p st h.0 f l) (λ v g m. sim_then (right_expr dp dh j ok.1 _ (v ∷ st) h.1 g m) (λ u g m.
          sim_read at v (number u) b _ fs (u ∷ v ∷ st) st g m (at_line b _ fs (u ∷ v ∷ st) g h.2)))
      right_expr dp dh (typed at t (expr.array_length a)) ok p st h f l =
          sim_then (right_expr dp dh a ok p st h.0 f l) (λ v g m. sim_or trap.Null at (reference v) (at_line b _ fs (v ∷ st) g h.1) (λ n q.
          sim_act q (λ x. sim_here (Int (pos (length_seen x))) g m)))
      right_expr dp dh (typed at t (expr.call e c r regions es)) ok p st h f l =
          right_call dp dh true at t e c r regions es ok.2 p st h.2 (right_expr dp dh e ok.0 p st h.0) (λ v. right_exprs dp dh es ok.1 _ (v ∷ st) [] h.1) f l
      right_expr dp dh (typed at t (expr.create es)) ok p st h f l = right_create dp dh at t es p st h.1 (right_exprs dp dh es ok p st [] h.0) f l
      right_expr dp dh (typed at t (expr.create_array n)) ok p st h f l =
          sim_then (right_expr dp dh n ok.0 p st h.0 f l) (λ v g m. right_create_array at t ok.1 _ st h.1 v g m)
      right_expr dp dh (typed at t (expr.unary o e)) ok p st h f l =
          sim_then (right_expr dp dh e ok p st h.0 f l) (λ v g m. sim_value (unary o v) g m (at_line b _ fs (v ∷ st) g h.1))
      right_expr dp dh (typed at t (expr.binary o x z)) ok p st h f l =
          sim_then (right_expr dp dh x ok.0 p st h.0 f l) (λ v g m. sim_then (right_expr dp dh z ok.1 _ (v ∷ st) h.1 g m) (λ u g m.
          sim_or trap.Divide at (operated names.same o v u) (at_line b _ fs (u ∷ v ∷ st) g h.2)
          (λ w q. sim_value w g m q)))
      right_expr dp dh (typed at t (expr.both x z)) ok p st h f l =
          sim_then (right_expr dp dh x ok.0 p st h.0 f l) (λ v g m. sim_test b _ _ fs st g (truth v) (at_line b _ fs (v ∷ st) g h.1)
          (sim_value (Boolean false) g m (at_line b _ fs st g h.4))
          (sim_last (λ u g. at_line b _ fs (u ∷ st) g h.3) (right_expr dp dh z ok.1 _ st h.2 g m)))
      right_expr dp dh (typed at t (expr.either x z)) ok p st h f l =
          sim_then (right_expr dp dh x ok.0 p st h.0 f l) (λ v g m. sim_test b _ _ fs st g (truth v) (at_line b _ fs (v ∷ st) g h.1)
          (right_expr dp dh z ok.1 _ st h.4 g m)
          (sim_step (at_line b _ fs st g h.2) (sim_value (Boolean true) g m (at_line b _ fs (Boolean true ∷ st) g h.3))))
      right_expr dp dh (typed at t (expr.part_length x)) ok p st h f l = sim_value (slot_value f.values (x + 2)) f l (at_line b p fs st f h)
      right_expr dp dh (typed at t (expr.part_element x j)) ok p st h f l =
          sim_then (right_expr dp dh j ok p st h.0 f l) (λ v g m. sim_or trap.Index at (part_place x (number v) g.values) (at_line b _ fs (v ∷ st) g h.1)
          (λ q e.
          sim_step e (sim_read at (slot_value g.values x) q b _ fs (Int q ∷ slot_value g.values x ∷ st) st g m
          (at_line b _ fs (Int q ∷ slot_value g.values x ∷ st) g h.2))))

      pub right_exprs : (dp : Option (Deeper N M)) → Right_deeper d dp → (es : TypedExprs) → ExprsFit P es → (p : ℕ) (st vs : List (Value N)) →
          ExprsAt C (body_at C b).lines p es → Right_exprs dp p st es vs
      right_exprs dp dh no_exprs ok p st vs h B j k f l = k vs (omega arith) f l
      right_exprs dp dh (more_exprs e es) ok p st vs h B j k f l =
          sim_then (right_expr dp dh e ok.0 p (vs ++ st) h.0 f l)
          (λ v g m. right_exprs dp dh es ok.1 _ st (v ∷ vs) h.1 B j (λ ws n g m. k ws (omega arith) g m) g m)

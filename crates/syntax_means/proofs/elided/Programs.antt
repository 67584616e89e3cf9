-- Two well-typed programs that are alike have one elision.
use Rattle.std.proofs.Common.{◌≡◌, ℕ, zero, suc, ℤ, true, List, [], ◌∷◌, length, Option, Some, None, refl, sym, ap, ◌∙◌, subst, arith}
use Rattle.std.specs.Prelude.{slice_get, option_map}
use Rattle.lang_base.specs.declared.outcome.Limits.{Limits}
use Rattle.lang_typed.specs.Plain.{PlainProgram, PlainMember, TypedStmts, no_stmts}
use Rattle.lang_typed.specs.Scope.{member_at, variable}
use Rattle.lang_typed.specs.Table.{body_scope, GoodMember}
use Rattle.lang_typed.specs.WellTyped.{WellTyped}
use Rattle.lang_meaning.specs.Values.{Value, Int, Object}
use Rattle.lang_meaning.specs.Actions.{Work}
use Rattle.lang_meaning.specs.Asking.{meaning, does}
use Rattle.lang_meaning.specs.Core.{Result, Goes_on, Returns, Out, Done, Stopped, Lost, run}
use Rattle.lang_meaning.specs.Core.{Out as out}
use Rattle.lang_meaning.specs.Elision.{LocalRegion, Store, in_order, at_end, sequential, enters_main, at_start, ran_through, judged, elided}
use Rattle.lang_meaning.specs.Expressions.{entered}
use Rattle.syntax_means.proofs.Alike.{MemberAlike, ProgramsAlike}
use Rattle.syntax_means.proofs.elided.Bodies.{deeper_alike}
use Rattle.syntax_means.proofs.elided.Forms.{sharing, used, EnteredAlike, MembersAlike, no_member, a_member, entered_alike}

-- two lists of one length have elements at the same places
none_there : {A : Type 0} (xs ys : List A) (n : ℕ) (y : A) → length xs ≡ length ys → slice_get xs n ≡ None → slice_get ys n ≡ Some y → ⊥
none_there [] [] n y l e h = cc
none_there [] (z ∷ ys) n y l e h = omega arith
none_there (x ∷ xs) [] n y l e h = cc
none_there (x ∷ xs) (z ∷ ys) zero y l e h = cc
none_there (x ∷ xs) (z ∷ ys) (suc n) y l e h = none_there xs ys n y (omega arith) e h

abbrev root_work : TypedStmts → Work
root_work ss = record { is_root = true; takes = None; copies = []; stmts = ss }

-- the end of the root doesn't look at its statements
same_root : (ss ts : TypedStmts) (o : Out ℕ LocalRegion (Result ℕ LocalRegion) Store) → at_end (root_work ss) o ≡ at_end (root_work ts) o
same_root ss ts (Done (Goes_on v f) w) = refl
same_root ss ts (Done (Returns v) w) = refl
same_root ss ts (out.Trapped t p w) = refl
same_root ss ts (Stopped n a) = refl
same_root ss ts (Lost w) = refl

module _ (P Q : PlainProgram) (alike : ProgramsAlike P Q) (left : WellTyped (sharing P Q)) (right : WellTyped Q) where
  entered_so : (n : ℕ) (m k : PlainMember) → MemberAlike m k → GoodMember (sharing P Q) left.member_nd_free n m → GoodMember Q right.member_nd_free n k
      → EnteredAlike (sharing P Q) Q m k
  entered_so n m k a g h = record {
    class = a.class;
    slots = a.slots;
    local_regions = a.local_regions;
    bodies = record {
      left = body_scope g.class left.member_nd_free n m;
      right = body_scope h.class right.member_nd_free n k;
      does = g.effects;
      other = h.effects;
      left_passes = g.passes;
      right_passes = h.passes;
      alike = a.body;
      uses = record { at = uses };
    };
  }
    where
      uses : (x : ℕ) → used ((body_scope g.class left.member_nd_free n m).local x) ≡ used ((body_scope h.class right.member_nd_free n k).local x)
      uses zero = refl
      uses (suc x) = ap (λ formals. used (option_map variable (slice_get formals x))) a.formals

  members_at : (n : ℕ) → MembersAlike (sharing P Q) Q (member_at P n) (member_at Q n)
  members_at n = at (member_at P n) (member_at Q n) refl refl
    where
      at : (o q : Option PlainMember) → member_at P n ≡ o → member_at Q n ≡ q → MembersAlike (sharing P Q) Q o q
      at None None i j = no_member
      at (Some m) (Some k) i j = a_member (entered_so n m k (alike.members n m k i j) (left.members n m i) (right.members n k j))
      at None (Some k) i j = absurd (none_there P.members Q.members n k alike.many i j)
      at (Some m) None i j = absurd (none_there Q.members P.members n m (sym alike.many) j i)

  same_main : (arg : ℤ) {o q : Option PlainMember} → MembersAlike (sharing P Q) Q o q → (w : Store)
      → at_end (enters_main in_order 0 arg o).work (run sequential (does in_order (sharing P Q) (enters_main in_order 0 arg o)) w)
      ≡ at_end (enters_main in_order 0 arg q).work (run sequential (does in_order Q (enters_main in_order 0 arg q)) w)
  same_main arg no_member w =
      ap (λ o. at_end (root_work no_stmts) o) (((deeper_alike P Q members_at 499).same no_stmts (record { values = []; regions = []; locals = []; left = 499 })).from w)
  same_main arg (a_member {m = m} {k = k} e) w =
      let vs : List (Value ℕ) = Object 0 ∷ Int arg ∷ [] in
      same_root m.body k.body _
      ∙ ap (λ o. at_end (root_work k.body) o)
      (((deeper_alike P Q members_at 499).alike m.body k.body e.bodies (entered in_order m vs [] 499)).from w
      ∙ ap (λ f. run sequential (meaning in_order Q 499 k.body f) w) (entered_alike e vs {own = []} {other = []} refl 499))

  same_run : (arg : ℤ) (n : ℕ) → ran_through (sharing P Q) arg n ≡ ran_through Q arg n
  unfolding ran_through
  same_run arg n = same_main arg (members_at Q.main_member) (at_start Q n)

  same_elided : (arg : ℤ) (limits : Limits) → elided (sharing P Q) arg limits ≡ elided Q arg limits
  unfolding elided
  same_elided arg limits = ap (λ o. judged limits o) (same_run arg (suc limits.steps))

-- a program with the classes and the start of one that is alike is itself
shares : (P Q : PlainProgram) → ProgramsAlike P Q → P ≡ sharing P Q
shares P Q alike = λ i. record P { classes = alike.classes i; main_class = alike.main_class i; main_member = alike.main_member i }

pub one_elision : (P Q : PlainProgram) → ProgramsAlike P Q → WellTyped P → WellTyped Q → (argument : ℤ) (limits : Limits)
    → elided P argument limits ≡ elided Q argument limits
one_elision P Q alike left right argument limits =
    let e : P ≡ sharing P Q = shares P Q alike in
    ap (λ R. elided R argument limits) e ∙ same_elided P Q alike (subst WellTyped e left) right argument limits

-- Each program has inferred summaries.
use Rattle.std.proofs.Common.{◌≡◌, ◌∙◌, ◌⊎◌, ◌<◌, ◌≤◌, ℕ, suc, zero, Bool, true, false, length, map, Option, Some, None, inl, inr, ⊎_elim, refl, ap, sym, subst, arith, eqb, eqb-true, eq-eqb}
use Rattle.std.proofs.lemmas.Bool.{cases_lt, false≢true}
use Rattle.std.proofs.lemmas.Option.{none-some, same_Some}
use Rattle.lang_base.specs.Regions.{substituted}
use Rattle.lang_typed.specs.Plain.{PlainClass, PlainMember, PlainParent, PlainProgram}
use Rattle.lang_typed.specs.Scope.{class_at, member_at, row_at}
use Rattle.body_infer.specs.Asked.{all_kept, nothing_kept, raised_in}
use Rattle.body_infer.specs.PostFixpoint.{IsPostFixpoint, IsInferred, done_in, seen_below}
use Rattle.body_infer.specs.Kept.{Keeping}
use Rattle.body_infer.specs.Passes.{Climbs, IsOverride, MeetsBody, MeetsRow, Rises, room}
use Rattle.body_infer.proofs.Passing.{bodies_all, body_met, body_rises, classes_all, climbs_none, climbs_then, post_fixpoint_of, row_met, row_rises, rows_all}
use Rattle.body_infer.proofs.Same.{nothing_least, nothing_says}
use Rattle.body_infer.proofs.Strength.{room_in_raised}

-- more is kept, as any post_fixpoint keeping asks
record Higher (P : PlainProgram) (S : Keeping) : Type 0 where
  next : Keeping
  climbs : Climbs P S next
  less : room next < room S

-- a fact of each number below a bound, or something else
below_or : {X : Type 0} (Q : ℕ → Type 0) (end : ℕ) → ((n : ℕ) → Q n ⊎ X) → ((n : ℕ) → n < end → Q n) ⊎ X
below_or Q zero each = inl (λ n less. absurd (omega (arith, less)))
below_or Q (suc end) each =
    ⊎_elim (λ here. ⊎_elim (λ rest. inl (λ n less. ⊎_elim (λ (h : n < end). rest n h) (λ (h : end ≤ n). (let same : end ≡ n = omega (arith, h, less) in subst Q same here)) (cases_lt n end)))
    (λ x. inr x) (below_or Q end each)) (λ x. inr x) (each end)

module _ (P : PlainProgram) (S : Keeping) where
  module _ (n : ℕ) where
    abbrev BodyOr : Type 0
    BodyOr = MeetsBody P S n ⊎ Higher P S

    body_raised : (m : PlainMember) (k : PlainClass) → member_at P n ≡ Some m → class_at P m.class ≡ Some k → BodyOr
    body_raised m k is of =
        ⊎_elim (λ (still : T ≡ S). inl (subst (λ U. MeetsBody P U n) still (body_met P S T n m k is of refl still)))
        (λ (less : room T < room S). inr (record {
          next = T;
          climbs = Rises.climbs (body_rises P S T n m k true is of refl (λ e. absurd (cc)) (λ e same. (let equal = ap room same in omega (arith, equal, less))));
          less = less;
        }))
        (room_in_raised S n m.summary (map (λ e. e.rpl) m.summary) (done_in P S k m))
      where
        T : Keeping
        T = raised_in S n m.summary (map (λ e. e.rpl) m.summary) (done_in P S k m)

    with_class : (m : PlainMember) → member_at P n ≡ Some m → (k : Option PlainClass) → class_at P m.class ≡ k → BodyOr
    with_class m is None none = inl (λ q l there this.
        absurd (none-some l (sym none ∙ ap (λ (x : PlainMember). class_at P x.class) (same_Some m q (sym is ∙ there)) ∙ this)))
    with_class m is (Some k) of = body_raised m k is of

    with_member : (o : Option PlainMember) → member_at P n ≡ o → BodyOr
    with_member None none = inl (λ q l there this. absurd (none-some q (sym none ∙ there)))
    with_member (Some m) is = with_class m is (class_at P m.class) refl

    by_body : BodyOr
    by_body = with_member (member_at P n) refl

  module _ (c r : ℕ) where
    abbrev RowOr : Type 0
    RowOr = MeetsRow P S c r ⊎ Higher P S

    no_row : ((n j : ℕ) (k : PlainClass) (m over : PlainMember) → IsOverride P c r n j k m over → ⊥) → RowOr
    no_row never = inl (λ n j k m over is. absurd (never n j k m over is))

    row_raised : (n j : ℕ) (k : PlainClass) (m over : PlainMember) → IsOverride P c r n j k m over → RowOr
    row_raised n j k m over is =
        ⊎_elim (λ (still : T ≡ S). inl (subst (λ U. MeetsRow P U c r) still (row_met P S T c r n j k m over is refl still)))
        (λ (less : room T < room S). inr (record {
          next = T;
          climbs = Rises.climbs (row_rises P S T c r n j k m over true is refl (λ e. absurd (cc)) (λ e same. (let equal = ap room same in omega (arith, equal, less))));
          less = less;
        }))
        (room_in_raised S n m.summary (map (λ e. substituted (seen_below P c k m) e.rpl) m.summary) (all_kept S P j))
      where
        T : Keeping
        T = raised_in S n m.summary (map (λ e. substituted (seen_below P c k m) e.rpl) m.summary) (all_kept S P j)

    module _ (k : PlainClass) (class : class_at P c ≡ Some k) where
      module _ (p : PlainParent) (extends : k.parent ≡ Some p) where
        same_parent : {n j : ℕ} {l : PlainClass} {q o : PlainMember} (is : IsOverride P c r n j l q o) → p ≡ IsOverride.parent is
        same_parent {n} {j} {l} is =
            same_Some p (IsOverride.parent is) (sym extends ∙ ap (λ (x : PlainClass). x.parent) (same_Some k l (sym class ∙ IsOverride.class is)) ∙ IsOverride.extends is)

        above_so : {n j : ℕ} {l : PlainClass} {q o : PlainMember} (is : IsOverride P c r n j l q o) → row_at P p.class r ≡ Some n
        above_so is = ap (λ (x : PlainParent). row_at P x.class r) (same_parent is) ∙ IsOverride.above is

        module _ (n j : ℕ) (above : row_at P p.class r ≡ Some n) (row : row_at P c r ≡ Some j) where
          member_so : {v i : ℕ} {l : PlainClass} {q o : PlainMember} (is : IsOverride P c r v i l q o) → member_at P n ≡ Some q
          member_so {v} is = ap (member_at P) (same_Some n v (sym above ∙ above_so is)) ∙ IsOverride.member is

          own_so : {v i : ℕ} {l : PlainClass} {q o : PlainMember} (is : IsOverride P c r v i l q o) → member_at P j ≡ Some o
          own_so {v} {i} is = ap (member_at P) (same_Some j i (sym row ∙ IsOverride.row is)) ∙ IsOverride.own is

          by_here : (m over : PlainMember) → member_at P n ≡ Some m → member_at P j ≡ Some over → (b : Bool) → eqb over.class c ≡ b → RowOr
          by_here m over member own true e = row_raised n j k m over (record {
            class = class;
            parent = p;
            extends = extends;
            above = above;
            row = row;
            member = member;
            own = own;
            here = eqb-true over.class c e;
          })
          by_here m over member own false e = no_row (λ v i l q o is.
              false≢true (sym e ∙ eq-eqb over.class c (ap (λ (x : PlainMember). x.class) (same_Some over o (sym own ∙ own_so is)) ∙ IsOverride.here is)))

          by_own : (m : PlainMember) → member_at P n ≡ Some m → (o : Option PlainMember) → member_at P j ≡ o → RowOr
          by_own m member None none = no_row (λ v i l q o is. none-some o (sym none ∙ own_so is))
          by_own m member (Some over) own = by_here m over member own (eqb over.class c) refl

          by_member : (o : Option PlainMember) → member_at P n ≡ o → RowOr
          by_member None none = no_row (λ v i l q o is. none-some q (sym none ∙ member_so is))
          by_member (Some m) member = by_own m member (member_at P j) refl

        by_below : (n : ℕ) → row_at P p.class r ≡ Some n → (o : Option ℕ) → row_at P c r ≡ o → RowOr
        by_below n above None none = no_row (λ v i l q o is. none-some i (sym none ∙ IsOverride.row is))
        by_below n above (Some j) row = by_member n j above row (member_at P n) refl

        by_above : (o : Option ℕ) → row_at P p.class r ≡ o → RowOr
        by_above None none = no_row (λ v i l q o is. none-some v (sym none ∙ above_so is))
        by_above (Some n) above = by_below n above (row_at P c r) refl

      by_parent : (o : Option PlainParent) → k.parent ≡ o → RowOr
      by_parent None none = no_row (λ v i l q o is.
          none-some (IsOverride.parent is) (sym none ∙ ap (λ (x : PlainClass). x.parent) (same_Some k l (sym class ∙ IsOverride.class is)) ∙ IsOverride.extends is))
      by_parent (Some p) extends = by_above p extends (row_at P p.class r) refl

    by_class : (o : Option PlainClass) → class_at P c ≡ o → RowOr
    by_class None none = no_row (λ v i l q o is. none-some l (sym none ∙ IsOverride.class is))
    by_class (Some k) class = by_parent k class k.parent refl

    by_row : RowOr
    by_row = by_class (class_at P c) refl

  rows_or : (c : ℕ) → ((r : ℕ) → MeetsRow P S c r) ⊎ Higher P S
  rows_or c = by (class_at P c) refl
    where
      by : (o : Option PlainClass) → class_at P c ≡ o → ((r : ℕ) → MeetsRow P S c r) ⊎ Higher P S
      by None none = inl (λ r n j k m over is. absurd (none-some k (sym none ∙ IsOverride.class is)))
      by (Some k) class =
          ⊎_elim (λ met. inl (rows_all P S c (length k.rows) k class (omega arith) met)) (λ x. inr x) (below_or (λ r. MeetsRow P S c r) (length k.rows) (by_row c))

  post_fixpoint_or : IsPostFixpoint P S ⊎ Higher P S
  post_fixpoint_or =
      ⊎_elim
      (λ bodies. ⊎_elim
      (λ rows. inl (post_fixpoint_of P S (bodies_all P S (length P.members) (omega arith) bodies) (classes_all P S (length P.classes) (omega arith) (λ c r less. rows c less r))))
      (λ x. inr x) (below_or (λ c. (r : ℕ) → MeetsRow P S c r) (length P.classes) rows_or))
      (λ x. inr x) (below_or (λ n. MeetsBody P S n) (length P.members) by_body)

-- a post_fixpoint keeping to which nothing that is kept has climbed
record Settled (P : PlainProgram) : Type 0 where
  kept : Keeping
  climbs : Climbs P (nothing_kept P) kept
  post_fixpoint : IsPostFixpoint P kept

settle : (P : PlainProgram) (fuel : ℕ) (S : Keeping) → Climbs P (nothing_kept P) S → room S < fuel → Settled P
settle P zero S climbs less = absurd (omega (arith, less))
settle P (suc fuel) S climbs less =
    ⊎_elim (λ (post_fixpoint : IsPostFixpoint P S). record { kept = S; climbs = climbs; post_fixpoint = post_fixpoint })
    (λ (higher : Higher P S).
    (let falls = higher.less in settle P fuel higher.next (climbs_then P (nothing_kept P) S higher.next climbs higher.climbs) (omega (arith, falls, less)))) (post_fixpoint_or P S)

pub inferred : (P : PlainProgram) → (kept : Keeping) × IsInferred P kept
inferred P =
    let s = settle P (suc (room (nothing_kept P))) (nothing_kept P) (climbs_none P (nothing_kept P)) (omega arith) in (
      s.kept,
      record {
        says = Climbs.same s.climbs ∙ nothing_says P;
        post_fixpoint = s.post_fixpoint;
        least = λ L says post_fixpoint. Climbs.below s.climbs L says post_fixpoint (nothing_least P L);
      },
    )

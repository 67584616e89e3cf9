-- Branches that run alike join alike, whatever each copies back beside what it assigns.
use Rattle.std.proofs.Common.{◌≡◌, ℕ, suc, ◌<◌, ◌⊎◌, inl, inr, Bool, true, false, cond, List, [], ◌∷◌, ◌++◌, length, Option, Some, None, refl, sym, ap, ◌∙◌, subst}
use Rattle.std.proofs.Common.{ext_get_or}
use Rattle.lang_base.specs.declared.place.Place.{Place}
use Rattle.lang_base.specs.declared.value.Trap.{Trap}
use Rattle.lang_typed.specs.Plain.{PlainProgram, TypedStmt, no_stmts, more_stmts, TypedBranches, no_branches, more_branches}
use Rattle.lang_typed.specs.Scope.{Scope, Local, variable, frozen, constant, part, reserved, read_alone, seen_in_branch, in_branch}
use Rattle.lang_typed.specs.Effects.{Own}
use Rattle.lang_typed.specs.Statements.{BranchesPass, one_branch, IsVariable}
use Rattle.lang_typed.specs.Statements.{all_copies as typed_copies}
use Rattle.lang_meaning.specs.Values.{Value, Null}
use Rattle.lang_meaning.specs.Actions.{Ending, Returned, Assigned, Trapped}
use Rattle.lang_meaning.specs.Core.{Result, Goes_on, Returns, Out, Done, Stopped, Lost, bind, each_from, run}
use Rattle.lang_meaning.specs.Core.{Out as out}
use Rattle.lang_meaning.specs.Counts.{slot_value, assigned, copied, brought}
use Rattle.lang_meaning.specs.Elision.{LocalRegion, Store, Steps, at_end, one_by_one, one_step, sequential}
use Rattle.lang_meaning.specs.Expressions.{Deeper, gives, none}
use Rattle.lang_meaning.specs.Outcomes.{first_trap, trap_of, locals_of, all_locals, joined_or}
use Rattle.lang_meaning.specs.Outcomes.{joined as join}
use Rattle.lang_meaning.specs.Statements.{with_values, joined, all_copies, branch_at, branch_of, tasks_of}
use Rattle.syntax_means.proofs.Alike.{none_alike, more_alike, BranchesAlike, no_branch_alike, branch_alike}
use Rattle.syntax_means.proofs.elided.Copies.{among, not_in_append, of_all_among, last_value, last_assigned, copied_length, copied_out, copied_in}
use Rattle.syntax_means.proofs.elided.Forms.{used, SameUse, BodiesAlike, DeeperAlike}
use Rattle.syntax_means.proofs.elided.Frames.{settled, Kept, AtDone}
use Rattle.syntax_means.proofs.elided.Untouched.{copies_are_variable}
use Rattle.syntax_means.proofs.elided.Runs.{Slots}

copies_same : (bs : TypedBranches) → typed_copies bs ≡ all_copies bs
copies_same no_branches = refl
copies_same (more_branches copies s bs) = ap (λ xs. copies ++ xs) (copies_same bs)

-- what the branches of a construct do
abbrev pub branch_runs : Deeper ℕ LocalRegion → TypedBranches → Slots → List (Steps (Result ℕ LocalRegion))
branch_runs dp no_branches f = []
branch_runs dp (more_branches copies s bs) f = (λ w. run sequential (dp (more_stmts s no_stmts) f) w) ∷ branch_runs dp bs f

each_later : {A B : Type 0} (f : ℕ → B) (n : ℕ) (xs : List A) → each_from f (suc n) xs ≡ each_from (λ i. f (suc i)) n xs
each_later f n [] = refl
each_later f n (x ∷ xs) = ap (λ ys. f (suc n) ∷ ys) (each_later f (suc n) xs)

pub runs_of_branches : (dp : Deeper ℕ LocalRegion) (bs : TypedBranches) (f g : Slots)
    → each_from (λ i w. run sequential (dp (branch_at bs i) g) w) 0 (tasks_of bs f) ≡ branch_runs dp bs g
runs_of_branches dp no_branches f g = refl
runs_of_branches dp (more_branches copies s bs) f g =
    ap (λ ys. (λ w. run sequential (dp (more_stmts s no_stmts) g) w) ∷ ys)
    (each_later (λ i w. run sequential (dp (branch_at (more_branches copies s bs) i) g) w) 0 (tasks_of bs f) ∙ runs_of_branches dp bs f g)

-- a local in use that one of the two doesn't copy back holds what it did
pub record Unmoved (L : Scope) (copies others : List ℕ) (f g : Slots) : Type 0 where
  pub holds : (x : ℕ) → used (L.local x) ≡ true → (among x copies ≡ false) ⊎ (among x others ≡ false) → slot_value g.values x ≡ slot_value f.values x

-- ends of branches that are the same but for what they copy back
pub data EndsAlike (L : Scope) (f : Slots) : TypedBranches → TypedBranches → List (Ending ℕ) → List (Ending ℕ) → Type 0 where
  no_ends : EndsAlike L f no_branches no_branches [] []
  assign : {copies others : List ℕ} {s t : TypedStmt} {bs cs : TypedBranches} {xs ys : List (Ending ℕ)} (g : Slots) →
      Unmoved L copies others f g → EndsAlike L f bs cs xs ys →
      EndsAlike L f (more_branches copies s bs) (more_branches others t cs) (Assigned (assigned copies g.values) ∷ xs) (Assigned (assigned others g.values) ∷ ys)
  end : {copies others : List ℕ} {s t : TypedStmt} {bs cs : TypedBranches} {xs ys : List (Ending ℕ)} (x : Ending ℕ) → locals_of x ≡ [] →
      EndsAlike L f bs cs xs ys → EndsAlike L f (more_branches copies s bs) (more_branches others t cs) (x ∷ xs) (x ∷ ys)

flipped : {L : Scope} {copies others : List ℕ} {f g : Slots} → Unmoved L copies others f g → Unmoved L others copies f g
flipped u = record { holds = λ x e h. u.holds x e (swap h) }
  where
    swap : {A B : Type 0} → A ⊎ B → B ⊎ A
    swap (inl a) = inr a
    swap (inr b) = inl b

ends_flipped : {L : Scope} {f : Slots} {bs cs : TypedBranches} {xs ys : List (Ending ℕ)} → EndsAlike L f bs cs xs ys → EndsAlike L f cs bs ys xs
ends_flipped no_ends = no_ends
ends_flipped (assign g u more) = assign g (flipped u) (ends_flipped more)
ends_flipped (end x n more) = end x n (ends_flipped more)

-- a slot that isn't copied back keeps its value
unmoved_out : {L : Scope} {f : Slots} {bs cs : TypedBranches} {xs ys : List (Ending ℕ)} → EndsAlike L f bs cs xs ys → (y : ℕ) (v : Value ℕ)
    → among y (all_copies bs) ≡ false → last_value y (all_locals xs) v ≡ v
unmoved_out no_ends y v e = refl
unmoved_out (assign {copies = copies} {bs = bs} {xs = xs} g u more) y v e =
    let n = not_in_append y copies (all_copies bs) e in
    last_assigned y copies g.values (all_locals xs) v ∙ ap (λ b. last_value y (all_locals xs) (cond b (slot_value g.values y) v)) n.0
    ∙ unmoved_out more y v n.1
unmoved_out (end {copies = copies} {bs = bs} {xs = xs} x n more) y v e =
    ap (λ ls. last_value y (ls ++ all_locals xs) v) n ∙ unmoved_out more y v (not_in_append y copies (all_copies bs) e).1

-- no branch copies back what another does
apart : {P : PlainProgram} {L : Scope} {others : List ℕ} {copies : List ℕ} {s : TypedStmt} {bs : TypedBranches} {Es : List (List Own)}
    → BranchesPass P L others (more_branches copies s bs) Es → (y : ℕ) → among y copies ≡ true → among y (all_copies bs) ≡ false
apart (one_branch {others = others} {copies = copies} {bs = bs} vars is_apart d more) y e =
    sym (ap (λ xs. among y xs) (copies_same bs))
    ∙ (not_in_append y others (typed_copies bs) (of_all_among (λ x. among x (others ++ typed_copies bs) ≡ false) copies y is_apart e)).1

pass_rest : {P : PlainProgram} {L : Scope} {others : List ℕ} {copies : List ℕ} {s : TypedStmt} {bs : TypedBranches} {Es : List (List Own)}
    → BranchesPass P L others (more_branches copies s bs) Es → (before : List ℕ) × (Fs : List (List Own)) × BranchesPass P L before bs Fs
pass_rest (one_branch vars is_apart d more) = (_, _, more)

-- the value that is brought back to a slot in use
same_value : {P Q : PlainProgram} {L M N : Scope} {f : Slots} {bs cs : TypedBranches} {xs ys : List (Ending ℕ)} {before other : List ℕ} {Es Fs : List (List Own)}
    → EndsAlike N f bs cs xs ys → BranchesPass P L before bs Es → BranchesPass Q M other cs Fs → (y : ℕ) → used (N.local y) ≡ true
    → last_value y (all_locals xs) (slot_value f.values y) ≡ last_value y (all_locals ys) (slot_value f.values y)
same_value no_ends p q y e = refl
same_value {f = f} (assign {copies = copies} {others = others} {bs = bs} {cs = cs} {xs = xs} {ys = ys} g u more) p q y e =
    last_assigned y copies g.values (all_locals xs) (slot_value f.values y)
    ∙ at (among y copies) (among y others) refl refl (same_value more (pass_rest p).2 (pass_rest q).2 y e)
    ∙ sym (last_assigned y others g.values (all_locals ys) (slot_value f.values y))
  where
    at : (a b : Bool) → among y copies ≡ a → among y others ≡ b
        → last_value y (all_locals xs) (slot_value f.values y) ≡ last_value y (all_locals ys) (slot_value f.values y)
        → last_value y (all_locals xs) (cond a (slot_value g.values y) (slot_value f.values y))
        ≡ last_value y (all_locals ys) (cond b (slot_value g.values y) (slot_value f.values y))
    at true true i j later = unmoved_out more y (slot_value g.values y) (apart p y i) ∙ sym (unmoved_out (ends_flipped more) y (slot_value g.values y) (apart q y j))
    at true false i j later = ap (λ v. last_value y (all_locals xs) v) (u.holds y e (inr j)) ∙ later
    at false true i j later = later ∙ sym (ap (λ v. last_value y (all_locals ys) v) (u.holds y e (inl i)))
    at false false i j later = later
same_value {f = f} (end {xs = xs} {ys = ys} x n more) p q y e =
    ap (λ ls. last_value y (ls ++ all_locals xs) (slot_value f.values y)) n ∙ same_value more (pass_rest p).2 (pass_rest q).2 y e
    ∙ sym (ap (λ ls. last_value y (ls ++ all_locals ys) (slot_value f.values y)) n)

unused_other : (L : Scope) (x : ℕ) → used (L.local x) ≡ false → IsVariable L x → ⊥
unused_other L x e h = let k : used (L.local x) ≡ true = ap used h.1 in cc

-- a slot after the join
copied_as : {L : Scope} {f : Slots} {bs cs : TypedBranches} {xs ys : List (Ending ℕ)} → EndsAlike L f bs cs xs ys → (vs : List (Value ℕ)) (y : ℕ) → y < length vs
    → slot_value (copied (all_copies bs) (all_locals xs) vs) y ≡ last_value y (all_locals xs) (slot_value vs y)
copied_as {bs = bs} {xs = xs} ends vs y l = at (among y (all_copies bs)) refl
  where
    at : (b : Bool) → among y (all_copies bs) ≡ b → slot_value (copied (all_copies bs) (all_locals xs) vs) y ≡ last_value y (all_locals xs) (slot_value vs y)
    at true i = copied_in y (all_copies bs) (all_locals xs) vs i l
    at false i = copied_out y (all_copies bs) (all_locals xs) vs i ∙ sym (unmoved_out ends y (slot_value vs y) i)

module _ {P Q : PlainProgram} {L M : Scope} (uses : SameUse L M) {before other : List ℕ} {bs cs : TypedBranches} {Es Fs : List (List Own)}
    (p : BranchesPass P L before bs Es) (q : BranchesPass Q M other cs Fs) where
  same_copied : {f : Slots} {xs ys : List (Ending ℕ)} → EndsAlike L f bs cs xs ys
      → copied (all_copies bs) (all_locals xs) f.values ≡ copied (all_copies cs) (all_locals ys) f.values
  same_copied {f} {xs} {ys} ends =
      ext_get_or Null _ _ (copied_length (all_copies bs) (all_locals xs) f.values ∙ sym (copied_length (all_copies cs) (all_locals ys) f.values))
      (λ y l. at y (subst (λ n. y < n) (copied_length (all_copies bs) (all_locals xs) f.values) l) (used (L.local y)) refl)
    where
      at : (y : ℕ) → y < length f.values → (b : Bool) → used (L.local y) ≡ b
          → slot_value (copied (all_copies bs) (all_locals xs) f.values) y ≡ slot_value (copied (all_copies cs) (all_locals ys) f.values) y
      at y l true i = copied_as ends f.values y l ∙ same_value ends p q y i ∙ sym (copied_as (ends_flipped ends) f.values y l)
      at y l false i =
          copied_out y (all_copies bs) (all_locals xs) f.values (copies_are_variable p y (unused_other L y i))
          ∙ sym (copied_out y (all_copies cs) (all_locals ys) f.values (copies_are_variable q y (unused_other M y (sym (uses.at y) ∙ i))))

  same_trap : {f : Slots} {ds es : TypedBranches} {xs ys : List (Ending ℕ)} → EndsAlike L f ds es xs ys → first_trap xs ≡ first_trap ys
  same_trap no_ends = refl
  same_trap (assign g u more) = same_trap more
  same_trap (end x n more) = ap (λ t. trap_of x t) (same_trap more)

  -- what follows the join
  pub same_join : (f g : Slots) → g.values ≡ f.values → {xs ys : List (Ending ℕ)} → EndsAlike L g bs cs xs ys → (w : Store)
      → run sequential (joined (all_copies bs) f (brought {M = LocalRegion} (join xs))) w
      ≡ run sequential (joined (all_copies cs) f (brought {M = LocalRegion} (join ys))) w
  same_join f g same {xs} {ys} ends w =
      ap (λ t. run sequential (joined (all_copies bs) f (brought {M = LocalRegion} (joined_or t (all_locals xs)))) w) (same_trap ends) ∙ at (first_trap ys)
    where
      values : copied (all_copies bs) (all_locals xs) f.values ≡ copied (all_copies cs) (all_locals ys) f.values
      values = subst (λ vs. copied (all_copies bs) (all_locals xs) vs ≡ copied (all_copies cs) (all_locals ys) vs) same (same_copied ends)

      at : (t : Option (Trap × Place)) → run sequential (joined (all_copies bs) f (brought {M = LocalRegion} (joined_or t (all_locals xs)))) w
          ≡ run sequential (joined (all_copies cs) f (brought {M = LocalRegion} (joined_or t (all_locals ys)))) w
      at None = ap (λ vs. run sequential (gives none (with_values f vs)) w) values
      at (Some fell) = refl

-- outcomes of branches that are alike
pub data OutsAlike (L : Scope) (f : Slots) (bs cs : TypedBranches) : Out ℕ LocalRegion (List (Ending ℕ)) Store
    → Out ℕ LocalRegion (List (Ending ℕ)) Store → Type 0 where
  both_done : {xs ys : List (Ending ℕ)} {w : Store} → EndsAlike L f bs cs xs ys → OutsAlike L f bs cs (Done xs w) (Done ys w)
  both_trapped : {t : Trap} {at : Place} {w : Store} → OutsAlike L f bs cs (out.Trapped t at w) (out.Trapped t at w)
  both_stopped : {n : ℕ} {a : _} → OutsAlike L f bs cs (Stopped n a) (Stopped n a)
  both_lost : {w : Store} → OutsAlike L f bs cs (Lost w) (Lost w)

abbrev UnmovedAt : Scope → List ℕ → List ℕ → Slots → Result ℕ LocalRegion → Type 0
UnmovedAt L copies others f (Goes_on v g) = Unmoved L copies others f g
UnmovedAt L copies others f (Returns v) = Unit {0}

module _ (L : Scope) (f : Slots) {copies others : List ℕ} {s t : TypedStmt} {bs cs : TypedBranches} where
  more_ends : (x y : Ending ℕ) → ((xs ys : List (Ending ℕ)) → EndsAlike L f bs cs xs ys
      → EndsAlike L f (more_branches copies s bs) (more_branches others t cs) (x ∷ xs) (y ∷ ys))
      → {o q : Out ℕ LocalRegion (List (Ending ℕ)) Store} → OutsAlike L f bs cs o q
      → OutsAlike L f (more_branches copies s bs) (more_branches others t cs) (bind o (λ xs u. Done (x ∷ xs) u)) (bind q (λ ys u. Done (y ∷ ys) u))
  more_ends x y h (both_done {xs = xs} {ys = ys} e) = both_done (h xs ys e)
  more_ends x y h both_trapped = both_trapped
  more_ends x y h both_stopped = both_stopped
  more_ends x y h both_lost = both_lost

  -- one branch, and those behind it
  step : (g : Slots) (rest others_rest : Steps (List (Ending ℕ))) → ((w : Store) → OutsAlike L f bs cs (rest w) (others_rest w))
      → (o : Out ℕ LocalRegion (Result ℕ LocalRegion) Store) → AtDone (UnmovedAt L copies others f) o
      → OutsAlike L f (more_branches copies s bs) (more_branches others t cs)
      (bind (at_end (branch_of None copies s g).work o) (λ x v. bind (rest v) (λ xs u. Done (x ∷ xs) u)))
      (bind (at_end (branch_of None others t g).work o) (λ x v. bind (others_rest v) (λ xs u. Done (x ∷ xs) u)))
  step g rest others_rest h (Done (Goes_on v e) w) u = more_ends _ _ (λ xs ys more. assign e u more) (h w)
  step g rest others_rest h (Done (Returns v) w) u = more_ends _ _ (λ xs ys more. end (Returned v) refl more) (h w)
  step g rest others_rest h (out.Trapped tr p w) u = more_ends _ _ (λ xs ys more. end (Trapped tr p) refl more) (h _)
  step g rest others_rest h (Stopped n a) u = both_stopped
  step g rest others_rest h (Lost w) u = both_lost

settled_alone : (k : Local) → settled (Some (read_alone k)) ≡ true
settled_alone (variable t) = refl
settled_alone (frozen t) = refl
settled_alone (constant t) = refl
settled_alone (part t a) = refl
settled_alone reserved = refl

-- a local in use that a branch doesn't copy back is settled in it
branch_settled : (own others : List ℕ) (x : ℕ) (l : Option Local) → used l ≡ true → among x own ≡ false → settled (seen_in_branch own others x l) ≡ true
branch_settled own others x None e n = absurd (cc)
branch_settled own others x (Some k) e n = at (among x others) (among x own) n
  where
    at : (a b : Bool) → b ≡ false → settled (cond a (Some reserved) (cond b (Some k) (Some (read_alone k)))) ≡ true
    at true b i = refl
    at false true i = absurd (cc)
    at false false i = settled_alone k

used_in_branch : (own others : List ℕ) (x : ℕ) (l : Option Local) → used (seen_in_branch own others x l) ≡ used l
used_in_branch own others x None = at (among x others) (among x own)
  where
    at : (a b : Bool) → used (cond a None (cond b None None)) ≡ false
    at true b = refl
    at false true = refl
    at false false = refl
used_in_branch own others x (Some k) = at (among x others) (among x own)
  where
    at : (a b : Bool) → used (cond a (Some reserved) (cond b (Some k) (Some (read_alone k)))) ≡ true
    at true b = refl
    at false true = refl
    at false false = refl

unmoved : (L M : Scope) → SameUse L M → (copies others before other : List ℕ) (f : Slots) (o : Out ℕ LocalRegion (Result ℕ LocalRegion) Store)
    → AtDone (Kept (in_branch copies before L) f) o → AtDone (Kept (in_branch others other M) f) o → AtDone (UnmovedAt L copies others f) o
unmoved L M uses copies others before other f (Done (Goes_on v g) w) a b = record { holds = at }
  where
    at : (x : ℕ) → used (L.local x) ≡ true → (among x copies ≡ false) ⊎ (among x others ≡ false) → slot_value g.values x ≡ slot_value f.values x
    at x e (inl n) = a.holds x (branch_settled copies before x (L.local x) e n)
    at x e (inr n) = b.holds x (branch_settled others other x (M.local x) (sym (uses.at x) ∙ e) n)
unmoved L M uses copies others before other f (Done (Returns v) w) a b = tt
unmoved L M uses copies others before other f (out.Trapped t p w) a b = tt
unmoved L M uses copies others before other f (Stopped n a') a b = tt
unmoved L M uses copies others before other f (Lost w) a b = tt

module _ {P Q : PlainProgram} {dp dq : Deeper ℕ LocalRegion} (h : DeeperAlike P Q dp dq) {L M : Scope} (uses : SameUse L M) (f g : Slots) where
  pub branches_run : {bs cs : TypedBranches} → BranchesAlike bs cs → {before other : List ℕ} {Es Fs : List (List Own)} → BranchesPass P L before bs Es
      → BranchesPass Q M other cs Fs → (w : Store)
      → OutsAlike L g bs cs (one_by_one (tasks_of bs f) (branch_runs dp bs g) w) (one_by_one (tasks_of cs f) (branch_runs dq cs g) w)
  branches_run no_branch_alike p q w = both_done no_ends
  branches_run (branch_alike {copies = copies} {others = others} {s = s} {t = t} {bs = bs} {cs = cs} a more)
      (one_branch {others = before} {E = E} vars is_apart d rest) (one_branch {others = other} {E = F} also others_apart e others_rest) w =
      let bodies : BodiesAlike P Q (more_stmts s no_stmts) (more_stmts t no_stmts) = record {
        left = in_branch copies (before ++ typed_copies bs) L;
        right = in_branch others (other ++ typed_copies cs) M;
        does = E;
        other = F;
        left_passes = d;
        right_passes = e;
        alike = more_alike a none_alike;
        uses = record {
          at = λ x. used_in_branch copies (before ++ typed_copies bs) x (L.local x) ∙ uses.at x
              ∙ sym (used_in_branch others (other ++ typed_copies cs) x (M.local x));
        };
      } in
      let same = (h.alike (more_stmts s no_stmts) (more_stmts t no_stmts) bodies g).from (one_step w) in
      let left = (h.left (in_branch copies (before ++ typed_copies bs) L) (more_stmts s no_stmts) E d g).from (one_step w) in
      let right = (h.right (in_branch others (other ++ typed_copies cs) M) (more_stmts t no_stmts) F e g).from (one_step w) in
      subst (λ o. OutsAlike L g (more_branches copies s bs) (more_branches others t cs)
      (bind (at_end (branch_of None copies s f).work o) (λ x v. bind (one_by_one (tasks_of bs f) (branch_runs dp bs g) v) (λ xs u. Done (x ∷ xs) u)))
      (bind (at_end (branch_of None others t f).work (run sequential (dq (more_stmts t no_stmts) g) (one_step w)))
      (λ x v. bind (one_by_one (tasks_of cs f) (branch_runs dq cs g) v) (λ xs u. Done (x ∷ xs) u))))
      (sym same)
      (step L g f (λ v. one_by_one (tasks_of bs f) (branch_runs dp bs g) v) (λ v. one_by_one (tasks_of cs f) (branch_runs dq cs g) v)
      (λ v. branches_run more rest others_rest v) (run sequential (dq (more_stmts t no_stmts) g) (one_step w))
      (unmoved L M uses copies others (before ++ typed_copies bs) (other ++ typed_copies cs) g _
      (subst (AtDone (Kept (in_branch copies (before ++ typed_copies bs) L) g)) same left) right))

-- What a branch does where it is forked is what its task is to do.
use Rattle.std.proofs.Common.{◌≡◌, ℕ, zero, suc, ◌+◌, ◌-◌, ℤ, List, [], refl, sym}
use Rattle.std.proofs.Common.{ap, ◌∙◌, subst, arith, Option, Some, None}
use Rattle.std.specs.Prelude.{slice_get}
use Rattle.lang_base.specs.declared.place.Place.{Place}
use Rattle.lang_typed.specs.declared.stmt.Forking.{Forking}
use Rattle.lang_typed.specs.Plain.{PlainProgram, TypedStmt, statement, TypedStmts}
use Rattle.lang_typed.specs.Plain.{no_stmts, more_stmts, TypedBranches, no_branches, more_branches}
use Rattle.lang_typed.specs.Plain.{StmtForm as stmt}
use Rattle.lang_meaning.specs.Values.{Value, Naming}
use Rattle.lang_meaning.specs.Actions.{Frame, Task}
use Rattle.lang_meaning.specs.Asking.{meaning, does}
use Rattle.lang_meaning.proofs.Meant.{Meant, stmts_meant}
use Rattle.lang_meaning.specs.Coherent.{GoesOnAt, Coherent, IsCoherent}
use Rattle.lang_meaning.specs.Counts.{Brought, Back, Trap_of_branch, how_many}
use Rattle.lang_meaning.specs.Core.{Result, Goes_on, Returns, Prog, Ret, Traps, Act, Makes, Again, Split, on, next_of, and_then}
use Rattle.lang_meaning.specs.Expressions.{Deeper}
use Rattle.lang_meaning.specs.Statements.{joined, tasks_of, branch_at, branch_of, begun, iterations, numbered_frame, forks}
use Rattle.lang_meaning.specs.Statements.{of_stmt, of_stmts}

none_some : {A : Type 0} (x : A) → None ≡ Some x → ⊥
none_some x e = cc

module _ {N M : Type 0} (names : Naming N M) (P : PlainProgram) where
  coherent_on : (p : Prog N M) (j : Result N M → Prog N M) (m n : ℕ) → Coherent names P p m → ((r : Result N M) → GoesOnAt m r → Coherent names P (j r) n)
      → Coherent names P (on p j) n
  coherent_on (Ret r) j m n s h = h r s
  coherent_on (Traps trap p) j m n s h = tt
  coherent_on (Act o k) j m n s h = λ x. coherent_on (k x) j m n (s x) h
  coherent_on (Makes k) j m n s h = λ x. coherent_on (k x) j m n (s x) h
  coherent_on (Again t b f k) j m n s h = (s.0, s.1, λ r e. coherent_on (k r) j m n (s.2 r e) h)
  coherent_on (Split forking ts bs k) j m n s h = (s.0, λ x. coherent_on (k x) j m n (s.1 x) h)

  -- the branches of a construct do what their tasks are to do
  branches_do : (bs : TypedBranches) (f : Frame N M) (i : ℕ) (t : Task N M) → slice_get (tasks_of bs f) i ≡ Some t
      → does names P t ≡ meaning names P (f.left - 1) (branch_at bs i) (record f { left = f.left - 1 })
  branches_do no_branches f i t e = absurd (none_some t e)
  branches_do (more_branches copies s bs) f zero t e = let k : branch_of None copies s f ≡ t = cc in ap (does names P) (sym k)
  branches_do (more_branches copies s bs) f (suc i) t e = branches_do bs f i t e

  iterations_do : (takes : Option ℕ) (x : ℕ) (s : TypedStmt) (f : Frame N M) (start : ℤ) (j m i : ℕ) (t : Task N M)
      → slice_get (iterations takes x s f start j m) i ≡ Some t
      → does names P t ≡ meaning names P (f.left - 1) (more_stmts s no_stmts) (begun takes (record (numbered_frame x start (j + i) f) { left = f.left - 1 }))
  iterations_do takes x s f start j zero i t e = absurd (none_some t e)
  iterations_do takes x s f start j (suc m) zero t e =
      let k : branch_of takes [] s (numbered_frame x start j f) ≡ t = cc in
      let z : j ≡ j + 0 = omega arith in
      ap (does names P) (sym k)
      ∙ ap (λ y. meaning names P (f.left - 1) (more_stmts s no_stmts) (begun takes (record (numbered_frame x start y f) { left = f.left - 1 }))) z
  iterations_do takes x s f start j (suc m) (suc i) t e =
      let z : suc j + i ≡ j + suc i = omega arith in
      iterations_do takes x s f start (suc j) m i t e
      ∙ ap (λ y. meaning names P (f.left - 1) (more_stmts s no_stmts) (begun takes (record (numbered_frame x start y f) { left = f.left - 1 }))) z

  -- one call deeper it is the meaning, which is coherent there
  abbrev pub IsDeeper : Option (Deeper N M) → ℕ → Type 0
  IsDeeper None n = Unit {0}
  IsDeeper (Some dp) n =
      (d : ℕ) × (n ≡ suc d) × (dp ≡ meaning names P d) × ((ss : TypedStmts) (f : Frame N M) → f.left ≡ d → Coherent names P (meaning names P d ss f) d)

  module _ (c : ℕ) where
    abbrev Fine : Prog N M → Type 0
    Fine p = Coherent names P p c

    fine_then : (p : Prog N M) (j : Value N → Frame N M → Prog N M) → Fine p → ((v : Value N) (f : Frame N M) → f.left ≡ c → Fine (j v f)) → Fine (and_then p j)
    fine_then p j s h = coherent_on p (next_of j) c c s next
      where
        next : (r : Result N M) → GoesOnAt c r → Fine (next_of j r)
        next (Goes_on v f) e = h v f e
        next (Returns v) e = tt

    -- a body that is entered, and what follows it
    fine_body : (dp : Deeper N M) → IsDeeper (Some dp) c → (ss : TypedStmts) (g f : Frame N M) (j : Result N M → Prog N M) → f.left ≡ c → g.left ≡ f.left - 1
        → ((r : Result N M) → Fine (j r)) → Fine (on (dp ss g) j)
    fine_body dp h ss g f j l e more =
        (let d : ℕ = h.0 in
        let n : c ≡ suc d = h.1 in
        let m : g.left ≡ d = omega arith in
        coherent_on (dp ss g) j d c (subst (λ (q : Deeper N M). Coherent names P (q ss g) d) (sym h.2) (h.3 ss g m)) (λ r i. more r))

    fine_joined : (slots : List ℕ) (f : Frame N M) → f.left ≡ c → (x : Brought N) → Fine (joined slots f x)
    fine_joined slots f l (Back ls) = l
    fine_joined slots f l (Trap_of_branch trap place) = tt

    -- what a branch does, one call deeper
    at_depth : (dp : Deeper N M) → IsDeeper (Some dp) c → (f : Frame N M) → f.left ≡ c → (ss : TypedStmts) (g : Frame N M)
        → dp ss g ≡ meaning names P (f.left - 1) ss g
    at_depth dp h f l ss g =
        (let d : ℕ = h.0 in
        let n : c ≡ suc d = h.1 in
        let m : d ≡ f.left - 1 = omega arith in
        ap (λ (q : Deeper N M). q ss g) h.2 ∙ ap (λ k. meaning names P k ss g) m)

    fine_forks : (dp : Option (Deeper N M)) → IsDeeper dp c → (at : Place) (forking : Forking) (takes : Option ℕ) (x : ℕ) (s : TypedStmt) (start count : ℤ)
        (f : Frame N M) → f.left ≡ c → Fine (forks dp at forking takes x s start count f)
    fine_forks None h at forking takes x s start count f l = tt
    fine_forks (Some dp) h at forking takes x s start count f l = (
      λ i t e. at_depth dp h f l _ _ ∙ ap (λ y. meaning names P (f.left - 1) (more_stmts s no_stmts)
          (begun takes (record (numbered_frame x start y f) { left = f.left - 1 }))) (zero_first i)
          ∙ sym (iterations_do takes x s f start 0 (how_many count) i t e),
      fine_joined [] f l,
    )
      where
        zero_first : (i : ℕ) → i ≡ 0 + i
        zero_first i = omega arith

    fine_cobegin : (dp : Option (Deeper N M)) → IsDeeper dp c → (at : Place) (forking : Forking) (bs : TypedBranches) (f : Frame N M) → f.left ≡ c
        → Fine (of_stmt names P dp (statement at (stmt.cobegin forking bs)) f)
    fine_cobegin None h at forking bs f l = tt
    fine_cobegin (Some dp) h at forking bs f l = (λ i t e. at_depth dp h f l _ _ ∙ sym (branches_do bs f i t e), fine_joined _ f l)

    -- of a loop, as its frame may go
    fine_again : (t b : Frame N M → Prog N M) (f : Frame N M) → f.left ≡ c → ((g : Frame N M) → g.left ≡ c → Fine (t g)) → ((g : Frame N M) → g.left ≡ c → Fine (b g)) →
        Fine (Again t b f (λ r. Ret r))
    fine_again t b f l test body = (λ g m. there (t g) (test g (m ∙ l)), λ g m. there (b g) (body g (m ∙ l)), left)
      where
        there : (p : Prog N M) → Fine p → Coherent names P p f.left
        there p h = subst (Coherent names P p) (sym l) h

        left : (r : Result N M) → GoesOnAt f.left r → GoesOnAt c r
        left (Goes_on v g) m = m ∙ l
        left (Returns v) m = tt

    fine_meant : (dp : Option (Deeper N M)) → IsDeeper dp c → Meant names P dp (λ f. f.left ≡ c) Fine
    fine_meant dp h = record {
      moves = λ f g e l. e ∙ l;
      goes_on = λ v f l. l;
      returns = λ v. tt;
      traps = λ t at. tt;
      then' = fine_then;
      act = λ o k no more. more;
      enters = λ k more. λ a. more;
      makes = λ k more. more;
      again = fine_again;
      body = λ deeper e ss f g j l m more. fine_body deeper (subst (λ o. IsDeeper o c) e h) ss g f j l m more;
      forks = fine_forks dp h;
      cobegin = fine_cobegin dp h;
    }

    fine_stmts : (dp : Option (Deeper N M)) → IsDeeper dp c → (ss : TypedStmts) (f : Frame N M) → f.left ≡ c → Fine (of_stmts names P dp ss f)
    fine_stmts dp h = stmts_meant names P dp (λ f. f.left ≡ c) Fine (fine_meant dp h)

  meaning_coherent : (d : ℕ) (ss : TypedStmts) (f : Frame N M) → f.left ≡ d → Coherent names P (meaning names P d ss f) d
  unfolding meaning
  meaning_coherent zero ss f l = fine_stmts zero None tt ss f l
  meaning_coherent (suc d) ss f l = fine_stmts (suc d) (Some (meaning names P d)) (d, refl, refl, meaning_coherent d) ss f l

  begun_left : (takes : Option ℕ) (f : Frame N M) → (begun takes f).left ≡ f.left
  begun_left None f = refl
  begun_left (Some k) f = refl

pub each_coherent : {N M : Type 0} → IsCoherent N M
each_coherent names P t = meaning_coherent names P t.frame.left t.work.stmts (begun t.work.takes t.frame) (begun_left names P t.work.takes t.frame)

-- What a join is answered fits: each branch has ended with a trap, or with locals that fit the scope in which its fork began it.
use Rattle.std.proofs.Common.{◌≡◌, ⊎_elim, ℕ, zero, suc, List, [], ◌∷◌, map, refl, sym, ap, ◌∙◌, subst, arith, Some, slice_get}
use Rattle.std.specs.Prelude.{Contains}
use Rattle.std.proofs.lemmas.List.Elements.{Contains-append_cases}
use Rattle.lang_base.specs.Types.{PlainType}
use Rattle.lang_typed.specs.Plain.{PlainProgram}
use Rattle.lang_typed.specs.Scope.{Scope, variable}
use Rattle.lang_meaning.specs.Outcomes.{all_locals, locals_of}
use Rattle.runs_theory.specs.Actions.{Program, Task, Branches, Action, Fork, Ending, Returned, Assigned, Trapped}
use Rattle.runs_theory.specs.Objects.{Path, Value}
use Rattle.runs_theory.specs.Runs.{Event, Run, Upto, count, Begun, root, branch, Ended}
use Rattle.runs_theory.proofs.events.Mine.{same_of}
use Rattle.runs_theory.proofs.events.Upto.{upto_trans, upto_tail}
use Rattle.runs_sound.specs.Settings.{env_of}
use Rattle.runs_sound.specs.Shapes.{Shapes, FitsIn}
use Rattle.runs_sound.specs.Accesses.{Bounds}
use Rattle.runs_sound.specs.Frames.{State}
use Rattle.runs_sound.specs.Branches.{Forks, Returned as ReturnedOf}
use Rattle.runs_sound.specs.Laws.{branch_bounds}
use Rattle.runs_sound.specs.Soundness.{EndFits}
use Rattle.runs_sound.proofs.moments.Sound.{EventOk, branches_of, Sound}

-- a local that a join brings is one that a branch ends with
brought_by : (ends : List Ending) (x : ℕ) (v : Value) → Contains (all_locals ends) (x, v) → (i : ℕ) × (y : Ending) × (slice_get ends i ≡ Some y) × Contains (locals_of y) (x, v)
brought_by [] x v c = let l = c.1 in absurd (omega (arith, l))
brought_by (y ∷ ends) x v c = ⊎_elim (λ h. (0, y, refl, h)) (λ h. (let r = brought_by ends x v h in (suc r.0, r.1, r.2, r.3))) (Contains-append_cases (locals_of y) (all_locals ends) (x, v) c)

-- the fork of a task that has begun
record ForkOf (Y : Run) (p : Path) (u : ℕ × ℕ) (t : Task) : Type 0 where
  before : Run
  event : Event
  stands : Upto (event ∷ before) Y
  path : event.path ≡ p
  number : count before p ≡ u.0
  tasks : Branches
  act : event.act ≡ Fork tasks
  there : slice_get tasks.tasks u.1 ≡ Some t

fork_of : {Q : Program} {Y : Run} {q : Path} {t : Task} → Begun Q Y q t → (p : Path) (u : ℕ × ℕ) → q ≡ u ∷ p → ForkOf Y p u t
fork_of (root a b) p u e = absurd (let k : u ∷ p ≡ [] = sym e ∙ a in cc)
fork_of {Y = Y} {t = t} (branch r v F f ts B g h fs fp fn fa there gs gp ga gn) p u e =
    let k : u ∷ p ≡ v ∷ r = sym e ∙ h in
    let uu : v ≡ u = cc in
    let rr : r ≡ p = cc in
    record {
      before = F;
      event = f;
      stands = fs;
      path = fp ∙ rr;
      number = ap (count F) (sym rr) ∙ fn ∙ ap (λ w. w.0) uu;
      tasks = ts;
      act = fa;
      there = ap (λ w. slice_get ts.tasks w.1) (sym uu) ∙ there;
    }

-- a fork is of one list of branches
same_tasks : (x y : Event) (a b : Branches) → x ≡ y → x.act ≡ Fork a → y.act ≡ Fork b → a ≡ b
same_tasks x y a b e f g = let k : ◌≡◌ {A = Action} (Fork a) (Fork b) = sym f ∙ ap (λ (z : Event). z.act) e ∙ g in cc

-- the slots of locals
slot_of_local : (ls : List (ℕ × Value)) (x : ℕ) (v : Value) → Contains ls (x, v) → Contains (map (λ l. l.0) ls) x
slot_of_local [] x v c = let l = c.1 in absurd (omega (arith, l))
slot_of_local (y ∷ ls) x v (zero, l, e) = (0, omega arith, ap (λ z. z.0) e)
slot_of_local (y ∷ ls) x v (suc k, l, e) = let r = slot_of_local ls x v (k, omega (arith, l), e) in (suc r.0, (let m = r.1 in omega (arith, m)), r.2)

-- of an end, what is said of its locals
end_local : (P : PlainProgram) (b : Bounds) (L : Scope) (copies : List ℕ) (S : Shapes) (y : Ending) (x : ℕ) (v : Value) → EndFits P b L copies S y → Contains (locals_of y) (x, v) →
    Contains copies x × (t : PlainType) × (L.local x ≡ Some (variable t)) × FitsIn P S (env_of b.setting) t v
end_local P b L copies S (Assigned ls) x v h c = (let z = h.2 x v c in (subst (λ xs. Contains xs x) h.1 (slot_of_local ls x v c), z.0, z.1, z.2))
end_local P b L copies S (Returned w) x v h c = let l = c.1 in absurd (omega (arith, l))
end_local P b L copies S (Trapped trap place) x v h c = let l = c.1 in absurd (omega (arith, l))

-- where a task stands at the join of a fork, when this has been made
abbrev pub joined_at : Shapes → State → State
joined_at S st = record { shapes = S; made = st.made; entries = st.entries }

-- a fork of a run, and branches of it that have ended there
module _ (P : PlainProgram) (Q : Program) {N : ℕ} {R : Run} (s : Sound P Q N R) (p : Path) (F : Run) (f : Event) (stands : Upto (f ∷ F) R) (path : f.path ≡ p) (ts : Branches) (act : f.act ≡ Fork ts)
    (st : State) (forks : Forks P (s.keeping p).bounds st ts.kind ts.tasks) (kept : (i : ℕ) → (s.keeping ((count F p, i) ∷ p)).bounds ≡ branch_bounds (s.keeping p).bounds st forks (count F p, i))
    (scopes : (i : ℕ) → (s.keeping ((count F p, i) ∷ p)).scope ≡ forks.scope i) where
  returned : (i : ℕ) (y : Ending) → Ended R ((count F p, i) ∷ p) y → (x : ℕ) (v : Value) → Contains (locals_of y) (x, v) →
      ReturnedOf P (s.keeping p).bounds st ts.kind ts.tasks forks (joined_at s.shapes st) x v
  returned i y over x v c =
      let w : Path = (count F p, i) ∷ p in
      let ok0 = subst (λ q. EventOk P Q (s.keeping q) (branches_of P Q s.keeping q) s.shapes over.before q over.event.act) over.path (s.events over.event over.before over.stands) in
      let ok = subst (λ c. EventOk P Q (s.keeping w) (branches_of P Q s.keeping w) s.shapes over.before w c) over.act ok0 in
      let local = end_local P (s.keeping w).bounds (s.keeping w).scope ok.0.work.copies s.shapes y x v ok.2 c in
      let g = fork_of ok.1 p (count F p, i) refl in
      let same = same_of p (upto_trans {xs = g.event ∷ g.before} g.stands (upto_tail over.stands)) stands g.path path g.number in
      let is = same_tasks g.event f g.tasks ts same.0 g.act act in
      record {
        number = i;
        task = ok.0;
        is = ap (λ (b : Branches). slice_get b.tasks i) (sym is) ∙ g.there;
        copied = local.0;
        ty = local.1;
        local = subst (λ (L : Scope). L.local x ≡ Some (variable local.1)) (scopes i) local.2;
        fits = subst (λ (b : Bounds). FitsIn P s.shapes (env_of b.setting) local.1 v) (kept i) local.3;
      }

  pub all_returned : (ends : List Ending) → ((u : ℕ × ℕ) (x : Ending) → u.0 ≡ count F p → slice_get ends u.1 ≡ Some x → Ended R (u ∷ p) x) → (x : ℕ) (v : Value) → Contains (all_locals ends) (x, v) →
      ReturnedOf P (s.keeping p).bounds st ts.kind ts.tasks forks (joined_at s.shapes st) x v
  all_returned ends ended x v c = let r = brought_by ends x v c in returned r.0 r.1 (ended (count F p, r.0) r.1 refl r.2) x v r.3

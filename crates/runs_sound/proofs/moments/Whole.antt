-- Each run of a well-typed program is sound, whether its tasks look at kinds or not: from its start, event by event.
use Rattle.std.proofs.Common.{Bool, inl, inr, true, ◌≡◌, ◌≤◌, ⊎_elim, ℕ, suc, ℤ, FitsSigned, List, [], ◌∷◌, ◌++◌, length, reverse, refl, sym, ap, ◌∙◌, subst, arith, Option, Some, None, slice_get, zero}
use Rattle.std.specs.Int.{w32}
use Rattle.std.proofs.lemmas.Bool.{false≢true, cond-true, cond-false, cases_Bool}
use Rattle.lang_base.specs.Types.{PlainType, int, void}
use Rattle.lang_typed.specs.Plain.{PlainProgram, PlainMember}
use Rattle.lang_typed.specs.WellTyped.{WellTyped}
use Rattle.lang_meaning.specs.Actions.{Work}
use Rattle.lang_meaning.specs.Asking.{does, ended}
use Rattle.lang_meaning.specs.Core.{Goes_on, Returns}
use Rattle.lang_meaning.specs.Elision.{enters_main, root_task}
use Rattle.lang_meaning.specs.Expressions.{entered}
use Rattle.lang_meaning.specs.Statements.{begun as begun_frame}
use Rattle.runs_theory.specs.Actions.{Program, Task}
use Rattle.runs_theory.specs.Objects.{Int, LocalRegion, Name, Object, Path, Thing, first_value, or_else, same_name}
use Rattle.runs_theory.specs.Runs.{Run, at_start, things, mine, answers, Begun, root, branch, Faithful, thing_of}
use Rattle.runs_theory.proofs.events.Cells.{last_nil, same_name_eq}
use Rattle.runs_theory.proofs.events.Mine.{mine_nil}
use Rattle.runs_theory.proofs.events.Upto.{upto_none}
use Rattle.runs_program.specs.Steps.{named_by, first_name, stepped}
use Rattle.runs_sound.specs.Shapes.{Shape, object, FitsIn, Describes}
use Rattle.runs_sound.specs.Frames.{State}
use Rattle.runs_sound.specs.Laws.{Leaves, start, main_scope, main_bounds}
use Rattle.runs_sound.specs.Settings.{env_of, class_setting}
use Rattle.runs_sound.specs.Work.{Prog, Result}
use Rattle.runs_sound.proofs.moments.Branching.{KeepsNdFree, looking, next_step}
use Rattle.runs_sound.specs.Kinds.{Wrong, strict_does}
use Rattle.runs_sound.proofs.kinds.Meaning.{kinds_are_looked_at_alone, same_meaning}
use Rattle.runs_sound.proofs.kinds.Root.{first_good, strict_root_in_order}
use Rattle.runs_sound.proofs.work.NdFree.{Back, IsNdFree, task_nd_free}
use Rattle.runs_sound.proofs.moments.Acting.{counts_at_first}
use Rattle.runs_sound.proofs.moments.Carried.{stepped_on}
use Rattle.runs_sound.proofs.moments.Cells.{first_value_fits}
use Rattle.runs_sound.specs.Runs.{own_entries}
use Rattle.runs_sound.specs.Soundness.{EndFits}
use Rattle.runs_sound.proofs.moments.Moments.{at, Goes}
use Rattle.runs_sound.proofs.numbers.Ints.{zero_fits}
use Rattle.runs_sound.proofs.numbers.Small.{small_cons, small_nil, small_padded}
use Rattle.runs_sound.proofs.moments.Sound.{Kept, asks_counting, made_of, Stands, branches_of, Sound}
use Rattle.runs_sound.proofs.work.Walks.{work_goes}

main_is_root : (first : Name) (arg : ℤ) (o : Option PlainMember) → (enters_main (named_by []) first arg o).work.is_root ≡ true
main_is_root first arg None = refl
main_is_root first arg (Some m) = refl

abbrev pub kept_by_main : (P : PlainProgram) → WellTyped P → ℤ → (Path → Task → Prog) → Kept
kept_by_main P wt arg work = record { bounds = main_bounds P wt; scope = main_scope P wt; task = root_task (named_by []) P first_name arg; work = work }

-- what holds of a run of a program whose tasks do this: with what the root keeps to, and that all tasks know the same members
pub record WholeOf (P : PlainProgram) (wt : WellTyped P) (arg : ℤ) (Q : Program) (work : Path → Task → Prog) (N : ℕ) (R : Run) : Type 0 where
  pub holds : Sound P Q N R
  pub root : holds.keeping [] ≡ kept_by_main P wt arg work
  pub members : (p : Path) → (holds.keeping p).bounds.member_nd_free ≡ wt.member_nd_free
  pub works : (p : Path) → (holds.keeping p).work ≡ work

module _ (wrong : Wrong Name LocalRegion) (P : PlainProgram) (wt : WellTyped P) (arg : ℤ) (small : FitsSigned w32 arg) (free : KeepsNdFree wrong P) where
  abbrev Q : Program
  Q = looking wrong P arg

  abbrev main_task : Task
  main_task = root_task (named_by []) P first_name arg

  abbrev work : Path → Task → Prog
  work = λ q t. strict_does wrong (named_by q) P t

  abbrev pub main_kept : Kept
  main_kept = kept_by_main P wt arg work

  -- the body of `main` doesn't complete normally, so the root ends with what it returns, an int
  root_ends : (copies : List ℕ) (k : Work) → k.is_root ≡ true → (h : State) (r : Result) →
      Leaves P (main_bounds P wt) (main_scope P wt) (class_setting []) wt.main.member.body (start P) h r → EndFits P (main_bounds P wt) (main_scope P wt) copies h.shapes (ended k r)
  root_ends copies k of_root h (Returns v) y = (refl, subst (λ t. FitsIn P h.shapes (env_of (class_setting [])) t v) wt.main.result y.1)
  root_ends copies k of_root h (Goes_on v f) y =
      ⊎_elim (λ none. absurd (let z : ◌≡◌ {A = PlainType} int void = sym wt.main.result ∙ none in cc)) (λ e. absurd (false≢true (sym e ∙ y.0)))
      (wt.members P.main_member wt.main.member wt.main.member_is).ends

  main_nd_free : (c : Bool) × IsNdFree P (main_bounds P wt) [] (Back [] c) (does (named_by []) P (root_task (named_by []) P first_name arg))
  main_nd_free = subst (λ o. (c : Bool) × IsNdFree P (main_bounds P wt) [] (Back [] c) (does (named_by []) P (enters_main (named_by []) first_name arg o))) (sym wt.main.member_is)
      (task_nd_free P (main_bounds P wt) wt refl (named_by []) 499 (wt.members P.main_member wt.main.member wt.main.member_is).passes refl []
      (λ must. elim must [ inl none ↦ wt.without_nd none P.main_member | inr inside ↦ absurd (false≢true inside) ]) (λ h. h P.main_member wt.main.member wt.main.member_is)
      (entered (named_by []) wt.main.member (Object first_name ∷ Int arg ∷ []) [] 499)
      (small_padded wt.main.member.slots (Object first_name ∷ Int arg ∷ []) (small_cons (Object first_name) (Int arg ∷ []) zero_fits (small_cons (Int arg) [] small small_nil))))

  -- the first object stands alone
  first_shape : (n : Name) (z : Shape) → (start P).shapes n ≡ Some z → (first_name ≡ n) × (object P.main_class [] ≡ z)
  first_shape n z q = ⊎_elim
      (λ t. (sym (same_name_eq n first_name t), (let k : Some (object P.main_class []) ≡ Some z = sym (cond-true (same_name n first_name) (Some (object P.main_class [])) None t) ∙ q in cc)))
      (λ f. absurd (let k : None ≡ Some z = sym (cond-false (same_name n first_name) (Some (object P.main_class [])) None f) ∙ q in cc)) (cases_Bool (same_name n first_name))

  first_is : Describes P (object P.main_class []) Q.object
  first_is = (refl, refl, first_good P wt, refl)

  first_there : thing_of Q [] first_name ≡ Some Q.object
  first_there = refl

  none_made : (p : Path) → things (mine [] p) ≡ []
  unfolding things
  none_made p = ap things (mine_nil p)

  first_made : (n : Name) (t : Thing) → thing_of Q [] n ≡ Some t → (z : Shape) × ((start P).shapes n ≡ Some z)
  first_made n t e = go n.maker refl n.count refl (ap (λ g. slice_get (at_start Q n.maker ++ g) n.count) (sym (none_made n.maker)) ∙ e)
    where
      go : (p : Path) → n.maker ≡ p → (k : ℕ) → n.count ≡ k → slice_get (at_start Q p ++ []) k ≡ Some t → (z : Shape) × ((start P).shapes n ≡ Some z)
      go [] a zero b h = (
        object P.main_class [],
        cond-true (same_name n first_name) (Some (object P.main_class [])) None (let c : n ≡ first_name = (λ i. record { maker = a i; count = b i }) in
            subst (λ m. same_name m first_name ≡ true) (sym c) refl),
      )
      go [] a (suc k) b h = absurd (let z : None ≡ Some t = h in cc)
      go (u ∷ p) a k b h = absurd (let z : None ≡ Some t = h in cc)

  root_stands : (N : ℕ) → Stands P Q N [] main_kept (branches_of P Q (λ p. main_kept) []) (start P).shapes [] main_task
  root_stands N = record {
    path = refl;
    task = refl;
    moment = at (start P);
    grown = λ n z q. q;
    entered = sym (ap (own_entries (made_of main_kept)) (mine_nil []));
    is_at = tt;
    depth = suc N;
    enough = omega arith;
    goes = subst (λ es. Goes P (main_bounds P wt) (main_scope P wt) main_task.work.copies (suc N) (at (start P)) (λ xs. asks_counting main_kept (reverse xs ++ answers es))) (sym (mine_nil []))
        (counts_at_first P main_kept main_task (λ q t. strict_does wrong (named_by q) P t) refl refl main_task.work.copies (start P) (suc N)
        (work_goes P (main_bounds P wt) (main_scope P wt) main_task.work.copies (Leaves P (main_bounds P wt) (main_scope P wt) (class_setting []) wt.main.member.body (start P)) (Back [] main_nd_free.0) main_task
        (strict_does wrong (named_by []) P main_task) (start P) (strict_root_in_order wrong P wt arg small) (free (main_bounds P wt) main_nd_free.0 main_task main_nd_free.1) refl refl
        (λ h r y. root_ends main_task.work.copies main_task.work (main_is_root first_name arg _) h r y) (suc N)));
  }

  at_the_start : (N : ℕ) → Sound P Q N []
  at_the_start N = record {
    shapes = (start P).shapes;
    keeping = λ p. main_kept;
    root = refl;
    things = λ n z q. (let f = first_shape n z q in (Q.object, subst (λ x. thing_of Q [] x ≡ Some Q.object) f.0 first_there, subst (λ y. Describes P y Q.object) f.1 first_is));
    shaped = λ n t there. first_made n t there;
    cells = λ n z t k env ty a q there cell.
        (let f = first_shape n z q in
        let has : thing_of Q [] n ≡ Some Q.object = subst (λ x. thing_of Q [] x ≡ Some Q.object) f.0 first_there in
        let same : Some Q.object ≡ Some t = sym has ∙ there in
        let is : Q.object ≡ t = cc in
        subst (λ o. FitsIn P (start P).shapes env ty (or_else o (first_value t k))) (sym (last_nil (record { object = n; slot = k })))
        (first_value_fits (start P).shapes cell t (subst (λ x. Describes P z x) is (subst (λ y. Describes P y Q.object) f.1 first_is))));
    events = λ y Y u. absurd (upto_none u);
    acted = λ y Y u. absurd (upto_none u);
    tasks = λ p t b. begun p t b;
  }
    where
      begun : (p : Path) (t : Task) → Begun Q [] p t → Stands P Q N [] main_kept (branches_of P Q (λ p. main_kept) p) (start P).shapes p t
      begun p t (root e k) =
          subst (λ x. Stands P Q N [] main_kept (branches_of P Q (λ p. main_kept) x) (start P).shapes x t) (sym e)
          (subst (λ y. Stands P Q N [] main_kept (branches_of P Q (λ p. main_kept) []) (start P).shapes [] y) (sym k) (root_stands N))
      begun p t (branch q u F f ts B g e fs fp fn fa there gs gp ga gn) = absurd (upto_none fs)

  pub strict_whole : (N : ℕ) (R : Run) → Faithful Q R → Faithful (stepped P arg) R → length R ≤ N → WholeOf P wt arg Q work N R
  unfolding at_the_start stepped_on
  strict_whole N [] l lenient room = record { holds = at_the_start N; root = refl; members = λ p. refl; works = λ p. refl }
  strict_whole N (e ∷ R) l lenient room =
      let s = strict_whole N R l.1 lenient.1 (omega (arith, room)) in
      let z = next_step wrong P wt arg free l.1 lenient.1 s.holds l.0 room s.members s.works in
      record {
        holds = stepped_on P Q l.1 l.0.task l.0.begun s.holds z;
        root = z.agrees.root ∙ s.root;
        members = z.never wt.member_nd_free s.members;
        works = z.work work s.works;
      }

-- the meaning is that which does at a wrong kind what it does
meant : (P : PlainProgram) (arg : ℤ) → looking (λ q. q) P arg ≡ stepped P arg
meant P arg = λ i. record {
  meaning = λ p t got. kinds_are_looked_at_alone p P t got i;
  root = (stepped P arg).root;
  object = (stepped P arg).object;
  rule = (stepped P arg).rule;
}

abbrev does_meant : PlainProgram → Path → Task → Prog
does_meant P q t = does (named_by q) P t

work_meant : (P : PlainProgram) → (λ q t. strict_does (λ q. q) (named_by q) P t) ≡ does_meant P
work_meant P = λ i q t. same_meaning (named_by q) P t.frame.left t.work.stmts (begun_frame t.work.takes t.frame) i

free_meant : (P : PlainProgram) → KeepsNdFree (λ q. q) P
free_meant P b c t h = subst (λ (w : Path → Task → Prog). IsNdFree P b [] (Back [] c) (w b.path t)) (sym (work_meant P)) h

module _ (P : PlainProgram) (wt : WellTyped P) (arg : ℤ) (small : FitsSigned w32 arg) where
  abbrev pub Whole : ℕ → Run → Type 0
  Whole N R = WholeOf P wt arg (stepped P arg) (λ q t. does (named_by q) P t) N R

  pub whole : (N : ℕ) (R : Run) → Faithful (stepped P arg) R → length R ≤ N → Whole N R
  whole N R l room = subst (λ (z : Program × (Path → Task → Prog)). WholeOf P wt arg z.0 z.1 N R) (λ i. (meant P arg i, work_meant P i))
      (strict_whole (λ q. q) P wt arg small (free_meant P) N R (subst (λ Q. Faithful Q R) (sym (meant P arg)) l) l room)

  abbrev pub sound : (N : ℕ) (R : Run) → Faithful (stepped P arg) R → length R ≤ N → Sound P (stepped P arg) N R
  sound N R l room = (whole N R l room).holds

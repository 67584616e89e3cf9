-- One step in a stretch of instructions of values and jumps, over the code of the body in which the task stands.
use Rattle.std.proofs.Common.{arith, ◌≡◌, ◌<◌, ◌≤◌, ◌+◌, ℕ, refl, sym, ap, ◌∙◌, subst, false, List, map, Option, Some, None}
use Rattle.std.specs.Prelude.{slice_get}
use Rattle.lang_base.specs.declared.place.Place.{Place}
use Rattle.lang_base.specs.declared.value.Trap.TheVariants as trap
use Rattle.code_instrs.specs.declared.code.Body.{Body}
use Rattle.code_instrs.specs.declared.code.Code.{Code}
use Rattle.code_instrs.specs.declared.instr.Instr.{Instr}
use Rattle.code_instrs.specs.Machine.{Goes, Ticks, Stuck, On, Off, exec}
use Rattle.code_instrs.specs.Plain.{PlainCode, Line, plain_code, body_at}
use Rattle.exec_task.specs.declared.action.Ending.TheVariants as ending
use Rattle.exec_task.specs.declared.task.Level.{Level}
use Rattle.exec_task.specs.declared.task.Standing.TheVariants as standing
use Rattle.exec_task.specs.declared.task.Task.{Task}
use Rattle.exec_task.specs.Advances.{step_at, Advances}
use Rattle.exec_task.specs.Fuel.{Least, one_least}
use Rattle.exec_task.specs.Halts.{Paced, Reaches, IsAsking, stands, front_of}
use Rattle.exec_task.specs.Names.{names_of}
use Rattle.exec_task.specs.StepsLocally.{is_own, IsAtOther}
use Rattle.exec_task.specs.Tasks.{plain_level, plain_ending}
use Rattle.exec_task.proofs.Bodies.{without_place, with_both}
use Rattle.exec_task.proofs.Stepping.{run_short, run_at, goes_by_itself, ticks_by_itself, by_going, by_ticking}
use Rattle.exec_task.proofs.RunningToAction.{next_less, least_next, not_stuck, reaches_next}

-- the task after a step, and after none
pub record Stepped (K C : Code) (a : Task) (n : ℕ) (new : Task) : Type 0 where
  pub reaches : Reaches (plain_code C) a new
  pub least : Least (plain_code K) new
  pub less : (k : Least (plain_code K) new) → k.0 < n

pub record Stayed (K C : Code) (a : Task) (n : ℕ) (new : Task) : Type 0 where
  pub reaches : Reaches (plain_code C) a new
  pub least : Least (plain_code K) new
  pub same : (k : Least (plain_code K) new) → k.0 ≡ n

same_line : (k l : Line) → Some k ≡ Some l → k ≡ l
same_line k l e = cc

-- the code as the way has it, and as it had it at first
module _ (K C : Code) (same : K ≡ C) (a t : Task) (r : Reaches (plain_code C) a t) (least : Least (plain_code K) t) where
  stepped : (new : Task) → t.ticks < 4096 → Advances (plain_code K) t new → new.number ≡ t.number → Paced new
      → (IsAsking (stands t.ticks t.made (step_at (plain_code K) t)) → ⊥) → Stepped K C a least.0 new
  stepped new h adv number paced m = record {
    reaches = reaches_next (plain_code C) a t new r h (subst (λ D. Advances (plain_code D) t new) same adv) number paced
        (subst (λ D. IsAsking (stands t.ticks t.made (step_at (plain_code D) t)) → ⊥) same m);
    least = least_next (plain_code K) t new h adv least;
    less = next_less (plain_code K) t new h adv least;
  }

  pub stays : (h : Level) → h ≡ t.level → Stayed K C a least.0 (record t { level = h })
  stays h e = subst (λ u. Stayed K C a least.0 u) (sym (ap (λ g. record t { level = g }) e)) (record {
    reaches = r;
    least = least;
    same = λ k. one_least (plain_code K) t k least;
  })

  module _ (b : Body) (x : Instr) (at : t.standing ≡ standing.At) (going : t.ticks < 4096) (within : t.level.body ≡ a.level.body)
      (e : Some b ≡ slice_get C.bodies a.level.body) (f : Some x ≡ slice_get b.instrs t.level.at) where
    found : Some b ≡ slice_get K.bodies t.level.body
    found = e ∙ ap (λ j. slice_get C.bodies j) (sym within) ∙ ap (λ D. slice_get D.bodies t.level.body) (sym same)

    alive : step_at (plain_code K) t ≡ Stuck → ⊥
    alive = not_stuck (plain_code K) t going least

    -- its instruction has a place, since the task isn't stuck
    pub placed : (p : Place) × (Some (record { instr = x; place = p }) ≡ slice_get (body_at (plain_code K) t.level.body).lines t.level.at)
    placed = by_place (slice_get b.places t.level.at) refl
      where
        by_place : (o : Option Place) → slice_get b.places t.level.at ≡ o
            → (p : Place) × (Some (record { instr = x; place = p }) ≡ slice_get (body_at (plain_code K) t.level.body).lines t.level.at)
        by_place None g = absurd (alive (run_short (plain_code K) t at (without_place K t.level.body t.level.at b found (sym g))))
        by_place (Some p) g = (p, with_both K t.level.body t.level.at b x p found f (sym g))

    pub goes : (h : Level) → ((p : Place) (fs : List Level) → exec (names_of t.number) (plain_code K) p x (plain_level t.level) (map plain_level fs) ≡ Goes (On (plain_level h) (map plain_level fs)))
        → Stepped K C a least.0 (record t { level = h })
    goes h is =
        let s = goes_by_itself (plain_code K) t h (record { instr = x; place = placed.0 }) at placed.1 (is placed.0 t.callers) in
        stepped (record t { level = h }) going (by_going (plain_code K) t (record t { level = h }) going s refl refl refl) refl
        (record { ticks = r.paced.ticks; names = r.paced.names }) (subst (λ o. IsAsking (stands t.ticks t.made o)) s)

    pub ticks : (h : Level) → ((p : Place) (fs : List Level) → exec (names_of t.number) (plain_code K) p x (plain_level t.level) (map plain_level fs) ≡ Ticks (On (plain_level h) (map plain_level fs)))
        → Stepped K C a least.0 (record t { level = h; ticks = t.ticks + 1 })
    ticks h is =
        let s = ticks_by_itself (plain_code K) t h (record { instr = x; place = placed.0 }) at placed.1 (is placed.0 t.callers) in
        let p = r.paced in
        let few = p.ticks in
        let names = p.names in
        stepped (record t { level = h; ticks = t.ticks + 1 }) going
        (by_ticking (plain_code K) t (record t { level = h; ticks = t.ticks + 1 }) going s refl (omega arith) refl) refl
        (record { ticks = omega (arith, going); names = omega (arith, names) }) (subst (λ o. IsAsking (stands t.ticks t.made o)) s)

    pub divides : (h : Level) (l : Line) → Some l ≡ slice_get (body_at (plain_code K) t.level.body).lines t.level.at
        → ((p : Place) (fs : List Level) → exec (names_of t.number) (plain_code K) p x (plain_level t.level) (map plain_level fs) ≡ Goes (Off (plain_ending (ending.Trapped trap.Divide p))))
        → Stepped K C a least.0 (record t { level = h; standing = standing.Ended (ending.Trapped trap.Divide l.place) })
    divides h l g is =
        let two : Some (record { instr = x; place = placed.0 }) ≡ Some l = placed.1 ∙ sym g in
        let one = ap (λ k. k.place) (same_line (record { instr = x; place = placed.0 }) l two) in
        let s = run_at (plain_code K) t (record { instr = x; place = placed.0 }) at placed.1 ∙ is placed.0 t.callers
        ∙ ap (λ p. Goes (Off (plain_ending (ending.Trapped trap.Divide p)))) one in
        let new = record t { level = h; standing = standing.Ended (ending.Trapped trap.Divide l.place) } in
        stepped new going (by_going (plain_code K) t new going s refl refl refl) refl
        (record { ticks = r.paced.ticks; names = r.paced.names }) (subst (λ o. IsAsking (stands t.ticks t.made o)) s)

    pub never_stuck : ((p : Place) (fs : List Level) → exec (names_of t.number) (plain_code K) p x (plain_level t.level) (map plain_level fs) ≡ Stuck) → ⊥
    never_stuck is =
        alive (run_at (plain_code K) t (record { instr = x; place = placed.0 }) at placed.1 ∙ is placed.0 t.callers)

    -- no line, no step
    pub never_short : None ≡ slice_get (body_at (plain_code K) t.level.body).lines t.level.at → ⊥
    never_short g = alive (run_short (plain_code K) t at g)

    pub other : is_own x ≡ false → IsAtOther (plain_code C) t
    other own _ l g =
        let g' = g ∙ sym (ap (λ D. slice_get (body_at (plain_code D) t.level.body).lines t.level.at) same) in
        let two : Some (record { instr = x; place = placed.0 }) ≡ Some l = placed.1 ∙ sym g' in
        let one = ap (λ k. k.instr) (same_line (record { instr = x; place = placed.0 }) l two) in
        subst (λ i. is_own i ≡ false) one own

-- where there is no instruction, it is another one
pub elsewhere : (C : PlainCode) (t : Task) → (t.standing ≡ standing.At → ⊥) → IsAtOther C t
elsewhere C t h at l g = absurd (h at)

pub no_line : (C : PlainCode) (t : Task) → None ≡ slice_get (body_at C t.level.body).lines t.level.at → IsAtOther C t
no_line C t h at l g = let e : None ≡ Some l = h ∙ sym g in absurd (cc)

-- from one task to another, and on to a third
pub reaches_on : (C : PlainCode) (a b c : Task) → Reaches C a b → Reaches C b c → Reaches C a c
reaches_on C a b c r s = record {
  running = λ h x. r.running h (s.running h x);
  number = s.number ∙ r.number;
  paced = s.paced;
  again = λ z. s.again (subst (λ t. IsAsking (front_of C t)) (sym (r.again z)) z) ∙ r.again z;
}

pub nearer_by : {K C : Code} {a new : Task} {n m : ℕ} → Stepped K C a n new → n ≤ m → (k : Least (plain_code K) new) → k.0 ≤ m
nearer_by s l k = let h = s.less k in omega (arith, l, h)

pub kept_by : {K C : Code} {a new : Task} {n m : ℕ} → Stayed K C a n new → n ≤ m → (k : Least (plain_code K) new) → k.0 ≤ m
kept_by s l k = let e = s.same k in omega (arith, l, e)

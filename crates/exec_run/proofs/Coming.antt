-- How a run comes out, over plain variables.
use Rattle.std.proofs.Common.{arith, ◌-◌, ◌≡◌, ◌↔◌, ◌≤◌, ◌+◌, ℕ, ℤ, Bool, false, IsTrue, List, [], ◌∷◌, ◌++◌, length, All, Option, Some, None, IfOk, Result, Ok, Err, refl, sym, ap, ◌∙◌, subst}
use Rattle.std.proofs.lemmas.Bool.{false≢true}
use Rattle.std.proofs.lemmas.List.{length-append}
use Rattle.lang_base.specs.declared.memory.NoMemory.{NoMemory}
use Rattle.lang_base.specs.declared.outcome.Limits.{Limits}
use Rattle.lang_typed.specs.Plain.{PlainProgram}
use Rattle.code_instrs.specs.declared.code.Code.{Code}
use Rattle.code_instrs.specs.declared.code.Site.{Site}
use Rattle.code_instrs.specs.Plain.{plain_code}
use Rattle.exec_task.specs.Halts.{IsWidthBounded}
use Rattle.exec_machine.specs.Keeping.{Played, IsReplayed, GreedilyOn, here, further}
use Rattle.exec_run.specs.Run.{IsRunOf, IsSameRun, HasNoRun, halted, never_begun, IsOpened, opened, too_wide, IsFinished, IsRun}
use Rattle.exec_run.specs.Run.{finished_so, unfinished_so, recorded_so, no_record}
use Rattle.exec_run.specs.declared.recorded.Recorded.{Recorded}
use Rattle.exec_run.specs.declared.workers.working.Worked.{Worked}

-- where the test of all forks fails, not all are few
pub not_few : (code : Code) (sites : List Site) (few : Bool) → sites ≡ code.sites → (IsTrue few ↔ All IsWidthBounded sites) → few ≡ false → All IsWidthBounded code.sites → ⊥
not_few code sites few is same failed every = false≢true (sym failed ∙ same.1 (subst (All IsWidthBounded) (sym is) every))

-- steps leave the code, the limits and the argument
pub same_code : (a b : Played) → GreedilyOn a b → b.code ≡ a.code
same_code a b here = refl
same_code a b (further middle after k steps greatest x) = x.code ∙ same_code a middle steps

pub same_limits : (a b : Played) → GreedilyOn a b → b.limits ≡ a.limits
same_limits a b here = refl
same_limits a b (further middle after k steps greatest x) = x.limits ∙ same_limits a middle steps

pub same_argument : (a b : Played) → GreedilyOn a b → b.argument ≡ a.argument
same_argument a b here = refl
same_argument a b (further middle after k steps greatest x) = x.argument ∙ same_argument a middle steps

-- and make the schedule longer
grown : (n : ℕ) (ks ls : List ℕ) (k : ℕ) → ls ≡ ks ++ k ∷ [] → n ≤ length ks → n ≤ length ls
grown n ks ls k is h = omega (arith, ap length is, length-append ks (k ∷ []), h)

pub grows : (a b : Played) → GreedilyOn a b → length a.schedule ≤ length b.schedule
grows a b here = omega (arith)
grows a b (further middle after k steps greatest x) = grown (length a.schedule) middle.schedule b.schedule k x.schedule (grows a middle steps)

abbrev pub same_run : (a b : Played) → GreedilyOn a b → IsReplayed b → IsSameRun a b
same_run a b steps replayed = record { code = same_code a b steps; limits = same_limits a b steps; argument = same_argument a b steps; replayed = replayed }

-- a run that has gone on is a run
abbrev pub still : (P : PlainProgram) (L : Limits) (argument : ℤ) (a b : Played) → IsRunOf P L argument a → IsSameRun a b → IsRunOf P L argument b
still P L argument a b r same = record {
  is_code = ap plain_code same.code ∙ r.is_code;
  limits = same.limits ∙ r.limits;
  is_argument = same.argument ∙ r.is_argument;
  replayed = same.replayed;
}

-- what was opened is a run, or there is none
pub opened_run : (P : PlainProgram) (L : Limits) (argument : ℤ) (p : Played) → IsOpened P L argument (Some p) → IsRunOf P L argument p × (p.schedule ≡ [])
opened_run P L argument _ (opened p is nothing) = (is, nothing)

pub opened_none : (P : PlainProgram) (L : Limits) (argument : ℤ) → IsOpened P L argument None → HasNoRun P L argument
opened_none P L argument (too_wide wide) = never_begun wide

-- what the caller made is what isn't the workers'
pub own_counted : (before after ks ls : List ℕ) (made : ℕ) → ks ≡ before → ls ≡ after → length before ≡ made → length before ≤ length after
    → length after ≡ made + (length ls - length ks)
own_counted before after ks ls made k l counted grown =
    let x : length ks ≡ length before = ap length k in
    let y : length ls ≡ length after = ap length l in
    omega (arith, x, y, counted, grown)

pub made_more : (before after ks ls : List ℕ) → ks ≡ before → ls ≡ after → length before ≤ length after → length ks ≤ length ls
made_more before after ks ls k l grown =
    let x : length ks ≡ length before = ap length k in
    let y : length ls ≡ length after = ap length l in
    omega (arith, x, y, grown)

-- the run that workers began is recorded where it is finished
record_of : (P : PlainProgram) (L : Limits) (argument : ℤ) (w : Worked) → IsRunOf P L argument w.machine → (r : Option Recorded) → IsFinished w r
    → IsRun P L argument (length w.shares) r
record_of P L argument w is _ (finished_so r same came_so shares counted) =
    recorded_so r (record {
      is_run = still P L argument w.machine r.record.machine is same;
      came = came_so;
      seats = ap length shares;
      counted = counted;
    })
record_of P L argument w is _ (unfinished_so p same stopped) = no_record (halted p (still P L argument w.machine p is same) stopped)

pub recorded : (P : PlainProgram) (L : Limits) (argument : ℤ) (workers : ℕ) (a : Played) (w : Worked) → IsRunOf P L argument a → w.machine.code ≡ a.code
    → w.machine.limits ≡ a.limits → w.machine.argument ≡ a.argument → IsReplayed w.machine → length w.shares ≡ workers
    → (result : Result (Option Recorded) NoMemory) → IfOk result (IsFinished w) → IfOk result (IsRun P L argument workers)
recorded P L argument workers a w is code limits given replayed seats (Ok r) done =
    subst (λ n. IsRun P L argument n r) seats
    (record_of P L argument w (still P L argument a w.machine is (record { code = code; limits = limits; argument = given; replayed = replayed })) r done)
recorded P L argument workers a w is code limits given replayed seats (Err none) done = tt

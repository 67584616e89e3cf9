-- A task after an answer.
use Rattle.std.proofs.Common.{rules, ◌≡◌, ◌≢◌, ℕ, ◌==◌, eq-eqb, if◌then◌else◌, false, true, map, refl, sym, ap, ◌∙◌, subst, Option, Some, None}
use Rattle.std.specs.Prelude.{slice_get}
use Rattle.lang_meaning.specs.Actions as meaning
use Rattle.lang_meaning.specs.Actions.{Do, Rest}
use Rattle.lang_meaning.specs.Asking.{most_ticks}
use Rattle.code_instrs.specs.RunsToActions.{Asks}
use Rattle.code_instrs.specs.Machine.{State, Stand, Goes, Ticks, Makes, Waits, Ends, Stuck, exec, exec_line, rested_line, rested_at, enters_block, next}
use Rattle.code_instrs.specs.Plain.{PlainCode, Line, Site, block_site, fork_site, spread_site, call_site, new_site, array_site, body_at}
use Rattle.code_instrs.specs.declared.instr.Instr.{Instr}
use Rattle.code_instrs.specs.declared.instr.Instr.TheVariants as i
use Rattle.exec_task.specs.declared.action.Answer.{Answer}
use Rattle.exec_task.specs.declared.action.Ending.{Ending}
use Rattle.exec_task.specs.declared.task.Standing.{Standing}
use Rattle.exec_task.specs.declared.task.Standing.TheVariants as standing
use Rattle.exec_task.specs.declared.task.Task.{Task}
use Rattle.exec_task.specs.Advances.{step_at}
use Rattle.exec_task.specs.Answers.{LeadsTo}
use Rattle.exec_task.specs.Halts.{stands, front_of, Follows}
use Rattle.exec_task.specs.Names.{names_of}
use Rattle.exec_task.specs.Tasks.{plain_level, plain_ending, plain_answer, state_of}
use Rattle.exec_task.proofs.Stepping.{step_on, step_rested, step_ended, step_nowhere, run_short}

module _ (C : PlainCode) where
  not_resting : (n : ℕ) → n ≢ 4096 → (n == most_ticks) ≡ false
  unfolding most_ticks
  not_resting n h = search (rules, h)

  resting : (n : ℕ) → n ≡ 4096 → (n == most_ticks) ≡ true
  unfolding most_ticks
  resting n h = eq-eqb n 4096 h

  pub follows_step : (t u : Task) (x : Answer) → t.ticks ≢ 4096 → LeadsTo (step_at C t) (plain_answer x) (state_of u) → u.ticks ≡ 0 → u.made ≡ t.made
      → Follows (front_of C t) x u
  follows_step t u x h l a b =
      subst (λ y. Follows (if y then Asks t.ticks t.made (Do Rest) (λ z. state_of t) else stands t.ticks t.made (step_at C t)) x u) (sym (not_resting t.ticks h))
      (by_case (step_at C t) l)
    where
      by_case : (o : Stand ℕ (ℕ × ℕ)) → LeadsTo o (plain_answer x) (state_of u) → Follows (stands t.ticks t.made o) x u
      by_case (Goes s) l = tt
      by_case (Ticks s) l = tt
      by_case (Makes k) l = tt
      by_case (Waits d k) l = (l, a, b)
      by_case (Ends e) l = tt
      by_case Stuck l = tt

  pub follows_rest : (t u : Task) (x : Answer) → t.ticks ≡ 4096 → state_of u ≡ state_of t → u.ticks ≡ 0 → u.made ≡ t.made → Follows (front_of C t) x u
  follows_rest t u x h l a b =
      subst (λ y. Follows (if y then Asks t.ticks t.made (Do Rest) (λ z. state_of t) else stands t.ticks t.made (step_at C t)) x u) (sym (resting t.ticks h)) (l, a, b)

  module _ (x : meaning.Answer ℕ (ℕ × ℕ)) (s : State ℕ (ℕ × ℕ)) where
    pub leads_on : (t : Task) (l : Line) → t.standing ≡ standing.At → Some l ≡ slice_get (body_at C t.level.body).lines t.level.at
        → LeadsTo (exec (names_of t.number) C l.place l.instr (plain_level t.level) (map plain_level t.callers)) x s → LeadsTo (step_at C t) x s
    leads_on t l e f h =
        subst (λ o. LeadsTo o x s) (sym (step_on C t e ∙ ap (λ l. exec_line (names_of t.number) C l (plain_level t.level) (map plain_level t.callers)) (sym f))) h

    entered_on : (t : Task) (o : Stand ℕ (ℕ × ℕ)) → step_at C t ≡ o → LeadsTo o x s → LeadsTo (step_at C t) x s
    entered_on t o e h = subst (λ o. LeadsTo o x s) (sym e) h

    pub leads_short : (t : Task) → None ≡ slice_get (body_at C t.level.body).lines t.level.at → LeadsTo (step_at C t) x s
    leads_short t f = by_case t.standing refl
      where
        by_case : (w : Standing) → t.standing ≡ w → LeadsTo (step_at C t) x s
        by_case standing.At e = entered_on t Stuck (run_short C t e f) tt
        by_case standing.Rested e = entered_on t Stuck (step_rested C t e ∙ ap (λ l. rested_line (names_of t.number) C l (plain_level t.level) (map plain_level t.callers)) (sym f)) tt
        by_case (standing.Ended y) e = entered_on t (Ends (plain_ending y)) (step_ended C t y e) tt
        by_case standing.Nowhere e = entered_on t Stuck (step_nowhere C t e) tt

    pub leads_ended : (t : Task) (y : Ending) → t.standing ≡ standing.Ended y → LeadsTo (step_at C t) x s
    leads_ended t y e = entered_on t (Ends (plain_ending y)) (step_ended C t y e) tt

    pub leads_nowhere : (t : Task) → t.standing ≡ standing.Nowhere → LeadsTo (step_at C t) x s
    leads_nowhere t e = entered_on t Stuck (step_nowhere C t e) tt

    block_leads : (t : Task) (o : Option Site) → s ≡ next (plain_level t.level) (plain_level t.level).stack (map plain_level t.callers)
        → LeadsTo (enters_block (names_of t.number) o (plain_level t.level) (map plain_level t.callers)) x s
    block_leads t (Some (block_site effects)) h = h
    block_leads t (Some (fork_site f js copies)) h = tt
    block_leads t (Some (spread_site f j k)) h = tt
    block_leads t (Some (call_site c r n rs)) h = tt
    block_leads t (Some (new_site c n rs)) h = tt
    block_leads t (Some (array_site r v)) h = tt
    block_leads t None h = tt

    pub leads_rested : (t : Task) (l : Line) → t.standing ≡ standing.Rested → Some l ≡ slice_get (body_at C t.level.body).lines t.level.at
        → s ≡ next (plain_level t.level) (plain_level t.level).stack (map plain_level t.callers) → LeadsTo (step_at C t) x s
    leads_rested t l e f h =
        entered_on t (rested_at (names_of t.number) C l.instr (plain_level t.level) (map plain_level t.callers))
        (step_rested C t e ∙ ap (λ l. rested_line (names_of t.number) C l (plain_level t.level) (map plain_level t.callers)) (sym f)) (by_instr l.instr)
      where
        by_instr : (y : Instr) → LeadsTo (rested_at (names_of t.number) C y (plain_level t.level) (map plain_level t.callers)) x s
        by_instr (i.Enter k) = block_leads t (slice_get C.sites k) h
        by_instr other = tt

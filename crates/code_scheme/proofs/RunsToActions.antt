-- Compiled tasks, from action to action.
use Rattle.std.proofs.Common.{ℕ, List, [], ◌∷◌, reverse, subst}
use Rattle.std.proofs.lemmas.List.{reverse-append}
use Rattle.lang_typed.specs.Plain.{PlainProgram}
use Rattle.lang_typed.specs.Resolved.{Resolved}
use Rattle.lang_meaning.specs.Values.{Naming}
use Rattle.lang_meaning.specs.Actions.{Task, Action, Answer}
use Rattle.lang_meaning.specs.Asking.{ask}
use Rattle.code_instrs.specs.RunsToActions.{Halt, Asks, RunsToAction, Halts, said}
use Rattle.code_instrs.specs.Machine.{Start, State, begins_at}
use Rattle.code_instrs.proofs.RunsToActions.{Run, runs_are_solo, run_ends, past_halts}
use Rattle.code_scheme.specs.Compiled.{Compiled, SameReply}
use Rattle.code_scheme.specs.Laws.{RunsEndOf}
use Rattle.code_scheme.specs.Whole.{number_in, compiled}
use Rattle.code_scheme.proofs.Theorems.{code_is_right, one_reply}
use Rattle.code_scheme.proofs.Whole.{laid_out}

module _ {N M : Type 0} (names : Naming N M) (P : PlainProgram) (resolved : Resolved P) (b : Start N M) (t : Task N M) (c : Compiled (compiled P) P b t) where
  pub runs_are_right : (got : List (Answer N M)) (h : Halt N M) → Halts names (compiled P) b got h → SameReply (compiled P) P (ask names P t got) (said h)
  runs_are_right got h a =
      let x = code_is_right names (compiled P) P (number_in P) (laid_out P) resolved b t c got in
      let e = one_reply names (compiled P) b got x.reply (said h) x.runs (runs_are_solo names (compiled P) b got h a) in
      subst (λ r. SameReply (compiled P) P (ask names P t got) r) e x.same

  first_ends : (h : Halt N M) × RunsToAction names (compiled P) 0 (begins_at b) h
  first_ends =
      let x = (code_is_right names (compiled P) P (number_in P) (laid_out P) resolved b t c []).runs in
      let l = run_ends names (compiled P) x.fuel 0 0 (begins_at b) [] _ x.stands in
      (l.0, record { fuel = x.fuel; runs = l.1 })

  later_ends : (got : List (Answer N M)) (n m : ℕ) (a : Action N M (Start N M)) (k : Answer N M → State N M) → Halts names (compiled P) b got (Asks n m a k) →
      (x : Answer N M) → (h : Halt N M) × RunsToAction names (compiled P) m (k x) h
  later_ends got n m a k s x =
      let q = code_is_right names (compiled P) P (number_in P) (laid_out P) resolved b t c (x ∷ got) in
      let r : Run names (compiled P) 0 0 (begins_at b) (reverse (x ∷ got)) q.reply = record { fuel = q.runs.fuel; stands = q.runs.stands } in
      let u = subst (λ l. Run names (compiled P) 0 0 (begins_at b) l q.reply) (reverse-append (x ∷ []) got) r in
      let p = past_halts names (compiled P) b got n m a k x [] q.reply s u in
      let l = run_ends names (compiled P) p.fuel 0 m (k x) [] q.reply p.stands in
      (l.0, record { fuel = p.fuel; runs = l.1 })

  pub runs_end : RunsEndOf names (compiled P) b
  runs_end = record { first = first_ends; later = later_ends }

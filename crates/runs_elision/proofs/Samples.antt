-- The samples, by computing them and by the laws.
use Rattle.std.proofs.Common.{◌≡◌, ℕ, ℤ, pos, List, [], ◌∷◌, ◌++◌, reverse, refl, sym, ap, ◌∙◌, subst, arith, Some, ◌⊎◌, inl, inr}
use Rattle.std.specs.Prelude.{codes}
use Rattle.std.specs.Fmt.{digits}
use Rattle.lang_base.specs.declared.value.Trap.TheVariants.{Divide}
use Rattle.lang_typed.specs.Plain.{PlainProgram}
use Rattle.lang_typed.specs.Samples.{here}
use Rattle.lang_meaning.specs.Actions.{Ending as EndingOver}
use Rattle.lang_meaning.specs.Asking.{ask, does, meaning, replied, reported}
use Rattle.lang_meaning.specs.Core.{run}
use Rattle.lang_meaning.specs.Elision.{elided, ran_through}
use Rattle.lang_meaning.specs.Outcomes.{Came, Limited}
use Rattle.lang_meaning.specs.Samples.{divides}
use Rattle.lang_meaning.specs.Values.{Int}
use Rattle.runs_theory.specs.Actions.{Answer, Begin, Branches, Do, End, Ending, Fork, Join, Next, Over, Program, Reply, Returned, Trapped, Unknown}
use Rattle.runs_theory.specs.Laws.{AllFree}
use Rattle.runs_theory.specs.Objects.{Name, Path}
use Rattle.runs_theory.specs.Order.{Comes, Outcome}
use Rattle.runs_theory.specs.Runs.{Begun, Ended, Event, Faithful, Follows, Run, Upto, answers, branch, cells_of, last_written, mine, root, steps_of, things, total}
use Rattle.runs_theory.specs.Schedules.{Limits, Within, ended}
use Rattle.runs_theory.specs.Standing.{above, first_of}
use Rattle.runs_theory.proofs.runs.Faithful.{follows_at}
use Rattle.runs_theory.proofs.samples.Play.{has_ended_with, play, played, run_of}
use Rattle.runs_theory.proofs.runs.Schedules.{recorded}
use Rattle.runs_theory.proofs.Theorems.{each_comes_out}
use Rattle.runs_theory.proofs.events.Upto.{upto_none, upto_split, upto_tail, upto_trans}
use Rattle.runs_theory.proofs.runs.Written.{legal_faithful, legal_from}
use Rattle.runs_program.specs.Samples.{races}
use Rattle.runs_program.specs.Steps.{named_by, stepped}
use Rattle.runs_elision.specs.Laws.{ComesOutAsElided, in_limits, over_limits}
use Rattle.runs_elision.specs.Renamed.{renamed, renamed_ending}
use Rattle.runs_elision.specs.Samples.{DeterminismNeedsFree, DividesElided, SumsElided, sums}
use Rattle.runs_elision.proofs.Simulation.{D}
use Rattle.runs_elision.proofs.Theorems.{elision_is_legal, runs_are_elided}

abbrev roomy : Limits
roomy = record { steps = 100; cells = 100 }

-- a run comes out as the elision where that is known
comes_so : (P : PlainProgram) (arg : ℤ) (R : Run) (x : EndingOver ℕ) (output : List ℕ) (steps cells : ℕ) → elided P arg roomy ≡ Came x output steps cells
    → ((y : Ending) → ((names : List Name) → renamed_ending names x ≡ y)
    → ComesOutAsElided P arg roomy R → Comes (stepped P arg) R (Came y output steps cells))
comes_so P arg R x output steps cells e y f (in_limits o c w i) =
    subst (λ (q : Outcome). Comes (stepped P arg) R q) (i.is ∙ ap (renamed i.names) e ∙ ap (λ z. Came z output steps cells) (f i.names)) c
comes_so P arg R x output steps cells e y f (over_limits n h) = absurd (let z : Came x output steps cells ≡ Limited 100 100 = sym e ∙ h in cc)

divides_traps : elided divides (pos 0) roomy ≡ Came (Trapped Divide here) [] 6 3
unfolding elided ran_through meaning digits
divides_traps = refl

pub divides_elided : DividesElided
divides_elided =
    let z = elision_is_legal divides (pos 0) roomy in
    (z.0, z.1, z.2, comes_so divides (pos 0) z.0 (Trapped Divide here) [] 6 3 divides_traps (Trapped Divide here) (λ names. refl) z.4)

sums_prints : elided sums (pos 0) roomy ≡ Came (Returned (Int (pos 7))) (codes "3\n") 2 3
unfolding elided ran_through meaning digits
sums_prints = refl

abbrev Sum : Program
Sum = stepped sums (pos 0)

-- its task never forks
abbrev NotFork : Reply → Type 0
NotFork (Next n (Do o)) = Unit {0}
NotFork (Next n (Fork ts)) = ⊥
NotFork (Next n (Begin b)) = Unit {0}
NotFork (Next n Join) = Unit {0}
NotFork (Next n (End x)) = Unit {0}
NotFork Over = Unit {0}
NotFork Unknown = Unit {0}

abbrev reply_on : List Answer → Reply
reply_on xs = replied Sum.root.work (run (reported (named_by [])) (does (named_by []) sums Sum.root) (record { since = 0; made = 0; to_come = xs }))

no_fork_on : (xs : List Answer) → NotFork (reply_on xs)
unfolding meaning digits
no_fork_on [] = tt
no_fork_on (x ∷ []) = tt
no_fork_on (x ∷ y ∷ xs) = tt

no_fork : (got : List Answer) → NotFork (Sum.meaning [] Sum.root got)
unfolding ask
no_fork got = no_fork_on (reverse got)

never_forked : (F : Run) (f : Event) (ts : Branches) → Follows Sum F f → f.path ≡ [] → f.act ≡ Fork ts → ⊥
never_forked F f ts a fp fa = go a.begun
  where
    go : Begun Sum F f.path a.task → ⊥
    go (root h k) =
        let e : Sum.meaning [] Sum.root (answers (mine F [])) ≡ Next f.ticks (Fork ts) =
        (λ z. Sum.meaning (sym fp z) (sym k z) (answers (mine F (sym fp z)))) ∙ a.asks ∙ ap (λ c. Next f.ticks c) fa in
        subst NotFork e (no_fork (answers (mine F [])))
    go (branch q u G g us B b h g1 g2 g3 g4 g5 b1 b2 b3 b4) = let k : [] ≡ u ∷ q = sym fp ∙ h in cc

all_root : (R : Run) → Faithful Sum R → (e : Event) (B : Run) → Upto (e ∷ B) R → e.path ≡ []
all_root [] l e B u = absurd (upto_none u)
all_root (x ∷ R) l e B u = go (upto_split u) (λ f F h. all_root R l.1 f F h)
  where
    at : Begun Sum R x.path l.0.task → ((f : Event) (F : Run) → Upto (f ∷ F) R → f.path ≡ []) → x.path ≡ []
    at (root a b) rec = a
    at (branch q v F f ts G g a fs fp fn fa there gs gp ga gn) rec = absurd (never_forked F f ts (follows_at Sum fs l.1) (rec f F fs) fa)

    go : ((e ≡ x) × (B ≡ R)) ⊎ Upto (e ∷ B) R → ((f : Event) (F : Run) → Upto (f ∷ F) R → f.path ≡ []) → e.path ≡ []
    go (inl q) rec = ap (λ z. z.path) q.0 ∙ at l.0.begun rec
    go (inr h) rec = rec e B h

none_below : (xs ys : Path) (u : ℕ × ℕ) → [] ≡ xs ++ u ∷ ys → ⊥
none_below [] ys u h = cc
none_below (x ∷ xs) ys u h = cc

sums_free : AllFree Sum
sums_free R l = record {
  no = λ Y X y x hy hx o c. none_below o.below_p o.above o.u (sym (all_root R (legal_faithful Sum R l) x X (upto_trans hx (upto_tail hy))) ∙ o.p_is);
}

pub sums_elided : SumsElided
sums_elided = record {
  free = sums_free;
  comes = λ R x l g. comes_so sums (pos 0) R (Returned (Int (pos 7))) (codes "3\n") 2 3 sums_prints (Returned (Int (pos 7))) (λ names. refl)
      (runs_are_elided sums (pos 0) sums_free roomy R x l g);
}

-- the schedule in which the first branch writes last
abbrev race : Program
race = stepped races (pos 0)

abbrev branch_of : ℕ → Path
branch_of b = (0, b) ∷ []

abbrev first_last : List Path
first_last = [] ∷ [] ∷ [] ∷ [] ∷ branch_of 0 ∷ branch_of 0 ∷ branch_of 1 ∷ branch_of 1 ∷ [] ∷ [] ∷ [] ∷ []

abbrev with_print : Run
with_print = run_of (play race first_last)

with_played : play race first_last ≡ Some with_print
unfolding ask meaning digits mine last_written things above first_of total
with_played = refl

with_ended : Ended with_print [] (Returned (Int (pos 0)))
unfolding ask meaning digits mine last_written things above first_of total
with_ended = has_ended_with with_print [] (Returned (Int (pos 0))) refl

with_costs : (steps_of with_print ≡ 9) × (cells_of race with_print ≡ 5)
unfolding ask meaning digits mine last_written things above first_of total
with_costs = (refl, refl)

race_elided : elided races (pos 0) roomy ≡ Came (Returned (Int (pos 0))) [] 8 3
unfolding elided ran_through meaning digits
race_elided = refl

abbrev steps_in : Outcome → ℕ
steps_in (Came x out steps cells) = steps
steps_in (Limited steps cells) = steps

pub determinism_needs_free : DeterminismNeedsFree
determinism_needs_free =
    let l = legal_from race (D races (pos 0)) with_print (played race first_last with_print with_played) in
    let w : Within race roomy with_print = record { steps = (let n = with_costs.0 in omega arith); cells = (let n = with_costs.1 in omega arith) } in
    let r = recorded race roomy with_print l w in
    let c = each_comes_out race with_print (Returned (Int (pos 0))) l with_ended in (
      roomy,
      r.0,
      c.0,
      ended with_print r.1 c.1,
      (λ i. (let e = sym (ap steps_in c.1.outcome) ∙ ap steps_in i.is
          ∙ ap (λ o. steps_in (renamed i.names o)) race_elided in let k = with_costs.0 in absurd (omega arith))),
    )

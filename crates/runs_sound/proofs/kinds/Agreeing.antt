-- In a legal run tasks that look at kinds reply as those of the meaning, whatever is done at a wrong kind: event by event.
use Rattle.std.proofs.Common.{◌≡◌, ◌⊎◌, ⊎_elim, inl, inr, ℕ, zero, suc, ℤ, FitsSigned, List, [], ◌∷◌, ◌++◌, length, reverse, refl, sym, ap, ◌∙◌, subst, arith, append-nil}
use Rattle.std.specs.Int.{w32}
use Rattle.std.proofs.lemmas.List.{reverse-reverse}
use Rattle.lang_typed.specs.Plain.{PlainProgram}
use Rattle.lang_typed.specs.Scope.{Scope}
use Rattle.lang_typed.specs.WellTyped.{WellTyped}
use Rattle.lang_meaning.specs.Asking.{ask, does, replied, reported}
use Rattle.lang_meaning.specs.Core.{run}
use Rattle.lang_meaning.specs.Statements.{begun}
use Rattle.runs_reduction.proofs.shifts.Rules.{faithful_rule}
use Rattle.runs_theory.specs.Actions.{Answer, Begin, Do, End, Fork, Join, Next, Over, Reply, Task, Unknown}
use Rattle.runs_theory.specs.Blocks.{with_rule}
use Rattle.runs_theory.specs.Objects.{Path, Name, LocalRegion}
use Rattle.runs_theory.specs.Runs.{Begun, Event, Faithful, Follows, Run, answers, branch, mine, root}
use Rattle.runs_theory.proofs.events.Mine.{mine_nil, mine_other, mine_same, path_cases}
use Rattle.runs_theory.proofs.runs.Written.{legal_faithful}
use Rattle.runs_program.specs.Interfering.{lets}
use Rattle.runs_program.specs.Steps.{named_by, stepped}
use Rattle.runs_sound.specs.Accesses.{Bounds}
use Rattle.runs_sound.specs.KindLaws.{RunsMeetNoWrongKind}
use Rattle.runs_sound.specs.Kinds.{Wrong, strict_ask, strict_does}
use Rattle.runs_sound.proofs.kinds.Alike.{Alike, alike_meaning, alike_nd_free, impossible_moves, to_the_impossible}
use Rattle.runs_sound.proofs.kinds.Meaning.{kinds_are_looked_at_alone, same_meaning}
use Rattle.runs_sound.proofs.kinds.Together.{AsksImpossible, Together, together_same, reply_together}
use Rattle.runs_sound.proofs.moments.Branching.{KeepsNdFree, looking, none_yet, not_itself}
use Rattle.runs_sound.proofs.work.NdFree.{Back}
use Rattle.runs_sound.proofs.moments.Acting.{answers_on, counts_as}
use Rattle.runs_sound.proofs.moments.Carried.{NewTask, begun_cases}
use Rattle.runs_sound.proofs.moments.Moments.{Goes, Here, MayDo, Moment, Replies, at, forked, reported_on}
use Rattle.runs_sound.proofs.moments.Whole.{WholeOf, strict_whole}
use Rattle.runs_sound.proofs.moments.Sound.{asks_counting, Stands, branches_of}

-- what asks for the impossible stops there
looks_alike : (P : PlainProgram) (b : Bounds) (t : Task) → Alike (strict_does to_the_impossible (named_by b.path) P t) (does (named_by b.path) P t)
looks_alike P b t = subst (λ q. Alike (strict_does to_the_impossible (named_by b.path) P t) q) (same_meaning (named_by b.path) P t.frame.left t.work.stmts (begun t.work.takes t.frame))
    (alike_meaning (λ q. q) (named_by b.path) P t.frame.left t.work.stmts (begun t.work.takes t.frame))

free : (P : PlainProgram) → KeepsNdFree to_the_impossible P
free P b c t h = alike_nd_free P b [] (Back [] c) (looks_alike P b t) h

begun_so : (P : PlainProgram) (arg : ℤ) {R : Run} {p : Path} {t : Task} → Begun (stepped P arg) R p t → Begun (looking to_the_impossible P arg) R p t
begun_so P arg (root e k) = root e k
begun_so P arg (branch q u F f ts B g e fs fp fn fa there gs gp ga gn) = branch q u F f ts B g e fs fp fn fa there gs gp ga gn

-- who goes in order never asks for the impossible
refused : (P : PlainProgram) (b : Bounds) (L : Scope) (copies : List ℕ) (rest : Moment P b → Replies → Type 0) (g : Moment P b) (m : Replies) (r : Reply) → AsksImpossible r → Here P b L copies rest g m r → ⊥
refused P b L copies rest g m (Next n (Do o)) h z = go z.moment z.may
  where
    go : (g : Moment P b) → MayDo P b L copies g (Do o) → ⊥
    go (at st) may = impossible_moves P b st o h may.0
    go (forked st forking ts forks k) may = may
refused P b L copies rest g m (Next n (Fork ts)) h z = h
refused P b L copies rest g m (Next n (Begin i)) h z = h
refused P b L copies rest g m (Next n Join) h z = h
refused P b L copies rest g m (Next n (End x)) h z = h
refused P b L copies rest g m Over h z = h
refused P b L copies rest g m Unknown h z = h

-- what a task replies after what it has been answered, and what comes
abbrev after : Wrong Name LocalRegion → PlainProgram → Run → Path → Task → Replies
after wrong P es p t xs = strict_ask wrong (named_by p) P t (reverse xs ++ answers es)

-- from its first action on
at_first : (wrong : Wrong Name LocalRegion) (P : PlainProgram) (p : Path) (t : Task) (d : ℕ) → Together d (after to_the_impossible P [] p t) (after wrong P [] p t)
unfolding strict_ask
at_first wrong P p t d =
    together_same d (λ xs. ap (λ ys. replied t.work (run (reported (named_by p)) (strict_does to_the_impossible (named_by p) P t) (reported_on 0 0 ys))) (told xs))
    (λ xs. ap (λ ys. replied t.work (run (reported (named_by p)) (strict_does wrong (named_by p) P t) (reported_on 0 0 ys))) (told xs))
    (reply_together (named_by p) t.work (alike_meaning wrong (named_by p) P t.frame.left t.work.stmts (begun t.work.takes t.frame)) d)
  where
    told : (xs : List Answer) → xs ≡ reverse (reverse xs ++ [])
    told xs = sym (ap (λ ys. reverse ys) (append-nil (reverse xs)) ∙ reverse-reverse xs)

module _ (P : PlainProgram) (wt : WellTyped P) (arg : ℤ) (small : FitsSigned w32 arg) where
  record Agreed (R : Run) : Type 0 where
    faithful : Faithful (looking to_the_impossible P arg) R
    together : (wrong : Wrong Name LocalRegion) (p : Path) (t : Task) → Begun (stepped P arg) R p t → (d : ℕ) → Together d (after to_the_impossible P (mine R p) p t) (after wrong P (mine R p) p t)

  module _ {R : Run} (l : Faithful (stepped P arg) R) (a : Agreed R) where
    possible : (p : Path) (t : Task) → Begun (stepped P arg) R p t → AsksImpossible (strict_ask to_the_impossible (named_by p) P t (answers (mine R p))) → ⊥
    unfolding strict_ask
    possible p t b h = go stand.depth refl stand.goes
      where
        w : WholeOf P wt arg (looking to_the_impossible P arg) (λ q t. strict_does to_the_impossible (named_by q) P t) (length R) R
        w = strict_whole to_the_impossible P wt arg small (free P) (length R) R a.faithful l (omega arith)

        stand : Stands P (looking to_the_impossible P arg) (length R) R (w.holds.keeping p) (branches_of P (looking to_the_impossible P arg) w.holds.keeping p) w.holds.shapes p t
        stand = w.holds.tasks p t (begun_so P arg b)

        counted : (r : Reply) → strict_ask to_the_impossible (named_by p) P t (answers (mine R p)) ≡ r → AsksImpossible r → AsksImpossible (asks_counting (w.holds.keeping p) (answers (mine R p)))
        counted (Next n (Do o)) e i =
            let c = counts_as (w.holds.keeping p) p t (λ q t. strict_does to_the_impossible (named_by q) P t) stand.path stand.task (w.works p) (answers (mine R p)) n (Do o) e in
            subst AsksImpossible (sym c.1) i
        counted (Next n (Fork ts)) e i = absurd i
        counted (Next n (Begin b)) e i = absurd i
        counted (Next n Join) e i = absurd i
        counted (Next n (End x)) e i = absurd i
        counted Over e i = absurd i
        counted Unknown e i = absurd i

        go : (n : ℕ) → stand.depth ≡ n → Goes P (w.holds.keeping p).bounds (w.holds.keeping p).scope t.work.copies n stand.moment (λ xs. asks_counting (w.holds.keeping p) (reverse xs ++ answers (mine R p))) → ⊥
        go zero q z = let e = stand.enough in absurd (omega (arith, e, q))
        go (suc d) q z = refused P (w.holds.keeping p).bounds (w.holds.keeping p).scope t.work.copies _ stand.moment (λ xs. asks_counting (w.holds.keeping p) (reverse xs ++ answers (mine R p))) _ (counted _ refl h) z

    -- so it replies as any other, and goes on together with it
    replies_so : (wrong : Wrong Name LocalRegion) (p : Path) (t : Task) (b : Begun (stepped P arg) R p t) (d : ℕ) →
        (strict_ask to_the_impossible (named_by p) P t (answers (mine R p)) ≡ strict_ask wrong (named_by p) P t (answers (mine R p)))
        × ((x : Answer) → Together d (λ xs. after to_the_impossible P (mine R p) p t (x ∷ xs)) (λ xs. after wrong P (mine R p) p t (x ∷ xs)))
    replies_so wrong p t b d = ⊎_elim (λ h. absurd (possible p t b h)) (λ h. h) (a.together wrong p t b (suc d))

    as_meant : (p : Path) (t : Task) → Begun (stepped P arg) R p t → strict_ask to_the_impossible (named_by p) P t (answers (mine R p)) ≡ ask (named_by p) P t (answers (mine R p))
    as_meant p t b = (replies_so (λ q. q) p t b 0).0 ∙ kinds_are_looked_at_alone p P t (answers (mine R p))

  -- one event more
  module _ {R : Run} {e : Event} (l : Faithful (stepped P arg) (e ∷ R)) (a : Agreed R) where
    follows : Follows (looking to_the_impossible P arg) R e
    follows = record { task = l.0.task; begun = begun_so P arg l.0.begun; asks = as_meant l.1 a e.path l.0.task l.0.begun ∙ l.0.asks; right = l.0.right }

    going : (wrong : Wrong Name LocalRegion) (p : Path) (t : Task) → Begun (stepped P arg) R p t → (d : ℕ) → (e.path ≡ p) ⊎ (e.path ≡ p → ⊥) →
        Together d (after to_the_impossible P (mine (e ∷ R) p) p t) (after wrong P (mine (e ∷ R) p) p t)
    going wrong p t b d (inl h) = subst (λ es. Together d (after to_the_impossible P es p t) (after wrong P es p t)) (sym (mine_same e R p h))
        (together_same d (λ xs. ap (strict_ask to_the_impossible (named_by p) P t) (answers_on e.ans xs (answers (mine R p)))) (λ xs. ap (strict_ask wrong (named_by p) P t) (answers_on e.ans xs (answers (mine R p))))
        ((replies_so l.1 a wrong p t b d).1 e.ans))
    going wrong p t b d (inr ne) = subst (λ es. Together d (after to_the_impossible P es p t) (after wrong P es p t)) (sym (mine_other e R p ne)) (a.together wrong p t b d)

    w : WholeOf P wt arg (looking to_the_impossible P arg) (λ q t. strict_does to_the_impossible (named_by q) P t) (length (e ∷ R)) R
    w = strict_whole to_the_impossible P wt arg small (free P) (length (e ∷ R)) R a.faithful l.1 (omega arith)

    fresh : (wrong : Wrong Name LocalRegion) (p : Path) (t : Task) → NewTask R e p t → (d : ℕ) → Together d (after to_the_impossible P (mine (e ∷ R) p) p t) (after wrong P (mine (e ∷ R) p) p t)
    fresh wrong p t n d = subst (λ es. Together d (after to_the_impossible P es p t) (after wrong P es p t))
        (sym (mine_other e R p (λ x. not_itself e.path n.u (x ∙ n.is)) ∙ none_yet to_the_impossible P wt arg (free P) a.faithful l.1 w.holds follows (omega arith) w.members w.works p t n (mine R p) refl)) (at_first wrong P p t d)

  agreed : (R : Run) → Faithful (stepped P arg) R → Agreed R
  agreed [] l = record { faithful = tt; together = λ wrong p t b d. subst (λ es. Together d (after to_the_impossible P es p t) (after wrong P es p t)) (sym (mine_nil p)) (at_first wrong P p t d) }
  agreed (e ∷ R) l =
      let a = agreed R l.1 in
      record { faithful = (follows l a, a.faithful); together = λ wrong p t b d. ⊎_elim (λ old. going l a wrong p t old d (path_cases e.path p)) (λ n. fresh l a wrong p t n d) (begun_cases P (stepped P arg) R e p t b) }

pub runs_meet_no_wrong_kind : RunsMeetNoWrongKind
runs_meet_no_wrong_kind wrong P wt arg small rule R l p t b =
    let f = faithful_rule (with_rule rule (stepped P arg)) lets R (legal_faithful (with_rule rule (stepped P arg)) R l) in
    let a = agreed P wt arg small R f in
    sym (replies_so P wt arg small f a wrong p t b 0).0 ∙ as_meant P wt arg small f a p t b

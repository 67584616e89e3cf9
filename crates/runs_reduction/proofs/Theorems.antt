-- The laws, from the lemmas.
use Rattle.std.proofs.Common.{◌≡◌, ◌≤◌, ◌+◌, suc, [], ◌∷◌, sym, ap, ◌∙◌, subst, ⊎_elim}
use Rattle.runs_theory.specs.Actions.{Ending, Program}
use Rattle.runs_theory.specs.Blocks.{Legal, leaving_locals, with_rule}
use Rattle.runs_theory.specs.Meaning.{Disciplined, Known}
use Rattle.runs_theory.specs.Objects.{Path, size}
use Rattle.runs_theory.specs.Order.{Came, Comes, Outcome, ending_of, printed, trapped}
use Rattle.runs_theory.specs.Runs.{Ended, Event, Run, Upto, cells_of, entry_step, event_cells, event_steps, mine, now, steps_of, total}
use Rattle.runs_theory.specs.Schedules.{Limits, Within}
use Rattle.runs_theory.specs.Standing.{Valid}
use Rattle.runs_reduction.specs.Gathered.{gather}
use Rattle.runs_reduction.specs.Guarded.{LevelsGuarded}
use Rattle.runs_reduction.specs.Laws.{Arranging, Gathering, IsMoved, Moving, MovingBy, MovingEnded, MovingInside, Rearranges, StillOpen}
use Rattle.runs_reduction.specs.Moved.{move}
use Rattle.runs_reduction.specs.Guarded.{LevelsGuarded}
use Rattle.runs_theory.proofs.runs.Written.{legal_faithful, valid_from, legal_from}
use Rattle.runs_theory.proofs.runs.Standing.{Stands, stands}
use Rattle.runs_theory.proofs.events.Carry.{begun_in, ended_in}
use Rattle.runs_theory.proofs.events.Mine.{path_cases, mine_same, mine_other}
use Rattle.runs_theory.proofs.Theorems.{same_total}
use Rattle.runs_reduction.proofs.shifts.Insertion.{Rebuilt}
use Rattle.runs_reduction.proofs.gathered.Gather.{gathered}
use Rattle.runs_reduction.proofs.gathered.AtEntries.{at_entries, together}
use Rattle.runs_reduction.proofs.moved.Move.{moved}
use Rattle.runs_reduction.proofs.moved.AfterForks.{after_forks}
use Rattle.runs_reduction.proofs.shifts.Rules.{valid_rule, disciplined_rule, faithful_rule}
use Rattle.runs_reduction.proofs.moved.Loose.{loosely}
use Rattle.runs_reduction.proofs.moved.Ended.{by_weaker}
use Rattle.runs_reduction.proofs.moved.Together.{moved_together}

same_ended : {R G : Run} → ((p : Path) → mine G p ≡ mine R p) → (p : Path) (x : Ending) → Ended R p x → Ended G p x
same_ended {R} {G} m p x h = ended_in (subst (λ es. Upto (mine R p) es) (sym (m p)) now) h

same_costs : (P : Program) (R G : Run) → ((p : Path) → mine G p ≡ mine R p) → (steps_of R ≡ steps_of G) × (cells_of P R ≡ cells_of P G)
same_costs P R G m = (
  ap (λ es. entry_step es + total event_steps R) (sym (m [])) ∙ ap (λ k. entry_step (mine G []) + k) (same_total event_steps R G (λ p. sym (m p))),
  ap (λ k. suc (size P.object) + k) (same_total event_cells R G (λ p. sym (m p))),
)

same_comes : (P : Program) (R G : Run) → ((p : Path) → mine G p ≡ mine R p) → (o : Outcome) → Comes P R o → Comes P G o
same_comes P R G m o c =
    let costs = same_costs P R G m in
    record {
      end = c.end;
      ended = same_ended m [] c.end c.ended;
      sorted = c.sorted;
      in_order = c.in_order;
      events = λ p. m p ∙ c.events p;
      outcome = c.outcome ∙ (λ i. Came (ending_of (trapped c.sorted) c.end) (printed c.sorted) (costs.0 i) (costs.1 i));
    }

one_more : (R G : Run) (e : Event) → ((p : Path) → mine G p ≡ mine R p) → (p : Path) → mine (e ∷ G) p ≡ mine (e ∷ R) p
one_more R G e m p = ⊎_elim (λ h. mine_same e G p h ∙ ap (λ l. e ∷ l) (m p) ∙ sym (mine_same e R p h))
    (λ h. mine_other e G p h ∙ m p ∙ sym (mine_other e R p h)) (path_cases e.path p)

same_within : (P : Program) (L : Limits) (R G : Run) (e : Event) → ((p : Path) → mine G p ≡ mine R p) → Within P L (e ∷ G) → Within P L (e ∷ R)
same_within P L R G e m w =
    let c = same_costs P (e ∷ R) (e ∷ G) (λ p. one_more R G e m p) in
    record { steps = subst (λ n. n ≤ L.steps) (sym c.0) w.steps; cells = subst (λ n. n ≤ L.cells) (sym c.1) w.cells }

by_events : (P : Program) (R G : Run) → Legal P G → ((p : Path) → mine G p ≡ mine R p) → Rearranges P R G
by_events P R G l m = record {
  legal = l;
  events = m;
  costs = λ w. same_total w G R m;
  ended = λ p x h. same_ended m p x h;
  outcome = λ o c. same_comes P R G m o c;
  begun = λ p t b. begun_in (record { each = λ q. subst (λ es. Upto (mine R q) es) (sym (m q)) now }) b;
  over = λ L e n w. n (same_within P L R G e m w);
}

rearranges : (P : Program) → Disciplined P → (R G : Run) → Rebuilt P R G → Rearranges P R G
rearranges P D R G g = by_events P R G (legal_from P D G g.valid) (λ p. g.same p)

pub gathering : Gathering
gathering P D known R l f =
    let v = valid_from P R l in
    let placed = at_entries P D known R v f in
    record { rearranges = rearranges P D R (gather R) (gathered P D known R v f); at_entries = placed; together = together R (gather R) placed }

pub still_open : StillOpen
still_open P D R e l o E k = let s : Stands P D R e.path o E = stands P D o E (legal_faithful P (e ∷ R) l) k in (s.depth, s.held)

is_moved : (P : Program) → Disciplined P → Known P → (R : Run) → Valid P R → LevelsGuarded P.rule R → IsMoved P R
is_moved P D known R v f = record { rearranges = rearranges P D R (move R) (moved P D known R v f); after_forks = after_forks P D known R v f }

pub moving : Moving
moving P D known R l f = is_moved P D known R (valid_from P R l) f

pub moving_by : MovingBy
moving_by P weak w D known R l f = is_moved (with_rule weak P) (disciplined_rule P weak D) known R (valid_rule P weak w R (valid_from P R l)) f

pub moving_inside : MovingInside
moving_inside P w D known R l f = moving_by P (leaving_locals P.rule) w D known R l f

pub moving_ended : MovingEnded
moving_ended P weak w D known R x l ended f lets =
    let v = valid_from P R l in
    let m = loosely P D known R v f in
    let g = by_weaker P D weak w R (move R) v (x, ended) lets m.rebuilt m.placed in
    record { rearranges = rearranges (with_rule weak P) (disciplined_rule P weak D) R (move R) g; after_forks = m.placed }

pub arranging : Arranging
arranging P rule D T R l g m =
    let same = λ (p : Path). m.rearranges.events p ∙ g.rearranges.events p in
    let loose = faithful_rule (with_rule rule P) P.rule (move (gather R)) (legal_faithful (with_rule rule P) (move (gather R)) m.rearranges.legal) in
    record {
      rearranges = by_events (with_rule rule P) R (move (gather R)) m.rearranges.legal same;
      after_forks = m.after_forks;
      together = moved_together P D T (legal_faithful P R l)
          (record { faithful = legal_faithful P (gather R) g.rearranges.legal; same = g.rearranges.events }) (record { faithful = loose; same = same })
          g.together m.after_forks;
    }

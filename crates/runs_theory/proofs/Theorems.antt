-- The laws, from the lemmas.
use Rattle.std.proofs.Common.{◌≡◌, ◌+◌, ℕ, suc, [], ◌∷◌, refl, sym, ap, ◌∙◌, subst, arith, inr, append-nil}
use Rattle.runs_theory.specs.Laws.{BlocksByStanding, Comparison, EachComesOut, GreatestFirst, NoneCostsMore, NothingAfter, OneNext, OneOutcome, OrderOf, Present}
use Rattle.runs_theory.specs.Laws.{Respects, SameEvents, SameOutcome, SomeReady}
use Rattle.runs_theory.specs.Objects.{Path, size}
use Rattle.runs_theory.specs.Order.{Agree, Came, ending_of, printed, trapped}
use Rattle.runs_theory.specs.Runs.{Ended, Event, Faithful, Run, Upto, cells_of, entry_step, event_cells, event_steps, later, mine, now, steps_of, total}
use Rattle.runs_theory.proofs.events.Mine.{mine_step, number_of}
use Rattle.runs_theory.proofs.runs.Faithful.{agree_self, none_after_end}
use Rattle.runs_theory.proofs.runs.Written.{allowed_from, legal_faithful, valid_from, legal_from}
use Rattle.runs_theory.proofs.order.Between.{complete, respects_passing, order_of}
use Rattle.runs_theory.proofs.order.Compare.{present}
use Rattle.runs_theory.proofs.order.Agreement.{agree, same_all, same_end}
use Rattle.runs_theory.proofs.order.Sorting.{sort}
use Rattle.runs_theory.proofs.runs.Ready.{some_ready}
use Rattle.runs_theory.proofs.order.Greatest.{greatest_order}
use Rattle.runs_theory.proofs.events.Numbers.{number_one, number_of_begun}
use Rattle.runs_theory.proofs.runs.Schedules.{same_step}
use Rattle.runs_theory.proofs.events.Cost.{total_le, most_events}
use Rattle.runs_theory.proofs.order.Sorted.{one_order}

pub blocks_by_standing : BlocksByStanding
blocks_by_standing P D R = (λ l. valid_from P R l, λ l. legal_from P D R l)

pub respects_order : Respects
respects_order P D R X Y x y l hx hy n b = respects_passing P D (legal_faithful P R l) hx hy n b

pub order_of_events : OrderOf
order_of_events P D R X Y x y l hx hy a b = order_of P D (legal_faithful P R l) hx hy a b

pub present_before : Present
present_before P D R S W w f l m ag hw n b = let c = present P D (legal_faithful P R l) (legal_faithful P (f ∷ S) m) ag hw n b in
    (c.before, c.stands, c.mine_is)

pub comparison : Comparison
comparison P D R S l m fr fs = agree P D R S (legal_faithful P R l) (legal_faithful P S m) fr fs

-- runs with the same events of each task weigh the same
pub same_total : (w : Event → ℕ) (R S : Run) → ((p : Path) → mine R p ≡ mine S p) → total w R ≡ total w S
same_total w R S m =
    let a = total_le w S R (λ p. subst (λ l. Upto (mine R p) l) (m p) now) in
    let b = total_le w R S (λ p. subst (λ l. Upto (mine S p) l) (sym (m p)) now) in
    omega arith

pub same_events : SameEvents
same_events P D R S x y l m fr fs g h =
    let l1 = legal_faithful P R l in
    let m1 = legal_faithful P S m in
    let ag = comparison P D R S l m fr fs in
    let all = same_all P D l1 m1 ag g h in
    (same_end P D [] l1 m1 ag g h, (λ p. all p), (λ w. same_total w R S (λ p. all p)))

pub same_outcome : SameOutcome
same_outcome P D R S o q l m fr fs c d =
    let s = same_events P D R S c.end d.end l m fr fs c.ended d.ended in
    let sorted : c.sorted ≡ d.sorted = one_order c.sorted d.sorted c.in_order d.in_order (λ p. sym (c.events p) ∙ s.1 p ∙ d.events p) in
    let steps : steps_of R ≡ steps_of S = ap (λ k. entry_step (mine R []) + k) (s.2 event_steps) ∙ ap (λ es. entry_step es + total event_steps S) (s.1 []) in
    let cells : cells_of P R ≡ cells_of P S = ap (λ k. suc (size P.object) + k) (s.2 event_cells) in
    c.outcome ∙ (λ i. Came (ending_of (trapped (sorted i)) (s.0 i)) (printed (sorted i)) (steps i) (cells i)) ∙ sym d.outcome

pub none_costs_more : NoneCostsMore
none_costs_more P D R S x l m fr fs g w =
    let l1 = legal_faithful P R l in
    let m1 = legal_faithful P S m in
    total_le w S R (λ p. most_events P D l1 m1 (comparison P D R S l m fr fs) g p)

pub each_comes_out : EachComesOut
each_comes_out P R x l g =
    let s = sort P R (legal_faithful P R l) in (
      Came (ending_of (trapped s.sorted) x) (printed s.sorted) (steps_of R) (cells_of P R),
      record { end = x; ended = g; sorted = s.sorted; in_order = s.in_order; events = s.events; outcome = refl },
    )

pub comes_one_way : OneOutcome
comes_one_way P D R o q l c d =
    let l1 = legal_faithful P R l in
    let sorted : c.sorted ≡ d.sorted = one_order c.sorted d.sorted c.in_order d.in_order (λ p. sym (c.events p) ∙ d.events p) in
    let end : c.end ≡ d.end = same_end P D [] l1 l1 (agree_self R) c.ended d.ended in
    c.outcome ∙ (λ i. Came (ending_of (trapped (sorted i)) (end i)) (printed (sorted i)) (steps_of R) (cells_of P R)) ∙ sym d.outcome

pub nothing_after : NothingAfter
nothing_after P D R x e l g a =
    let l1 = legal_faithful P R l in
    let m : Faithful P (e ∷ R) = (a.follows, l1) in
    let ag : Agree (e ∷ R) R = record { both = λ p. inr (mine_step e R p) } in
    let y = complete P D [] m l1 ag g e.path R e now (sym (append-nil e.path)) in
    let h = subst (λ p. Ended R p y.0) (append-nil e.path) y.1 in
    let n = none_after_end P D e.path m (later h.stands) h.path h.act now refl in
    let k = number_of e.path h.stands h.path in
    absurd (omega arith)

pub some_ready_event : SomeReady
some_ready_event P D V K R l live =
    let l1 = legal_faithful P R l in
    let r = some_ready P D V R l1 (λ p t b o h. K.replies R l p t b o h) live in
    let n = number_of_begun r.1.follows.begun in
    (n.0, r.0, record { allowed = allowed_from P D R r.0 l1 r.1; number = n.1 })

pub one_next : OneNext
one_next P D R k e f l a b = same_step P D (legal_faithful P R l) a.allowed.follows b.allowed.follows (number_one a.number b.number)

pub greatest_first : GreatestFirst
greatest_first P D V T K R l g = (greatest_order P D V T K R l g).0

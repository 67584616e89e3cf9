-- The run with deterministic constructs moved is valid.
use Rattle.std.proofs.Common.{◌≡◌, ℕ, true, true≢false, [], ◌∷◌, refl, sym, ◌∙◌, subst}
use Rattle.std.proofs.lemmas.Bool.{cond-true, cond-false}
use Rattle.runs_theory.specs.Actions.{Action, Begin, Do, End, Enter, Fork, Join, Program, Rule}
use Rattle.runs_theory.specs.Meaning.{Disciplined, Known}
use Rattle.runs_theory.specs.Objects.{Path}
use Rattle.runs_theory.specs.Order.{IsPlain}
use Rattle.runs_theory.specs.Runs.{Event, Run, Upto, later, mine, now}
use Rattle.runs_theory.specs.Standing.{Valid}
use Rattle.runs_reduction.specs.Guarded.{LevelsGuarded}
use Rattle.runs_reduction.specs.Insertion.{All_of, Branch_of, Spot, put_after}
use Rattle.runs_reduction.specs.Moved.{construct_spot, inner, is_det, move, spot_of}
use Rattle.runs_theory.proofs.events.Upto.{upto_trans, upto_tail}
use Rattle.runs_theory.proofs.events.Mine.{found}
use Rattle.runs_theory.proofs.runs.Faithful.{faithful_upto}
use Rattle.runs_theory.proofs.events.Cells.{right_plain}
use Rattle.runs_theory.proofs.events.Carry.{begun_at}
use Rattle.runs_theory.proofs.runs.Written.{faithful_of}
use Rattle.runs_reduction.proofs.shifts.Under.{under_self, true_of}
use Rattle.runs_reduction.proofs.shifts.Spots.{inner_all}
use Rattle.runs_reduction.proofs.shifts.Insertion.{rearranged_step, rearranged_nil, Rebuilt, Side, rebuilt_in, Bools, yes, no, bools}
use Rattle.runs_reduction.proofs.moved.Branch.{branch_side}
use Rattle.runs_reduction.proofs.gathered.Gather.{rebuilt_nil, top_side}

-- what belongs in a branch is of a task in it
pub spot_inner : (R : Run) (p : Path) (a : Action) (u : ℕ × ℕ) (q : Path) → spot_of R p a ≡ Branch_of u q → inner R p ≡ Branch_of u q
spot_inner R p (Begin b) u q e = go (bools (is_det (mine R p)))
  where
    go : Bools (is_det (mine R p)) → inner R p ≡ Branch_of u q
    go (yes d) = absurd (let z : All_of p ≡ Branch_of u q = sym (cond-true _ _ _ d) ∙ e in cc)
    go (no d) = sym (cond-false _ _ _ d) ∙ e
spot_inner R p (Do o) u q e = e
spot_inner R p (Fork ts) u q e = e
spot_inner R p Join u q e = e
spot_inner R p (End x) u q e = e

-- what else there is: events in no deterministic construct, and begins of one
pub data Other (R : Run) (p : Path) (a : Action) (q : Path) : Type 0 where
  free : q ≡ [] → Other R p a q
  begin : (b : ℕ) → a ≡ Begin b → q ≡ p → is_det (mine R p) ≡ true → Other R p a q

pub spot_other : (R : Run) (p : Path) (a : Action) (q : Path) → spot_of R p a ≡ All_of q → Other R p a q
spot_other R p (Begin b) q e = go (bools (is_det (mine R p)))
  where
    go : Bools (is_det (mine R p)) → Other R p (Begin b) q
    go (yes d) = let z : All_of p ≡ All_of q = sym (cond-true _ _ _ d) ∙ e in let k : p ≡ q = cc in begin b refl (sym k) d
    go (no d) = free (inner_all R p q (sym (cond-false _ _ _ d) ∙ e))
spot_other R p (Do o) q e = free (inner_all R p q e)
spot_other R p (Fork ts) q e = free (inner_all R p q e)
spot_other R p Join q e = free (inner_all R p q e)
spot_other R p (End x) q e = free (inner_all R p q e)

-- a task that has forked has made an event
pub some_event : (L : Run) → is_det L ≡ true → (x : Event) × (X : Run) × (L ≡ x ∷ X)
some_event [] e = absurd (true≢false (sym e))
some_event (x ∷ X) e = (x, X, refl)

pub levels_upto : {rule : Rule} {B R : Run} → Upto B R → LevelsGuarded rule R → LevelsGuarded rule B
levels_upto h f = record {
  accesses = λ Y X y x hy hx u c. f.accesses Y X y x (upto_trans hy h) hx u c;
  entries = λ Y X y x E F hy hx u a b c d i. f.entries Y X y x E F (upto_trans hy h) hx u a b c d i;
}

module _ (P : Program) (D : Disciplined P) (known : Known P) where
  -- the begin of a branch of a deterministic construct
  begin_side : (R G0 : Run) (e : Event) (b : ℕ) → Rebuilt P R G0 → e.act ≡ Begin b → is_det (mine R e.path) ≡ true
      → Side P D known R G0 e (All_of e.path) e.path
  begin_side R G0 e b g act det = record {
    here = under_self e.path;
    test = λ x v. true_of e.path x.path v;
    down = λ x G t hx n full bg. (
        let m : mine G e.path ≡ mine R e.path = full e.path (under_self e.path) in
        let v = some_event (mine R e.path) det in
        let f = found G e.path (subst (λ k. Upto (v.0 ∷ v.1) k) (sym (m ∙ v.2)) now) in
        begun_at P e.path (faithful_upto P (upto_tail hx) (faithful_of P G0 g.valid)) f.stands f.path);
    clashes = λ hy ne full bg cf. subst IsPlain act (right_plain cf);
    enters_over = λ E F hy ne full bg ya ea sy se. absurd (let z : Begin b ≡ Do (Enter E) = sym act ∙ ea in cc);
    enters_here = λ E hz bg full ea ce. absurd (let z : Begin b ≡ Do (Enter E) = sym act ∙ ea in cc);
  }

  -- the next event, where what belongs in a branch may come there
  pub moved_next : (R : Run) (e : Event) → Valid P (e ∷ R) → Rebuilt P R (move R)
      → ((u : ℕ × ℕ) (q : Path) → inner R e.path ≡ Branch_of u q → Side P D known R (move R) e (Branch_of u q) (u ∷ q)) → Rebuilt P (e ∷ R) (move (e ∷ R))
  moved_next R e l g side = subst (Rebuilt P (e ∷ R)) (sym (rearranged_step construct_spot e R)) (go (construct_spot R e) refl)
    where
      after_all : (q : Path) → Other R e.path e.act q → Rebuilt P (e ∷ R) (put_after (All_of q) e (move R))
      after_all q (free k) = subst (λ r. Rebuilt P (e ∷ R) (put_after (All_of r) e (move R))) (sym k)
          (rebuilt_in P D known R (move R) e (All_of []) [] l g (top_side P D known R (move R) e))
      after_all q (begin b a k d) = subst (λ r. Rebuilt P (e ∷ R) (put_after (All_of r) e (move R))) (sym k)
          (rebuilt_in P D known R (move R) e (All_of e.path) e.path l g (begin_side R (move R) e b g a d))

      go : (s : Spot) → construct_spot R e ≡ s → Rebuilt P (e ∷ R) (put_after s e (move R))
      go (Branch_of u q) k = rebuilt_in P D known R (move R) e (Branch_of u q) (u ∷ q) l g (side u q (spot_inner R e.path e.act u q k))
      go (All_of q) k = after_all q (spot_other R e.path e.act q k)

  pub nothing_moved : Rebuilt P [] (move [])
  nothing_moved = subst (Rebuilt P []) (sym (rearranged_nil construct_spot)) (rebuilt_nil P)

  pub moved : (R : Run) → Valid P R → LevelsGuarded P.rule R → Rebuilt P R (move R)
  moved [] l f = nothing_moved
  moved (e ∷ R) l f =
      let g = moved R l.1 (levels_upto (later now) f) in
      moved_next R e l g (λ u q k. branch_side P D known R (move R) e u q l g k f)

-- A run whose root has ended, moved: its blocks may be entered by a weaker rule.
use Rattle.std.proofs.Common.{◌≡◌, ℕ, suc, ◌<◌, ◌≤◌, ◌⊎◌, inl, inr, ⊎_elim, Bool, true, false, List, [], ◌∷◌, ◌++◌, length, refl, sym, ap, ◌∙◌, subst}
use Rattle.std.proofs.Common.{arith}
use Rattle.std.proofs.lemmas.Bool.{cases_order, cases_lt}
use Rattle.runs_theory.specs.Actions.{Do, Ending, Enter, Fork, Program, Rule, is_deterministic}
use Rattle.runs_theory.specs.Blocks.{In_block, Out_of, hold, hold_after, with_rule}
use Rattle.runs_theory.specs.Meaning.{Disciplined}
use Rattle.runs_theory.specs.Objects.{Effect, Path}
use Rattle.runs_theory.specs.Order.{Before, IsPlain, Passes, Unordered, across, below_join}
use Rattle.runs_theory.specs.Runs.{Begun, Ended, Event, Faithful, Run, Upto, count, later, mine, now}
use Rattle.runs_theory.specs.Standing.{CanEnter, Outside, Valid, above, first_of, joined_by, standing}
use Rattle.runs_reduction.specs.Guarded.{EntriesLet, anything}
use Rattle.runs_reduction.specs.Insertion.{All_of, Branch_of, Earlier, Spot}
use Rattle.runs_reduction.specs.Laws.{Weaker}
use Rattle.runs_reduction.specs.Moved.{AfterForks, DetFork, below, construct_spot, inner, is_det, kind_after, spot_of}
use Rattle.runs_theory.proofs.events.Upto.{upto_trans, upto_length, upto_same, upto_tail, Which, which, same_one, before, after}
use Rattle.runs_theory.proofs.events.Mine.{mine_at, mine_same, mine_upto, path_cases, Found, earlier_of, number_of, numbered, same_of}
use Rattle.runs_theory.proofs.events.Places.{Place, equal, under, over, left_of, right_of, beside, place, pair_eq}
use Rattle.runs_theory.proofs.runs.Faithful.{agree_self, branch_ended, ended_upto, faithful_upto, follows_at, ForkAt, fork_above, JoinAt, joined_before, none_after_end}
use Rattle.runs_theory.proofs.order.Between.{complete, fork_passes, plain_passes, respects_passing}
use Rattle.runs_theory.proofs.runs.Blocks.{EntryAt, entry_at}
use Rattle.runs_theory.proofs.runs.Standing.{Grows, Opener, opener_of, opener_stands, stands_outside, above_same, first_is, outside_above, outside_held, above_out, waits}
use Rattle.runs_theory.proofs.runs.Written.{faithful_of}
use Rattle.runs_theory.proofs.events.Carry.{begun_at, found_in, grows_upto}
use Rattle.runs_reduction.proofs.shifts.Under.{nil_append}
use Rattle.runs_reduction.proofs.shifts.Insertion.{admitted_at, Rebuilt, grown, grown_back}
use Rattle.runs_reduction.proofs.shifts.Overlap.{same_standing, there}
use Rattle.runs_reduction.proofs.moved.AfterForks.{there_lt}
use Rattle.runs_reduction.proofs.shifts.Rules.{disciplined_rule, follows_rule, valid_rule}
use Rattle.runs_reduction.proofs.shifts.Left.{leaves_spot, LeftAt, left_at}
use Rattle.runs_reduction.proofs.moved.Loose.{inner_same, earlier_stands}

-- levels are one or not
spot_cases : (s t : Spot) → (s ≡ t) ⊎ (s ≡ t → ⊥)
spot_cases (All_of p) (All_of q) = ⊎_elim (λ k. inl (ap All_of k)) (λ n. inr (λ k. n (cc))) (path_cases p q)
spot_cases (All_of p) (Branch_of v q) = inr (λ k. cc)
spot_cases (Branch_of u p) (All_of q) = inr (λ k. cc)
spot_cases (Branch_of u p) (Branch_of v q) = go (path_cases (u ∷ p) (v ∷ q))
  where
    go : (u ∷ p ≡ v ∷ q) ⊎ (u ∷ p ≡ v ∷ q → ⊥) → (Branch_of u p ≡ Branch_of v q) ⊎ (Branch_of u p ≡ Branch_of v q → ⊥)
    go (inl k) = inl (let a : u ≡ v = cc in let b : p ≡ q = cc in (λ i. Branch_of (a i) (b i)))
    go (inr n) = inr (λ k. (let a : u ≡ v = cc in let b : p ≡ q = cc in n (λ i. (a i) ∷ (b i))))

ended_later : {B R : Run} {p : Path} → Upto B R → (x : Ending) × Ended B p x → (x : Ending) × Ended R p x
ended_later h (x, e) = (x, ended_upto h e)

module _ (P : Program) (D : Disciplined P) where
  -- who has ended stands in no block of its own
  ended_out : {R : Run} {x : Ending} (p : Path) → Faithful P R → Ended R p x → hold (mine R p) ≡ Out_of
  ended_out {R} {x} p l h = go (cases_lt (suc (count h.before p)) (count R p))
    where
      at : Upto (h.event ∷ mine h.before p) (mine R p)
      at = mine_at p h.stands h.path

      go : (suc (count h.before p) < count R p) ⊎ (count R p ≤ suc (count h.before p)) → hold (mine R p) ≡ Out_of
      go (inl n) =
          let z = numbered R p (suc (count h.before p)) n in
          let a = none_after_end P D p l h.stands h.path h.act z.2 z.3 in
          let b = z.4 in
          absurd (omega arith)
      go (inr n) =
          let k = upto_length at in
          let s : h.event ∷ mine h.before p ≡ mine R p = upto_same at (omega arith) in
          ap hold (sym s) ∙ ap (λ a. hold_after a (hold (mine h.before p))) h.act

  -- below a branch of a construct that its task has left, each task that has made an event has ended
  ended_below : {Y W : Run} {y w : Event} (xs q : Path) (u : ℕ × ℕ) → Faithful P (y ∷ Y) → y.path ≡ q → Passes y.act → Upto (w ∷ W) Y
      → w.path ≡ xs ++ u ∷ q → (z : Ending) × Ended Y (xs ++ u ∷ q) z
  ended_below {Y} {W} {y} {w} xs q u l yq pass hw wq =
      let f : ForkAt W q u = fork_above P D xs q u l (later hw) wq in
      let fs = upto_trans f.stands (upto_tail hw) in
      let j : JoinAt P D Y q (count f.before q) (length f.tasks.tasks) =
      joined_before P D q f.tasks l (later fs) f.path f.act now yq (number_of q fs f.path) pass in
      let jb = upto_tail j.stands in
      let e = branch_ended P D q f.tasks u f.task l.1 fs f.path f.act (sym f.number) f.is_there j in
      let c = complete P D (u ∷ q) l.1 (faithful_upto P jb l.1) (record { both = λ p. inr (mine_upto p jb) }) e.1 xs W w hw wq in
      ended_later jb c

module _ (P : Program) (D : Disciplined P) (weak : Rule) (weaker : Weaker weak P.rule) (R G : Run) (l : Valid P R) (ended : (x : Ending) × Ended R [] x)
    (lets : EntriesLet weak R) (g : Rebuilt (with_rule anything P) R G) (placed : AfterForks R G) where
  abbrev Q : Program
  Q = with_rule anything P

  DQ : Disciplined Q
  DQ = disciplined_rule P anything D

  fq : Faithful Q R
  fq = faithful_of Q R (valid_rule P anything (λ F E h. refl) R l)

  lg : Faithful Q G
  lg = faithful_of Q G g.valid

  each_ended : {y : Event} {Y : Run} (p : Path) → Upto (y ∷ Y) R → y.path ≡ p → hold (mine R p) ≡ Out_of
  each_ended {y} {Y} p hy yp =
      let k : p ≡ p ++ [] = nil_append p in
      let c = complete Q DQ [] fq fq (agree_self R) ended.1 p Y y hy (yp ∙ k) in
      ended_out Q DQ p fq (subst (λ r. Ended R r c.0) (sym k) c.1)

  -- an outermost entry, while a block of another task is open in the moved run
  module _ (e : Event) (Z : Run) (E F : List Effect) (r : Path) (hz : Upto (e ∷ Z) G) (ea : e.act ≡ Do (Enter E)) (out : standing Z e.path ≡ Outside)
      (op : Opener Z r F) where
    lz : Faithful Q (e ∷ Z)
    lz = faithful_upto Q hz lg

    grows : Grows Z R
    grows = grows_upto (upto_tail hz) (grown g)

    pass : Passes e.act
    pass = plain_passes Q DQ e.act (subst IsPlain (sym ea) tt)

    er : Found R e.path e (mine Z e.path)
    er = there Q fq g hz

    out_e : standing er.before e.path ≡ Outside
    out_e = sym (same_standing Q fq g hz er) ∙ out

    a : EntryAt Z r F
    a = entry_at Z r op.depth F op.held

    a_stands : Upto (a.event ∷ a.before) G
    a_stands = upto_trans a.stands (upto_tail hz)

    ar : Found R r a.event (mine a.before r)
    ar = found_in r (grown g) a_stands a.path

    above_r : above R r ≡ Outside
    above_r = (let b = begun_at Q r lz.1 a.stands a.path in sym (above_same Q lz.1 grows r b.1) ∙ op.outside)

    -- where the block's opener stands outside, before and after
    above_at : (S : Run) → Upto S R → Upto (a.event ∷ ar.before) S → above S r ≡ Outside
    above_at S hs h =
        let ls = faithful_upto Q hs fq in
        let b = begun_at Q r ls h a.path in
        above_same Q ls (record { each = λ p. mine_upto p hs }) r b.1 ∙ above_r

    out_a : standing ar.before r ≡ Outside
    out_a =
        let hb = upto_tail ar.stands in
        let al = follows_at Q ar.stands fq in
        let b : Begun Q ar.before r al.task = subst (λ p. Begun Q ar.before p al.task) a.path al.begun in
        stands_outside ar.before r (above_same Q (faithful_upto Q hb fq) (record { each = λ p. mine_upto p hb }) r b ∙ above_r)
        (ap hold ar.mine_is ∙ a.outside)

    differ : r ≡ e.path → ⊥
    differ k =
        let c = outside_held e.path (hold (mine Z e.path)) (ap (λ s. joined_by s e.path (hold (mine Z e.path))) (sym (outside_above _ _ _ out)) ∙ out) in
        let z : In_block op.depth F ≡ Out_of = sym op.held ∙ ap (λ p. hold (mine Z p)) k ∙ c in
        absurd (cc)

    -- in the moved run the entry does not stand before the block
    not_before : Earlier G e.path (count er.before e.path) a.event.path (count ar.before a.event.path) → ⊥
    not_before k =
        let i : Upto (e ∷ Z) k.before = earlier_stands k hz refl (sym (ap length er.mine_is)) in
        let s = same_of a.event.path k.stands a_stands k.path refl (k.number ∙ at_a) in
        let b = upto_length i in
        let c = upto_length a.stands in
        let d = ap length s.1 in
        absurd (omega arith)
      where
        at_a : count ar.before a.event.path ≡ count a.before a.event.path
        at_a = ap (count ar.before) a.path ∙ ap length ar.mine_is ∙ sym (ap (count a.before) a.path)

    -- nor after the end of it
    not_after : (x : LeftAt R r ar.before) → Earlier G x.event.path (count x.before x.event.path) e.path (count er.before e.path) → ⊥
    not_after x k =
        let xg : Found G r x.event (mine x.before r) = found_in r (grown_back g) x.stands x.path in
        let n : count xg.before x.event.path ≡ count x.before x.event.path =
        ap (count xg.before) x.path ∙ ap length xg.mine_is ∙ sym (ap (count x.before) x.path) in
        let i : Upto (x.event ∷ xg.before) k.before = earlier_stands k xg.stands refl n in
        let s = same_of e.path k.stands hz k.path refl (k.number ∙ ap length er.mine_is) in
        let j : Upto (x.event ∷ xg.before) Z = subst (λ B. Upto (x.event ∷ xg.before) B) s.1 i in
        let since = x.since in
        let am = ap length ar.mine_is in
        let xm = ap length xg.mine_is in
        let h : Upto (a.event ∷ a.before) xg.before = earlier_of r a.stands j a.path xg.path (omega (arith, since, am, xm)) in
        let m = a.open_since (x.event ∷ xg.before) j (later h) in
        let z : Out_of ≡ In_block m.0 F =
        sym x.shut ∙ ap (λ es. hold (x.event ∷ es)) (sym xg.mine_is) ∙ ap hold (sym (mine_same x.event xg.before r xg.path)) ∙ m.1 in
        absurd (cc)

    at_outside : hold (mine ar.before r) ≡ Out_of
    at_outside = ap hold ar.mine_is ∙ a.outside

    -- the block was left
    was_left : LeftAt R r ar.before
    was_left = go (left_at r F ar.stands a.path at_outside a.act)
      where
        go : ((n : ℕ) × (hold (mine R r) ≡ In_block n F)) ⊎ LeftAt R r ar.before → LeftAt R r ar.before
        go (inr x) = x
        go (inl m) = absurd (let z : Out_of ≡ In_block m.0 F = sym (each_ended r ar.stands a.path) ∙ m.1 in cc)

    -- blocks of one level were open at once in the run too, or not in the moved run
    one_level : inner ar.before a.event.path ≡ inner er.before e.path → weak F E ≡ true
    one_level k = go (which ar.stands er.stands)
      where
        sa : construct_spot ar.before a.event ≡ inner ar.before a.event.path
        sa = ap (spot_of ar.before a.event.path) a.act

        se : construct_spot er.before e ≡ inner er.before e.path
        se = ap (spot_of er.before e.path) ea

        open_there : Upto (a.event ∷ ar.before) er.before → (n : ℕ) × (hold (mine er.before r) ≡ In_block n F) → weak F E ≡ true
        open_there h m =
            let c : CanEnter P.rule er.before e.path E = (let ad = admitted_at P er.stands l in ad.enters E ea) in
            weaker F E (c.clear out_e r F (opener_stands er.before r F m.0 (above_at er.before (upto_tail er.stands) h) m.1))

        left_there : Upto (a.event ∷ ar.before) er.before → LeftAt er.before r ar.before → weak F E ≡ true
        left_there h x =
            let xr = upto_trans x.stands (upto_tail er.stands) in
            let lx : LeftAt R r ar.before =
            record { event = x.event; before = x.before; stands = xr; path = x.path; since = x.since; shut = x.shut; leaves = x.leaves } in
            let since = x.since in
            let ax : Upto (a.event ∷ ar.before) x.before = earlier_of r h x.stands a.path x.path since in
            let hx = upto_tail ar.stands in
            let b = follows_at Q ar.stands fq in
            let s : inner ar.before a.event.path ≡ inner x.before a.event.path =
            inner_same Q (faithful_upto Q hx fq) (record { each = λ p. mine_upto p (upto_tail ax) }) a.event.path b.begun in
            let sx : construct_spot x.before x.event ≡ construct_spot er.before e =
            leaves_spot x.before x.event.path x.event.act x.leaves ∙ ap (inner x.before) (x.path ∙ sym a.path) ∙ sym s ∙ k ∙ sym se in
            absurd (not_after lx (placed.kept x.before er.before x.event e x.stands er.stands sx))

        go : Which a.event ar.before e er.before → weak F E ≡ true
        go (same_one x y) = absurd (differ (sym a.path ∙ ap (λ v. v.path) x))
        go (after h) = absurd (not_before (placed.kept er.before ar.before e a.event h ar.stands (se ∙ sym k ∙ sym sa)))
        go (before h) = ⊎_elim (open_there h) (left_there h) (left_at r F h a.path at_outside a.act)

    module _ (n : Unordered r e.path) where
      -- blocks of two branches of a deterministic construct come one after the other
      module _ (det : is_det (first_of (suc n.u.0) (mine R n.above)) ≡ true) where
        abbrev fa : ForkAt ar.before n.above n.u
        fa = fork_above Q DQ n.below_p n.above n.u fq ar.stands (a.path ∙ n.p_is)

        fe : ForkAt er.before n.above n.v
        fe = fork_above Q DQ n.below_q n.above n.v fq er.stands n.q_is

        fa_stands : Upto (fa.event ∷ fa.before) R
        fa_stands = upto_trans fa.stands (upto_tail ar.stands)

        kind : is_deterministic fa.tasks.kind ≡ true
        kind =
            let i : suc (length (mine fa.before n.above)) ≡ suc n.u.0 = ap suc fa.number in
            let m : first_of (suc n.u.0) (mine R n.above) ≡ fa.event ∷ mine fa.before n.above =
            subst (λ k. first_of k (mine R n.above) ≡ fa.event ∷ mine fa.before n.above) i (first_is (mine_at n.above fa_stands fa.path)) in
            sym (ap (λ c. kind_after c (is_det (mine fa.before n.above))) fa.act) ∙ ap is_det (sym m) ∙ det

        abbrev d : DetFork R n.above n.u.0
        d = record {
          before = fa.before;
          event = fa.event;
          stands = fa_stands;
          path = fa.path;
          number = fa.number;
          branches = fa.tasks;
          act = fa.act;
          det = kind;
        }

        few_u : n.u.1 < length fa.tasks.tasks
        few_u = there_lt fa.tasks.tasks n.u.1 fa.task fa.is_there

        few_v : n.v.1 < length fa.tasks.tasks
        few_v =
            let s = same_of n.above fa_stands (upto_trans fe.stands (upto_tail er.stands)) fa.path fe.path (fa.number ∙ n.one_fork ∙ sym fe.number) in
            let k : Fork fa.tasks ≡ Fork fe.tasks = sym fa.act ∙ ap (λ v. v.act) s.0 ∙ fe.act in
            let t : fe.tasks ≡ fa.tasks = cc in
            subst (λ b. n.v.1 < length b.tasks) t (there_lt fe.tasks.tasks n.v.1 fe.task fe.is_there)

        e_below : e.path ≡ n.below_q ++ (n.u.0, n.v.1) ∷ n.above
        e_below = n.q_is ∙ ap (λ w. n.below_q ++ w ∷ n.above) (pair_eq n.v (n.u.0, n.v.1) (sym n.one_fork) refl)

        a_below : {p : Path} → p ≡ r → p ≡ n.below_p ++ (n.u.0, n.u.1) ∷ n.above
        a_below k = k ∙ n.p_is ∙ ap (λ w. n.below_p ++ w ∷ n.above) (pair_eq n.u (n.u.0, n.u.1) refl refl)

        in_turn : weak F E ≡ true
        in_turn = go (cases_order n.u.1 n.v.1)
          where
            go : (n.u.1 ≡ n.v.1) ⊎ ((n.u.1 < n.v.1) ⊎ (n.v.1 < n.u.1)) → weak F E ≡ true
            go (inl k) = absurd (n.apart k)
            go (inr (inl k)) =
                let x = was_left in
                absurd (not_after x (placed.in_turn n.above n.u.0 n.u.1 n.v.1 d x.before er.before x.event e x.stands er.stands k few_v
                (below n.below_p (a_below x.path)) (below n.below_q e_below)))
            go (inr (inr k)) =
                absurd (not_before (placed.in_turn n.above n.u.0 n.v.1 n.u.1 d er.before ar.before e a.event er.stands ar.stands k few_u
                (below n.below_q e_below) (below n.below_p (a_below a.path))))

      other_level : is_det (first_of (suc n.u.0) (mine R n.above)) ≡ false → (inner ar.before a.event.path ≡ inner er.before e.path → ⊥) → weak F E ≡ true
      other_level nd ne = go (which ar.stands er.stands)
        where
          out_there : standing ar.before a.event.path ≡ Outside
          out_there = subst (λ p. standing ar.before p ≡ Outside) (sym a.path) out_a

          there_on : Unordered a.event.path e.path
          there_on = record {
            below_p = n.below_p;
            below_q = n.below_q;
            above = n.above;
            u = n.u;
            v = n.v;
            one_fork = n.one_fork;
            apart = n.apart;
            p_is = a.path ∙ n.p_is;
            q_is = n.q_is;
          }

          here_on : Unordered e.path a.event.path
          here_on = record {
            below_p = n.below_q;
            below_q = n.below_p;
            above = n.above;
            u = n.v;
            v = n.u;
            one_fork = sym n.one_fork;
            apart = λ k. n.apart (sym k);
            p_is = n.q_is;
            q_is = a.path ∙ n.p_is;
          }

          go : Which a.event ar.before e er.before → weak F E ≡ true
          go (same_one x y) = absurd (differ (sym a.path ∙ ap (λ v. v.path) x))
          go (before h) = (let b = lets.each er.before ar.before e a.event F E er.stands h there_on nd a.act ea out_there out_e ne in b.0)
          go (after h) =
              let nd2 = ap (λ k. is_det (first_of (suc k) (mine R n.above))) (sym n.one_fork) ∙ nd in
              let b = lets.each ar.before er.before a.event e E F ar.stands h here_on nd2 ea a.act out_e out_there (λ k. ne (sym k)) in
              b.1

      beside_it : weak F E ≡ true
      beside_it = by_kind (is_det (first_of (suc n.u.0) (mine R n.above))) refl
        where
          by_kind : (b : Bool) → is_det (first_of (suc n.u.0) (mine R n.above)) ≡ b → weak F E ≡ true
          by_kind true k = in_turn k
          by_kind false k = ⊎_elim one_level (other_level k) (spot_cases (inner ar.before a.event.path) (inner er.before e.path))

    -- tasks that are not beside each other
    below_entry : (xs : Path) (x : ℕ × ℕ) → r ≡ xs ++ x ∷ e.path → ⊥
    below_entry xs x k =
        let c = ended_below Q DQ xs e.path x lz refl pass a.stands (a.path ∙ k) in
        let h = ended_out Q DQ r lz.1 (subst (λ p. Ended Z p c.0) (sym k) c.1) in
        absurd (let z : Out_of ≡ In_block op.depth F = sym h ∙ op.held in cc)

    above_entry : (xs : Path) (x : ℕ × ℕ) → e.path ≡ xs ++ x ∷ r → ⊥
    above_entry xs x k =
        let c = waits Q DQ xs r x lz k in
        let d = above_out Z xs r x (subst (λ p. above Z p ≡ Outside) k (outside_above _ _ _ out)) in
        absurd (let z : Out_of ≡ In_block op.depth F = sym d ∙ sym c ∙ op.held in cc)

    before_entry : (xs ys s : Path) (x z : ℕ × ℕ) → r ≡ xs ++ x ∷ s → e.path ≡ ys ++ z ∷ s → x.0 < z.0 → ⊥
    before_entry xs ys s x z k m n =
        let f : ForkAt Z s z = fork_above Q DQ ys s z lz now m in
        let fp = fork_passes Q DQ f.event.act f.tasks f.act in
        let lt = f.number in
        let at : Before a.event.path (count a.before a.event.path) f.event.path (count f.before f.event.path) =
        below_join xs x (a.path ∙ k ∙ ap (λ p. xs ++ x ∷ p) (sym f.path)) (subst (λ p. x.0 < count f.before p) (sym f.path) (omega (arith, n, lt))) in
        let h = respects_passing Q DQ lz.1 a.stands f.stands fp at in
        let c = ended_below Q DQ xs s x (faithful_upto Q f.stands lz.1) f.path fp h (a.path ∙ k) in
        let o = ended_out Q DQ r lz.1 (subst (λ p. Ended Z p c.0) (sym k) (ended_upto (upto_tail f.stands) c.1)) in
        absurd (let w : Out_of ≡ In_block op.depth F = sym o ∙ op.held in cc)

    after_entry : (xs ys s : Path) (x z : ℕ × ℕ) → r ≡ xs ++ x ∷ s → e.path ≡ ys ++ z ∷ s → z.0 < x.0 → ⊥
    after_entry xs ys s x z k m n =
        let c = respects_passing Q DQ lz now (later a.stands) (plain_passes Q DQ a.event.act (subst IsPlain (sym a.act) tt))
        (across ys xs s z x m (a.path ∙ k) n) in
        let i = upto_length c in
        let j = upto_length a.stands in
        absurd (omega arith)

    lets_by : weak F E ≡ true
    lets_by = go (place r e.path)
      where
        go : Place r e.path → weak F E ≡ true
        go (equal k) = absurd (differ k)
        go (under xs x k) = absurd (below_entry xs x k)
        go (over xs x k) = absurd (above_entry xs x k)
        go (left_of xs ys s x z k m n) = absurd (before_entry xs ys s x z k m n)
        go (right_of xs ys s x z k m n) = absurd (after_entry xs ys s x z k m n)
        go (beside n) = beside_it n

  -- so each event may come where it stands
  valid_part : (Z : Run) → Upto Z G → Valid (with_rule weak P) Z
  valid_part [] h = tt
  valid_part (e ∷ Z) h = (
    record {
      follows = (let f = follows_at Q h lg in follows_rule Q weak Z e f);
      enters = λ E ea. record { clear = λ out r F i. lets_by e Z E F r h ea out (opener_of Z r F i) };
    },
    valid_part Z (upto_tail h),
  )

  pub by_weaker : Rebuilt (with_rule weak P) R G
  by_weaker = record { valid = valid_part G now; same = g.same; lasts = g.lasts }

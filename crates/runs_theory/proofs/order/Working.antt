-- The task at work in the order of elision: what holds of it after each of its events, and that no entry of it waits.
use Rattle.std.proofs.Common.{◌≡◌, ℕ, suc, ◌+◌, ◌-◌, ◌≤◌, ◌⊎◌, inl, inr, ⊎_elim, List, [], ◌∷◌, ◌++◌, length, refl, sym, ap, ◌∙◌, subst, arith, Some}
use Rattle.std.proofs.Common.{slice_get, append_assoc}
use Rattle.std.proofs.lemmas.Option.{slice_get_within}
use Rattle.runs_theory.specs.Actions.{Begin, Branches, End, Ending, Fork, Program, Task}
use Rattle.runs_theory.specs.Blocks.{Allowed, In_block, Legal, Out_of, hold, hold_after}
use Rattle.runs_theory.specs.Meaning.{Disciplined}
use Rattle.runs_theory.specs.Objects.{Effect, Path}
use Rattle.runs_theory.specs.Order.{Agree, InOrder, Lex, level_with, lower, position, shorter, way}
use Rattle.runs_theory.specs.Runs.{Begun, Ended, Event, Faithful, Run, Upto, branch, count, later, mine, now, root}
use Rattle.runs_theory.specs.Schedules.{Greatest, Numbered}
use Rattle.runs_theory.specs.Standing.{CanEnter, Inside, Outside, above, first_of, standing}
use Rattle.runs_theory.proofs.events.Upto.{upto_trans, upto_length, upto_split, upto_none, upto_tail}
use Rattle.runs_theory.proofs.events.Mine.{mine_same, mine_other, mine_step, mine_at, found, number_of, same_of}
use Rattle.runs_theory.proofs.events.Places.{pair_eq, not_below_self}
use Rattle.runs_theory.proofs.runs.Faithful.{begun_upto, ended_upto, none_after_end, fork_above, begin_after, ForkAt}
use Rattle.runs_theory.proofs.order.Between.{complete}
use Rattle.runs_theory.proofs.runs.Standing.{Opener, opener_of, first_is, hold_since, outside_above, above_out, begun_fork}
use Rattle.runs_theory.proofs.runs.Written.{legal_faithful}
use Rattle.runs_theory.proofs.events.Carry.{has_event, begun_held}
use Rattle.runs_theory.proofs.events.Numbers.{number_below, number_same, same_begin}
use Rattle.runs_theory.proofs.order.Sorted.{lex_trans}
use Rattle.runs_theory.proofs.order.Sorting.{AllBefore, before_nil, before_more, order_more, lex_snoc}

-- from one number of a task to the next, into a branch, and out of it to what follows its begin
next_number : (p : Path) (k : ℕ) → Lex (position p k) (position p (suc k))
next_number p k = lex_snoc (way p) k (suc k) (omega arith)

lex_append : (zs : List ℕ) {xs ys : List ℕ} → Lex xs ys → Lex (zs ++ xs) (zs ++ ys)
lex_append [] h = h
lex_append (z ∷ zs) h = level_with (lex_append zs h)

child_way : (p : Path) (i b k : ℕ) → position ((i, b) ∷ p) k ≡ way p ++ suc (i + b) ∷ k ∷ []
child_way p i b k = append_assoc (way p) (suc (i + b) ∷ []) (k ∷ [])

into_branch : (p : Path) (i b : ℕ) → Lex (position p (suc (i + b))) (position ((i, b) ∷ p) 0)
into_branch p i b = subst (Lex (position p (suc (i + b)))) (sym (child_way p i b 0)) (lex_append (way p) (level_with shorter))

out_of_branch : (p : Path) (i b k : ℕ) → Lex (position ((i, b) ∷ p) k) (position p (suc (suc (i + b))))
out_of_branch p i b k = subst (λ l. Lex l (position p (suc (suc (i + b))))) (sym (child_way p i b k)) (lex_append (way p) (lower (omega arith)))

before_on : {R : Run} {l m : List ℕ} → AllBefore R l → Lex l m → AllBefore R m
before_on a h = record { each = λ x X u. lex_trans (a.each x X u) h }

-- what a task that has begun is about while w is at work: it has ended, or is w, or stands above it
pub data Held (R : Run) (w p : Path) : Type 0 where
  has_ended : (x : Ending) → Ended R p x → Held R w p
  at_work : p ≡ w → Held R w p
  waits : (xs : Path) (u : ℕ × ℕ) → w ≡ xs ++ u ∷ p → Held R w p

-- the task at work: all events stand before its next one, and each task above it has made no more than the begin on the way to it
pub record Working (P : Program) (R : Run) (w : Path) : Type 0 where
  pub task : Task
  pub begun : Begun P R w task
  pub live : (x : Ending) → Ended R w x → ⊥
  pub front : AllBefore R (position w (count R w))
  pub held : (p : Path) (t : Task) → Begun P R p t → Held R w p
  pub way_to : (xs a : Path) (u : ℕ × ℕ) → w ≡ xs ++ u ∷ a → count R a ≡ suc (suc (u.0 + u.1))

-- an event that begins nothing leaves what has begun
pub begun_before : (P : Program) (R : Run) (e : Event) (p : Path) (t : Task) → ((b : ℕ) → e.act ≡ Begin b → ⊥) → Begun P (e ∷ R) p t → Begun P R p t
begun_before P R e p t n (root a b) = root a b
begun_before P R e p t n (branch q u F f ts B g a hf fq fn fa there hg gq ga gn) = go (upto_split hg) (upto_split hf)
  where
    go : ((g ≡ e) × (B ≡ R)) ⊎ Upto (g ∷ B) R → ((f ≡ e) × (F ≡ R)) ⊎ Upto (f ∷ F) R → Begun P R p t
    go (inl y) z = absurd (n u.1 (ap (λ w. w.act) (sym y.0) ∙ ga))
    go (inr y) (inl z) = absurd (let a = number_of q y gq in let c = ap (λ Z. count Z q) z.1 in omega arith)
    go (inr y) (inr z) = branch q u F f ts B g a z fq fn fa there y gq ga gn

no_events : (L : Run) → ((y : Event) (Y : Run) → L ≡ y ∷ Y → ⊥) → L ≡ []
no_events [] h = refl
no_events (y ∷ Y) h = absurd (h y Y refl)

module _ (P : Program) (D : Disciplined P) where
  -- a task that has ended holds no block
  ended_out : {R : Run} → Faithful P R → (q : Path) (n : ℕ) (F : List Effect) → hold (mine R q) ≡ In_block n F → (x : Ending) → Ended R q x → ⊥
  ended_out {R} l q n F h x g =
      let y = has_event (mine R q) n F h in
      let f = found R q (subst (λ m. Upto (y.0 ∷ y.1) m) (sym y.2) now) in
      let a = none_after_end P D q l g.stands g.path g.act f.stands f.path in
      let b = number_of q g.stands g.path in
      let c = ap length y.2 in
      let d = ap length f.mine_is in
      let o = same_of q g.stands f.stands g.path f.path (omega arith) in
      let ya : y.0.act ≡ End x = ap (λ z. z.act) (sym o.0) ∙ g.act in
      let z : Out_of ≡ In_block n F = sym (ap (λ c. hold_after c (hold y.1)) ya) ∙ sym (ap hold y.2) ∙ h in
      absurd (cc)

  -- a branch that hasn't been begun has made nothing
  pub not_begun : (R : Run) (w : Path) (i b : ℕ) → Faithful P R → count R w ≡ suc (i + b) → mine R ((i, b) ∷ w) ≡ []
  not_begun R w i b l number = no_events (mine R ((i, b) ∷ w)) nothing
    where
      nothing : (y : Event) (Y : Run) → mine R ((i, b) ∷ w) ≡ y ∷ Y → ⊥
      nothing y Y e =
          let f = found R ((i, b) ∷ w) (subst (λ m. Upto (y ∷ Y) m) (sym e) now) in
          let g = fork_above P D [] w (i, b) l f.stands f.path in
          let m = number_of w (upto_trans g.begin_stands (upto_tail f.stands)) g.begin_path in
          let n = g.begin_number in
          omega (arith, number, m, n)

  module _ {R : Run} (l : Legal P R) {w : Path} (k : Working P R w) where
    lf : Faithful P R
    lf = legal_faithful P R l

    -- what a task above stands in, it stood in at the fork
    same_hold : (xs q : Path) (u : ℕ × ℕ) → w ≡ xs ++ u ∷ q → hold (mine R q) ≡ hold (first_of u.0 (mine R q))
    same_hold xs q u e = hold_since since begins ∙ ap (λ c. hold_after c (hold (mine f.before q))) f.act ∙ ap hold (sym firsts)
      where
        f : ForkAt R q u
        f = begun_fork P D xs w q u lf k.begun e

        since : Upto (f.event ∷ mine f.before q) (mine R q)
        since = mine_at q f.stands f.path

        firsts : first_of u.0 (mine R q) ≡ mine f.before q
        firsts = subst (λ n. first_of n (mine R q) ≡ mine f.before q) f.number (first_is (upto_tail since))

        begins : (X : Run) (x : Event) → Upto (x ∷ X) (mine R q) → length (f.event ∷ mine f.before q) ≤ length X → (b : ℕ) × (x.act ≡ Begin b)
        begins X x h m =
            let v = found R q h in
            let vn = ap length v.mine_is in
            let s = upto_length h in
            let n = k.way_to xs q u e in
            let fn = f.number in
            let in_them = slice_get_within f.tasks.tasks u.1 f.task f.is_there in (
              count v.before q - suc u.0,
              begin_after P D q f.tasks (count v.before q - suc u.0) lf f.stands f.path f.act v.stands v.path
                  (omega (arith, vn, m, fn)) (omega (arith, vn, s, n, in_them)),
            )

    -- so no entry of the task at work has to wait
    pub may : (E : List Effect) → CanEnter P.rule R w E
    may E = record { clear = λ s q F h. absurd (at s q F h (opener_of R q F h)) }
      where
        at : standing R w ≡ Outside → (q : Path) (F : List Effect) → standing R q ≡ Inside q F → Opener R q F → ⊥
        at s q F h o = go (k.held q b.0 b.1)
          where
            b : (t : Task) × Begun P R q t
            b = begun_held P R q o.depth F lf o.held

            go : Held R w q → ⊥
            go (has_ended x g) = ended_out lf q o.depth F o.held x g
            go (at_work e) = let z : Inside q F ≡ Outside = sym h ∙ ap (λ r. standing R r) e ∙ s in cc
            go (waits xs u e) =
                let out : above R (xs ++ u ∷ q) ≡ Outside = ap (λ r. above R r) (sym e) ∙ outside_above (above R w) w (hold (mine R w)) s in
                let z : Out_of ≡ In_block o.depth F = sym (above_out R xs q u out) ∙ sym (same_hold xs q u e) ∙ o.held in
                cc

    -- and its event is that of the greatest number
    pub greatest_now : (e : Event) → e.path ≡ w → Greatest P R e
    greatest_now e own = record { none = none_greater }
      where
        none_greater : (f : Event) (j n : ℕ) → Allowed P R f → Numbered R j f.path → Numbered R n e.path → j ≤ n
        none_greater f j n a nf ne = go (k.held f.path a.follows.task a.follows.begun)
          where
            nw : Numbered R n w
            nw = subst (λ p. Numbered R n p) own ne

            go : Held R w f.path → j ≤ n
            go (at_work q) = let h = number_same nf (subst (λ p. Numbered R n p) (sym q) nw) in omega arith
            go (has_ended x h) =
                let fl : Faithful P (f ∷ R) = (a.follows, lf) in
                let i = none_after_end P D f.path fl (later h.stands) h.path h.act now refl in
                let c = number_of f.path h.stands h.path in
                absurd (omega arith)
            go (waits xs u q) = let b = number_below P xs f.path u n lf (subst (λ p. Numbered R n p) q nw) nf in omega arith

  -- one event of the task at work
  module _ {R : Run} {e : Event} (l : Legal P (e ∷ R)) {w : Path} (k : Working P R w) (own : e.path ≡ w) where
    fl : Faithful P (e ∷ R)
    fl = legal_faithful P (e ∷ R) l

    not_own : (xs a : Path) (u : ℕ × ℕ) → w ≡ xs ++ u ∷ a → e.path ≡ a → ⊥
    not_own xs a u h g = not_below_self a xs u (sym g ∙ own ∙ h)

    others : (xs a : Path) (u : ℕ × ℕ) → w ≡ xs ++ u ∷ a → count (e ∷ R) a ≡ suc (suc (u.0 + u.1))
    others xs a u h = ap length (mine_other e R a (not_own xs a u h)) ∙ k.way_to xs a u h

    own_count : count (e ∷ R) w ≡ suc (count R w)
    own_count = ap length (mine_same e R w own)

    at_front : Lex (position e.path (count R e.path)) (position w (suc (count R w)))
    at_front = subst (λ p. Lex (position p (count R p)) (position w (suc (count R w)))) (sym own) (next_number w (count R w))

    front_now : AllBefore (e ∷ R) (position w (suc (count R w)))
    front_now = before_more e (before_on k.front (next_number w (count R w))) at_front

    -- an end in the longer run is this event or stands before it
    end_cases : (p : Path) (x : Ending) → Ended (e ∷ R) p x → ((e.path ≡ p) × (e.act ≡ End x)) ⊎ Ended R p x
    end_cases p x g = go (upto_split g.stands)
      where
        go : ((g.event ≡ e) × (g.before ≡ R)) ⊎ Upto (g.event ∷ g.before) R → ((e.path ≡ p) × (e.act ≡ End x)) ⊎ Ended R p x
        go (inl y) = inl (ap (λ z. z.path) (sym y.0) ∙ g.path, ap (λ z. z.act) (sym y.0) ∙ g.act)
        go (inr y) = inr (record { before = g.before; event = g.event; stands = y; path = g.path; act = g.act })

    older : {p : Path} → Held R w p → Held (e ∷ R) w p
    older (has_ended x g) = has_ended x (ended_upto (later now) g)
    older (at_work q) = at_work q
    older (waits xs u q) = waits xs u q

    -- it goes on
    pub stays : ((x : Ending) → e.act ≡ End x → ⊥) → ((b : ℕ) → e.act ≡ Begin b → ⊥) → Working P (e ∷ R) w
    stays no_end no_begin = record {
      task = k.task;
      begun = begun_upto (later now) k.begun;
      live = λ x g. ⊎_elim (λ y. no_end x y.1) (λ y. k.live x y) (end_cases w x g);
      front = subst (λ n. AllBefore (e ∷ R) (position w n)) (sym own_count) front_now;
      held = λ p t b. older (k.held p t (begun_before P R e p t no_begin b));
      way_to = others;
    }

    -- it ends
    pub goes_up : (x : Ending) → e.act ≡ End x → (q : Path) (u : ℕ × ℕ) → w ≡ u ∷ q → (t : Task) → Begun P R q t → Working P (e ∷ R) q
    goes_up x act q u wq t b = record {
      task = t;
      begun = begun_upto (later now) b;
      live = live;
      front = subst (λ n. AllBefore (e ∷ R) (position q n)) (sym count_q) (before_more e (before_on k.front up) at_e);
      held = λ p s c. held p (k.held p s (begun_before P R e p s no_begin c));
      way_to = λ xs a v h. others (u ∷ xs) a v (wq ∙ ap (λ z. u ∷ z) h);
    }
      where
        no_begin : (b : ℕ) → e.act ≡ Begin b → ⊥
        no_begin b h = let z : End x ≡ Begin b = sym act ∙ h in cc

        count_q : count (e ∷ R) q ≡ suc (suc (u.0 + u.1))
        count_q = others [] q u wq

        up : Lex (position w (count R w)) (position q (suc (suc (u.0 + u.1))))
        up = subst (λ p. Lex (position p (count R w)) (position q (suc (suc (u.0 + u.1))))) (sym wq) (out_of_branch q u.0 u.1 (count R w))

        at_e : Lex (position e.path (count R e.path)) (position q (suc (suc (u.0 + u.1))))
        at_e = subst (λ p. Lex (position p (count R p)) (position q (suc (suc (u.0 + u.1))))) (sym own) up

        agrees : Agree (e ∷ R) R
        agrees = record { both = λ p. inr (mine_step e R p) }

        live : (y : Ending) → Ended (e ∷ R) q y → ⊥
        live y g = ⊎_elim (λ z. not_own [] q u wq z.0) (λ h. dead h) (end_cases q y g)
          where
            dead : Ended R q y → ⊥
            dead h =
                let c = complete P D q fl fl.1 agrees h (u ∷ []) R e now (own ∙ wq) in
                k.live c.0 (subst (λ p. Ended R p c.0) (sym wq) c.1)

        held : (p : Path) → Held R w p → Held (e ∷ R) q p
        held p (has_ended y g) = has_ended y (ended_upto (later now) g)
        held p (at_work h) = has_ended x (record { before = R; event = e; stands = now; path = own ∙ sym h; act = act })
        held p (waits [] v h) = let z : u ∷ q ≡ v ∷ p = sym wq ∙ h in let m : q ≡ p = cc in at_work (sym m)
        held p (waits (y ∷ ys) v h) = let z : u ∷ q ≡ y ∷ (ys ++ v ∷ p) = sym wq ∙ h in let m : q ≡ ys ++ v ∷ p = cc in waits ys v m

    -- it begins a branch of this fork
    pub goes_into : (b : ℕ) → e.act ≡ Begin b → (F : Run) (f : Event) (ts : Branches) (s : Task) → Upto (f ∷ F) R → f.path ≡ w → f.act ≡ Fork ts
        → slice_get ts.tasks b ≡ Some s → (i : ℕ) → count F w ≡ i → count R w ≡ suc (i + b) → Working P (e ∷ R) ((i, b) ∷ w)
    goes_into b act F f ts s fs fq fa there i fn number =
        record { task = s; begun = begun; live = live; front = front; held = held; way_to = way_to }
      where
        begun : Begun P (e ∷ R) ((i, b) ∷ w) s
        begun = branch w (i, b) F f ts R e refl (later fs) fq fn fa there now own act number

        none_before : mine R ((i, b) ∷ w) ≡ []
        none_before = not_begun R w i b fl.1 number

        count_none : count (e ∷ R) ((i, b) ∷ w) ≡ 0
        count_none = ap length (mine_other e R ((i, b) ∷ w) (λ h. not_below_self w [] (i, b) (sym own ∙ h)) ∙ none_before)

        live : (x : Ending) → Ended (e ∷ R) ((i, b) ∷ w) x → ⊥
        live x g = ⊎_elim (λ y. (let c : End x ≡ Begin b = sym y.1 ∙ act in cc))
            (λ y. (let n = number_of ((i, b) ∷ w) y.stands y.path in let m = ap length none_before in omega arith)) (end_cases ((i, b) ∷ w) x g)

        step : Lex (position w (count R w)) (position ((i, b) ∷ w) 0)
        step = subst (λ n. Lex (position w n) (position ((i, b) ∷ w) 0)) (sym number) (into_branch w i b)

        front : AllBefore (e ∷ R) (position ((i, b) ∷ w) (count (e ∷ R) ((i, b) ∷ w)))
        front = subst (λ n. AllBefore (e ∷ R) (position ((i, b) ∷ w) n)) (sym count_none)
            (before_more e (before_on k.front step) (subst (λ p. Lex (position p (count R p)) (position ((i, b) ∷ w) 0)) (sym own) step))

        below : (p : Path) → Held R w p → Held (e ∷ R) ((i, b) ∷ w) p
        below p (has_ended x g) = has_ended x (ended_upto (later now) g)
        below p (at_work h) = waits [] (i, b) (ap (λ q. (i, b) ∷ q) (sym h))
        below p (waits xs u h) = waits ((i, b) ∷ xs) u (ap (λ q. (i, b) ∷ q) h)

        held : (p : Path) (t : Task) → Begun P (e ∷ R) p t → Held (e ∷ R) ((i, b) ∷ w) p
        held p t (root a c) = below p (k.held p t (root a c))
        held p t (branch q u G g us B h a g1 g2 g3 g4 g5 h1 h2 h3 h4) = go (upto_split h1) (upto_split g1)
          where
            go : ((h ≡ e) × (B ≡ R)) ⊎ Upto (h ∷ B) R → ((g ≡ e) × (G ≡ R)) ⊎ Upto (g ∷ G) R → Held (e ∷ R) ((i, b) ∷ w) p
            go (inl y) z =
                let qw : q ≡ w = sym h2 ∙ ap (λ v. v.path) y.0 ∙ own in
                let ub : u.1 ≡ b = same_begin u.1 b (sym h3 ∙ ap (λ v. v.act) y.0 ∙ act) in
                let n : count R w ≡ suc (u.0 + u.1) = (λ z. count (sym y.1 z) (sym qw z)) ∙ h4 in
                let ui : u.0 ≡ i = omega (arith, n, number, ub) in
                at_work (a ∙ (λ z. pair_eq u (i, b) ui ub z ∷ qw z))
            go (inr y) (inl z) = absurd (let n = number_of q y h2 in let c = ap (λ Z. count Z q) z.1 in omega arith)
            go (inr y) (inr z) = below p (k.held p t (branch q u G g us B h a z g2 g3 g4 g5 y h2 h3 h4))

        way_to : (xs a : Path) (u : ℕ × ℕ) → (i, b) ∷ w ≡ xs ++ u ∷ a → count (e ∷ R) a ≡ suc (suc (u.0 + u.1))
        way_to [] a u h =
            let ub : (i, b) ≡ u = cc in
            let wa : w ≡ a = cc in
            let n0 = ap (λ (v : ℕ × ℕ). v.0) ub in
            let n1 = ap (λ (v : ℕ × ℕ). v.1) ub in
            let c = own_count in
            ap (λ q. count (e ∷ R) q) (sym wa) ∙ omega (arith, c, number, n0, n1)
        way_to (x ∷ xs) a u h = let wa : w ≡ xs ++ u ∷ a = cc in others xs a u wa

    pub in_order_after : InOrder R → InOrder (e ∷ R)
    in_order_after o = order_more e o (subst (λ p. AllBefore R (position p (count R p))) (sym own) k.front)

  pub starts : Working P [] []
  starts = record {
    task = P.root;
    begun = root refl refl;
    live = λ x g. upto_none g.stands;
    front = before_nil _;
    held = λ p t b. at_root p b;
    way_to = λ xs a u h. absurd (none_above xs a u h);
  }
    where
      at_root : (p : Path) {t : Task} → Begun P [] p t → Held [] [] p
      at_root p (root a c) = at_work a
      at_root p (branch q u F f ts B g a g1 g2 g3 g4 g5 f1 f2 f3 f4) = absurd (upto_none g1)

      none_above : (xs a : Path) (u : ℕ × ℕ) → [] ≡ xs ++ u ∷ a → ⊥
      none_above [] a u h = cc
      none_above (y ∷ ys) a u h = cc

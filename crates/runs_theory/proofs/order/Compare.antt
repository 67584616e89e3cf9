-- What stands before an action in the one of two runs stands in the other too, so a read gets the same value in both.
use Rattle.std.proofs.Common.{◌≡◌, ℕ, suc, ◌<◌, ◌⊎◌, inl, inr, ⊎_elim, List, [], ◌∷◌, ◌++◌, length, refl, sym, ap, ◌∙◌, subst, arith, Some}
use Rattle.std.proofs.Common.{slice_get}
use Rattle.runs_theory.specs.Actions.{Program}
use Rattle.runs_theory.specs.Meaning.{Disciplined}
use Rattle.runs_theory.specs.Objects.{Cell, Path}
use Rattle.runs_theory.specs.Order.{Agree, Before, Conflict, Free, IsPlain, Passes, Reads, Related, Unordered, Writes, above_fork, across, below_join, first}
use Rattle.runs_theory.specs.Order.{in_task, neither, one, second, write_read, write_write}
use Rattle.runs_theory.specs.Runs.{Event, Faithful, Run, Upto, count, last_written, later, mine, now}
use Rattle.runs_theory.proofs.events.Upto.{upto_trans, upto_length, upto_tail, upto_two}
use Rattle.runs_theory.proofs.events.Mine.{mine_upto, Found, same_of, number_of}
use Rattle.runs_theory.proofs.events.Cells.{write_of, LastWrite, none, some, last_write, left_plain, right_plain}
use Rattle.runs_theory.proofs.runs.Faithful.{ended_upto, carry, fork_above, JoinAt, join_upto, joined_before, branch_ended}
use Rattle.runs_theory.proofs.order.Between.{fork_passes, plain_passes, agree_back, ended_longer, complete, respects, order_of}

pub free_upto : {B R : Run} → Upto B R → Free R → Free B
free_upto h f = record { no = λ Y X y x hy hx u c. f.no Y X y x (upto_trans hy h) hx u c }

pub agree_upto : {R S T : Run} → Upto T S → Agree R S → Agree R T
agree_upto h ag = record { both = λ p. ⊎_elim (λ k. upto_two k (mine_upto p h)) (λ k. inr (upto_trans (mine_upto p h) k)) (ag.both p) }

pub same_list : {A : Type 0} (xs ys : List A) → length xs ≡ length ys → ((n : ℕ) (x y : A) → slice_get xs n ≡ Some x → slice_get ys n ≡ Some y → x ≡ y)
    → xs ≡ ys
same_list [] [] e f = refl
same_list [] (y ∷ ys) e f = absurd (omega arith)
same_list (x ∷ xs) [] e f = absurd (omega arith)
same_list (x ∷ xs) (y ∷ ys) e f =
    let a : x ≡ y = f 0 x y refl refl in
    let b : xs ≡ ys = same_list xs ys (omega arith) (λ n u v. f (suc n) u v) in
    cc

module _ (P : Program) (D : Disciplined P) where
  -- what was done in a branch of the one run before a task went on was done in the other
  present_below : {R S T W Y : Run} {w y : Event} (xs q : Path) (u : ℕ × ℕ) → Faithful P R → Faithful P S → Faithful P T → Upto S T → Agree R S
      → Upto (w ∷ W) R → w.path ≡ xs ++ u ∷ q → Upto (y ∷ Y) T → Upto Y S → y.path ≡ q → u.0 < count Y q → Passes y.act → Found S w.path w (mine W w.path)
  present_below {R} {S} {T} {W} {Y} {w} {y} xs q u l m n hST ag hw wq hy hY yq lt never =
      let g = fork_above P D xs q u l hw wq in
      let gs = upto_trans g.stands (upto_tail hw) in
      let len = upto_length (mine_upto q hY) in
      let gn = g.number in
      let c = carry q ag gs g.path (omega arith) in
      let cn = ap length c.mine_is in
      let j = joined_before P D q g.tasks n (upto_trans c.stands hST) c.path g.act hy yq (omega arith) never in
      let j' : JoinAt P D S q (count c.before q) (length g.tasks.tasks) = join_upto P D hY j in
      let r = branch_ended P D q g.tasks u g.task m c.stands c.path g.act (sym gn ∙ sym cn) g.is_there j' in
      let e = complete P D (u ∷ q) l m ag (ended_upto (upto_tail j'.stands) r.1) xs W w hw wq in
      let le = ended_longer P D (xs ++ u ∷ q) l ag e.1 hw wq in
      carry w.path ag hw refl (subst (λ p. count W p < count S p) (sym wq) le)

  -- what stands before an action in the static order was done in the other run too
  pub present : {R S W : Run} {w f : Event} → Faithful P R → Faithful P (f ∷ S) → Agree R S → Upto (w ∷ W) R → Passes f.act
      → Before w.path (count W w.path) f.path (count S f.path) → Found S w.path w (mine W w.path)
  present {S = S} {W = W} {w = w} l m ag hw af (in_task e n) = carry w.path ag hw refl (subst (λ p. count W w.path < count S p) (sym e) n)
  present {S = S} {W = W} {w = w} {f = f} l m ag hw af (above_fork xs u e n) =
      let g = fork_above P D xs w.path u m now e in
      let k = number_of w.path g.stands g.path in
      let gn = g.number in
      carry w.path ag hw refl (omega arith)
  present {f = f} l m ag hw af (below_join xs u e n) = present_below xs f.path u l m.1 m (later now) ag hw e now now refl n af
  present {f = f} l m ag hw af (across xs ys r u v d e n) =
      let g = fork_above P D ys r v m now e in
      let gn = g.number in
      let never = fork_passes P D g.event.act g.tasks g.act in
      present_below xs r u l m.1 m (later now) ag hw d (later g.stands) (upto_tail g.stands) g.path (omega arith) never

  -- a write that is in conflict with the next action was done in the other run too
  pub carry_write : {R S W : Run} {e f w : Event} → Faithful P (e ∷ R) → Faithful P (f ∷ S) → Free (e ∷ R) → Agree R S → e.path ≡ f.path
      → mine R f.path ≡ mine S f.path → e.act ≡ f.act → Upto (w ∷ W) R → Conflict w e → Found S w.path w (mine W w.path)
  carry_write {R} {S} {W} {e} {f} {w} l m free ag pe ms ae hw cf = go (order_of P D l (later hw) now (left_plain cf) (right_plain cf))
    where
      go : Related w.path (count W w.path) e.path (count R e.path) → Found S w.path w (mine W w.path)
      go (one a b) = let k = number_of w.path hw refl in absurd (let b' = subst (λ q. count W w.path ≡ count R q) (sym a) b in omega arith)
      go (first b) =
          let b1 = subst (λ p. Before w.path (count W w.path) p (count R p)) pe b in
          let b2 = subst (λ k. Before w.path (count W w.path) f.path k) (ap length ms) b1 in
          present l.1 m ag hw (plain_passes P D f.act (subst IsPlain ae (right_plain cf))) b2
      go (second b) = let k = upto_length (respects P D l now (later hw) (left_plain cf) b) in absurd (let n = upto_length hw in omega arith)
      go (neither n) = absurd (free.no R W e w now hw n cf)

  -- a read gets the value of the same last write in both runs
  module _ {R S : Run} {e f : Event} (l : Faithful P (e ∷ R)) (m : Faithful P (f ∷ S)) (fr : Free (e ∷ R)) (fs : Free (f ∷ S)) (ag : Agree R S)
      (pe : e.path ≡ f.path) (ms : mine R f.path ≡ mine S f.path) (ae : e.act ≡ f.act) (c : Cell) (re : Reads c e) (rf : Reads c f) where
    over : {w : Event} {W : Run} → Upto (w ∷ W) R → Writes c w → Found S w.path w (mine W w.path)
    over {w} h k = carry_write l m fr ag pe ms ae h (write_read c k re)

    back : {w : Event} {W : Run} → Upto (w ∷ W) S → Writes c w → Found R w.path w (mine W w.path)
    back {w} h k = carry_write m l fs (agree_back ag) (sym pe) (subst (λ p. mine S p ≡ mine R p) (sym pe) (sym ms)) (sym ae) h (write_read c k rf)

    same : (s t : Event) → (p : Writes c s) → (q : Writes c t) → s ≡ t → p.value ≡ q.value
    same s t p q j = let o : write_of c p.value ≡ write_of c q.value = sym p.act ∙ ap (λ y. y.act) j ∙ q.act in cc

    -- two last writes, of which each is before the other
    two : {w x : Event} {W W' X X' : Run} → (a : Writes c w) → (b : Writes c x) → Upto (w ∷ W) R → Upto (x ∷ X') R → Upto (w ∷ W') S → Upto (x ∷ X) S
        → count W' w.path ≡ count W w.path → count X' x.path ≡ count X x.path → Upto (x ∷ X') W → Upto (w ∷ W') X → a.value ≡ b.value
    two {w} {x} {W} {W'} {X} {X'} a b hw hx' hw' hx nw nx xw wx = order (order_of P D l.1 hw hx' (left_plain clash) (right_plain clash))
      where
        clash : Conflict w x
        clash = write_write c a b

        order : Related w.path (count W w.path) x.path (count X' x.path) → a.value ≡ b.value
        order (one d n) = same w x a b (same_of x.path hw hx' d refl (subst (λ q. count W q ≡ count X' x.path) d n)).0
        order (first h) = let k = upto_length (respects P D l.1 hw hx' (right_plain clash) h) in let n = upto_length xw in absurd (omega arith)
        order (second h) =
            let h1 = subst (λ k. Before x.path k w.path (count W w.path)) nx h in
            let h2 = subst (λ k. Before x.path (count X x.path) w.path k) (sym nw) h1 in
            let k = upto_length (respects P D m.1 hx hw' (left_plain clash) h2) in
            let n = upto_length wx in
            absurd (omega arith)
        order (neither n) = absurd ((free_upto (later now) fr).no W X' w x hw xw (flip n) (write_write c b a))
          where
            flip : {p q : Path} → Unordered p q → Unordered q p
            flip u = record {
              below_p = u.below_q;
              below_q = u.below_p;
              above = u.above;
              u = u.v;
              v = u.u;
              one_fork = sym u.one_fork;
              apart = λ h. u.apart (sym h);
              p_is = u.q_is;
              q_is = u.p_is;
            }

    same_written : LastWrite R c → LastWrite S c → last_written R c ≡ last_written S c
    same_written (none n z) (none n' z') = z ∙ sym z'
    same_written (none n z) (some x X h k i g) = let b = back h k in absurd (n x b.before b.stands k)
    same_written (some w W h k i g) (none n z) = let b = over h k in absurd (n w b.before b.stands k)
    same_written (some w W h k i g) (some x X h' k' i' g') =
        i ∙ ap Some (meet (which_of (g' w a.before a.stands k)) (which_of (g x b.before b.stands k'))) ∙ sym i'
      where
        a : Found S w.path w (mine W w.path)
        a = over h k

        b : Found R x.path x (mine X x.path)
        b = back h' k'

        which_of : {s t : Event} {A B : Run} → Upto (s ∷ A) (t ∷ B) → (s ≡ t) ⊎ Upto (s ∷ A) B
        which_of now = inl refl
        which_of (later u) = inr u

        meet : (w ≡ x) ⊎ Upto (w ∷ a.before) X → (x ≡ w) ⊎ Upto (x ∷ b.before) W → k.value ≡ k'.value
        meet (inl j) u = same w x k k' j
        meet (inr t) (inl j) = same w x k k' (sym j)
        meet (inr t) (inr u) = two k k' h b.stands a.stands h' (ap length a.mine_is) (ap length b.mine_is) u t

    pub same_last : last_written R c ≡ last_written S c
    same_last = same_written (last_write R c) (last_write S c)

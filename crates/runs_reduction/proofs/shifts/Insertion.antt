-- A run rearranged stays legal where nothing that is not near the spot of an event hinders it there.
use Rattle.std.proofs.Common.{◌≡◌, ◌⊎◌, inl, inr, ⊎_elim, Bool, true, false, true≢false, pos, List, [], ◌∷◌, refl, sym, ap, ◌∙◌, subst}
use Rattle.std.proofs.Common.{Some}
use Rattle.std.proofs.lemmas.Bool.{cond-true, cond-false}
use Rattle.runs_theory.specs.Actions.{Action, Begin, Do, End, Enter, Fork, Join, Next, Own, Program, Read, Task}
use Rattle.runs_theory.specs.Blocks.{In_block, hold}
use Rattle.runs_theory.specs.Meaning.{Disciplined, Known}
use Rattle.runs_theory.specs.Objects.{Cell, Effect, Path, Thing, size, slot_of}
use Rattle.runs_theory.specs.Order.{Conflict, Reads, read_write, write_read, write_write}
use Rattle.runs_theory.specs.Runs.{Begun, Event, Faithful, Follows, Right, Run, Upto, answers, first_some, last_written, later, mine, now, reply, thing_of}
use Rattle.runs_theory.specs.Runs.{written}
use Rattle.runs_theory.specs.Standing.{Admitted, CanEnter, Outside, Valid, above, joined_by, standing}
use Rattle.runs_reduction.specs.Insertion.{Spot, near, put_after, rearranged}
use Rattle.runs_reduction.specs.Insertion.{Spot, near, put_after, rearranged}
use Rattle.runs_theory.proofs.events.Upto.{upto_tail}
use Rattle.runs_theory.proofs.events.Mine.{path_cases, mine_same, mine_other}
use Rattle.runs_theory.proofs.runs.Faithful.{begun_upto, same_task}
use Rattle.runs_theory.proofs.events.Things.{same_some, thing_upto}
use Rattle.runs_theory.proofs.events.Cells.{last_step, writes, Written, it_does, it_does_not}
use Rattle.runs_theory.proofs.runs.Blocks.{Opened, was, enters, opened}
use Rattle.runs_theory.proofs.runs.Standing.{Grows, Opener, opener_of, opener_stands, stands_outside, above_same}
use Rattle.runs_theory.proofs.runs.Written.{faithful_of, legal_from}
use Rattle.runs_theory.proofs.events.Carry.{agree_of, begun_in, joins_in, begun_held, grows_upto}
use Rattle.runs_theory.proofs.events.Replies.{reply_grows, reads_of}
use Rattle.runs_reduction.proofs.shifts.Under.{Under, under_more}

pub rearranged_step : (f : Run → Event → Spot) (e : Event) (R : Run) → rearranged f (e ∷ R) ≡ put_after (f R e) e (rearranged f R)
unfolding rearranged
rearranged_step f e R = refl

pub rearranged_nil : (f : Run → Event → Spot) → rearranged f [] ≡ []
unfolding rearranged
rearranged_nil f = refl

pub after_here : (s : Spot) (e x : Event) (G : Run) → near s x ≡ true → put_after s e (x ∷ G) ≡ e ∷ (x ∷ G)
after_here s e x G h = cond-true (near s x) _ _ h

pub after_over : (s : Spot) (e x : Event) (G : Run) → near s x ≡ false → put_after s e (x ∷ G) ≡ x ∷ put_after s e G
after_over s e x G h = cond-false (near s x) _ _ h

pub data Bools (b : Bool) : Type 0 where
  yes : b ≡ true → Bools b
  no : b ≡ false → Bools b

pub bools : (b : Bool) → Bools b
bools true = yes refl
bools false = no refl

pub valid_upto : (P : Program) {B R : Run} → Upto B R → Valid P R → Valid P B
valid_upto P now l = l
valid_upto P (later h) l = valid_upto P h l.1

pub admitted_at : (P : Program) {e : Event} {B R : Run} → Upto (e ∷ B) R → Valid P R → Admitted P B e
admitted_at P h l = (valid_upto P h l).0

-- G is a valid run with the events of R so far, in which the last write to each cell is the same
pub record Rebuilt (P : Program) (R G : Run) : Type 0 where
  pub valid : Valid P G
  pub same : (p : Path) → mine G p ≡ mine R p
  pub lasts : (c : Cell) → last_written G c ≡ last_written R c

pub grown : {P : Program} {R G : Run} → Rebuilt P R G → Grows G R
grown {P} {R} {G} g = record { each = λ p. subst (λ l. Upto (mine G p) l) (g.same p) now }

pub grown_back : {P : Program} {R G : Run} → Rebuilt P R G → Grows R G
grown_back {P} {R} {G} g = record { each = λ p. subst (λ l. Upto (mine R p) l) (sym (g.same p)) now }

module _ (P : Program) (D : Disciplined P) (known : Known P) where
  -- What the spot of an event gives. With o the task at which, or below which, all is near the spot: in the run below an event
  -- that is not near, this event's task has begun there; that event is in no conflict with it, and neither entry holds up the
  -- other; and an entry that may come on top may come there
  pub record Side (R G0 : Run) (e : Event) (s : Spot) (o : Path) : Type 0 where
    pub here : Under o e.path
    pub test : (x : Event) → Under o x.path → near s x ≡ true
    pub down : (x : Event) (G : Run) (t : Task) → Upto (x ∷ G) G0 → near s x ≡ false → ((r : Path) → Under o r → mine G r ≡ mine R r) → Begun P (x ∷ G) e.path t
        → (t : Task) × Begun P G e.path t
    pub clashes : {y : Event} {Y : Run} {t : Task} → Upto (y ∷ Y) G0 → (Under o y.path → ⊥) → ((r : Path) → Under o r → mine Y r ≡ mine R r)
        → Begun P Y e.path t
        → Conflict y e → ⊥
    pub enters_over : {y : Event} {Y : Run} {t : Task} (E F : List Effect) → Upto (y ∷ Y) G0 → (Under o y.path → ⊥)
        → ((r : Path) → Under o r → mine Y r ≡ mine R r)
        → Begun P Y e.path t → y.act ≡ Do (Enter F) → e.act ≡ Do (Enter E) → standing Y y.path ≡ Outside → standing R e.path ≡ Outside → P.rule E F ≡ true
    pub enters_here : {Z : Run} {t : Task} (E : List Effect) → Upto Z G0 → Begun P Z e.path t → ((r : Path) → Under o r → mine Z r ≡ mine R r)
        → e.act ≡ Do (Enter E) → CanEnter P.rule R e.path E → CanEnter P.rule Z e.path E

  module _ (R G0 : Run) (e : Event) (s : Spot) (o : Path) (l : Valid P (e ∷ R)) (g : Rebuilt P R G0) (side : Side R G0 e s o) where
    a0 : Follows P R e
    a0 = l.0.follows

    abbrev Complete : Run → Type 0
    Complete G = (r : Path) → Under o r → mine G r ≡ mine R r

    -- this event, put after the latest that is near
    record Put (G H : Run) : Type 0 where
      valid : Valid P H
      here : mine H e.path ≡ e ∷ mine G e.path
      other : (q : Path) → (q ≡ e.path → ⊥) → mine H q ≡ mine G q
      lasts : (c : Cell) → last_written H c ≡ first_some (written c e) (last_written G c)
      begun : Begun P G e.path a0.task

    put_grows : {G H : Run} → Put G H → Grows G H
    put_grows {G} {H} k = record {
      each = λ p. ⊎_elim (λ h. subst (λ q. Upto (mine G q) (mine H q)) (sym h) (subst (λ l. Upto (mine G e.path) l) (sym k.here) (later now)))
          (λ h. subst (λ l. Upto (mine G p) l) (sym (k.other p h)) now) (path_cases p e.path);
    }

    -- after the latest that is near it may come
    put_here : (Z : Run) → Upto Z G0 → Complete Z → Begun P Z e.path a0.task → ((c : Cell) → Reads c e → last_written Z c ≡ last_written R c) → Put Z (e ∷ Z)
    put_here Z hz full begun lz = record {
      valid = (
        record {
          follows = record {
            task = a0.task;
            begun = begun;
            asks = ap (λ l. P.meaning e.path a0.task (answers l)) mz
                ∙ a0.asks;
            right = right e.act refl;
          };
          enters = enters_z;
        },
        valid_z,
      );
      here = mine_same e Z e.path refl;
      other = λ q h. mine_other e Z q (λ k. h (sym k));
      lasts = λ c. last_step e Z c;
      begun = begun;
    }
      where
        valid_z : Valid P Z
        valid_z = valid_upto P hz g.valid

        grows : Grows Z R
        grows = grows_upto hz (grown g)

        mz : mine Z e.path ≡ mine R e.path
        mz = full e.path side.here

        ready : (c : Action) → e.act ≡ c → Right P R e.path c e.ans
        ready c k = subst (λ c. Right P R e.path c e.ans) k a0.right

        enters_z : (E : List Effect) → e.act ≡ Do (Enter E) → CanEnter P.rule Z e.path E
        enters_z E k = side.enters_here E hz begun full k (l.0.enters E k)

        -- it can be answered here, and in R the answer is the same
        own : (c : Own) → e.act ≡ Do c → reply P Z e.path c ≡ Some e.ans
        own c k =
            let asks : P.meaning e.path a0.task (answers (mine Z e.path)) ≡ Next e.ticks (Do c) =
            ap (λ l. P.meaning e.path a0.task (answers l)) mz ∙ a0.asks ∙ ap (λ x. Next e.ticks x) k in
            let z = known.replies Z (legal_from P D Z valid_z) e.path a0.task begun c (e.ticks, asks) in
            let r : reply P R e.path c ≡ Some z.0 = reply_grows P e.path c z.0 grows mz last_here z.1 in
            z.1 ∙ ap Some (same_some r (ready (Do c) k))
          where
            last_here : (x : Cell) (t : Thing) → c ≡ Read x.object (pos x.slot) → thing_of P Z x.object ≡ Some t
                → slot_of (pos x.slot) (size t) ≡ Some x.slot → last_written Z x ≡ last_written R x
            last_here x t q th sl = lz x (reads_of P R x t (k ∙ ap (λ c. Do c) q) (thing_upto P Z R x.object t (grows.each x.object.maker) th) sl a0.right)

        right : (c : Action) → e.act ≡ c → Right P Z e.path e.act e.ans
        right c k = subst (λ c. Right P Z e.path c e.ans) (sym k) (at_act c k)
          where
            at_act : (c : Action) → e.act ≡ c → Right P Z e.path c e.ans
            at_act (Do c) k = own c k
            at_act (Fork ts) k = ready (Fork ts) k
            at_act (Begin b) k = ready (Begin b) k
            at_act (End y) k = ready (End y) k
            at_act Join k = joins_in (sym mz) (λ u. subst (λ m. Upto (mine R (u ∷ e.path)) m)
                (sym (full (u ∷ e.path) (under_more o e.path (u ∷ e.path) (u ∷ []) side.here refl))) now) (ready Join k)

    -- what stands after stays allowed
    put_over : (y : Event) (G H : Run) → Upto (y ∷ G) G0 → (Under o y.path → ⊥) → Complete G → Put G H → Put (y ∷ G) (y ∷ H)
    put_over y G H hy ne full k = record {
      valid = (
        record {
          follows = record {
            task = a.task;
            begun = begun_in (put_grows k) a.begun;
            asks = ap (λ l. P.meaning y.path a.task (answers l)) my
                ∙ a.asks;
            right = right y.act refl;
          };
          enters = enters_h;
        },
        k.valid,
      );
      here = mine_other y H e.path differ ∙ k.here ∙ ap (λ l. e ∷ l) (sym (mine_other y G e.path differ));
      other = λ q h. ⊎_elim (λ s. mine_same y H q s ∙ ap (λ l. y ∷ l) (k.other q h) ∙ sym (mine_same y G q s))
          (λ s. mine_other y H q s ∙ k.other q h ∙ sym (mine_other y G q s)) (path_cases y.path q);
      lasts = λ c. last_step y H c ∙ ap (λ o. first_some (written c y) o) (k.lasts c) ∙ swap c (writes c y) (writes c e)
          ∙ ap (λ o. first_some (written c e) o) (sym (last_step y G c));
      begun = begun_upto (later now) k.begun;
    }
      where
        differ : y.path ≡ e.path → ⊥
        differ h = ne (subst (λ r. Under o r) (sym h) side.here)

        ad : Admitted P G y
        ad = admitted_at P hy g.valid

        a : Follows P G y
        a = ad.follows

        faithful_g : Faithful P G
        faithful_g = faithful_of P G (valid_upto P (upto_tail hy) g.valid)

        grows : Grows G R
        grows = grows_upto (upto_tail hy) (grown g)

        no_clash : Conflict y e → ⊥
        no_clash = side.clashes hy ne full k.begun

        swap : (c : Cell) → Written c y → Written c e → first_some (written c y) (first_some (written c e) (last_written G c)) ≡ first_some (written c e)
            (first_some (written c y) (last_written G c))
        swap c (it_does v i) (it_does w j) = absurd (no_clash (write_write c v w))
        swap c (it_does_not p i) w = ap (λ o. first_some o (first_some (written c e) (last_written G c))) i
            ∙ ap (λ o. first_some (written c e) (first_some o (last_written G c))) (sym i)
        swap c (it_does v i) (it_does_not q j) = ap (λ o. first_some (written c y) (first_some o (last_written G c))) j
            ∙ ap (λ o. first_some o (first_some (written c y) (last_written G c))) (sym j)

        my : mine H y.path ≡ mine G y.path
        my = k.other y.path differ

        same_read : (c : Cell) → Reads c y → Written c e → last_written G c ≡ last_written H c
        same_read c r (it_does w j) = absurd (no_clash (read_write c r w))
        same_read c r (it_does_not q j) = sym (k.lasts c ∙ ap (λ o. first_some o (last_written G c)) j)

        own : (c : Own) → y.act ≡ Do c → reply P H y.path c ≡ Some y.ans
        own c p = reply_grows P y.path c y.ans (put_grows k) (sym my)
            (λ x t q th sl. same_read x (reads_of P G x t (p ∙ ap (λ c. Do c) q) th sl a.right) (writes x e)) (ready (Do c) p)
          where
            ready : (c : Action) → y.act ≡ c → Right P G y.path c y.ans
            ready c p = subst (λ c. Right P G y.path c y.ans) p a.right

        enters_h : (F : List Effect) → y.act ≡ Do (Enter F) → CanEnter P.rule H y.path F
        enters_h F ya = record { clear = λ w q F' h. at_task (outer_g w) q F' (opener_of H q F' h) (path_cases q e.path) }
          where
            ce : CanEnter P.rule G y.path F
            ce = ad.enters F ya

            outer_g : standing H y.path ≡ Outside → standing G y.path ≡ Outside
            outer_g w = ap (λ m. joined_by (above G y.path) y.path (hold m)) (sym my)
                ∙ ap (λ b. joined_by b y.path (hold (mine H y.path))) (above_same P faithful_g (put_grows k) y.path a.begun) ∙ w

            at_task : standing G y.path ≡ Outside → (q : Path) (F' : List Effect) → Opener H q F' → (q ≡ e.path) ⊎ (q ≡ e.path → ⊥) → P.rule F' F ≡ true
            at_task w q F' h (inr d) =
                let held : hold (mine G q) ≡ In_block h.depth F' = ap hold (sym (k.other q d)) ∙ h.held in
                let b = begun_held P G q h.depth F' faithful_g held in
                ce.clear w q F' (opener_stands G q F' h.depth (above_same P faithful_g (put_grows k) q b.1 ∙ h.outside) held)
            at_task w q F' h (inl d) = own_block (opened e.act (hold (mine G e.path)) h.depth F'
                (ap hold (sym k.here) ∙ ap (λ r. hold (mine H r)) (sym d) ∙ h.held))
              where
                out_g : above G e.path ≡ Outside
                out_g = above_same P faithful_g (put_grows k) e.path k.begun ∙ subst (λ r. above H r ≡ Outside) d h.outside

                own_block : Opened e.act (hold (mine G e.path)) F' → P.rule F' F ≡ true
                own_block (was m hh) = ce.clear w e.path F' (opener_stands G e.path F' m out_g hh)
                own_block (enters ho ea) =
                    let se = stands_outside R e.path (sym (above_same P faithful_g grows e.path k.begun) ∙ out_g)
                    (ap hold (sym (full e.path side.here)) ∙ ho) in
                    side.enters_over F' F hy ne full k.begun ya ea w se

        right : (c : Action) → y.act ≡ c → Right P H y.path y.act y.ans
        right c p = subst (λ c. Right P H y.path c y.ans) (sym p) (at_act c p)
          where
            ready : (c : Action) → y.act ≡ c → Right P G y.path c y.ans
            ready c p = subst (λ c. Right P G y.path c y.ans) p a.right

            at_act : (c : Action) → y.act ≡ c → Right P H y.path c y.ans
            at_act (Do c) p = own c p
            at_act (Fork ts) p = ready (Fork ts) p
            at_act (Begin b) p = ready (Begin b) p
            at_act (End x) p = ready (End x) p
            at_act Join p = let kg = put_grows k in joins_in (sym my) (λ u. kg.each (u ∷ y.path)) (ready Join p)

    put_all : (G : Run) → Upto G G0 → Complete G → Begun P G e.path a0.task → ((c : Cell) → Reads c e → last_written G c ≡ last_written R c)
        → Put G (put_after s e G)
    put_all [] h full b lr = put_here [] h full b lr
    put_all (x ∷ G) h full b lr = go (put_all G (upto_tail h)) (bools (near s x))
      where
        go : (Complete G → Begun P G e.path a0.task → ((c : Cell) → Reads c e → last_written G c ≡ last_written R c) → Put G (put_after s e G))
            → Bools (near s x) → Put (x ∷ G) (put_after s e (x ∷ G))
        go rec (yes t) = subst (Put (x ∷ G)) (sym (after_here s e x G t)) (put_here (x ∷ G) h full b lr)
        go rec (no t) = subst (Put (x ∷ G)) (sym (after_over s e x G t)) (put_over x G (put_after s e G) h n less (rec less begun fewer))
          where
            n : Under o x.path → ⊥
            n u = true≢false (sym (side.test x u) ∙ t)

            less : Complete G
            less q u = sym (mine_other x G q (λ k. n (subst (λ r. Under o r) (sym k) u))) ∙ full q u

            bt : (t : Task) × Begun P G e.path t
            bt = side.down x G a0.task h t less b

            begun : Begun P G e.path a0.task
            begun = subst (λ t. Begun P G e.path t) (same_task (agree_of (grows_upto (upto_tail h) (grown g))) bt.1 a0.begun) bt.1

            fewer : (c : Cell) → Reads c e → last_written G c ≡ last_written R c
            fewer c r = by_write (writes c x)
              where
                by_write : Written c x → last_written G c ≡ last_written R c
                by_write (it_does_not q j) = ap (λ o. first_some o (last_written G c)) (sym j) ∙ sym (last_step x G c) ∙ lr c r
                by_write (it_does w j) = absurd (side.clashes h n less begun (write_read c w r))

    pub rebuilt_in : Rebuilt P (e ∷ R) (put_after s e G0)
    rebuilt_in =
        let k = put_all G0 now (λ q u. g.same q) (begun_in (grown_back g) a0.begun) (λ c r. g.lasts c) in
        record {
          valid = k.valid;
          same = λ p. ⊎_elim (λ h. subst (λ q. mine (put_after s e G0) q ≡ mine (e ∷ R) q) h
              (k.here ∙ ap (λ l. e ∷ l) (g.same e.path) ∙ sym (mine_same e R e.path refl)))
              (λ h. k.other p (λ q. h (sym q)) ∙ g.same p ∙ sym (mine_other e R p h)) (path_cases e.path p);
          lasts = λ c. k.lasts c ∙ ap (λ o. first_some (written c e) o) (g.lasts c) ∙ sym (last_step e R c);
        }

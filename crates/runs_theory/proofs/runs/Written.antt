-- The rule of open blocks as it is written lets by the same entries as that by paths and own events.
use Rattle.std.proofs.Common.{◌≡◌, ℕ, true, ◌<◌, ◌⊎◌, inl, inr, List, [], ◌∷◌, ◌++◌, refl, sym, ap, ◌∙◌, subst}
use Rattle.std.proofs.lemmas.Bool.{cases_order}
use Rattle.runs_theory.specs.Actions.{Begin, Branches, Do, Enter, Fork, Program}
use Rattle.runs_theory.specs.Blocks.{Allowed, Hold, In_block, IsBlock, IsOpen, Legal, MayEnter, Out_of, Outermost, StandsIn, begun_in, hold, opened}
use Rattle.runs_theory.specs.Meaning.{Disciplined}
use Rattle.runs_theory.specs.Objects.{Effect, Path}
use Rattle.runs_theory.specs.Runs.{Event, Faithful, Run, Upto, count, later, mine, now}
use Rattle.runs_theory.specs.Standing.{Admitted, CanEnter, Inside, Outside, Standing, Valid, above, first_of, joined_by, standing}
use Rattle.runs_theory.proofs.events.Upto.{upto_trans, upto_tail}
use Rattle.runs_theory.proofs.events.Mine.{mine_at, mine_upto, earlier_of, same_of}
use Rattle.runs_theory.proofs.runs.Faithful.{faithful_upto, fork_above}
use Rattle.runs_theory.proofs.runs.Blocks.{EntryAt, entry_at}
use Rattle.runs_theory.proofs.runs.Standing.{Grows, first_is, above_step, above_same, Adopted, adopted, Joined_by, from_above, own, joined_cases, Opener, opener_of}
use Rattle.runs_theory.proofs.runs.Standing.{opener_stands, stands_outside, Stands, stands, only_begins}

is_block_at : {A : Run} {a : Event} {R : Run} (E : List Effect) → Upto (a ∷ A) R → a.act ≡ Do (Enter E) → Outermost A a.path → IsBlock R A a E
is_block_at E now p o = inl (refl, refl, p, o)
is_block_at E (later h) p o = inr (is_block_at E h p o)

record BlockAt (R A : Run) (a : Event) (E : List Effect) : Type 0 where
  stands : Upto (a ∷ A) R
  act : a.act ≡ Do (Enter E)
  outermost : Outermost A a.path

block_at : (R A : Run) (a : Event) (E : List Effect) → IsBlock R A a E → BlockAt R A a E
block_at [] A a E h = absurd h
block_at (e ∷ R) A a E (inl q) = record {
  stands = subst (λ Z. Upto (a ∷ Z) (e ∷ R)) q.1 (subst (λ z. Upto (z ∷ R) (e ∷ R)) q.0 now);
  act = q.2;
  outermost = subst (λ Z. Outermost Z a.path) q.1 (subst (λ (z : Event). Outermost R z.path) q.0 q.3);
}
block_at (e ∷ R) A a E (inr h) = let b = block_at R A a E h in record { stands = later b.stands; act = b.act; outermost = b.outermost }

out_parts : (s : Standing) (p : Path) (h : Hold) → joined_by s p h ≡ Outside → (s ≡ Outside) × (h ≡ Out_of)
out_parts (Inside o E) p h e = absurd (cc)
out_parts Outside p Out_of e = (refl, refl)
out_parts Outside p (In_block n E) e = absurd (cc)

-- inside an open block a task stands in one, by the other definition
not_out : {R B : Run} {b : Event} {F0 : Run} {p : Path} (E : List Effect) → IsOpen B b E R → StandsIn B b F0 p → Upto F0 R → above R p ≡ Outside
    → hold (mine F0 p) ≡ Out_of → ⊥
not_out {R} {B} {b} {F0} {p} E o (opened h q) up a z =
    let m = o.still F0 up h in
    let k : In_block m.0 E ≡ Out_of = sym m.1 ∙ ap (λ r. hold (mine F0 r)) q ∙ z in
    absurd (cc)
not_out {R} {B} {b} {F0} {p} E o (begun_in q u F f ts pq hf fq n fa s) up a z =
    let fs = upto_trans hf up in
    let a1 : joined_by (above R q) q (hold (first_of u.0 (mine R q))) ≡ Outside = sym (above_step R u q) ∙ ap (λ r. above R r) (sym pq) ∙ a in
    let d = out_parts (above R q) q (hold (first_of u.0 (mine R q))) a1 in
    let firsts : first_of u.0 (mine R q) ≡ mine F q = subst (λ k. first_of k (mine R q) ≡ mine F q) n (first_is (upto_tail (mine_at q fs fq))) in
    not_out E o s (upto_tail fs) d.0 (ap hold (sym firsts) ∙ d.1)

outermost_from : (R : Run) (p : Path) → standing R p ≡ Outside → Outermost R p
outermost_from R p h B b F blk o s = let d = out_parts (above R p) p (hold (mine R p)) h in not_out F o s now d.0 d.1

module _ (P : Program) where
  record Block (R : Run) (q : Path) (F : List Effect) : Type 0 where
    before : Run
    event : Event
    path : event.path ≡ q
    stands : Upto (event ∷ before) R
    act : event.act ≡ Do (Enter F)
    is_block : IsBlock R before event F
    is_open : IsOpen before event F R

  -- an opener has an open block
  block_of : (R : Run) (q : Path) (F : List Effect) → Faithful P R → Opener R q F → Block R q F
  block_of R q F l o = make (entry_at R q o.depth F o.held)
    where
      make : EntryAt R q F → Block R q F
      make t =
          let lt = faithful_upto P t.stands l in
          let al = lt.0 in
          let grows : Grows t.before R = record { each = λ r. mine_upto r (upto_tail t.stands) } in
          let up : above t.before t.event.path ≡ Outside = above_same P lt.1 grows t.event.path al.begun ∙ ap (λ r. above R r) t.path ∙ o.outside in
          let st = stands_outside t.before t.event.path up (ap (λ r. hold (mine t.before r)) t.path ∙ t.outside) in
          record {
            before = t.before;
            event = t.event;
            path = t.path;
            stands = t.stands;
            act = t.act;
            is_block = is_block_at F t.stands t.act (outermost_from t.before t.event.path st);
            is_open = record { still = λ Z h k. subst (λ r. (m : ℕ) × (hold (mine Z r) ≡ In_block m F)) (sym t.path) (t.open_since Z h k) };
          }

  module _ (D : Disciplined P) where
    -- a task below a fork of the opener that stands after the entry
    chain_down : {R A : Run} {a : Event} (o : Path) (u : ℕ × ℕ) → Faithful P R → a.path ≡ o
        → ((F : Run) (f : Event) (ts : Branches) → Upto (f ∷ F) R → f.path ≡ o → count F o ≡ u.0 → f.act ≡ Fork ts → Upto (a ∷ A) F)
        → (xs : Path) (W : Run) (w : Event) → Upto (w ∷ W) R → w.path ≡ xs ++ u ∷ o → StandsIn A a W w.path
    chain_down {A = A} {a = a} o u l ap_ before_fork [] W w hw e =
        let f = fork_above P D [] o u l hw e in
        begun_in o u f.before f.event f.tasks e f.stands f.path f.number f.act
        (opened (before_fork f.before f.event f.tasks (upto_trans f.stands (upto_tail hw)) f.path f.number f.act) ap_)
    chain_down {A = A} {a = a} o u l ap_ before_fork (v ∷ xs) W w hw e =
        let f = fork_above P D [] (xs ++ u ∷ o) v l hw e in
        let s = chain_down o u l ap_ before_fork xs f.before f.event (upto_trans f.stands (upto_tail hw)) f.path in
        begun_in (xs ++ u ∷ o) v f.before f.event f.tasks e f.stands f.path f.number f.act (subst (λ r. StandsIn A a f.before r) f.path s)

    outermost_to : (R : Run) (e : Event) → Faithful P (e ∷ R) → Outermost R e.path → standing R e.path ≡ Outside
    outermost_to R e l out = go (standing R e.path) refl
      where
        go : (h : Standing) → standing R e.path ≡ h → standing R e.path ≡ Outside
        go Outside k = k
        go (Inside o E) k = absurd (out b.before b.event E b.is_block b.is_open (inside (joined_cases (above R e.path) e.path (hold (mine R e.path)) o E k)))
          where
            s : Stands P D R e.path o E
            s = stands P D o E l k

            b : Block R o E
            b = block_of R o E l.1 (record { outside = s.outside; depth = s.depth; held = s.held })

            inside : Joined_by (above R e.path) e.path (hold (mine R e.path)) o E → StandsIn b.before b.event R e.path
            inside (own n z p h) = opened b.stands (b.path ∙ sym p)
            inside (from_above z) = chain_down {R = e ∷ R} o c.fork l b.path before_fork c.below R e now c.path
              where
                c : Adopted R e.path o E
                c = adopted R e.path o E z

                before_fork : (F : Run) (f : Event) (ts : Branches) → Upto (f ∷ F) (e ∷ R) → f.path ≡ o → count F o ≡ c.fork.0 → f.act ≡ Fork ts
                    → Upto (b.event ∷ b.before) F
                before_fork F f ts fs fp fn fa = by_number (cases_order (count b.before o) c.fork.0)
                  where
                    by_number : (count b.before o ≡ c.fork.0) ⊎ ((count b.before o < c.fork.0) ⊎ (c.fork.0 < count b.before o)) → Upto (b.event ∷ b.before) F
                    by_number (inl n) =
                        let w = same_of o (later b.stands) fs b.path fp (n ∙ sym fn) in
                        absurd (let x : Do (Enter E) ≡ Fork ts = sym b.act ∙ ap (λ v. v.act) w.0 ∙ fa in cc)
                    by_number (inr (inl n)) = earlier_of o (later b.stands) fs b.path fp (subst (λ k. count b.before o < k) (sym fn) n)
                    by_number (inr (inr n)) =
                        let g = only_begins P D c.below o c.fork l c.path (mine b.before o) b.event (mine_at o b.stands b.path) n in
                        absurd (let x : Do (Enter E) ≡ Begin g.0 = sym b.act ∙ g.1 in cc)

    may_from : (R : Run) (e : Event) (E : List Effect) → Faithful P (e ∷ R) → CanEnter P.rule R e.path E → MayEnter P.rule R e.path E
    may_from R e E l ce = record { clear = each }
      where
        each : Outermost R e.path → (B : Run) (b : Event) (F : List Effect) → IsBlock R B b F → IsOpen B b F R → P.rule F E ≡ true
        each out B b F blk op =
            let k = block_at R B b F blk in
            let lb = faithful_upto P k.stands l.1 in
            let al = lb.0 in
            let st = outermost_to B b lb k.outermost in
            let d = out_parts (above B b.path) b.path (hold (mine B b.path)) st in
            let grows : Grows B R = record { each = λ r. mine_upto r (upto_tail k.stands) } in
            let up : above R b.path ≡ Outside = sym (above_same P lb.1 grows b.path al.begun) ∙ d.0 in
            let m = op.still R now k.stands in
            ce.clear (outermost_to R e l out) b.path F (opener_stands R b.path F m.0 up m.1)

  can_from : (R : Run) (p : Path) (E : List Effect) → Faithful P R → MayEnter P.rule R p E → CanEnter P.rule R p E
  can_from R p E l me = record {
    clear = λ st q F h. (let b = block_of R q F l (opener_of R q F h) in
        me.clear (outermost_from R p st) b.before b.event F b.is_block b.is_open);
  }

pub faithful_of : (P : Program) (R : Run) → Valid P R → Faithful P R
faithful_of P [] l = tt
faithful_of P (e ∷ R) l = (l.0.follows, faithful_of P R l.1)

pub legal_faithful : (P : Program) (R : Run) → Legal P R → Faithful P R
legal_faithful P [] l = tt
legal_faithful P (e ∷ R) l = (l.0.follows, legal_faithful P R l.1)

pub admitted_from : (P : Program) (R : Run) (e : Event) → Faithful P R → Allowed P R e → Admitted P R e
admitted_from P R e l a = record { follows = a.follows; enters = λ E k. can_from P R e.path E l (a.enters E k) }

pub allowed_from : (P : Program) → Disciplined P → (R : Run) (e : Event) → Faithful P R → Admitted P R e → Allowed P R e
allowed_from P D R e l a = record { follows = a.follows; enters = λ E k. may_from P D R e E (a.follows, l) (a.enters E k) }

pub valid_from : (P : Program) (R : Run) → Legal P R → Valid P R
valid_from P [] l = tt
valid_from P (e ∷ R) l = (admitted_from P R e (legal_faithful P R l.1) l.0, valid_from P R l.1)

pub legal_from : (P : Program) → Disciplined P → (R : Run) → Valid P R → Legal P R
legal_from P D [] l = tt
legal_from P D (e ∷ R) l = (allowed_from P D R e (faithful_of P R l.1) l.0, legal_from P D R l.1)

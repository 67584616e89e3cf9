-- In which deterministic construct an event is, and which of two events stands first in a run with the same events of each task.
use Rattle.std.proofs.Common.{◌≡◌, ℕ, suc, ◌+◌, ◌-◌, ◌<◌, ◌≤◌, ◌⊎◌, inl, inr, ⊎_elim, true, true≢false, [], ◌∷◌, ◌++◌, length, refl, sym, ap}
use Rattle.std.proofs.Common.{◌∙◌, subst, arith, length-append}
use Rattle.std.proofs.lemmas.Bool.{cond-false}
use Rattle.std.proofs.lemmas.Option.{slice_get_within}
use Rattle.runs_theory.specs.Actions.{Action, Begin, Branches, Do, End, Fork, Join, Next, Program, is_deterministic}
use Rattle.runs_theory.specs.Meaning.{AfterFork, Disciplined, InTurn}
use Rattle.runs_theory.specs.Objects.{Path}
use Rattle.runs_theory.specs.Runs.{Event, Faithful, Follows, Run, Upto, answers, count, later, mine, now}
use Rattle.runs_theory.specs.Standing.{first_of}
use Rattle.runs_reduction.specs.Insertion.{All_of, Branch_of, Earlier, Spot}
use Rattle.runs_reduction.specs.Moved.{DetFork, InBranch, below, construct_spot, inner, is_det, its_begin, kind_after, spot_of}
use Rattle.runs_reduction.specs.Insertion.{All_of, Branch_of, Earlier, Spot}
use Rattle.runs_reduction.specs.Insertion.{Earlier}
use Rattle.runs_theory.proofs.events.Upto.{upto_trans, upto_length, upto_tail, Which, which, same_one, before, after}
use Rattle.runs_theory.proofs.events.Mine.{mine_at, mine_upto, Found, found, earlier_of, same_of, number_of}
use Rattle.runs_theory.proofs.runs.Faithful.{fork_above, begin_after, faithful_upto, follows_at}
use Rattle.runs_theory.proofs.runs.Standing.{first_is}
use Rattle.runs_theory.proofs.runs.ForkSince.{ForkSince, fork_since, count_since}
use Rattle.runs_reduction.proofs.shifts.Under.{Under}
use Rattle.runs_reduction.proofs.shifts.Spots.{inner_nil, inner_under, inner_all, inner_least, Inner, its_branch, as_above, inner_cases}
use Rattle.runs_reduction.proofs.shifts.Insertion.{Bools, yes, no, bools}
use Rattle.runs_reduction.proofs.moved.AfterForks.{det_since}
use Rattle.runs_reduction.proofs.shifts.Shifts.{not_back}

-- a run with the events of R
pub record Alike (P : Program) (R G : Run) : Type 0 where
  pub faithful : Faithful P G
  pub same : (p : Path) → mine G p ≡ mine R p

abbrev pub Sooner : Run → Event → Run → Event → Run → Type 0
Sooner G x X y Y = Earlier G x.path (count X x.path) y.path (count Y y.path)

module _ {P : Program} {R G : Run} (g : Alike P R G) where
  pub there : {x : Event} {X : Run} → Upto (x ∷ X) R → Found G x.path x (mine X x.path)
  there {x} {X} h = found G x.path (subst (λ es. Upto (x ∷ mine X x.path) es) (sym (g.same x.path)) (mine_at x.path h refl))

  -- an event of which more than so many of a task stand before it
  sooner_by : {y : Event} {Y : Run} (p : Path) (k : ℕ) → (hy : Upto (y ∷ Y) R) → k < count (there hy).before p → Earlier G p k y.path (count Y y.path)
  sooner_by {y} {Y} p k hy m = let a = there hy in record {
    before = a.before;
    event = y;
    stands = a.stands;
    path = refl;
    number = ap length a.mine_is;
    more = m;
  }

  pub sooner : {x y : Event} {X Y : Run} (hx : Upto (x ∷ X) R) (hy : Upto (y ∷ Y) R) → Upto (x ∷ (there hx).before) (there hy).before → Sooner G x X y Y
  sooner {x} {y} {X} {Y} hx hy h = sooner_by x.path (count X x.path) hy (let a = number_of x.path h refl in let b = ap length (there hx).mine_is in omega arith)

  pub stands_sooner : {x y : Event} {X Y : Run} (hx : Upto (x ∷ X) R) (hy : Upto (y ∷ Y) R) → Sooner G x X y Y → Upto (x ∷ (there hx).before) (there hy).before
  stands_sooner {x} {y} {X} {Y} hx hy w = go (which (there hx).stands (there hy).stands)
    where
      o : (w.event ≡ y) × (w.before ≡ (there hy).before)
      o = same_of y.path w.stands (there hy).stands w.path refl (w.number ∙ sym (ap length (there hy).mine_is))

      go : Which x (there hx).before y (there hy).before → Upto (x ∷ (there hx).before) (there hy).before
      go (before h) = h
      go (same_one a b) = absurd (let m = w.more in let c = ap (λ Z. count Z x.path) o.1 in let d = ap (λ Z. count Z x.path) b in
          let e = ap length (there hx).mine_is in omega arith)
      go (after h) = absurd (let m = w.more in let c = ap (λ Z. count Z x.path) o.1 in let d = upto_length (mine_upto x.path (upto_tail h)) in
          let e = ap length (there hx).mine_is in omega arith)

  pub trans : {x y z : Event} {X Y Z : Run} (hx : Upto (x ∷ X) R) (hy : Upto (y ∷ Y) R) (hz : Upto (z ∷ Z) R) → Sooner G x X y Y → Sooner G y Y z Z
      → Sooner G x X z Z
  trans hx hy hz a b = sooner hx hz (upto_trans (stands_sooner hx hy a) (upto_trans (later now) (stands_sooner hy hz b)))

  pub either : {x y : Event} {X Y : Run} (hx : Upto (x ∷ X) R) (hy : Upto (y ∷ Y) R) → (x.path ≡ y.path → count X x.path ≡ count Y y.path → ⊥) → Sooner G x X y Y
      ⊎ Sooner G y Y x X
  either {x} {y} {X} {Y} hx hy n = go (which (there hx).stands (there hy).stands)
    where
      go : Which x (there hx).before y (there hy).before → Sooner G x X y Y ⊎ Sooner G y Y x X
      go (before h) = inl (sooner hx hy h)
      go (after h) = inr (sooner hy hx h)
      go (same_one a b) =
          let p = ap (λ z. z.path) a in
          let c = ap length (there hx).mine_is in
          let d = ap length (there hy).mine_is in
          let e : count (there hx).before x.path ≡ count (there hy).before y.path = (λ i. count (b i) (p i)) in
          absurd (n p (omega arith))

  -- or they are one
  pub order : {x y : Event} {X Y : Run} (hx : Upto (x ∷ X) R) (hy : Upto (y ∷ Y) R) → ((x ≡ y) × (X ≡ Y)) ⊎ (Sooner G x X y Y ⊎ Sooner G y Y x X)
  order {x} {y} {X} {Y} hx hy = go (which hx hy)
    where
      differ : length X < length Y ⊎ length Y < length X → x.path ≡ y.path → count X x.path ≡ count Y y.path → ⊥
      differ d p n =
          let s = same_of x.path hx hy refl (sym p) (n ∙ ap (λ r. count Y r) (sym p)) in
          let e = ap length s.1 in
          ⊎_elim (λ k. omega arith) (λ k. omega arith) d

      go : Which x X y Y → ((x ≡ y) × (X ≡ Y)) ⊎ (Sooner G x X y Y ⊎ Sooner G y Y x X)
      go (same_one a b) = inl (a, b)
      go (before h) = inr (either hx hy (λ p n. differ (inl (upto_length h)) p n))
      go (after h) = inr (either hx hy (λ p n. differ (inr (upto_length h)) p n))

  pub never_same : (x y : Event) (X Y : Run) → Sooner G x X y Y → x.path ≡ y.path → count X x.path ≡ count Y y.path → ⊥
  never_same x y X Y w p n =
      let e : Earlier G x.path (count X x.path) x.path (count X x.path) =
      subst (λ k. Earlier G x.path (count X x.path) x.path k) (sym n) (subst (λ q. Earlier G x.path (count X x.path) q (count Y y.path)) (sym p) w) in
      not_back G x.path x.path (count X x.path) (count X x.path) e e

-- a fork by its task and number
pub of_fork : {R S : Run} {q p : Path} {k m : ℕ} (d : DetFork R q k) → Earlier S d.event.path (count d.before d.event.path) p m → Earlier S q k p m
of_fork {R} {S} {q} {p} {k} {m} d w =
    subst (λ i. Earlier S q i p m) d.number (subst (λ z. Earlier S z (count d.before z) p m) d.path w)

pub from_fork : {R S : Run} {q p : Path} {k m : ℕ} (d : DetFork R q k) → Earlier S q k p m → Earlier S d.event.path (count d.before d.event.path) p m
from_fork {R} {S} {q} {p} {k} {m} d w =
    subst (λ z. Earlier S z (count d.before z) p m) (sym d.path) (subst (λ i. Earlier S q i p m) (sym d.number) w)

-- the fork of a construct stands before what is in a branch
module _ (P : Program) (D : Disciplined P) where
  pub fork_before : {R X : Run} {x : Event} {q : Path} {k b : ℕ} → Faithful P R → (d : DetFork R q k) → Upto (x ∷ X) R → InBranch q k b x.path (count X x.path)
      → Upto (d.event ∷ d.before) X
  fork_before {R} {X} {x} {q} {k} {b} l d hx (its_begin p n) =
      let m = ap (λ r. count X r) p in
      let c = d.number in
      earlier_of q d.stands hx d.path p (omega arith)
  fork_before {R} {X} {x} {q} {k} {b} l d hx (below xs p) =
      let f = fork_above P D xs q (k, b) l hx p in
      let o = same_of q (upto_trans f.stands (upto_tail hx)) d.stands f.path d.path (f.number ∙ sym d.number) in
      subst (λ Z. Upto (d.event ∷ Z) X) o.1 (subst (λ e. Upto (e ∷ f.before) X) o.0 f.stands)

  -- in each run with the same events
  pub fork_sooner : {R G X : Run} {x : Event} {q : Path} {k b : ℕ} → (g : Alike P R G) → DetFork R q k → (hx : Upto (x ∷ X) R)
      → InBranch q k b x.path (count X x.path)
      → Earlier G q k x.path (count X x.path)
  fork_sooner {R} {G} {X} {x} {q} {k} {b} g d hx (its_begin p n) =
      sooner_by g q k hx (let m = ap length (there g hx).mine_is in let c = ap (λ r. count (there g hx).before r) p in omega arith)
  fork_sooner {R} {G} {X} {x} {q} {k} {b} g d hx (below xs p) =
      let f = fork_above P D xs q (k, b) g.faithful (there g hx).stands p in
      sooner_by g q k hx (let m = number_of q f.stands f.path in let n = f.number in omega arith)

  -- and the begin of a branch before what is below it
  pub begin_sooner : {R G X : Run} {x : Event} (q : Path) (k b : ℕ) (xs : Path) → (g : Alike P R G) → (hx : Upto (x ∷ X) R) → x.path ≡ xs ++ (k, b) ∷ q
      → Earlier G q (suc (k + b)) x.path (count X x.path)
  begin_sooner {R} {G} {X} {x} q k b xs g hx p =
      let f = fork_above P D xs q (k, b) g.faithful (there g hx).stands p in
      sooner_by g q (suc (k + b)) hx (let m = number_of q f.begin_stands f.begin_path in let n = f.begin_number in omega arith)

  -- the first construct of a task after whose fork there is an event
  det_first : {R X : Run} {q : Path} {k : ℕ} (d : DetFork R q k) → Upto (d.event ∷ d.before) X → is_det (first_of (suc k) (mine X q)) ≡ true
  det_first {R} {X} {q} {k} d h =
      let n = ap (λ m. suc m) d.number in
      let f : first_of (suc k) (mine X q) ≡ d.event ∷ mine d.before q =
      subst (λ i. first_of i (mine X q) ≡ d.event ∷ mine d.before q) n (first_is (mine_at q h d.path)) in
      ap is_det f ∙ ap (λ c. kind_after c (is_det (mine d.before q))) d.act ∙ d.det

  -- between the fork and the begin of a branch a task makes begins alone
  pub since_fork : {R X : Run} {x : Event} {q : Path} {k b : ℕ} → Faithful P R → (d : DetFork R q k) → b < length d.branches.tasks → Upto (x ∷ X) R
      → count X q ≡ suc (k + b) → (Z : Run) (z : Event) → Upto (z ∷ Z) (mine X q) → suc (count d.before q) ≤ length Z → (c : ℕ) × (z.act ≡ Begin c)
  since_fork {R} {X} {x} {q} {k} {b} l d lt hx n Z z h m =
      let f = found X q h in
      let i = ap length f.mine_is in
      let s = upto_length h in
      let dn = d.number in
      let hz = upto_trans f.stands (upto_tail hx) in
      (count f.before q - suc k, begin_after P D q d.branches (count f.before q - suc k) l d.stands d.path d.act hz f.path (omega arith) (omega arith))

  -- what stands where the begin of its branch does is that begin
  pub begin_facts : {R X : Run} {x : Event} {q : Path} {k b : ℕ} → Faithful P R → (d : DetFork R q k) → b < length d.branches.tasks → (hx : Upto (x ∷ X) R)
      → x.path ≡ q → count X q ≡ suc (k + b)
      → (x.act ≡ Begin b) × (is_det (mine X q) ≡ true)
  begin_facts {R} {X} {x} {q} {k} {b} l d lt hx p n = (act, kinds)
    where
      dn : count d.before q ≡ k
      dn = d.number

      act : x.act ≡ Begin b
      act = begin_after P D q d.branches b l d.stands d.path d.act hx p (omega arith) lt

      fx : Upto (d.event ∷ d.before) X
      fx = earlier_of q d.stands hx d.path p (omega arith)

      kinds : is_det (mine X q) ≡ true
      kinds = det_since (mine_at q fx d.path) (since_fork l d lt hx n) ∙ ap (λ c. kind_after c (is_det (mine d.before q))) d.act ∙ d.det

-- a deterministic branch is one by its fork
inner_det : (R : Run) (p : Path) (u : ℕ × ℕ) (q : Path) → inner R p ≡ Branch_of u q → is_det (first_of (suc u.0) (mine R q)) ≡ true
inner_det R [] u q e = absurd (let k = sym (inner_nil R) ∙ e in cc)
inner_det R (w ∷ p) u q e = go (inner_det R p u q) (inner_cases R w p)
  where
    go : (inner R p ≡ Branch_of u q → is_det (first_of (suc u.0) (mine R q)) ≡ true) → Inner R w p → is_det (first_of (suc u.0) (mine R q)) ≡ true
    go rec (as_above d k) = rec (sym k ∙ e)
    go rec (its_branch d k) =
        let z : Branch_of w p ≡ Branch_of u q = sym k ∙ e in
        let a : w ≡ u = cc in
        let b : p ≡ q = cc in
        (λ i. is_det (first_of (suc (sym a i).0) (mine R (sym b i)))) ∙ d

-- the innermost deterministic construct that an event is in
pub data Home (R X : Run) (x : Event) : Type 0 where
  outside_all : inner X x.path ≡ All_of [] → construct_spot X x ≡ inner X x.path → ((b : ℕ) → x.act ≡ Begin b → is_det (mine X x.path) ≡ true → ⊥) → Home R X x
  in_branch : (q : Path) (k b : ℕ) (d : DetFork R q k) (xs : Path) → b < length d.branches.tasks → x.path ≡ xs ++ (k, b) ∷ q
      → inner X x.path ≡ Branch_of (k, b) q
      → construct_spot X x ≡ inner X x.path → ((b : ℕ) → x.act ≡ Begin b → is_det (mine X x.path) ≡ true → ⊥) → Home R X x
  is_begin : (q : Path) (k b : ℕ) (d : DetFork R q k) → b < length d.branches.tasks → x.path ≡ q → count X q ≡ suc (k + b) → Home R X x

module _ (P : Program) (D : Disciplined P) (T : InTurn P) where
  pub home : {R X : Run} {x : Event} → Faithful P R → Upto (x ∷ X) R → Home R X x
  home {R} {X} {x} l hx = by_act x.act refl
    where
      lx : Faithful P (x ∷ X)
      lx = faithful_upto P hx l

      plain : construct_spot X x ≡ inner X x.path → ((b : ℕ) → x.act ≡ Begin b → is_det (mine X x.path) ≡ true → ⊥) → Home R X x
      plain sp never = go (inner X x.path) refl
        where
          go : (s : Spot) → inner X x.path ≡ s → Home R X x
          go (All_of q) e = outside_all (e ∙ ap All_of (inner_all X x.path q e)) sp never
          go (Branch_of u q) e =
              let h = inner_under X x.path u q e in
              let f = fork_above P D h.below q u lx now h.is in
              let fs = upto_trans f.stands (upto_tail hx) in
              let first : first_of (suc u.0) (mine X q) ≡ f.event ∷ mine f.before q =
              subst (λ i. first_of i (mine X q) ≡ f.event ∷ mine f.before q) (ap (λ m. suc m) f.number) (first_is (mine_at q f.stands f.path)) in
              let det : is_deterministic f.tasks.kind ≡ true =
              sym (ap is_det first ∙ ap (λ c. kind_after c (is_det (mine f.before q))) f.act) ∙ inner_det X x.path u q e in
              in_branch q u.0 u.1 (record {
                before = f.before;
                event = f.event;
                stands = fs;
                path = f.path;
                number = f.number;
                branches = f.tasks;
                act = f.act;
                det = det;
              })
              h.below (slice_get_within f.tasks.tasks u.1 f.task f.is_there) h.is e sp never

      at_begin : (b : ℕ) → x.act ≡ Begin b → is_det (mine X x.path) ≡ true → Home R X x
      at_begin b act dt = is_begin x.path (count j.before x.path) b d f.1 refl number
        where
          a : Follows P X x
          a = follows_at P hx l

          f : (ts : Branches) × (b < length ts.tasks) × AfterFork P x.path a.task (answers (mine X x.path)) ts b
          f = T.begins_forked x.path a.task (answers (mine X x.path)) b (x.ticks, a.asks ∙ ap (λ c. Next x.ticks c) act)

          j : ForkSince P X lx.1 x.path f.0 b
          j = fork_since P X lx.1 x.path a.task f.0 b a.begun f.2

          number : count X x.path ≡ suc (count j.before x.path + b)
          number = count_since P X lx.1 x.path f.0 b j

          so : (Z : Run) (z : Event) → Upto (z ∷ Z) (mine X x.path) → suc (count j.before x.path) ≤ length Z → (c : ℕ) × (z.act ≡ Begin c)
          so Z z h m =
              let v = found X x.path h in
              let i = ap length v.mine_is in
              let s = upto_length h in
              let n = number in
              let lt = f.1 in (
                count v.before x.path - suc (count j.before x.path),
                begin_after P D x.path f.0 (count v.before x.path - suc (count j.before x.path)) lx.1 j.stands j.path j.act v.stands v.path (omega arith)
                    (omega arith),
              )

          kinds : is_det (mine X x.path) ≡ is_deterministic f.0.kind
          kinds = det_since (mine_at x.path j.stands j.path) so ∙ ap (λ c. kind_after c (is_det (mine j.before x.path))) j.act

          d : DetFork R x.path (count j.before x.path)
          d = record {
            before = j.before;
            event = j.fork;
            stands = upto_trans j.stands (upto_tail hx);
            path = j.path;
            number = refl;
            branches = f.0;
            act = j.act;
            det = sym kinds ∙ dt;
          }

      spot_is : (a : Action) → x.act ≡ a → spot_of X x.path a ≡ inner X x.path → construct_spot X x ≡ inner X x.path
      spot_is a h e = ap (λ c. spot_of X x.path c) h ∙ e

      by_act : (a : Action) → x.act ≡ a → Home R X x
      by_act (Do o) h = plain (spot_is (Do o) h refl) (λ b g t. (let z : Do o ≡ Begin b = sym h ∙ g in cc))
      by_act (Fork ts) h = plain (spot_is (Fork ts) h refl) (λ b g t. (let z : Fork ts ≡ Begin b = sym h ∙ g in cc))
      by_act Join h = plain (spot_is Join h refl) (λ b g t. (let z : Join ≡ Begin b = sym h ∙ g in cc))
      by_act (End y) h = plain (spot_is (End y) h refl) (λ b g t. (let z : End y ≡ Begin b = sym h ∙ g in cc))
      by_act (Begin b) h = by_kind (bools (is_det (mine X x.path)))
        where
          by_kind : Bools (is_det (mine X x.path)) → Home R X x
          by_kind (yes t) = at_begin b h t
          by_kind (no t) = plain (spot_is (Begin b) h (cond-false (is_det (mine X x.path)) _ _ t)) (λ c g u. true≢false (sym u ∙ t))

module _ (P : Program) (D : Disciplined P) where
  -- an event that is no begin, in a branch: so it is below it
  pub lies_below : {R X : Run} {x : Event} {q : Path} {k b : ℕ} → Faithful P R → (d : DetFork R q k) → b < length d.branches.tasks → (hx : Upto (x ∷ X) R)
      → ((c : ℕ) → x.act ≡ Begin c → is_det (mine X x.path) ≡ true → ⊥) → InBranch q k b x.path (count X x.path)
      → (v : ℕ × ℕ) × (r : Path) × (inner X x.path ≡ Branch_of v r) × Under ((k, b) ∷ q) (v ∷ r)
  lies_below {R} {X} {x} {q} {k} {b} l d lt hx never (its_begin p m) =
      let f = begin_facts P D l d lt hx p (ap (λ r. count X r) (sym p) ∙ m) in
      absurd (never b f.0 (ap (λ r. is_det (mine X r)) p ∙ f.1))
  lies_below {R} {X} {x} {q} {k} {b} l d lt hx never (below xs p) =
      let i = inner_least X xs (k, b) q (det_first P D d (fork_before P D l d hx (below xs p))) in
      (i.0, i.1, ap (λ r. inner X r) p ∙ i.2, i.3)

under_both : (o p : Path) → Under o p → Under p o → o ≡ p
under_both o p h k = go h.below h.is
  where
    go : (xs : Path) → p ≡ xs ++ o → o ≡ p
    go [] e = sym e
    go (x ∷ xs) e =
        let a = ap length e in
        let b = length-append xs o in
        let c = ap length k.is in
        let d = length-append k.below p in
        absurd (omega arith)

branch_same : (u v : ℕ × ℕ) (q r : Path) → u ∷ q ≡ v ∷ r → Branch_of u q ≡ Branch_of v r
branch_same u v q r e = let a : u ≡ v = cc in let b : q ≡ r = cc in λ i. Branch_of (a i) (b i)

branch_is : (u v : ℕ × ℕ) (q r : Path) → Branch_of u q ≡ Branch_of v r → u ∷ q ≡ v ∷ r
branch_is u v q r e = let a : u ≡ v = cc in let b : q ≡ r = cc in λ i. a i ∷ b i

-- in whichever branch the one event is the other is
abbrev pub Along : (R X : Run) (x : Event) (Y : Run) (y : Event) → Type 0
Along R X x Y y = (q : Path) (k b : ℕ) (d : DetFork R q k) → b < length d.branches.tasks → InBranch q k b x.path (count X x.path)
    → (InBranch q k b y.path (count Y y.path) → ⊥) → ⊥

-- where the one begins a branch the other is not in it
abbrev pub Begins : (R X : Run) (x : Event) (Y : Run) (y : Event) → Type 0
Begins R X x Y y = (q : Path) (k b : ℕ) (d : DetFork R q k) → b < length d.branches.tasks → x.path ≡ q → count X x.path ≡ suc (k + b)
    → InBranch q k b y.path (count Y y.path) → ⊥

-- so they belong in one spot
module _ (P : Program) (D : Disciplined P) {R X Y : Run} {x y : Event} (l : Faithful P R) (hx : Upto (x ∷ X) R) (hy : Upto (y ∷ Y) R)
    (x_in : Along R X x Y y) (y_in : Along R Y y X x) (x_begins : Begins R X x Y y) (y_begins : Begins R Y y X x) where
  pub same_spot : Home R X x → Home R Y y → (construct_spot X x ≡ construct_spot Y y → ⊥) → ⊥
  same_spot (is_begin q k b d lt p m) other differ =
      let n = ap (λ r. count X r) p ∙ m in x_in q k b d lt (its_begin p n) (λ iy. x_begins q k b d lt p n iy)
  same_spot (outside_all a s c) (is_begin q k b d lt p m) differ =
      let n = ap (λ r. count Y r) p ∙ m in y_in q k b d lt (its_begin p n) (λ ix. y_begins q k b d lt p n ix)
  same_spot (in_branch r k' b' d' xs lt' p' i s c) (is_begin q k b d lt p m) differ =
      let n = ap (λ r. count Y r) p ∙ m in y_in q k b d lt (its_begin p n) (λ ix. y_begins q k b d lt p n ix)
  same_spot (outside_all a s c) (outside_all a' s' c') differ = differ (s ∙ a ∙ sym a' ∙ sym s')
  same_spot (outside_all a s c) (in_branch q k b d xs lt p i s' c') differ =
      y_in q k b d lt (below xs p) (λ ix. (let z = lies_below P D l d lt hx c ix in let w : All_of [] ≡ Branch_of z.0 z.1 = sym a ∙ z.2 in cc))
  same_spot (in_branch q k b d xs lt p i s c) (outside_all a s' c') differ =
      x_in q k b d lt (below xs p) (λ iy. (let z = lies_below P D l d lt hy c' iy in let w : All_of [] ≡ Branch_of z.0 z.1 = sym a ∙ z.2 in cc))
  same_spot (in_branch q k b d xs lt p i s c) (in_branch r m b' d' ys lt' p' i' s' c') differ =
      x_in q k b d lt (below xs p) (λ iy. y_in r m b' d' lt' (below ys p') (λ ix. both iy ix))
    where
      both : InBranch q k b y.path (count Y y.path) → InBranch r m b' x.path (count X x.path) → ⊥
      both iy ix =
          let z = lies_below P D l d lt hy c' iy in
          let w = lies_below P D l d' lt' hx c ix in
          let in_y : Under ((k, b) ∷ q) ((m, b') ∷ r) = subst (λ o. Under ((k, b) ∷ q) o) (branch_is z.0 (m, b') z.1 r (sym z.2 ∙ i')) z.3 in
          let in_x : Under ((m, b') ∷ r) ((k, b) ∷ q) = subst (λ o. Under ((m, b') ∷ r) o) (branch_is w.0 (k, b) w.1 q (sym w.2 ∙ i)) w.3 in
          let same : Branch_of (k, b) q ≡ Branch_of (m, b') r = branch_same (k, b) (m, b') q r (under_both ((k, b) ∷ q) ((m, b') ∷ r) in_y in_x) in
          differ (s ∙ i ∙ same ∙ sym i' ∙ sym s')
